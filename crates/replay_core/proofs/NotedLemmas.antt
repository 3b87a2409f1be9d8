-- Events whose numbers are those of firings that were taken.
use Rattle.std.proofs.Common.{◌≡◌, ℕ, Bool, true, false, List, [], ◌∷◌, ◌++◌, All, Contains, take}
use Rattle.std.proofs.Common.{if◌then◌else◌, subst, sym}
use Rattle.std.proofs.Math.Logic.{∥∥₁_map}
use Rattle.std.proofs.lemmas.List.Elements.{All-push, All-take, Contains-append_left}

abbrev pub AreNoted : {T : Type 0} → (taken : List ℕ) (events : List (ℕ × T)) → Type 0
AreNoted taken events = All (λ event. ∥ Contains taken event.0 ∥₁) events

module _ {T : Type 0} where
  -- an event more, unless memory is refused
  pub event_noted : (pushed : Bool) (taken : List ℕ) (events new : List (ℕ × T)) (number : ℕ) (text : T)
      → new ≡ (if pushed then events ++ (number, text) ∷ [] else events) → AreNoted taken events → Contains taken number → AreNoted taken new
  event_noted true taken events new number text is noted has =
      subst (AreNoted taken) (sym is) (All-push (λ (event : ℕ × T). ∥ Contains taken event.0 ∥₁) events (number, text) noted ∣ has ∣₁)
  event_noted false taken events new number text is noted has = subst (AreNoted taken) (sym is) noted

  -- the first of them
  pub front_noted : (count : ℕ) (taken : List ℕ) (events new : List (ℕ × T)) → new ≡ take count events → AreNoted taken events → AreNoted taken new
  front_noted count taken events new is noted =
      subst (AreNoted taken) (sym is) (All-take (λ (event : ℕ × T). ∥ Contains taken event.0 ∥₁) count events noted)

  -- a firing more, unless memory is refused
  pub firing_taken : (pushed : Bool) (taken new : List ℕ) (events : List (ℕ × T)) (number : ℕ)
      → new ≡ (if pushed then taken ++ number ∷ [] else taken) → AreNoted taken events → AreNoted new events
  firing_taken true taken new events number is noted =
      subst (λ l. AreNoted l events) (sym is) (λ k event lt. ∥∥₁_map (noted k event lt) (Contains-append_left taken (number ∷ []) _))
  firing_taken false taken new events number is noted = subst (λ l. AreNoted l events) (sym is) noted
