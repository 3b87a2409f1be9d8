-- A group's history is the run's, restricted to it.
use Rattle.std.proofs.Common.{◌≡◌, Bool, true, false, List, [], ◌∷◌, filter, refl, sym, ap, ◌∙◌}
use Rattle.std.proofs.Common.{if◌then◌else◌, ℤ, ℕ, int_eq}
use Rattle.std.proofs.lemmas.Bool.Decides.{Decides-int_eq}
use Rattle.replay_core.specs.Vocabulary.{ScriptMeant, Made, Firing}
use Rattle.replay_core.specs.Groups.{Grouping, is_group}
use Rattle.replay_core.specs.Meaning.{Threads, history, firing_result, threads_after, blank_threads}
use Rattle.replay_core.specs.Uniting.{group_history, results_in_group}

module _ (m : ScriptMeant) (test : ℤ → Bool) where
  -- these threads keep the same
  abbrev Agree : Threads → Threads → Type 0
  Agree a b = (t : ℤ) → test t ≡ true → a t ≡ b t

  agree_here : (f : Firing) (a b : Threads) → test f.thread ≡ true → Agree a b → Agree (threads_after m f a) (threads_after m f b)
  agree_here f a b e same t is =
      ap (λ own. if int_eq t f.thread then (firing_result m f own).variables.own else a t) (same f.thread e)
      ∙ ap (λ own. if int_eq t f.thread then (firing_result m f (b f.thread)).variables.own else own) (same t is)

  agree_there : (f : Firing) (a b : Threads) → test f.thread ≡ false → Agree a b → Agree a (threads_after m f b)
  agree_there f a b e same t is = elim (int_eq t f.thread) as (λ c. int_eq t f.thread ≡ c → a t ≡ (if c then (firing_result m f (b f.thread)).variables.own else b t)) [
    | true ↦ λ eq. absurd (let both : true ≡ false = sym is ∙ ap test ((Decides-int_eq t f.thread).0 eq) ∙ e in cc)
    | false ↦ λ ne. same t is
  ] refl

  pub restricted : (fs : List Firing) (a b : Threads) → Agree a b → history m (filter (λ f. test f.thread) fs) a ≡ filter (λ x. test x.0.thread) (history m fs b)
  restricted [] a b same = refl
  restricted (f ∷ fs) a b same =
      let rest = filter (λ f. test f.thread) fs in
      let later = history m fs (threads_after m f b) in
      let mine : Firing × Made = (f, firing_result m f (b f.thread)) in
      elim (test f.thread) as (λ c. test f.thread ≡ c → history m (if c then f ∷ rest else rest) a ≡ (if c then mine ∷ filter (λ x. test x.0.thread) later else filter (λ x. test x.0.thread) later)) [
        | true ↦ λ e.
            ap (λ own. (f, firing_result m f own) ∷ history m rest (threads_after m f a)) (same f.thread e)
            ∙ ap (λ l. mine ∷ l) (restricted fs (threads_after m f a) (threads_after m f b) (agree_here f a b e same))
        | false ↦ λ e. restricted fs a (threads_after m f b) (agree_there f a b e same)
      ] refl

pub group_restricts : (m : ScriptMeant) (grouping : Grouping) (fs : List Firing) (g : ℕ) → group_history m grouping fs g ≡ results_in_group grouping g (history m fs blank_threads)
group_restricts m grouping fs g = restricted m (λ t. is_group g (grouping.group t)) fs blank_threads blank_threads (λ t is. refl)
