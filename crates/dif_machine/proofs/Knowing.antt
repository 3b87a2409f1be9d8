-- What is found of a firing's texts.
use Rattle.std.specs.Prelude.{◌≡◌, ◌<◌, ◌≤◌, ◌-◌, ℕ, zero, suc, ℤ, pos, List, [], ◌∷◌, length, map, IfSome, Option, Some, option_map, slice_get, slice_index_or, slice_set}
use Rattle.std.proofs.Common.{get_or, refl, sym, ap, subst, ◌∙◌, arith}
use Rattle.std.proofs.Props.{props}
use Rattle.std.proofs.lemmas.List.{map-set}
use Rattle.std.proofs.lemmas.List.Elements.{All-set}
use Rattle.std.proofs.lemmas.Grind.{common_steps}
use Rattle.std.proofs.lemmas.Option.{get_or_from_slice_get, gets, slice_get-map, slice_get_within}
use Rattle.numbered.specs.Texts.{Keeps, IsNumberOf, text_at}
use Rattle.dif_machine.specs.Vocabulary.{Firing, Int, Text, cast_unsigned, w64}
use Rattle.dif_machine.specs.Machine.{Knows, found_of, knows_nothing, texts_of}
use Rattle.dif_machine.specs.Sources.{built_ins, word_or_zero}
use Rattle.dif_machine.specs.Steps.Found.{AreFound}
use Rattle.dif_machine.proofs.Holding.{found_kept, numbers_kept}

text_mapped : (texts : List (List ℕ)) (n : ℕ) → n < length texts → slice_index_or (map Text texts) n (Int 0) ≡ Text (text_at texts n)
text_mapped texts n h = grind (arith, common_steps)

-- the texts are the built-in variables from the fifth on
pub text_is : (f : Firing) (v : ℕ) → 4 ≤ v → v < 9 → slice_index_or (built_ins f) v (Int 0) ≡ Text (text_at (texts_of f) (v - 4))
text_is f v text few =
    let fifth : v ≡ suc (suc (suc (suc (v - 4)))) = omega (arith, text) in
    ap (λ v. slice_index_or (built_ins f) v (Int 0)) fifth ∙ text_mapped (texts_of f) (v - 4) (omega (arith, text, few))

-- what holds of each that was found holds of one more
one_more : (P : ℕ → List ℕ → Type 0) (found : List (Option (List ℕ))) (i : ℕ) (bytes : List ℕ) → ((k : ℕ) (b : List ℕ) → slice_get found k ≡ Some (Some b) → P k b) → P i bytes
    → (k : ℕ) (b : List ℕ) → slice_get (slice_set found i (Some bytes)) k ≡ Some (Some b) → P k b
one_more P found i bytes each one k b e = grind (arith, common_steps, gets, each k b)

module _ (f : Firing) (old new : List (List ℕ)) (kept : Keeps old new) (numbers : List (Option ℕ)) (found : AreFound f old numbers) where
  pub found_still : AreFound f new numbers
  found_still = record { known = subst (Knows f) (sym (found_kept old new kept numbers found.numbers)) found.known; numbers = numbers_kept old new kept numbers found.numbers }

  pub found_more : (k n : ℕ) (bytes : List ℕ) → text_at (texts_of f) k ≡ bytes → IsNumberOf new n bytes → AreFound f new (slice_set numbers k (Some n))
  found_more k n bytes is number = record {
    known = subst (Knows f) (sym (map-set (option_map (text_at new)) numbers k (Some n)))
        (one_more (λ k b. text_at (texts_of f) k ≡ b) (found_of new numbers) k (text_at new n) found_still.known (is ∙ sym (get_or_from_slice_get new n bytes [] number)));
    numbers = All-set (λ found. IfSome found (λ n. n < length new)) numbers k _ (slice_get_within new n bytes number) found_still.numbers;
  }

pub known_there : (f : Firing) (texts : List (List ℕ)) (numbers : List (Option ℕ)) → Knows f (found_of texts numbers) → (k n : ℕ) → slice_get numbers k ≡ Some (Some n) → text_at (texts_of f) k ≡ text_at texts n
known_there f texts numbers known k n there =
    known k (text_at texts n) (slice_get-map (option_map (text_at texts)) numbers k ∙ ap (option_map (option_map (text_at texts))) there)

-- an argument is 0 past the last
pub argument_is : (args : List ℤ) (n : ℕ) → word_or_zero (slice_get args n) ≡ cast_unsigned w64 (get_or args n (pos 0))
argument_is [] n = refl
argument_is (x ∷ xs) zero = refl
argument_is (x ∷ xs) (suc n) = argument_is xs n

-- ---- for who keeps it in a ghost field

none_there : (k : ℕ) (bytes : List ℕ) → slice_get knows_nothing k ≡ Some (Some bytes) → ⊥
none_there (suc (suc (suc (suc (suc k))))) bytes e = cc
none_there _ bytes e = cc

pub nothing_known : (f : Firing) → Knows f knows_nothing
nothing_known f k bytes e = absurd (none_there k bytes e)

bytes_set : IsSet (List ℕ)
bytes_set = hlevel props

pub Knows-prop : (f : Firing) (known : List (Option (List ℕ))) → IsProp (Knows f known)
Knows-prop f known x y i index bytes e = bytes_set (text_at (texts_of f) index) bytes (x index bytes e) (y index bytes e) i
