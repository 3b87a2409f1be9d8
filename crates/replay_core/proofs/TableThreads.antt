-- Threads in tables of values.
use Rattle.std.proofs.Common.{◌≡◌, ℤ, List, [], Bool, true, false, None, Some, if◌then◌else◌}
use Rattle.std.proofs.Common.{int_eq, refl, sym, ap, ◌∙◌}
use Rattle.std.proofs.lemmas.Bool.Decides.{Decides-int_eq}
use Rattle.std.proofs.lemmas.Cmp.{int_eq_equiv}
use Rattle.d_values.specs.Stores.{Locals, Own}
use Rattle.replay_core.specs.Vocabulary.{lookup, own_of, variables}
use Rattle.replay_core.specs.Meaning.{at_start, blank_threads}
use Rattle.replay_core.specs.Threads.{StoreSeen, own_in, threads_of}

-- what is seen of these tables
abbrev pub seen_with : Locals → Own → ℤ → List (ℤ × Own) → StoreSeen
seen_with locals own at others = record { at = at; present = variables locals own; others = λ thread. own_in (lookup (int_eq thread) others) }

pub none_set : (locals : Locals) (own : Own) (at : ℤ) (others : List (ℤ × Own)) → own ≡ [] → others ≡ [] → threads_of (seen_with locals own at others) ≡ blank_threads
none_set locals own at others unset none = λ i t. one t i
  where
    one : (t : ℤ) → (if int_eq t at then own_of own else own_in (lookup (int_eq t) others)) ≡ own_in None
    one t = elim (int_eq t at) as (λ b. (if b then own_of own else own_in (lookup (int_eq t) others)) ≡ own_in None) [
      | true ↦ ap (λ (o : Own). own_of o) unset
      | false ↦ ap (λ (o : List (ℤ × Own)). own_in (lookup (int_eq t) o)) none
    ]

-- the present table is put among the others, and that of a thread is taken out
module _ (others kept left : List (ℤ × Own)) (at thread : ℤ) (own last next : Own) (is : last ≡ own)
    (puts : (q : ℤ) → lookup (int_eq q) kept ≡ (if int_eq at q then Some last else lookup (int_eq q) others))
    (found : own_of next ≡ own_in (lookup (int_eq thread) kept)) where
  all_kept : (locals : Locals) (t : ℤ) → own_in (lookup (int_eq t) kept) ≡ threads_of (seen_with locals own at others) t
  all_kept locals t = ap own_in (puts t) ∙ chosen (int_eq at t) (int_eq t at) (int_eq_equiv.symm at t)
    where
      chosen : (b c : Bool) → b ≡ c → own_in (if b then Some last else lookup (int_eq t) others) ≡ (if c then own_of own else own_in (lookup (int_eq t) others))
      chosen true true e = ap (λ (o : Own). own_of o) is
      chosen true false e = cc
      chosen false true e = cc
      chosen false false e = refl

  pub turned : (locals new : Locals) → new ≡ [] → variables new next ≡ at_start (threads_of (seen_with locals own at others) thread)
  turned locals new none = ap (λ (l : Locals). variables l next) none ∙ ap at_start (found ∙ all_kept locals thread)

  pub threads_kept : ((q : ℤ) → lookup (int_eq q) left ≡ (if int_eq thread q then None else lookup (int_eq q) kept))
      → (locals new : Locals) → threads_of (seen_with new next thread left) ≡ threads_of (seen_with locals own at others)
  threads_kept takes locals new = λ i t. one t i
    where
      one : (t : ℤ) → (if int_eq t thread then own_of next else own_in (lookup (int_eq t) left)) ≡ threads_of (seen_with locals own at others) t
      one t = elim (int_eq t thread) as (λ b. int_eq t thread ≡ b → (if b then own_of next else own_in (lookup (int_eq t) left)) ≡ threads_of (seen_with locals own at others) t) [
        | true ↦ λ e. found ∙ ap (λ q. own_in (lookup (int_eq q) kept)) (sym ((Decides-int_eq t thread).0 e)) ∙ all_kept locals t
        | false ↦ λ e. ap own_in (takes t ∙ ap (λ b. if b then None else lookup (int_eq t) kept) (int_eq_equiv.symm thread t ∙ e)) ∙ all_kept locals t
      ] refl
