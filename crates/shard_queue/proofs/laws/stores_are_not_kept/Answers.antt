use Rattle.std.proofs.Common.{◌≡◌, ◌≢◌, ◌+◌, ◌++◌, ◌∷◌, ◌∙◌, [], min, sym, ap, ⊎_elim, arith}
use Rattle.std.specs.Prelude.{sum_by}
use Rattle.std.proofs.lemmas.Bool.{cases_eq}
use Rattle.std.proofs.lemmas.List.Sums.{sum_by_push}
use Rattle.atomic_table.proofs.Lists.{set_else}
use Rattle.shard_queue.specs.Hands.{hand}
use Rattle.shard_queue.specs.Least.{low}
use Rattle.shard_queue.specs.declared.knowledge.Low.{Low}
use Rattle.shard_queue.proofs.Least.{here}
use Rattle.shard_queue.proofs.Totals.{below-ones, total_set}
use Rattle.shard_queue.proofs.laws.stores_are_not_kept.Goals as goal
use mathlib.Core.Option.{some-injective}
use lib.ListN.{get_elem?}

pub returns-clause-claimed : goal.returns-clause-claimed
returns-clause-claimed c = λ n seats word found by views v kept at late after.
    let taken = hand v.end v.seats v.at_end (v.drawn ++ found ∷ []) in
    let before = kept.drawn (λ _. 1) in
    let behind = after.drawn (λ _. 1) in
    let changed = total_set (λ u. sum_by (λ _. 1) u.drawn) views by v taken at in
    let one = sum_by_push (λ _. 1) v.drawn found in
    let were = below-ones (min n word) in
    let are = below-ones (min n (found + 1)) in
    omega arith

pub returns-clause-lowered : goal.returns-clause-lowered
returns-clause-lowered c = λ word number by views v kept at lt after.
    let w = low (min v.lowered number) v.seen in
    let small = after.small in
    let own = after.lowered by w (here views by v w at) in
    ⊎_elim
    (λ none. absurd (omega arith))
    (λ m. ⊎_elim
    (λ (e : m.0 ≡ by).
    let same : m.1 ≡ v = some-injective _ _ (sym m.2 ∙ ap (get_elem? views) e ∙ at) in
    let is : v.lowered ≡ word = sym (ap (λ (u : Low). u.lowered) same) ∙ m.3 in
    absurd (omega arith))
    (λ (ne : m.0 ≢ by).
    let its = after.lowered m.0 m.1 (set_else views by m.0 w ne ∙ m.2) in
    let is = m.3 in
    absurd (omega arith))
    (cases_eq m.0 by))
    kept.met
