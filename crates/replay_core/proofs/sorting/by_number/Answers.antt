use Rattle.std.proofs.Common.{◌≡◌, rules}
use Rattle.std.proofs.lemmas.List.Sorted.{IsNonDecreasingBy-from_sort_by_key, answers_always}
use Rattle.replay_core.proofs.NumberOrder.{is_sorted}
use Rattle.replay_core.proofs.sorting.by_number.Goals as goal

pub returns : goal.returns
returns g c = is_sorted _ _ (IsNonDecreasingBy-from_sort_by_key (λ e. e.0) _ c.in_ok-sort_by_key.ensures.sorted (λ a r q k. search rules))
    c.sort_by_key.ensures.permutation (c.sort_by_key.ensures.stable (λ e. e.0) (answers_always _ (λ a r. r ≡ a.0.now.0) _ (λ f a r q k. search rules)))
