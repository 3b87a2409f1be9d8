use Rattle.std.proofs.Common.{rules}
use Rattle.std.specs.Map.Iter.{deref_pair}
use Rattle.std.proofs.lemmas.List.Sorted.{IsPermutation-map, answers_always}
use Rattle.report.specs.Listing.{entry_rank}
use Rattle.report.proofs.Listings.{listed}
use Rattle.report.proofs.listing.listing.Goals as goal

pub returns : goal.returns
returns c contributions function stands at =
    listed function c.args.agg contributions _ _ c.in_ok-sort_by_cached_key.ensures.permutation
    (c.in_ok-sort_by_cached_key.ensures.sorted (λ e. (entry_rank (deref_pair e), e.0)) (answers_always _ _ _ (λ f a r q k. search rules)))
    (IsPermutation-map deref_pair _ _ c.in_ok-sort_by_cached_key.ensures.permutation)
    (c.in_ok-entries.ensures.stands contributions function stands at)
