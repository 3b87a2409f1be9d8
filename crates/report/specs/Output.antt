-- All that a run shows.
-- Source: Dynamic Tracing Guide, "Aggregations".
use Rattle.std.specs.Prelude.{◌≡◌, ℕ, List, ◌++◌}
use Rattle.std.specs.List.{AllZip}
use Rattle.report.specs.Vocabulary.{AggFn, Contribution, enumerate_from, flat_map}
use Rattle.report.specs.Entry.{Entry}
use Rattle.report.specs.Listing.{IsListing, listing_bytes}

-- the bytes of the texts, each with its firing's number, in order, and then the aggregations with
-- these functions that the contributions make
pub record IsOutput (functions : List AggFn) (texts : List (ℕ × List ℕ))
    (contributions : List Contribution) (bytes : List ℕ) : Type 0 where
  -- the entries of each aggregation, in order
  pub listings : List (List Entry)
  pub listed : AllZip (λ agg entries. IsListing agg.1 agg.0 contributions entries)
      (enumerate_from 0 functions) listings
  pub joined : bytes ≡ flat_map (λ text. text.1) texts ++ flat_map listing_bytes listings
