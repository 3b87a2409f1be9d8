-- The entries of an aggregation in the order in which they are shown.
-- Source: Dynamic Tracing Guide, "Aggregations".
use Rattle.std.specs.Prelude.{◌≡◌, ◌⊎◌, ◌<ℤ◌, ℕ, List, [], ◌∷◌, ℤ}
use Rattle.report.specs.Vocabulary.{AggFn, Contribution, AreEntries, figure_of, rank_of}
use Rattle.report.specs.Vocabulary.{IsStrictlySortedBy, Less, Ordering, int_cmp, ordering_then}
use Rattle.report.specs.Vocabulary.{flat_map, key_cmp}
use Rattle.report.specs.Entry.{Entry, entry_bytes}
use Rattle.std.specs.Str.{byte}

-- the number by which an entry is ordered
abbrev pub entry_rank : Entry → ℤ
entry_rank entry = rank_of (figure_of entry.1)

-- by rank, and entries of one rank by their keys
abbrev pub entry_cmp : Entry → Entry → Ordering
entry_cmp x y = ordering_then (int_cmp (entry_rank x) (entry_rank y)) (key_cmp x.0 y.0)

-- x comes before y, in words: it has a lower rank, or the same rank and a lower key
abbrev pub ComesBefore : Entry → Entry → Type 0
ComesBefore x y =
    (entry_rank x <ℤ entry_rank y) ⊎ ((entry_rank x ≡ entry_rank y) × (key_cmp x.0 y.0 ≡ Less))

-- the entries that the contributions give an aggregation, in ascending order
pub record IsListing (function : AggFn) (agg : ℕ) (contributions : List Contribution)
    (entries : List Entry) : Type 0 where
  pub are : AreEntries function agg contributions entries
  pub rises : IsStrictlySortedBy entry_cmp entries

-- a line feed and the entries; an aggregation without entries isn't shown
abbrev pub listing_bytes : List Entry → List ℕ
listing_bytes [] = []
listing_bytes (e ∷ es) = byte "\n" ∷ flat_map entry_bytes (e ∷ es)
