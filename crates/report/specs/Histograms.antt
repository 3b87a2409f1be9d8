-- The bytes of a histogram.
-- Source: Dynamic Tracing Guide, "Aggregations" (quantize, lquantize).
use Rattle.std.specs.Prelude.{ℕ, zero, suc, ◌+◌, ◌-◌, ◌*◌, ◌/◌, ◌==◌, nat_lt}
use Rattle.std.specs.Prelude.{Bool, ◌&&◌, if◌then◌else◌, codes}
use Rattle.std.specs.Prelude.{List, [], ◌∷◌, ◌++◌, drop, filter, replicate, sum, take}
use Rattle.report.specs.Vocabulary.{Histogram, Scale, Powers, Steps, decimal, enumerate_from}
use Rattle.report.specs.Vocabulary.{flat_map, label, levels_of, signed_decimal}
use Rattle.report.specs.Columns.{at_left, at_right}
use Rattle.std.specs.Str.{byte}

-- From one bucket before the first with arguments to one after the last: some arguments are in a
-- bucket up to the next one, and some in one from the bucket before on.
abbrev pub is_row : List ℕ → ℕ → Bool
is_row counts bucket =
    nat_lt 0 (sum (take (bucket + 2) counts)) && nat_lt 0 (sum (drop (bucket - 1) counts))

-- a bucket's label; of a range with a mark below the lower bound and above the last level
abbrev pub label_bytes : Scale → ℕ → List ℕ
label_bytes Powers bucket = signed_decimal (label Powers bucket)
label_bytes (Steps range) zero = codes "< " ++ signed_decimal range.lower
label_bytes (Steps range) (suc level) =
    (if level == levels_of range then codes ">= " else [])
    ++ signed_decimal (label (Steps range) (suc level))

-- the signs of a bucket, at the left of 40: its share of 40 for all arguments, rounded
abbrev pub bar_bytes : ℕ → ℕ → List ℕ
bar_bytes count all = at_left 40 (replicate ((80 * count + all) / (2 * all)) (byte "@"))

-- the label, the signs and the count of a bucket
abbrev pub row_bytes : Scale → ℕ → ℕ × ℕ → List ℕ
row_bytes scale all row =
    at_right 16 (label_bytes scale row.0) ++ codes " |"
    ++ bar_bytes row.1 all ++ byte " " ∷ at_left 9 (decimal row.1) ++ codes "\n"

-- the line above the rows
abbrev pub header : List ℕ
header = codes "           value  ------------- Distribution ------------- count    \n"

-- the buckets that are shown, each with its count
abbrev pub rows : Histogram → List (ℕ × ℕ)
rows h = filter (λ row. is_row h.counts row.0) (enumerate_from 0 h.counts)

-- a line feed, the header, the rows and a line feed
abbrev pub histogram_bytes : Histogram → List ℕ
histogram_bytes h =
    codes "\n" ++ header ++ flat_map (row_bytes h.scale (sum h.counts)) (rows h) ++ codes "\n"
