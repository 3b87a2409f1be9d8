-- Keys and what entries hold, as JSON values. Nothing is rounded or left out.
-- Source: RFC 8259, sections 4 to 6 (objects, arrays and numbers).
use Rattle.std.specs.Prelude.{◌≡◌, ℕ, ◌<◌, ◌^◌, ◌++◌, [], List, All, codes, filter, length}
use Rattle.std.specs.Prelude.{nat_lt, ℤ, pos, negsuc, slice_index, IsSomeAnd}
use Rattle.data_lines.specs.Vocabulary.{AggFn, Count, Sum, Min, Max, Avg, Scale, Powers, Steps}
use Rattle.data_lines.specs.Vocabulary.{Counted, Summed, Least, Greatest, Mean, Counts, Held}
use Rattle.data_lines.specs.Vocabulary.{Histogram, KeyPart, Name, Number, buckets, decimal, label}
use Rattle.data_lines.specs.Vocabulary.{levels_of, range_with_len, scale_of, signed_decimal}
use Rattle.data_lines.specs.{Json.array_of, Texts.text_value}

-- a number or a text
abbrev pub part_value : KeyPart → List ℕ
part_value (Number number) = signed_decimal number
part_value (Name text) = text_value text

-- a number of 64 bits with its sign
abbrev pub Fits64 : ℤ → Type 0
Fits64 (pos n) = n < 2 ^ 63
Fits64 (negsuc n) = n < 2 ^ 63

-- a part that a key of a run can have
abbrev pub FitsPart : KeyPart → Type 0
FitsPart (Number number) = Fits64 number
FitsPart (Name text) = Unit {0}

-- the parts from left to right
abbrev pub key_value : List KeyPart → List ℕ
key_value key = array_of part_value key

-- the buckets that have arguments
abbrev pub used_buckets : List ℕ → List ℕ
used_buckets counts =
    filter (λ b. nat_lt 0 (slice_index counts b)) (range_with_len 0 (length counts))

-- two numbers in brackets
abbrev pub pair_value : ℤ → ℕ → List ℕ
pair_value number count =
    codes "[" ++ signed_decimal number ++ (codes "," ++ decimal count) ++ codes "]"

-- a bucket's label and its count
abbrev pub bucket_value : Histogram → ℕ → List ℕ
bucket_value h b = pair_value (label h.scale b) (slice_index h.counts b)

-- a member that is a number, and the comma after it
abbrev pub number_member : List ℕ → List ℕ → List ℕ
number_member name digits = codes "\"" ++ name ++ codes "\":" ++ digits ++ codes ","

-- the members that give the levels of a range
abbrev pub range_members : Scale → List ℕ
range_members Powers = []
range_members (Steps r) =
    number_member (codes "lower") (signed_decimal r.lower)
    ++ number_member (codes "upper") (signed_decimal r.upper)
    ++ number_member (codes "step") (decimal r.step)
    ++ number_member (codes "levels") (decimal (levels_of r))

abbrev pub histogram_value : Histogram → List ℕ
histogram_value h =
    codes "{" ++ range_members h.scale ++ codes "\"counts\":"
    ++ array_of (bucket_value h) (used_buckets h.counts) ++ codes "}"

-- a mean is its total and its number of arguments
abbrev pub mean_value : ℤ → ℕ → List ℕ
mean_value sum count =
    codes "{\"sum\":" ++ signed_decimal sum ++ codes ",\"count\":" ++ decimal count ++ codes "}"

-- the whole of what is held
abbrev pub entry_value : Held → List ℕ
entry_value (Counted n) = decimal n
entry_value (Summed s) = signed_decimal s
entry_value (Least m) = signed_decimal m
entry_value (Greatest m) = signed_decimal m
entry_value (Mean m) = mean_value m.sum m.count
entry_value (Counts h) = histogram_value h

-- a histogram on the scale, with counts of 64 bits
pub record FitsCounts (scale : Scale) (h : Histogram) : Type 0 where
  pub same : h.scale ≡ scale
  pub each : length h.counts ≡ buckets scale
  pub small : All (λ n. n < 2 ^ 64) h.counts

-- what an entry of the function can hold
abbrev pub FitsHeld : AggFn → Held → Type 0
FitsHeld Count (Counted n) = n < 2 ^ 64
FitsHeld Sum (Summed s) = Fits64 s
FitsHeld Min (Least m) = Fits64 m
FitsHeld Max (Greatest m) = Fits64 m
FitsHeld Avg (Mean m) = Fits64 m.sum × (m.count < 2 ^ 64)
FitsHeld function (Counts h) = IsSomeAnd (scale_of function) (λ scale. FitsCounts scale h)
FitsHeld function held = ⊥
