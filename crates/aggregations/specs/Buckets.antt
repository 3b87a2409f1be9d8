-- The buckets of histograms.
-- Source: Dynamic Tracing Guide, "Aggregations" (quantize, lquantize).
use Rattle.std.specs.Prelude.{ℕ, zero, suc, ◌+◌, ◌-◌, ◌*◌, ◌^◌, ◌==◌, nat_lt}
use Rattle.std.specs.Prelude.{List, map, count_by, Bool, ◌&&◌, ◌||◌, if◌then◌else◌}
use Rattle.std.specs.Prelude.{ℤ, pos, ◌+ℤ◌, ◌-ℤ◌, neg_ℤ, int_le, int_lt, Option, None, Some}
use Rattle.std.specs.List.{range_with_len}
use Rattle.aggregations.specs.Vocabulary.{AggFn, Quantize, Lquantize}
use Rattle.aggregations.specs.Vocabulary.{LinearRange, Scale, Powers, Steps}
use Rattle.aggregations.specs.Ranges.{levels_between}

-- two of the functions make histograms, each on a scale
abbrev pub scale_of : AggFn → Option Scale
scale_of Quantize = Some Powers
scale_of (Lquantize r) = Some (Steps r)
scale_of function = None

-- the whole steps between the bounds
abbrev pub levels_of : LinearRange → ℕ
levels_of r = levels_between r.lower r.upper r.step

-- how many buckets there are: of a range its levels, one below and one above
abbrev pub buckets : Scale → ℕ
buckets Powers = 127
buckets (Steps r) = levels_of r + 2

-- the number that a bucket is called by: -2^62, .., -2, -1, 0, 1, 2, .., 2^62; of a range one below
-- the lower bound, and then the lower bound and on in steps
abbrev pub label : Scale → ℕ → ℤ
label Powers b =
    if nat_lt b 63 then neg_ℤ (pos (2 ^ (62 - b)))
    else if b == 63 then pos 0 else pos (2 ^ (b - 64))
label (Steps r) zero = r.lower -ℤ pos 1
label (Steps r) (suc i) = r.lower +ℤ pos (i * r.step)

-- the bucket has the greatest label that is not above x
abbrev pub is_greatest_up_to : Scale → ℕ → ℤ → Bool
is_greatest_up_to scale b x =
    int_le (label scale b) x && ((suc b == buckets scale) || int_lt x (label scale (suc b)))

-- the bucket has the least label that is not below x
abbrev pub is_least_from : Scale → ℕ → ℤ → Bool
is_least_from scale b x =
    int_le x (label scale b) && ((b == 0) || int_lt (label scale (b - 1)) x)

-- x is in the bucket
abbrev pub is_in : Scale → ℕ → ℤ → Bool
is_in Powers b x =
    if int_lt x (pos 0) then is_least_from Powers b x else is_greatest_up_to Powers b x
is_in (Steps r) b x = if int_lt x r.lower then b == 0 else is_greatest_up_to (Steps r) b x

-- how many of the arguments are in each bucket
abbrev pub counts_of : Scale → List ℤ → List ℕ
counts_of scale args = map (λ b. count_by (is_in scale b) args) (range_with_len 0 (buckets scale))
