-- Aggregating functions: their bounds, what they take, and when one is known.
-- Source: Dynamic Tracing Guide, "Aggregations".
use Rattle.std.specs.Prelude.{ℕ, ◌&&◌, nat_le, Bool, true, false, List, Option, Some, None, ℤ, pos}
use Rattle.std.specs.Prelude.{neg_ℤ}
use Rattle.std.specs.List.{find, enumerate_from, list_all}
use Rattle.d_types.specs.Vocabulary.{bytes_eq, option_map, Int, Text, linear_range}
use Rattle.d_types.specs.Vocabulary.{UnaryOperator, Constant, Tree, Trees, DType, AggFn}
use Rattle.d_types.specs.Vocabulary.{Aggregating}
use Rattle.d_types.specs.Typed.{Typed, Typeds, end, more, types_of, Agg, Aggs}
use Rattle.d_types.specs.Needs.{count}

-- ---- bounds and steps, which are read from the text

-- a constant's value, the type aside
abbrev pub natural : Tree → Option ℕ
natural (Tree.Known line (Constant.Number v suffix)) = Some v
natural t = None

-- that, perhaps with one minus
abbrev pub whole_number : Tree → Option ℤ
whole_number (Tree.Unary line UnaryOperator.Negate a) = option_map (λ v. neg_ℤ (pos v)) (natural a)
whole_number t = option_map pos (natural t)

abbrev pub buckets_between : Option ℤ → Option ℤ → Option ℕ → Option AggFn
buckets_between (Some lower) (Some upper) (Some s) =
    option_map AggFn.Lquantize (linear_range lower upper s)
buckets_between lower upper s = None

-- `lquantize(e, lower, upper)` has steps of 1, and `lquantize(e, lower, upper, step)` its own
abbrev pub lquantize : Trees → Option AggFn
lquantize (Trees.more e (Trees.more lower (Trees.more upper Trees.end))) =
    buckets_between (whole_number lower) (whole_number upper) (Some 1)
lquantize (Trees.more e (Trees.more lower (Trees.more upper (Trees.more s Trees.end)))) =
    buckets_between (whole_number lower) (whole_number upper) (natural s)
lquantize args = None

-- a function with its bounds, if they are in range
abbrev pub function : Aggregating → Trees → Option AggFn
function (Aggregating.Named f) args = Some f
function Aggregating.Lquantize args = lquantize args

-- ---- arguments

abbrev pub is_integer : DType → Bool
is_integer (Int t) = true
is_integer Text = false

-- count() takes nothing, lquantize three or four arguments, the others one
abbrev pub takes_arguments : Aggregating → ℕ → Bool
takes_arguments (Aggregating.Named AggFn.Count) n = nat_le n 0
takes_arguments Aggregating.Lquantize n = nat_le 3 n && nat_le n 4
takes_arguments f n = nat_le 1 n && nat_le n 1

-- integers, as many as the function takes
abbrev pub arguments_fit : Aggregating → Typeds → Bool
arguments_fit f args = takes_arguments f (count args) && list_all is_integer (types_of args)

-- the first argument is what is aggregated
abbrev pub first : Typeds → Option Typed
first end = None
first (more x rest) = Some x

-- ---- the aggregation

-- the index of an aggregation, in a list whose first index is n, and what it is
abbrev pub find_from : ℕ → List ℕ → Aggs → Option (ℕ × Agg)
find_from n name aggs = find (λ (index, a). bytes_eq a.name name) (enumerate_from n aggs)
