-- The typed tree of an aggregation statement, or its first fault, as the code finds it.
use Rattle.std.specs.Prelude.{ℕ, nat_le, ◌==◌, ◌&&◌, Bool, true, false, if◌then◌else◌, List, []}
use Rattle.std.specs.Prelude.{◌∷◌, ◌++◌, length, Option, Some, None, Result, Ok, ℤ, pos, neg_ℤ}
use Rattle.d_types.specs.Vocabulary.{int_eq, UnaryOperator, Tree, Trees, AggFn, MAX_KEYS}
use Rattle.d_types.specs.Vocabulary.{MAX_STEP}
use Rattle.d_types.specs.Steps.Faults.{Fault, ◌>>=◌, refuse, unless, Undeclared, Mismatch, Keys}
use Rattle.d_types.specs.Steps.Faults.{AggregationRedefined, LquantizeBounds}
use Rattle.d_types.specs.Typed.{Typeds, end, Action, Aggregate, Agg, Aggs}
use Rattle.d_types.specs.Variables.{Rows, kinds_of_typed}
use Rattle.d_types.specs.Steps.Variables.{fit}
use Rattle.d_types.specs.Words.{aggregating_named}
use Rattle.d_types.specs.Needs.{count}
use Rattle.d_types.specs.Steps.Statements.{wholes}
use Rattle.d_types.specs.Aggregations.{natural, buckets_between, function, arguments_fit, first}
use Rattle.d_types.specs.Aggregations.{find_from}

-- ---- bounds and steps in the code's integers

abbrev pub positive : Option ℕ → Option ℤ
positive None = None
positive (Some v) = if nat_le v 2147483647 then Some (pos v) else None

abbrev pub negative : Option ℕ → Option ℤ
negative None = None
negative (Some v) = if nat_le v 2147483648 then Some (neg_ℤ (pos v)) else None

-- from -2^31 to 2^31 - 1
abbrev pub bound : Tree → Option ℤ
bound (Tree.Unary line UnaryOperator.Negate a) = negative (natural a)
bound t = positive (natural t)

abbrev pub small : Option ℕ → Option ℕ
small None = None
small (Some v) = if nat_le v MAX_STEP then Some v else None

abbrev pub lquantize_by_bounds : Trees → Option AggFn
lquantize_by_bounds (Trees.more e (Trees.more lower (Trees.more upper Trees.end))) =
    buckets_between (bound lower) (bound upper) (Some 1)
lquantize_by_bounds (Trees.more e (Trees.more lower (Trees.more upper (Trees.more s Trees.end)))) =
    buckets_between (bound lower) (bound upper) (small (natural s))
lquantize_by_bounds args = None

-- ---- the aggregation

abbrev pub same : AggFn → AggFn → Bool
same AggFn.Count AggFn.Count = true
same AggFn.Sum AggFn.Sum = true
same AggFn.Min AggFn.Min = true
same AggFn.Max AggFn.Max = true
same AggFn.Avg AggFn.Avg = true
same AggFn.Quantize AggFn.Quantize = true
same (AggFn.Lquantize a) (AggFn.Lquantize b) =
    int_eq a.lower b.lower && int_eq a.upper b.upper && (a.step == b.step)
same f g = false

-- a function is given, and it is the same as before
abbrev pub is_again : Option AggFn → AggFn → Bool
is_again None g = false
is_again (Some f) g = same f g

abbrev pub new_aggregation : List ℕ → Typeds → Aggs → AggFn → Result (ℕ × Aggs) Fault
new_aggregation name keys aggs f =
    Ok (length aggs, aggs ++ record { name = name; keys = kinds_of_typed keys; function = f } ∷ [])

-- the index of an aggregation, and all of them with it: the first statement fixes its keys and its
-- function
abbrev pub index_for : ℕ → List ℕ → Typeds → Option AggFn → Aggs → Option (ℕ × Agg)
    → Result (ℕ × Aggs) Fault
index_for line name keys f aggs None =
    if nat_le (count keys) MAX_KEYS
    then (unless LquantizeBounds line f >>= new_aggregation name keys aggs)
    else refuse Keys line
index_for line name keys f aggs (Some p) =
    if fit p.1.keys keys
    then (if is_again f p.1.function then Ok (p.0, aggs) else refuse AggregationRedefined line)
    else refuse Keys line

-- keys, the function's name, arguments, and then the statement itself
abbrev pub aggregate : ℕ → List ℕ → Trees → List ℕ → Trees → Rows → Aggs
    → Result (Action × (Rows × Aggs)) Fault
aggregate line name keys f args rows aggs =
    wholes end rows keys >>= λ k. unless Undeclared line (aggregating_named f) >>= λ g.
    wholes end k.1 args >>= λ x.
    if arguments_fit g x.0
    then (index_for line name k.0 (function g args) aggs (find_from 0 name aggs) >>= λ a.
    Ok (Aggregate a.0 k.0 (first x.0), (x.1, a.1)))
    else refuse Mismatch line
