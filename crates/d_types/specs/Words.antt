-- What words name.
-- Source: Dynamic Tracing Guide, "Built-in Variables" and "Actions and Subroutines".
use Rattle.std.specs.Prelude.{ℕ, ◌-◌, List, [], ◌∷◌, codes, Option, Some, None, ◌&&◌}
use Rattle.std.specs.Prelude.{if◌then◌else◌}
use Rattle.std.specs.{Char.is_ascii_digit, Map.lookup, Option.option_or, Str.byte}
use Rattle.d_types.specs.Vocabulary.{bytes_eq, BuiltIn, Callee, AggFn, Aggregating}
use Rattle.d_types.specs.declared.words.Aggregating.TheVariants.{Named, Lquantize}

-- arg0 to arg9
abbrev pub argument : List ℕ → Option BuiltIn
argument (a ∷ r ∷ g ∷ digit ∷ []) =
    if bytes_eq (a ∷ r ∷ g ∷ []) (codes "arg") && is_ascii_digit digit
    then Some (BuiltIn.Argument (digit - byte "0")) else None
argument word = None

abbrev pub built_ins : List (List ℕ × BuiltIn)
built_ins =
    (codes "timestamp", BuiltIn.Timestamp) ∷ (codes "cpu", BuiltIn.Cpu)
    ∷ (codes "pid", BuiltIn.Pid) ∷ (codes "tid", BuiltIn.Tid)
    ∷ (codes "execname", BuiltIn.Execname) ∷ (codes "probeprov", BuiltIn.Probeprov)
    ∷ (codes "probemod", BuiltIn.Probemod) ∷ (codes "probefunc", BuiltIn.Probefunc)
    ∷ (codes "probename", BuiltIn.Probename) ∷ []

-- the built-in variable
abbrev pub built_in : List ℕ → Option BuiltIn
built_in word = option_or (lookup (bytes_eq word) built_ins) (argument word)

-- a function or an action
abbrev pub callee_named : List ℕ → Option Callee
callee_named word =
    lookup (bytes_eq word)
    ((codes "strlen", Callee.Strlen) ∷ (codes "strjoin", Callee.Strjoin)
    ∷ (codes "trace", Callee.Trace) ∷ (codes "printf", Callee.Printf)
    ∷ (codes "exit", Callee.Exit) ∷ [])

-- an aggregating function
abbrev pub aggregating_named : List ℕ → Option Aggregating
aggregating_named word =
    lookup (bytes_eq word)
    ((codes "count", Named AggFn.Count) ∷ (codes "sum", Named AggFn.Sum)
    ∷ (codes "min", Named AggFn.Min) ∷ (codes "max", Named AggFn.Max)
    ∷ (codes "avg", Named AggFn.Avg) ∷ (codes "quantize", Named AggFn.Quantize)
    ∷ (codes "lquantize", Lquantize) ∷ [])
