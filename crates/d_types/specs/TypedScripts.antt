-- What a typed script means, and what a check of a script returns.
use Rattle.std.specs.Prelude.{List, Result, Ok, Err}
use Rattle.d_types.specs.Vocabulary.{ItemTree, TypeFault}
use Rattle.d_types.specs.declared.typed_script.TypedScript.{TypedScript}
use Rattle.d_types.specs.Checking.{IsChecked}
use Rattle.d_types.specs.Typed.{ScriptMeant, script_meant}

abbrev pub typed_script_of : TypedScript → ScriptMeant
typed_script_of s = script_meant s.clauses.items s.aggregations.items s.slots.items

-- a typed script that means what the script means, or its first fault, unless memory ran out
abbrev pub IsCheckOf : List ItemTree → Result TypedScript TypeFault → Type 0
IsCheckOf source (Ok s) = IsChecked source (Ok (typed_script_of s))
IsCheckOf source (Err TypeFault.Memory) = Unit {0}
IsCheckOf source (Err fault) = IsChecked source (Err fault)
