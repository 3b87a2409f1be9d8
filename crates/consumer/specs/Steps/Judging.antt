-- How a script is judged before its trace is read.
use Rattle.std.specs.Prelude.{List, ℕ, Result, Ok, Err}
use Rattle.consumer.specs.Scripts.{IsAccepted, IsScriptFault}
use Rattle.consumer.specs.Vocabulary.{Refusal, Memory, TypedScript, typed_script_of}

-- the script is accepted, or refused for this reason; or memory ran out
abbrev pub IsJudged : List ℕ → Result TypedScript Refusal → Type 0
IsJudged script (Ok typed) = IsAccepted script (typed_script_of typed)
IsJudged script (Err Memory) = Unit {0}
IsJudged script (Err e) = IsScriptFault script e
