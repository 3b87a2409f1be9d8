-- The answer of a script over a trace.
use Rattle.std.specs.Prelude.{◌≡◌, ℕ, List, Result, Ok, Err}
use Rattle.replay_core.specs.{Exit.exit_status, Exit.history_over, Layouts.LayoutMeant}
use Rattle.consumer.specs.Vocabulary.{Firing, trace_of, Syntax, ScriptMeant}
use Rattle.consumer.specs.Vocabulary.{Refusal, Parse, Trace}
use Rattle.consumer.specs.Scripts.{IsAccepted, IsScriptFault}

-- the script denotes this meaning, and the trace these firings
pub record Denote (script trace : List ℕ) (m : ScriptMeant) (firings : List Firing) : Type 0 where
  pub accepted : IsAccepted script m
  pub reads : trace_of trace ≡ Ok firings

-- what a run writes, and how it ends
pub record Output : Type 0 where
  pub bytes : List ℕ
  pub status : ℕ

-- the output, in this layout, of the run over BEGIN, these firings up to the one that exits, and
-- END
pub record HasOutput (shows : LayoutMeant) (m : ScriptMeant) (firings : List Firing)
    (output : Output) : Type 0 where
  pub bytes : shows m (history_over m firings) output.bytes
  pub status : output.status ≡ exit_status (history_over m firings)

-- the script over the trace has this output
abbrev pub HasAnswer : LayoutMeant → (script trace : List ℕ) → Output → Type 0
HasAnswer shows script trace output =
    (m : ScriptMeant) × (firings : List Firing)
    × Denote script trace m firings × HasOutput shows m firings output

-- the first reason for which there is no answer: the script's, and then the trace's
abbrev pub IsRefusal : (script trace : List ℕ) → Refusal → Type 0
IsRefusal script trace (Trace fault) =
    ((m : ScriptMeant) × IsAccepted script m) × (trace_of trace ≡ Err fault)
IsRefusal script trace e = IsScriptFault script e

-- The output, or the first refusal. The line of a syntax fault may be any.
abbrev pub IsAnswer : LayoutMeant → (script trace : List ℕ) → Result Output Refusal → Type 0
IsAnswer shows script trace (Ok output) = HasAnswer shows script trace output
IsAnswer shows script trace (Err e) = IsRefusal script trace e

-- the refusal without the line of Syntax, which isn't part of the answer
abbrev pub without_line : Refusal → Refusal
without_line (Parse (Syntax line)) = Parse (Syntax 0)
without_line e = e

-- the same bytes and status, or the same refusal
abbrev pub IsSameAnswer : (a b : Result Output Refusal) → Type 0
IsSameAnswer (Ok x) (Ok y) = (x.bytes ≡ y.bytes) × (x.status ≡ y.status)
IsSameAnswer (Err e) (Err f) = without_line e ≡ without_line f
IsSameAnswer a b = ⊥
