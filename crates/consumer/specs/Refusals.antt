-- What the program says of a refusal, and how it ends.
use Rattle.std.specs.Prelude.{◌≡◌, ℕ, List, [], ◌∷◌, ◌++◌, Result, Ok, Err, MatchResult, codes}
use Rattle.streams.specs.Stream.{IsSent, SinkSeen}
use Rattle.consumer.specs.Lines.{column_part, line_part, row_part, thread_part}
use Rattle.consumer.specs.Vocabulary.{LexFault, ParseFault, TypeFault, TraceFault, GroupFault}
use Rattle.consumer.specs.Vocabulary.{ConsumeFault, Read, Refused, Write, Replayed, Refusal, Lex}
use Rattle.consumer.specs.Vocabulary.{Parse, Typing, Trace, Group, Memory}

-- out of memory is one refusal, whichever part it was in
abbrev pub plain_refusal : Refusal → Refusal
plain_refusal (Lex LexFault.Memory) = Memory
plain_refusal (Parse ParseFault.Memory) = Memory
plain_refusal (Typing TypeFault.Memory) = Memory
plain_refusal (Trace TraceFault.Memory) = Memory
plain_refusal (Group GroupFault.Memory) = Memory
plain_refusal e = e

-- ---- the program's line

-- the number of a fault, and the parts that it has
abbrev pub lex_parts : LexFault → List ℕ
lex_parts LexFault.TooLong = codes "1"
lex_parts (LexFault.BadByte line) = codes "2" ++ line_part line
lex_parts (LexFault.Unclosed line) = codes "3" ++ line_part line
lex_parts (LexFault.Constant line) = codes "4" ++ line_part line
lex_parts (LexFault.Escape line) = codes "5" ++ line_part line
lex_parts (LexFault.OptionLine line) = codes "6" ++ line_part line
lex_parts LexFault.Memory = []

abbrev pub parse_parts : ParseFault → List ℕ
parse_parts (ParseFault.Syntax line) = codes "1" ++ line_part line
parse_parts ParseFault.TooDeep = codes "2"
parse_parts ParseFault.TooManyClauses = codes "3"
parse_parts ParseFault.Memory = []

abbrev pub type_parts : TypeFault → List ℕ
type_parts (TypeFault.GlobalAssignment name line) = codes "1" ++ line_part line
type_parts (TypeFault.Undeclared line) = codes "2" ++ line_part line
type_parts (TypeFault.Mismatch line) = codes "3" ++ line_part line
type_parts (TypeFault.Keys line) = codes "4" ++ line_part line
type_parts (TypeFault.AggregationRedefined line) = codes "5" ++ line_part line
type_parts (TypeFault.LquantizeBounds line) = codes "6" ++ line_part line
type_parts (TypeFault.PrintfArguments line) = codes "7" ++ line_part line
type_parts (TypeFault.ReadOnly line) = codes "8" ++ line_part line
type_parts (TypeFault.NoRegister line) = codes "9" ++ line_part line
type_parts TypeFault.Memory = []

abbrev pub trace_parts : TraceFault → List ℕ
trace_parts TraceFault.Header = codes "1"
trace_parts (TraceFault.Columns row) = codes "2" ++ row_part row
trace_parts (TraceFault.Number row column) = codes "3" ++ row_part row ++ column_part column
trace_parts (TraceFault.Order row) = codes "4" ++ row_part row
trace_parts (TraceFault.Text row column) = codes "5" ++ row_part row ++ column_part column
trace_parts (TraceFault.Reserved row) = codes "6" ++ row_part row
trace_parts TraceFault.TooMany = codes "7"
trace_parts TraceFault.Memory = []

abbrev pub group_parts : GroupFault → List ℕ
group_parts (GroupFault.Missing thread) = codes "1" ++ thread_part thread
group_parts (GroupFault.Doubled thread) = codes "2" ++ thread_part thread
group_parts (GroupFault.Stranger thread) = codes "3" ++ thread_part thread
group_parts GroupFault.TooMany = codes "4"
group_parts GroupFault.Memory = []

-- the reason that a plain refusal gives
abbrev pub reason_of : Refusal → List ℕ
reason_of (Lex f) = codes "script refused: Lex " ++ lex_parts f
reason_of (Parse f) = codes "script refused: Parse " ++ parse_parts f
reason_of (Typing f) = codes "script refused: Type " ++ type_parts f
reason_of (Trace f) = codes "trace refused: Trace " ++ trace_parts f
reason_of (Group f) = codes "groups refused: Group " ++ group_parts f
reason_of Memory = codes "out of memory"

abbrev pub refusal_line : Refusal → List ℕ
refusal_line e = codes "dreplay: " ++ reason_of (plain_refusal e)

abbrev pub consume_fault_line : ConsumeFault → List ℕ
consume_fault_line Read = codes "dreplay: read failed"
consume_fault_line (Refused e) = refusal_line e
consume_fault_line Write = codes "dreplay: write failed"

-- ---- the status

-- the status of a plain refusal
abbrev pub reason_status : Refusal → ℕ
reason_status Memory = 1
reason_status (Lex f) = 3
reason_status (Parse f) = 3
reason_status (Typing f) = 3
reason_status (Trace f) = 4
reason_status (Group f) = 4

abbrev pub status_of : Refusal → ℕ
status_of e = reason_status (plain_refusal e)

-- how the program ends
abbrev pub status_at_end : Result Replayed ConsumeFault → ℕ
status_at_end (Ok r) = r.status
status_at_end (Err Read) = 1
status_at_end (Err (Refused e)) = status_of e
status_at_end (Err Write) = 1

-- this is its status; and if there is no answer, its line goes to standard error
abbrev pub IsReported : Result Replayed ConsumeFault → (old new : SinkSeen) → ℕ → Type 0
IsReported result old new status = (status ≡ status_at_end result)
    × MatchResult result (λ r. new ≡ old) (λ e. IsSent (consume_fault_line e ++ 10 ∷ []) old new)
