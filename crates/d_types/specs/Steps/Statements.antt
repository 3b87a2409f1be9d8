-- The typed tree of a statement, or its first fault, as the code finds it.
use Rattle.std.specs.Prelude.{ℕ, if◌then◌else◌, List, Option, Some, None, Result, Ok}
use Rattle.d_types.specs.Vocabulary.{Int, Text, Trees, Tree, Constant, DType, Callee}
use Rattle.d_types.specs.Steps.Faults.{Fault, ◌>>=◌, refuse, unless, Mismatch, PrintfArguments}
use Rattle.d_types.specs.Typed.{Typed, Typeds, end, type_of, types_of, Action, Evaluate, Trace}
use Rattle.d_types.specs.Steps.Typing.{with_typed}
use Rattle.d_types.specs.Typed.{Print, Exit}
use Rattle.d_types.specs.Steps.Formats.{pieces}
use Rattle.d_types.specs.Formats.{fit}
use Rattle.d_types.specs.Words.{callee_named}
use Rattle.d_types.specs.Variables.{Rows}
use Rattle.d_types.specs.Steps.Typing.{only, whole}

-- expressions that aren't parts of others, after those that are typed
abbrev pub wholes : Typeds → Rows → Trees → Result (Typeds × Rows) Fault
wholes done rows Trees.end = Ok (done, rows)
wholes done rows (Trees.more a rest) = whole rows a >>= λ x. wholes (with_typed done x.0) x.1 rest

-- one value of any type
abbrev pub trace : ℕ → Rows → Trees → Result (Action × Rows) Fault
trace line rows args =
    wholes end rows args >>= λ k. unless Mismatch line (only k.0) >>= λ x.
    Ok (Trace (type_of x) x, k.1)

abbrev pub exit_by : ℕ → DType → Typed → Rows → Result (Action × Rows) Fault
exit_by line (Int t) x rows = Ok (Exit x, rows)
exit_by line Text x rows = refuse Mismatch line

-- one integer
abbrev pub exit : ℕ → Rows → Trees → Result (Action × Rows) Fault
exit line rows args =
    wholes end rows args >>= λ k. unless Mismatch line (only k.0) >>= λ x.
    exit_by line (type_of x) x k.1

-- a format with only known conversions, and an argument for each of them
abbrev pub print_with : ℕ → Rows → List ℕ → Trees → Result (Action × Rows) Fault
print_with line rows format args =
    wholes end rows args >>= λ k. unless PrintfArguments line (pieces format) >>= λ ps.
    if fit ps k.0 then Ok (Print ps (types_of k.0) k.0, k.1) else refuse PrintfArguments line

abbrev pub not_printed : ℕ → Rows → Trees → Result (Action × Rows) Fault
not_printed line rows args = wholes end rows args >>= λ k. refuse PrintfArguments line

abbrev pub print_by : Option (List ℕ) → ℕ → Rows → Tree → Trees → Result (Action × Rows) Fault
print_by (Some format) line rows first rest = print_with line rows format rest
print_by None line rows first rest = not_printed line rows (Trees.more first rest)

abbrev pub text_of_constant : Tree → Option (List ℕ)
text_of_constant (Tree.Known line (Constant.Text bytes)) = Some bytes
text_of_constant t = None

-- the format is a text constant, which isn't a value
abbrev pub print : ℕ → Rows → Trees → Result (Action × Rows) Fault
print line rows Trees.end = not_printed line rows Trees.end
print line rows (Trees.more first rest) = print_by (text_of_constant first) line rows first rest

-- an expression as a statement: only its assignments count
abbrev pub evaluate : Rows → Tree → Result (Action × Rows) Fault
evaluate rows t = whole rows t >>= λ x. Ok (Evaluate x.0, x.1)

-- a call that is a whole statement is an action
abbrev pub call_statement : Option Callee → ℕ → List ℕ → Rows → Trees → Result (Action × Rows) Fault
call_statement (Some Callee.Trace) line name rows args = trace line rows args
call_statement (Some Callee.Exit) line name rows args = exit line rows args
call_statement (Some Callee.Printf) line name rows args = print line rows args
call_statement (Some Callee.Strlen) line name rows args = evaluate rows (Tree.Call line name args)
call_statement (Some Callee.Strjoin) line name rows args = evaluate rows (Tree.Call line name args)
call_statement None line name rows args = evaluate rows (Tree.Call line name args)

-- an expression that is a whole statement
abbrev pub action : Rows → Tree → Result (Action × Rows) Fault
action rows (Tree.Call line name args) = call_statement (callee_named name) line name rows args
action rows (Tree.Known line c) = evaluate rows (Tree.Known line c)
action rows (Tree.Read x keys) = evaluate rows (Tree.Read x keys)
action rows (Tree.Unary line op a) = evaluate rows (Tree.Unary line op a)
action rows (Tree.Cast line to a) = evaluate rows (Tree.Cast line to a)
action rows (Tree.Before line by x keys) = evaluate rows (Tree.Before line by x keys)
action rows (Tree.After x keys by) = evaluate rows (Tree.After x keys by)
action rows (Tree.Binary op a b) = evaluate rows (Tree.Binary op a b)
action rows (Tree.Choice a b d) = evaluate rows (Tree.Choice a b d)
action rows (Tree.Assign op x keys a) = evaluate rows (Tree.Assign op x keys a)
