-- The typed tree of an expression, or its first fault, as the code finds it.
use Rattle.std.specs.Prelude.{ℕ, nat_le, if◌then◌else◌, Option, Some, None, Result, Ok}
use Rattle.d_parser.specs.declared.tree.Variable.{Variable}
use Rattle.d_types.specs.Vocabulary.{Int, Text, Step, Tree, Trees, DType, INT64, Answer, MAX_NEED}
use Rattle.d_types.specs.Vocabulary.{Callee, AssignOperator}
use Rattle.d_types.specs.Steps.Faults.{Fault, ◌>>=◌, refuse, unless, Undeclared, Mismatch}
use Rattle.d_types.specs.Steps.Faults.{NoRegister}
use Rattle.d_types.specs.Lines.{line_of_variable, line_of}
use Rattle.d_types.specs.Targets.{space_of, type_at_once}
use Rattle.d_types.specs.Steps.Targets.{read_variable, target, assignment, step}
use Rattle.d_types.specs.Words.{callee_named}
use Rattle.d_types.specs.Needs.{need}
use Rattle.d_types.specs.Constants.{int_type, constant}
use Rattle.d_types.specs.Typed.{Typed, Typeds, end, more, type_of}
use Rattle.d_types.specs.Variables.{Rows, type_at}
use Rattle.d_types.specs.Steps.Operators.{as_type, unary, binary, choice}

-- with one more at the end
abbrev pub with_typed : Typeds → Typed → Typeds
with_typed end x = more x end
with_typed (more y rest) x = more y (with_typed rest x)

abbrev pub strlen : DType → Typed → Option Typed
strlen Text x = Some (Typed.Strlen x)
strlen (Int t) x = None

abbrev pub strjoin : DType → DType → Typed → Typed → Option Typed
strjoin Text Text x y = Some (Typed.Strjoin x y)
strjoin t u x y = None

-- the only argument
abbrev pub only : Typeds → Option Typed
only (more x end) = Some x
only args = None

abbrev pub strlen_of : Option Typed → Option Typed
strlen_of None = None
strlen_of (Some x) = strlen (type_of x) x

abbrev pub strjoin_of : Typeds → Option Typed
strjoin_of (more x (more y end)) = strjoin (type_of x) (type_of y) x y
strjoin_of args = None

-- an action has no value
abbrev pub call : Callee → Typeds → Option Typed
call Callee.Strlen args = strlen_of (only args)
call Callee.Strjoin args = strjoin_of args
call action args = None

abbrev pub beside : Rows → Option Typed → Option (Typed × Rows)
beside rows None = None
beside rows (Some x) = Some (x, rows)

-- a construct whose operands or arguments are of its kinds
abbrev pub fitting : ℕ → Option (Typed × Rows) → Result (Typed × Rows) Fault
fitting line x = unless Mismatch line x

abbrev pub typed_call : ℕ → Option Callee → Typeds → Rows → Result (Typed × Rows) Fault
typed_call line None args rows = refuse Undeclared line
typed_call line (Some f) args rows = fitting line (beside rows (call f args))

-- `++` and `--`, once the keys are typed
abbrev pub step_rest : Rows → ℕ → Step → Answer → Variable → Typeds → Result (Typed × Rows) Fault
step_rest rows line by answer v keys =
    target rows v (Some (Int INT64)) keys >>= λ s.
    fitting line (beside s.1 (step by answer (space_of v) (type_at s.1 s.0) s.0 keys))

abbrev mutual
  pub expr : Rows → Tree → Result (Typed × Rows) Fault
  expr rows (Tree.Known line c) = Ok (constant c, rows)
  expr rows (Tree.Read v keys) = exprs end rows keys >>= λ k. read_variable k.1 v k.0 >>= λ y.
      Ok (y, k.1)
  expr rows (Tree.Call line f args) =
      exprs end rows args >>= λ k. typed_call line (callee_named f) k.0 k.1
  expr rows (Tree.Unary line op a) =
      expr rows a >>= λ x. fitting line (beside x.1 (unary op (type_of x.0) x.0))
  expr rows (Tree.Cast line t a) =
      expr rows a >>= λ x. fitting line (beside x.1 (as_type (type_of x.0) (Int (int_type t)) x.0))
  expr rows (Tree.Before line by v keys) =
      exprs end rows keys >>= λ k. step_rest k.1 line by Answer.New v k.0
  expr rows (Tree.After v keys by) =
      exprs end rows keys >>= λ k. step_rest k.1 (line_of_variable v) by Answer.Old v k.0
  expr rows (Tree.Binary op a b) =
      expr rows a >>= λ x. expr x.1 b >>= λ y.
      fitting (line_of a) (beside y.1 (binary op (type_of x.0) (type_of y.0) x.0 y.0))
  expr rows (Tree.Choice c a b) =
      expr rows c >>= λ x. expr x.1 a >>= λ y. expr y.1 b >>= λ z.
      fitting (line_of c)
      (beside z.1 (choice (type_of x.0) (type_of y.0) (type_of z.0) x.0 y.0 z.0))
  expr rows (Tree.Assign op v keys a) =
      exprs end rows keys >>= λ k. target k.1 v (type_at_once op) k.0 >>= λ s.
      expr s.1 a >>= λ x.
      fitting (line_of_variable v)
      (assignment op (space_of v) (type_at x.1 s.0) (type_of x.0) s.0 k.0 x.0 x.1)

  -- a list, after those that are typed
  pub exprs : Typeds → Rows → Trees → Result (Typeds × Rows) Fault
  exprs done rows Trees.end = Ok (done, rows)
  exprs done rows (Trees.more a rest) = expr rows a >>= λ x. exprs (with_typed done x.0) x.1 rest

-- an expression that isn't part of another, and that fits the registers
abbrev pub whole : Rows → Tree → Result (Typed × Rows) Fault
whole rows t =
    expr rows t >>= λ x. if nat_le (need x.0) MAX_NEED then Ok x else refuse NoRegister (line_of t)

abbrev pub assign_rest : Rows → AssignOperator → Variable → Typeds → Tree
    → Result (Typed × Rows) Fault
assign_rest rows op v keys a =
    target rows v (type_at_once op) keys >>= λ s. expr s.1 a >>= λ x.
    fitting (line_of_variable v)
    (assignment op (space_of v) (type_at x.1 s.0) (type_of x.0) s.0 keys x.0 x.1)
