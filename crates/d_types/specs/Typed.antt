-- Typed trees, as values.
-- Source: Dynamic Tracing Guide, "Types, Operators, and Expressions" and "Actions and Subroutines".
use Rattle.std.specs.List.{list_any}
use Rattle.std.specs.Prelude.{ℕ, Bool, true, false, List, [], ◌∷◌, map, Option, Some, None}
use Rattle.d_types.specs.Vocabulary.{UnaryOperator, Step, Description, IntType, DType}
use Rattle.d_types.specs.Vocabulary.{ComparisonOperator, Kind, INT32, INT64, UINT64, AggFn, BuiltIn}
use Rattle.d_types.specs.Vocabulary.{Variable, Operation, LogicOperator, Answer, Piece, TypedExpr}
use Rattle.d_types.specs.Vocabulary.{Row_of-TypedExpr, end_of-TypedExpr, more_of-TypedExpr}
use Rattle.d_types.specs.Vocabulary.{TypedStmt, TypedClause, TypedAggregation}

mutual
  pub data Typed : Type 0 where
    Constant : IntType → ℕ → Typed
    Text : List ℕ → Typed
    Fixed : BuiltIn → Typed
    Read : Variable → Typeds → Typed
    Unary : UnaryOperator → IntType → Typed → Typed
    Operate : Operation → Typed → Typed → Typed
    Compare : ComparisonOperator → IntType → Typed → Typed → Typed
    CompareText : ComparisonOperator → Typed → Typed → Typed
    Logic : LogicOperator → Typed → Typed → Typed
    Choice : DType → Typed → Typed → Typed → Typed
    Convert : IntType → IntType → Typed → Typed
    Assign : Variable → Typeds → Typed → Typed
    Update : Operation → Variable → Typeds → Typed → Typed
    Count : Step → Answer → Variable → Typeds → Typed
    Strlen : Typed → Typed
    Strjoin : Typed → Typed → Typed

  -- a list of them
  pub data Typeds : Type 0 where
    end : Typeds
    more : Typed → Typeds → Typeds

abbrev mutual
  pub typed_of : TypedExpr → Typed
  typed_of (TypedExpr.Constant t v) = Constant t v
  typed_of (TypedExpr.Text w) = Text w
  typed_of (TypedExpr.BuiltIn b) = Fixed b
  typed_of (TypedExpr.Read' v shape keys) = Read v (typeds_in keys)
  typed_of (TypedExpr.Unary' o t p a) = Unary o t (typed_of a)
  typed_of (TypedExpr.Operate' o p a q b) = Operate o (typed_of a) (typed_of b)
  typed_of (TypedExpr.Compare' o t p a q b) = Compare o t (typed_of a) (typed_of b)
  typed_of (TypedExpr.CompareText' o p a q b) = CompareText o (typed_of a) (typed_of b)
  typed_of (TypedExpr.Logic' o p a q b) = Logic o (typed_of a) (typed_of b)
  typed_of (TypedExpr.Choice' t p c q a r b) = Choice t (typed_of c) (typed_of a) (typed_of b)
  typed_of (TypedExpr.Convert' t u p a) = Convert t u (typed_of a)
  typed_of (TypedExpr.Assign' v shape keys p a) = Assign v (typeds_in keys) (typed_of a)
  typed_of (TypedExpr.Update' o v shape keys p a) = Update o v (typeds_in keys) (typed_of a)
  typed_of (TypedExpr.Step' step answer v shape keys) = Count step answer v (typeds_in keys)
  typed_of (TypedExpr.Strlen' p a) = Strlen (typed_of a)
  typed_of (TypedExpr.Strjoin' p a q b) = Strjoin (typed_of a) (typed_of b)

  pub typeds_in : {m : _} → Row_of-TypedExpr m → Typeds
  typeds_in end_of-TypedExpr = end
  typeds_in (more_of-TypedExpr a rest) = more (typed_of a) (typeds_in rest)

abbrev pub typeds_of : List TypedExpr → Typeds
typeds_of [] = end
typeds_of (a ∷ rest) = more (typed_of a) (typeds_of rest)

-- ---- the type of a value

abbrev pub type_of_built_in : BuiltIn → DType
type_of_built_in (BuiltIn.Argument n) = DType.Int INT64
type_of_built_in BuiltIn.Timestamp = DType.Int UINT64
type_of_built_in BuiltIn.Cpu = DType.Int INT32
type_of_built_in BuiltIn.Pid = DType.Int INT32
type_of_built_in BuiltIn.Tid = DType.Int INT32
type_of_built_in text = DType.Text

abbrev pub type_of_unary : UnaryOperator → IntType → DType
type_of_unary UnaryOperator.Not t = DType.Int INT32
type_of_unary op t = DType.Int t

-- the type that an operation works in
abbrev pub works_in : Operation → IntType
works_in (Operation.Arithmetic o t) = t
works_in (Operation.Shift o t) = t

-- the type of an expression's value
abbrev pub type_of : Typed → DType
type_of (Constant t v) = DType.Int t
type_of (Text w) = DType.Text
type_of (Fixed b) = type_of_built_in b
type_of (Read v keys) = v.holds
type_of (Unary o t a) = type_of_unary o t
type_of (Operate o a b) = DType.Int (works_in o)
type_of (Choice t c a b) = t
type_of (Convert t u a) = DType.Int u
type_of (Assign v keys a) = v.holds
type_of (Update o v keys a) = v.holds
type_of (Count step answer v keys) = v.holds
type_of (Strlen a) = DType.Int UINT64
type_of (Strjoin a b) = DType.Text
-- a comparison, or a logical operator
type_of truth = DType.Int INT32

-- the type of each
abbrev pub types_of : Typeds → List DType
types_of end = []
types_of (more a rest) = type_of a ∷ types_of rest

-- ---- statements and clauses

-- A statement over any expressions and lists of them. What is printed has its type.
pub data ActionOf (E Es : Type 0) : Type 0 where
  Evaluate : E → ActionOf E Es
  Trace : DType → E → ActionOf E Es
  Print : List Piece → List DType → Es → ActionOf E Es
  Exit : E → ActionOf E Es
  Aggregate : (index : ℕ) (keys : Es) (argument : Option E) → ActionOf E Es

abbrev pub Action : Type 0
Action = ActionOf Typed Typeds

pub record ClauseMeant : Type 0 where
  pub descriptions : List Description
  pub predicate : Option Typed
  pub statements : List Action

-- an aggregation: its name, its keys and its function
pub record Agg : Type 0 where
  pub name : List ℕ
  pub keys : List Kind
  pub function : AggFn

-- in the order of their first appearance
abbrev pub Aggs : Type 0
Aggs = List Agg

pub record ScriptMeant : Type 0 where
  pub clauses : List ClauseMeant
  pub aggregations : Aggs
  -- the type of each slot's variable
  pub slots : List (Option DType)

-- the statement is an `exit`
abbrev pub is_exit : {E Es : Type 0} → ActionOf E Es → Bool
is_exit (Exit x) = true
is_exit action = false

-- some statement of the script is an `exit`
abbrev pub has_exit : ScriptMeant → Bool
has_exit m = list_any (λ c. list_any (λ a. is_exit a) c.statements) m.clauses

-- the functions of a script's aggregations, in order
abbrev pub functions_in : ScriptMeant → List AggFn
functions_in m = map (λ a. a.function) m.aggregations

abbrev pub typed_argument : Option TypedExpr → Option Typed
typed_argument None = None
typed_argument (Some a) = Some (typed_of a)

abbrev pub action_of : TypedStmt → Action
action_of (TypedStmt.Evaluate a) = Evaluate (typed_of a)
action_of (TypedStmt.Trace a) = Trace (type_of (typed_of a)) (typed_of a)
action_of (TypedStmt.Print format arguments) =
    Print format.items (types_of (typeds_of arguments.items)) (typeds_of arguments.items)
action_of (TypedStmt.Exit a) = Exit (typed_of a)
action_of (TypedStmt.Aggregate index keys argument) =
    Aggregate index (typeds_of keys.items) (typed_argument argument)

abbrev pub actions_of : List TypedStmt → List Action
actions_of all = map action_of all

abbrev pub meant_of : TypedClause → ClauseMeant
meant_of c = record {
  descriptions = c.descriptions.items;
  predicate = typed_argument c.predicate;
  statements = actions_of c.statements.items;
}

abbrev pub agg_of : TypedAggregation → Agg
agg_of a = record { name = a.name; keys = a.keys.items; function = a.function }

abbrev pub aggs_of : List TypedAggregation → Aggs
aggs_of all = map agg_of all

abbrev pub script_meant : List TypedClause → List TypedAggregation → List (Option DType)
    → ScriptMeant
script_meant clauses aggregations slots =
    record { clauses = map meant_of clauses; aggregations = aggs_of aggregations; slots = slots }
