-- What a script is typed as, or its first fault: parts come first, from the left to the right, then
-- the construct itself. Each construct has a rule; if its rule gives nothing, it is refused.
-- Source: Dynamic Tracing Guide, "Program Structure" and "Type Promotion".
use Rattle.std.specs.Prelude.{◌≡◌, ◌≢◌, ◌≤◌, ◌⊎◌, ◌++◌, ℕ, true, List, [], ◌∷◌, length, Option}
use Rattle.std.specs.Prelude.{map, Some, None, Result, Ok, Err}
use Rattle.d_parser.specs.declared.tree.Variable.{Variable}
use Rattle.d_types.specs.Vocabulary.{Int, Step, Tree, Trees, DType, INT64, Answer, Callee}
use Rattle.d_types.specs.Vocabulary.{TypeFault, IntType, AggFn, Piece, Space, MAX_KEYS}
use Rattle.d_types.specs.Vocabulary.{DeclarationTree, StmtTree, ItemTree, ClauseTree, DeclaredType}
use Rattle.d_types.specs.Vocabulary.{MAX_NEED, promoted_of, Constant, Variable as Slot}
use Rattle.d_types.specs.Formats as formats
use Rattle.d_types.specs.Typed.{Typed, Typeds, end, more, type_of, types_of, Agg, Aggs, Action}
use Rattle.d_types.specs.Typed.{ClauseMeant}
use Rattle.d_types.specs.Typed.{ScriptMeant, Evaluate, Trace, Print, Exit, Aggregate}
use Rattle.d_types.specs.Variables.{Rows, find, type_at, keys_at, kind_of_type, kinds_of_typed}
use Rattle.d_types.specs.Words.{built_in, callee_named, aggregating_named}
use Rattle.d_types.specs.Targets.{space_of, type_at_once, new_row}
use Rattle.d_types.specs.Operators.{conversion_node}
use Rattle.d_types.specs.Lines.{line_of_variable, line_of}
use Rattle.d_types.specs.Constants.{constant}
use Rattle.d_types.specs.{Needs.count, Needs.need, Constants.int_type, Constants.declared_type}
use Rattle.d_types.specs.{Spelling.SpellsFormat}
use Rattle.d_types.specs.Aggregations.{arguments_fit, function, find_from, first}
use Rattle.d_types.specs.Rules.{IsInteger, IsOperation, IsChoice, IsSlotOf, IsAssignment}
use Rattle.d_types.specs.Rules.{IsStep, IsCall}

-- ---- how a check ends

-- the variables and the aggregations so far
pub record Known : Type 0 where
  pub rows : Rows
  pub aggs : Aggs

-- what it is typed as, with what is known after it; or its first fault
abbrev pub Checked : Type 0 → Type 1
Checked A = Known → Result (A × Known) TypeFault → Type 0

-- this, without a fault
unfoldable pub gives : {A : Type 0} → A → Checked A
gives x known answer = answer ≡ Ok (x, known)

-- this fault
unfoldable pub refused : {A : Type 0} → TypeFault → Checked A
refused fault known answer = answer ≡ Err fault

-- what the rule gives, with what is known by it; or this fault, if it gives nothing
unfoldable pub by_change : {A : Type 0} → (Known → A → Known → Type 0) → TypeFault → Checked A
by_change Rule fault known (Ok (x, after)) = Rule known x after
by_change Rule fault known (Err f) =
    (¬ ((x : _) × (after : Known) × Rule known x after)) × (f ≡ fault)

-- by a rule that changes no aggregation
abbrev pub by_rows : {A : Type 0} → (Rows → A → Rows → Type 0) → TypeFault → Checked A
by_rows Rule = by_change (λ known x after. Rule known.rows x after.rows × (after.aggs ≡ known.aggs))

-- by a rule that changes nothing
abbrev pub by_known : {A : Type 0} → (Known → A → Type 0) → TypeFault → Checked A
by_known Rule = by_change (λ known x after. Rule known x × (after ≡ known))

-- by a rule that asks nothing of what is known
abbrev pub by_rule : {A : Type 0} → (A → Type 0) → TypeFault → Checked A
by_rule Rule = by_known (λ known. Rule)

-- this has to be so
abbrev pub needs : (Known → Type 0) → TypeFault → Checked (Unit {0})
needs IsSo = by_known (λ known u. IsSo known)

-- the one and then the other, unless the first has a fault
infixr 20 ◌>>=◌
unfoldable pub ◌>>=◌ : {A B : Type 0} → Checked A → (A → Checked B) → Checked B
(m >>= next) known answer =
    ((x : _) × (mid : Known) × m known (Ok (x, mid)) × next x mid answer)
    ⊎ ((fault : TypeFault) × m known (Err fault) × (answer ≡ Err fault))

infixr 20 ◌>>◌
abbrev pub ◌>>◌ : {A B : Type 0} → Checked A → Checked B → Checked B
m >> next = m >>= λ x. next

-- ---- variables

-- a variable of this name, whose type is known
abbrev pub IsVariable : Space → List ℕ → Rows → Slot → Type 0
IsVariable space name rows x =
    (x.space ≡ space) × (find space name rows ≡ Some x.slot) × (type_at rows x.slot ≡ Some x.holds)

-- the variable of this name in a space, read at these keys
abbrev pub read_in : Space → ℕ → List ℕ → Typeds → Checked Typed
read_in space line name keys = do
  x ← by_known (λ known. IsVariable space name known.rows) (TypeFault.Undeclared line)
  needs (λ known. keys_at known.rows x.slot ≡ Some (kinds_of_typed keys)) (TypeFault.Keys line)
  gives (Typed.Read x keys)

-- a variable that is read: a word alone is a built-in, which has no keys
abbrev pub read : Variable → Typeds → Checked Typed
read (Variable.Plain line name) keys = do
  b ← by_rule (λ b. built_in name ≡ Some b) (TypeFault.Undeclared line)
  needs (λ known. keys ≡ end) (TypeFault.Keys line)
  gives (Typed.Fixed b)
read (Variable.Thread line name) keys = read_in Space.Thread line name keys
read (Variable.Clause line name) keys = read_in Space.Clause line name keys

-- the slot of a variable that is assigned, which has this type from here on, if any
abbrev pub target_in : Space → ℕ → List ℕ → Option DType → Typeds → Checked ℕ
target_in space line name t keys = by_rows (IsSlotOf space name t keys) (TypeFault.Keys line)

-- a variable that is assigned, which a word alone never is
abbrev pub target : Variable → Option DType → Typeds → Checked ℕ
target (Variable.Plain line name) t keys = do
  needs (λ known. built_in name ≢ None) (TypeFault.GlobalAssignment name line)
  needs (λ known. keys ≡ end) (TypeFault.Keys line)
  refused (TypeFault.ReadOnly line)
target (Variable.Thread line name) t keys = target_in Space.Thread line name t keys
target (Variable.Clause line name) t keys = target_in Space.Clause line name t keys

-- `++` and `--`, of a variable at these keys
abbrev pub stepped : ℕ → Step → Answer → Variable → Typeds → Checked Typed
stepped line by answer v keys = do
  slot ← target v (Some (Int INT64)) keys
  by_known (λ known. IsStep by answer (space_of v) slot keys known.rows) (TypeFault.Mismatch line)

-- ---- expressions

abbrev mutual
  pub expression : Tree → Checked Typed
  expression (Tree.Known line c) = gives (constant c)
  expression (Tree.Read v keys) = expressions keys >>= read v
  expression (Tree.Call line name args) = do
    xs ← expressions args
    needs (λ known. callee_named name ≢ None) (TypeFault.Undeclared line)
    by_rule (IsCall name xs) (TypeFault.Mismatch line)
  expression (Tree.Unary line op a) = do
    x ← expression a
    by_rule
        (λ z. (t : IntType) × IsInteger x t
        × (z ≡ Typed.Unary op (promoted_of t) (conversion_node t (promoted_of t) x)))
        (TypeFault.Mismatch line)
  expression (Tree.Cast line to a) = do
    x ← expression a
    by_rule (λ z. (t : IntType) × IsInteger x t × (z ≡ conversion_node t (int_type to) x))
        (TypeFault.Mismatch line)
  expression (Tree.Before line by v keys) = expressions keys >>= stepped line by Answer.New v
  expression (Tree.After v keys by) =
      expressions keys >>= stepped (line_of_variable v) by Answer.Old v
  expression (Tree.Binary op a b) = do
    x ← expression a
    y ← expression b
    by_rule (IsOperation op x y) (TypeFault.Mismatch (line_of a))
  expression (Tree.Choice c a b) = do
    x ← expression c
    y ← expression a
    w ← expression b
    by_rule (IsChoice x y w) (TypeFault.Mismatch (line_of c))
  expression (Tree.Assign op v keys a) = do
    ks ← expressions keys
    slot ← target v (type_at_once op) ks
    x ← expression a
    by_rows (IsAssignment op (space_of v) slot ks x) (TypeFault.Mismatch (line_of_variable v))

  pub expressions : Trees → Checked Typeds
  expressions Trees.end = gives end
  expressions (Trees.more a all) = expression a >>= λ x. expressions all >>= λ xs. gives (more x xs)

-- an expression that isn't part of another
abbrev pub whole : Tree → Checked Typed
whole t = do
  x ← expression t
  needs (λ known. need x ≤ MAX_NEED) (TypeFault.NoRegister (line_of t))
  gives x

abbrev pub wholes : Trees → Checked Typeds
wholes Trees.end = gives end
wholes (Trees.more a rest) = whole a >>= λ x. wholes rest >>= λ xs. gives (more x xs)

-- ---- statements

-- a format, which is a text constant, and an argument for each of its conversions
abbrev pub printed : ℕ → Trees → Checked Action
printed line (Trees.more (Tree.Known at (Constant.Text format)) rest) = do
  xs ← wholes rest
  by_rule (λ a. (ps : List Piece) × SpellsFormat ps format × (formats.fit ps xs ≡ true)
      × (a ≡ Print ps (types_of xs) xs)) (TypeFault.PrintfArguments line)
printed line args = wholes args >> refused (TypeFault.PrintfArguments line)

-- a call that is a whole statement is an action
abbrev pub called : Option Callee → ℕ → List ℕ → Trees → Checked Action
called (Some Callee.Trace) line name args = do
  xs ← wholes args
  by_rule (λ a. (x : Typed) × (xs ≡ more x end) × (a ≡ Trace (type_of x) x))
      (TypeFault.Mismatch line)
called (Some Callee.Exit) line name args = do
  xs ← wholes args
  by_rule (λ a. (x : Typed) × (t : IntType) × (xs ≡ more x end) × IsInteger x t × (a ≡ Exit x))
      (TypeFault.Mismatch line)
called (Some Callee.Printf) line name args = printed line args
called callee line name args = whole (Tree.Call line name args) >>= λ x. gives (Evaluate x)

-- the index of one more aggregation, at the end of those that are known
abbrev pub appended : Agg → Checked ℕ
appended a known answer =
    answer ≡ Ok (length known.aggs, record known { aggs = known.aggs ++ a ∷ [] })

-- the index of an aggregation: it is known, and has these keys and this function again; or it is
-- new
abbrev pub placed : ℕ → List ℕ → Typeds → Option AggFn → Option (ℕ × Agg) → Checked ℕ
placed line name keys g (Some (index, a)) = do
  needs (λ known. a.keys ≡ kinds_of_typed keys) (TypeFault.Keys line)
  needs (λ known. g ≡ Some a.function) (TypeFault.AggregationRedefined line)
  gives index
placed line name keys g None = do
  needs (λ known. count keys ≤ MAX_KEYS) (TypeFault.Keys line)
  h ← by_rule (λ h. g ≡ Some h) (TypeFault.LquantizeBounds line)
  appended (record { name = name; keys = kinds_of_typed keys; function = h })

-- the keys, the function's name, the arguments, and then the aggregation among those known
abbrev pub aggregated : ℕ → List ℕ → Trees → List ℕ → Trees → Checked Action
aggregated line name keys word args = do
  ks ← wholes keys
  g ← by_rule (λ g. aggregating_named word ≡ Some g) (TypeFault.Undeclared line)
  xs ← wholes args
  needs (λ known. arguments_fit g xs ≡ true) (TypeFault.Mismatch line)
  index ← (λ known. placed line name ks (function g args) (find_from 0 name known.aggs) known)
  gives (Aggregate index ks (first xs))

abbrev pub statement : StmtTree → Checked Action
statement (StmtTree.Expression (Tree.Call line name args)) =
    called (callee_named name) line name args
statement (StmtTree.Expression t) = whole t >>= λ x. gives (Evaluate x)
statement (StmtTree.Aggregation line name keys word args) = aggregated line name keys word args

abbrev pub statements : List StmtTree → Checked (List Action)
statements [] = gives []
statements (t ∷ rest) = statement t >>= λ a. statements rest >>= λ others. gives (a ∷ others)

-- ---- clauses and declarations

-- an integer
abbrev pub predicate : Option Tree → Checked (Option Typed)
predicate None = gives None
predicate (Some t) = do
  x ← expression t
  needs (λ known. (u : IntType) × IsInteger x u) (TypeFault.Mismatch (line_of t))
  needs (λ known. need x ≤ MAX_NEED) (TypeFault.NoRegister (line_of t))
  gives (Some x)

abbrev pub clause : ClauseTree → Checked ClauseMeant
clause c = do
  p ← predicate c.predicate
  all ← statements c.statements
  gives (record { descriptions = c.descriptions; predicate = p; statements = all })

-- a variable is declared before it is assigned, and once
abbrev pub declared : Space → ℕ → List ℕ → DeclaredType → List DeclaredType → Checked (Unit {0})
declared space line name t keys = do
  needs (λ known. find space name known.rows ≡ None) (TypeFault.Mismatch line)
  by_rows (λ rows u after. (length keys ≤ MAX_KEYS)
      × (after ≡ rows ++ new_row space name (Some (declared_type t))
      (map (λ key. kind_of_type (declared_type key)) keys) ∷ [])) (TypeFault.Keys line)

abbrev pub declaration : DeclarationTree → Checked (Unit {0})
declaration (DeclarationTree.OfThread line t name keys) = declared Space.Thread line name t keys
declaration (DeclarationTree.OfClause line t name) = declared Space.Clause line name t []

-- ---- scripts

-- declarations and clauses, in the order of the text
abbrev pub items : List ItemTree → Checked (List ClauseMeant)
items [] = gives []
items (ItemTree.Declared d ∷ rest) = declaration d >> items rest
items (ItemTree.Probing c ∷ rest) = clause c >>= λ m. items rest >>= λ ms. gives (m ∷ ms)

-- what the script means, or its first fault
abbrev pub IsChecked : List ItemTree → Result ScriptMeant TypeFault → Type 0
IsChecked source (Ok m) =
    (known : Known) × items source (record { rows = []; aggs = [] }) (Ok (m.clauses, known))
    × (m.aggregations ≡ known.aggs) × (m.slots ≡ map (λ r. r.holds) known.rows)
IsChecked source (Err fault) = items source (record { rows = []; aggs = [] }) (Err fault)
