-- Derivations by the rules: which expressions and scripts are well typed, with no faults.
use Rattle.std.specs.Prelude.{◌≡◌, ◌⊎◌, ℕ, nat_le, List, [], ◌∷◌, ◌++◌, length, true, Option, Some}
use Rattle.std.specs.Prelude.{None}
use Rattle.d_types.specs.Vocabulary.{Int, Tree, Trees, DType, IntType, INT64, promoted_of, Answer}
use Rattle.d_types.specs.Vocabulary.{BuiltIn, Space}
use Rattle.d_types.specs.Vocabulary.{Callee, DeclaredType, DeclarationTree, StmtTree, ItemTree}
use Rattle.d_types.specs.Vocabulary.{ClauseTree, Piece, MAX_KEYS, AggFn, Aggregating}
use Rattle.d_types.specs.Typed.{Typed, Typeds, end, more, type_of, types_of, Action, Evaluate, Trace}
use Rattle.d_types.specs.Typed.{Print, Exit}
use Rattle.d_types.specs.Typed.{Aggregate, Agg, Aggs, ClauseMeant, ScriptMeant}
use Rattle.d_types.specs.Needs.{count}
use Rattle.d_types.specs.Variables.{Rows, find, type_at, keys_at, kinds_of_typed}
use Rattle.d_types.specs.Steps.Variables.{types_in}
use Rattle.d_types.specs.Constants.{int_type, constant, declared_type}
use Rattle.d_types.specs.Steps.Statements.{text_of_constant}
use Rattle.d_types.specs.Steps.Scripts.{declared_kinds}
use Rattle.d_types.specs.Words.{built_in, callee_named, aggregating_named}
use Rattle.d_types.specs.Operators.{conversion_node}
use Rattle.d_types.specs.Targets.{space_of, type_at_once}
use Rattle.d_types.specs.Spelling.{SpellsFormat}
use Rattle.d_types.specs.Aggregations.{arguments_fit, find_from, first, function}
use Rattle.d_types.specs.Rules.{IsInteger, IsOperation, IsChoice, IsSlotOf, IsAssignment, IsStep}
use Rattle.d_types.specs.Rules.{IsCall}
use Rattle.d_parser.specs.declared.tree.Variable.{Variable}
use Rattle.d_types.specs.Formats as formats

-- ---- variables

-- z is the variable's value at these keys: it is known, with its type and such keys
abbrev pub IsLoad : Space → List ℕ → Rows → Typeds → Typed → Type 0
IsLoad space name rows keys z =
    (slot : ℕ) × (t : DType) × (find space name rows ≡ Some slot) × (type_at rows slot ≡ Some t)
    × (keys_at rows slot ≡ Some (kinds_of_typed keys))
    × (z ≡ Typed.Read (record { space = space; slot = slot; holds = t }) keys)

abbrev pub IsRead : Rows → Variable → Typeds → Typed → Type 0
IsRead rows (Variable.Plain line name) keys z =
    (b : BuiltIn) × (built_in name ≡ Some b) × (keys ≡ end) × (z ≡ Typed.Fixed b)
IsRead rows (Variable.Thread line name) keys z = IsLoad Space.Thread name rows keys z
IsRead rows (Variable.Clause line name) keys z = IsLoad Space.Clause name rows keys z

-- only variables of threads and of clauses are assigned
abbrev pub IsTargetOf : Rows → Variable → Option DType → Typeds → ℕ → Rows → Type 0
IsTargetOf rows (Variable.Plain line name) t keys slot after = ⊥
IsTargetOf rows (Variable.Thread line name) t keys slot after =
    IsSlotOf Space.Thread name t keys rows slot after
IsTargetOf rows (Variable.Clause line name) t keys slot after =
    IsSlotOf Space.Clause name t keys rows slot after

-- ---- expressions

abbrev mutual
  -- the tree, where the table is the first, has this typed tree and leaves the second
  pub Types : Rows → Tree → Typed → Rows → Type 0
  Types rows (Tree.Known line c) z after = (z ≡ constant c) × (after ≡ rows)
  Types rows (Tree.Read v keys) z after =
      (ks : Typeds) × AllTypes rows keys ks after × IsRead after v ks z
  Types rows (Tree.Call line f args) z after =
      (ks : Typeds) × AllTypes rows args ks after × IsCall f ks z
  Types rows (Tree.Unary line op a) z after =
      (x : Typed) × (t : IntType) × Types rows a x after × IsInteger x t
      × (z ≡ Typed.Unary op (promoted_of t) (conversion_node t (promoted_of t) x))
  Types rows (Tree.Cast line to a) z after =
      (x : Typed) × (t : IntType) × Types rows a x after × IsInteger x t
      × (z ≡ conversion_node t (int_type to) x)
  Types rows (Tree.Before line by v keys) z after =
      (ks : Typeds) × (slot : ℕ) × (mid : Rows)
      × AllTypes rows keys ks mid × IsTargetOf mid v (Some (Int INT64)) ks slot after
      × IsStep by Answer.New (space_of v) slot ks after z
  Types rows (Tree.After v keys by) z after =
      (ks : Typeds) × (slot : ℕ) × (mid : Rows)
      × AllTypes rows keys ks mid × IsTargetOf mid v (Some (Int INT64)) ks slot after
      × IsStep by Answer.Old (space_of v) slot ks after z
  Types rows (Tree.Binary op a b) z after =
      (x : Typed) × (y : Typed) × (mid : Rows) × Types rows a x mid × Types mid b y after
      × IsOperation op x y z
  Types rows (Tree.Choice c a b) z after =
      (x : Typed) × (y : Typed) × (u : Typed) × (mid : Rows) × (late : Rows)
      × Types rows c x mid × Types mid a y late × Types late b u after × IsChoice x y u z
  Types rows (Tree.Assign op v keys a) z after =
      (ks : Typeds) × (x : Typed) × (slot : ℕ) × (mid : Rows) × (late : Rows) × (last : Rows)
      × AllTypes rows keys ks mid × IsTargetOf mid v (type_at_once op) ks slot late
      × Types late a x last
      × IsAssignment op (space_of v) slot ks x last z after

  pub AllTypes : Rows → Trees → Typeds → Rows → Type 0
  AllTypes rows Trees.end ks after = (ks ≡ end) × (after ≡ rows)
  AllTypes rows (Trees.more a rest) ks after =
      (x : Typed) × (others : Typeds) × (mid : Rows) × Types rows a x mid
      × AllTypes mid rest others after × (ks ≡ more x others)

-- ---- actions

abbrev pub Evaluates : Rows → Tree → Action → Rows → Type 0
Evaluates rows t a after = (x : Typed) × Types rows t x after × (a ≡ Evaluate x)

-- a text constant that is spelled as a format, and an argument for each conversion
abbrev pub Prints : Rows → Trees → Action → Rows → Type 0
Prints rows Trees.end a after = ⊥
Prints rows (Trees.more t rest) a after =
    (format : List ℕ) × (ps : List Piece) × (ks : Typeds) × (text_of_constant t ≡ Some format)
    × AllTypes rows rest ks after
    × SpellsFormat ps format × (formats.fit ps ks ≡ true) × (a ≡ Print ps (types_of ks) ks)

abbrev pub Acts : Option Callee → ℕ → List ℕ → Rows → Trees → Action → Rows → Type 0
Acts (Some Callee.Trace) line name rows args a after =
    (x : Typed) × AllTypes rows args (more x end) after × (a ≡ Trace (type_of x) x)
Acts (Some Callee.Exit) line name rows args a after =
    (x : Typed) × (t : IntType) × AllTypes rows args (more x end) after × IsInteger x t
    × (a ≡ Exit x)
Acts (Some Callee.Printf) line name rows args a after = Prints rows args a after
Acts callee line name rows args a after = Evaluates rows (Tree.Call line name args) a after

-- an expression that is a whole statement
abbrev pub Stands : Rows → Tree → Action → Rows → Type 0
Stands rows (Tree.Call line name args) a after =
    Acts (callee_named name) line name rows args a after
Stands rows t a after = Evaluates rows t a after

-- ---- aggregation statements

-- the index of an aggregation: new, or with the keys and the function that it had
abbrev pub IsIndexOf : List ℕ → Typeds → Option AggFn → Aggs → ℕ → Aggs → Type 0
IsIndexOf name ks g aggs index after =
    ((h : AggFn) × (find_from 0 name aggs ≡ None) × (nat_le (count ks) MAX_KEYS ≡ true)
    × (g ≡ Some h) × (index ≡ length aggs)
    × (after ≡ aggs ++ record { name = name; keys = kinds_of_typed ks; function = h } ∷ []))
    ⊎ ((known : Agg) × (find_from 0 name aggs ≡ Some (index, known))
    × (known.keys ≡ kinds_of_typed ks) × (g ≡ Some known.function) × (after ≡ aggs))

abbrev pub Aggregates : List ℕ → Trees → List ℕ → Trees → Rows → Aggs → Action → Rows → Aggs
    → Type 0
Aggregates name keys word args rows aggs a after known =
    (ks : Typeds) × (xs : Typeds) × (g : Aggregating) × (index : ℕ) × (mid : Rows)
    × AllTypes rows keys ks mid × (aggregating_named word ≡ Some g) × AllTypes mid args xs after
    × (arguments_fit g xs ≡ true)
    × IsIndexOf name ks (function g args) aggs index known
    × (a ≡ Aggregate index ks (first xs))

-- ---- clauses and scripts

abbrev pub Declares : Space → List ℕ → DeclaredType → List DeclaredType → Rows → Rows → Type 0
Declares space name t keys rows after =
    (find space name rows ≡ None) × (nat_le (length keys) MAX_KEYS ≡ true)
    × (after ≡ rows ++ record {
      space = space;
      word = name;
      keys = declared_kinds keys;
      holds = Some (declared_type t);
    } ∷ [])

abbrev pub DeclaresRow : Rows → DeclarationTree → Rows → Type 0
DeclaresRow rows (DeclarationTree.OfThread line t name keys) after =
    Declares Space.Thread name t keys rows after
DeclaresRow rows (DeclarationTree.OfClause line t name) after =
    Declares Space.Clause name t [] rows after

abbrev pub Tests : Rows → Option Tree → Option Typed → Rows → Type 0
Tests rows None p after = (p ≡ None) × (after ≡ rows)
Tests rows (Some t) p after =
    (x : Typed) × (u : IntType) × Types rows t x after × IsInteger x u × (p ≡ Some x)

abbrev pub Does : Rows → Aggs → StmtTree → Action → Rows → Aggs → Type 0
Does rows aggs (StmtTree.Expression t) a after known = Stands rows t a after × (known ≡ aggs)
Does rows aggs (StmtTree.Aggregation line name keys word args) a after known =
    Aggregates name keys word args rows aggs a after known

abbrev pub AllDo : Rows → Aggs → List StmtTree → List Action → Rows → Aggs → Type 0
AllDo rows aggs [] all after known = (all ≡ []) × (after ≡ rows) × (known ≡ aggs)
AllDo rows aggs (t ∷ rest) all after known =
    (a : Action) × (others : List Action) × (mid : Rows) × (so_far : Aggs)
    × Does rows aggs t a mid so_far × AllDo mid so_far rest others after known × (all ≡ a ∷ others)

abbrev pub Probes : Rows → Aggs → ClauseTree → ClauseMeant → Rows → Aggs → Type 0
Probes rows aggs c m after known =
    (p : Option Typed) × (all : List Action) × (mid : Rows)
    × Tests rows c.predicate p mid × AllDo mid aggs c.statements all after known
    × (m ≡ record { descriptions = c.descriptions; predicate = p; statements = all })

abbrev pub AllItems : Rows → Aggs → List ItemTree → List ClauseMeant → Rows → Aggs → Type 0
AllItems rows aggs [] all after known = (all ≡ []) × (after ≡ rows) × (known ≡ aggs)
AllItems rows aggs (ItemTree.Declared d ∷ rest) all after known =
    (mid : Rows) × DeclaresRow rows d mid × AllItems mid aggs rest all after known
AllItems rows aggs (ItemTree.Probing c ∷ rest) all after known =
    (m : ClauseMeant) × (others : List ClauseMeant) × (mid : Rows) × (so_far : Aggs)
    × Probes rows aggs c m mid so_far × AllItems mid so_far rest others after known
    × (all ≡ m ∷ others)

-- the script is well typed, and this is what it means
abbrev pub IsWell : List ItemTree → ScriptMeant → Type 0
IsWell source m =
    (rows : Rows) × AllItems [] [] source m.clauses rows m.aggregations × (m.slots ≡ types_in rows)
