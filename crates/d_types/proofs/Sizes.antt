-- A typed script is as small as its source.
use Rattle.std.proofs.Common.{◌≡◌, ℕ, suc, ◌+◌, ◌≤◌, inl, inr, List, [], ◌∷◌, length, Bool, true}
use Rattle.std.proofs.Common.{false, if◌then◌else◌, Option, Some, None, Ok, refl, ap, arith}
use Rattle.std.proofs.Math.Bridge.{le_prop}
use Rattle.std.proofs.Math.Logic.{∥∥₁_elim}
use Rattle.d_parser.specs.declared.tree.Variable.{Variable}
use Rattle.d_parser.specs.declared.tree.Variable.TheVariants as v
use Rattle.d_parser.specs.declared.tree.Constant.{Constant}
use Rattle.d_parser.specs.declared.tree.Constant.TheVariants as c
use Rattle.d_parser.specs.Sizes as source
use Rattle.d_parser.specs.Sizes.{IsWithin, in_all}
use Rattle.d_parser.specs.Tree as tree
use Rattle.d_parser.specs.Tree.{Tree, Trees, StmtTree, ClauseTree, ItemTree}
use Rattle.d_values.specs.declared.int_type.IntType.{IntType}
use Rattle.d_values.specs.declared.int_type.DType.{DType}
use Rattle.d_values.specs.declared.int_type.DType.TheVariants.{Int, Text}
use Rattle.d_types.specs.declared.typed.Space.{Space}
use Rattle.d_parser.specs.declared.operators.BinaryOperator.{BinaryOperator}
use Rattle.d_parser.specs.declared.operators.BinaryOperator.TheVariants as bs
use Rattle.d_parser.specs.declared.operators.AssignOperator.{AssignOperator}
use Rattle.d_parser.specs.declared.operators.AssignOperator.TheVariants as sg
use Rattle.d_types.specs.declared.words.Callee.{Callee}
use Rattle.d_types.specs.declared.words.Callee.TheVariants as f
use Rattle.d_types.specs.Words.{callee_named}
use Rattle.d_types.specs.Typed as typed
use Rattle.d_types.specs.Typed.{Typed, Typeds, end, more, Action, Aggs, ClauseMeant, ScriptMeant}
use Rattle.d_types.specs.Variables.{Rows}
use Rattle.d_types.specs.Operators.{same_type, conversion_node}
use Rattle.d_types.specs.Targets.{space_of}
use Rattle.d_types.specs.Constants.{constant}
use Rattle.d_types.specs.Aggregations.{first}
use Rattle.d_types.specs.Steps.Scripts.{script}
use Rattle.d_types.specs.Scripts.{IsMeant}
use Rattle.d_types.proofs.Checked.{meant_is_walked}
use Rattle.d_types.proofs.WellTyped.{Types, AllTypes}
use Rattle.d_types.specs.Rules.{IsOperation, IsChoice, IsConverted, IsAssignment, IsCall}
use Rattle.d_types.proofs.WellTyped.{IsRead}
use Rattle.d_types.proofs.WellTyped.{Evaluates, Prints, Acts, Stands, Tests, Does, AllDo, Probes}
use Rattle.d_types.proofs.WellTyped.{AllItems, IsWell}
use Rattle.d_types.specs.Sizes.{place_count, place_count_in, in_option, in_action}
use Rattle.d_types.specs.Sizes.{description_count, statement_count}
use Rattle.d_types.specs.Sizes.{variable_count, HasAtMost}
use Rattle.d_types.proofs.SoundScripts.{script_sound}

-- ---- expressions

one_of_both : (b : Bool) (t u : IntType) (x : Typed) → place_count (if b then x else typed.Convert t u x) ≡ place_count x
one_of_both true t u x = refl
one_of_both false t u x = refl

in_converted : (t u : IntType) (x : Typed) → place_count (conversion_node t u x) ≡ place_count x
in_converted t u x = one_of_both (same_type t u) t u x

in_joined : (sort : BinaryOperator) (x y z : Typed) → IsOperation sort x y z → place_count z ≡ place_count x + place_count y
in_joined (bs.Arithmetic op) x y z h = rw (h.4, in_converted _ _ x, in_converted _ _ y) refl
in_joined (bs.Shift op) x y z h = rw (h.4, in_converted _ _ x) refl
in_joined (bs.Compare op) x y z (inl h) = rw (h.4, in_converted _ _ x, in_converted _ _ y) refl
in_joined (bs.Compare op) x y z (inr h) = rw (h.2) refl
in_joined (bs.Logic op) x y z h = rw (h.4) refl

in_chosen : (x y u z : Typed) → IsChoice x y u z → place_count z ≡ place_count x + place_count y + place_count u
in_chosen x y u z (inl h) = rw (h.6, in_converted _ _ y, in_converted _ _ u) refl
in_chosen x y u z (inr h) = rw (h.4) refl

in_read : (rows : Rows) (x : Variable) (ks : Typeds) (z : Typed) → IsRead rows x ks z → place_count z ≤ suc (place_count_in ks)
in_read rows (v.Plain line name) ks z h = rw (h.3) (omega arith)
in_read rows (v.Thread line name) ks z h = rw (h.5) (omega arith)
in_read rows (v.Clause line name) ks z h = rw (h.5) (omega arith)

in_fitted : (x : Typed) (t : DType) (y : Typed) → IsConverted x t y → place_count y ≡ place_count x
in_fitted x (Int u) y h = rw (h.2) (in_converted h.0 u x)
in_fitted x Text y h = rw (h.1) refl

in_stored : (sort : AssignOperator) (space : Space) (slot : ℕ) (ks : Typeds) (x : Typed) (rows : Rows) (z : Typed) (last : Rows) →
    IsAssignment sort space slot ks x rows z last → place_count z ≡ suc (place_count_in ks) + place_count x
in_stored sg.Set space slot ks x rows z last (inl h) = rw (h.1) refl
in_stored sg.Set space slot ks x rows z last (inr h) = rw (h.4, in_fitted x h.0 h.1 h.3) refl
in_stored (sg.Arithmetic op) space slot ks x rows z last h = rw (h.4, in_converted _ _ x) refl
in_stored (sg.Shift op) space slot ks x rows z last h = rw (h.4) refl

in_called : (name : List ℕ) (ks : Typeds) (z : Typed) → IsCall name ks z → place_count z ≤ place_count_in ks
in_called name ks z (inl h) = rw (h.2, h.4) (omega arith)
in_called name ks z (inr h) = rw (h.3, h.6) (omega arith)

in_constant : (k : Constant) → place_count (constant k) ≡ 0
in_constant (c.Number n suffix) = refl
in_constant (c.Text bytes) = refl

mutual
  few : (rows : Rows) (t : Tree) (z : Typed) (last : Rows) → Types rows t z last → place_count z ≤ source.places t
  few rows (tree.Known line k) z last h = rw (h.0, in_constant k) (omega arith)
  few rows (tree.Read x keys) z last h = grind (arith, few_in rows keys h.0 last h.1, in_read last x h.0 z h.2)
  few rows (tree.Call line g args) z last h = grind (arith, few_in rows args h.0 last h.1, in_called g h.0 z h.2)
  few rows (tree.Unary line op a) z last h = rw (h.4, in_converted _ _ h.0) (few rows a h.0 last h.2)
  few rows (tree.Cast line to a) z last h = rw (h.4, in_converted _ _ h.0) (few rows a h.0 last h.2)
  few rows (tree.Before line by x keys) z last h = let keyed = few_in rows keys h.0 h.2 h.3 in rw (h.5.2) (omega (arith, keyed))
  few rows (tree.After x keys by) z last h = let keyed = few_in rows keys h.0 h.2 h.3 in rw (h.5.2) (omega (arith, keyed))
  few rows (tree.Binary op a b) z last h =
      grind (arith, few rows a h.0 h.2 h.3, few h.2 b h.1 last h.4, in_joined op h.0 h.1 z h.5)
  few rows (tree.Choice a b e) z last h =
      grind (arith, few rows a h.0 h.3 h.5, few h.3 b h.1 h.4 h.6, few h.4 e h.2 last h.7, in_chosen h.0 h.1 h.2 z h.8)
  few rows (tree.Assign op x keys a) z last h =
      grind (arith, few_in rows keys h.0 h.3 h.6, few h.4 a h.1 h.5 h.8, in_stored op (space_of x) h.2 h.0 h.1 h.5 z last h.9)

  few_in : (rows : Rows) (ts : Trees) (ks : Typeds) (last : Rows) → AllTypes rows ts ks last → place_count_in ks ≤ source.places_in ts
  few_in rows tree.end ks last h = rw (h.0) (omega arith)
  few_in rows (tree.more a rest) ks last h =
      let one = few rows a h.0 h.2 h.3 in
      let others = few_in h.2 rest h.1 last h.4 in
      rw (h.5) (omega (arith, one, others))

-- ---- statements

few_evaluated : (rows : Rows) (t : Tree) (a : Action) (last : Rows) → Evaluates rows t a last → in_action a ≤ source.places t
few_evaluated rows t a last h = rw (h.2) (few rows t h.0 last h.1)

few_printed : (rows : Rows) (ts : Trees) (a : Action) (last : Rows) → Prints rows ts a last → in_action a ≤ source.places_in ts
few_printed rows tree.end a last h = absurd h
few_printed rows (tree.more t rest) a last h = let all = few_in rows rest h.2 last h.4 in rw (h.7) (omega (arith, all))

few_acted : (o : Option Callee) (line : ℕ) (name : List ℕ) (rows : Rows) (ts : Trees) (a : Action) (last : Rows) → Acts o line name rows ts a last →
    in_action a ≤ source.places_in ts
few_acted (Some f.Trace) line name rows ts a last h = let all = few_in rows ts (more h.0 end) last h.1 in rw (h.2) (omega (arith, all))
few_acted (Some f.Exit) line name rows ts a last h = let all = few_in rows ts (more h.0 end) last h.2 in rw (h.4) (omega (arith, all))
few_acted (Some f.Printf) line name rows ts a last h = few_printed rows ts a last h
few_acted (Some f.Strlen) line name rows ts a last h = few_evaluated rows (tree.Call line name ts) a last h
few_acted (Some f.Strjoin) line name rows ts a last h = few_evaluated rows (tree.Call line name ts) a last h
few_acted None line name rows ts a last h = few_evaluated rows (tree.Call line name ts) a last h

few_standing : (rows : Rows) (t : Tree) (a : Action) (last : Rows) → Stands rows t a last → in_action a ≤ source.places t
few_standing rows (tree.Call line name args) a last h = few_acted (callee_named name) line name rows args a last h
few_standing rows (tree.Known line k) a last h = few_evaluated rows (tree.Known line k) a last h
few_standing rows (tree.Read x keys) a last h = few_evaluated rows (tree.Read x keys) a last h
few_standing rows (tree.Unary line op e) a last h = few_evaluated rows (tree.Unary line op e) a last h
few_standing rows (tree.Cast line to e) a last h = few_evaluated rows (tree.Cast line to e) a last h
few_standing rows (tree.Before line by x keys) a last h = few_evaluated rows (tree.Before line by x keys) a last h
few_standing rows (tree.After x keys by) a last h = few_evaluated rows (tree.After x keys by) a last h
few_standing rows (tree.Binary op d e) a last h = few_evaluated rows (tree.Binary op d e) a last h
few_standing rows (tree.Choice t d e) a last h = few_evaluated rows (tree.Choice t d e) a last h
few_standing rows (tree.Assign op x keys e) a last h = few_evaluated rows (tree.Assign op x keys e) a last h

in_first : (args : Typeds) → in_option (first args) ≤ place_count_in args
in_first end = omega arith
in_first (more x rest) = omega arith

few_done : (rows : Rows) (aggs : Aggs) (t : StmtTree) (a : Action) (last : Rows) (known : Aggs) → Does rows aggs t a last known → in_action a ≤ source.in_stmt t
few_done rows aggs (tree.Expression t) a last known h = few_standing rows t a last h.0
few_done rows aggs (tree.Aggregation line name keys word args) a last known h =
    let keyed = few_in rows keys h.0 h.4 h.5 in
    let given = few_in h.4 args h.1 last h.7 in
    let one = in_first h.1 in
    rw (h.10) (omega (arith, keyed, given, one))

all_few : (rows : Rows) (aggs : Aggs) (ts : List StmtTree) (all : List Action) (last : Rows) (known : Aggs) → AllDo rows aggs ts all last known →
    in_all in_action all ≤ in_all source.in_stmt ts
all_few rows aggs [] all last known h = rw (h.0) (omega arith)
all_few rows aggs (t ∷ rest) all last known h =
    let one = few_done rows aggs t h.0 h.2 h.3 h.4 in
    let others = all_few h.2 h.3 rest h.1 last known h.5 in
    rw (h.6) (omega (arith, one, others))

-- each statement is an action
all_done : (rows : Rows) (aggs : Aggs) (ts : List StmtTree) (all : List Action) (last : Rows) (known : Aggs) → AllDo rows aggs ts all last known →
    length all ≡ length ts
all_done rows aggs [] all last known h = rw (h.0) refl
all_done rows aggs (t ∷ rest) all last known h = rw (h.6) (ap suc (all_done h.2 h.3 rest h.1 last known h.5))

-- ---- scripts

few_tested : (rows : Rows) (o : Option Tree) (p : Option Typed) (last : Rows) → Tests rows o p last → in_option p ≤ source.in_predicate o
few_tested rows None p last h = rw (h.0) (omega arith)
few_tested rows (Some t) p last h = rw (h.4) (few rows t h.0 last h.2)

few_probed : (rows : Rows) (aggs : Aggs) (d : ClauseTree) (m : ClauseMeant) (last : Rows) (known : Aggs) → Probes rows aggs d m last known →
    (description_count m ≡ length d.descriptions) × (statement_count m ≡ length d.statements) × (variable_count m ≤ source.in_predicate d.predicate + in_all source.in_stmt d.statements)
few_probed rows aggs d m last known h =
    let tested = few_tested rows d.predicate h.0 h.2 h.3 in
    let done = all_few h.2 aggs d.statements h.1 last known h.4 in
    rw (h.5) (refl, all_done h.2 aggs d.statements h.1 last known h.4, omega (arith, tested, done))

-- the counts of the meaning are those of the source
abbrev Sizes : List ClauseMeant → List ItemTree → Type 0
Sizes all items =
    (in_all description_count all ≡ in_all source.descriptions items) × (in_all statement_count all ≡ in_all source.statements items)
    × (in_all variable_count all ≤ in_all source.variables items)

sizes : (rows : Rows) (aggs : Aggs) (items : List ItemTree) (all : List ClauseMeant) (last : Rows) (known : Aggs) → AllItems rows aggs items all last known → Sizes all items
sizes rows aggs [] all last known h = rw (h.0) (refl, refl, omega arith)
sizes rows aggs (tree.Declared d ∷ rest) all last known h =
    let others = sizes h.0 aggs rest all last known h.2 in
    (omega (arith, others.0), omega (arith, others.1), omega (arith, others.2))
sizes rows aggs (tree.Probing d ∷ rest) all last known h =
    let one = few_probed rows aggs d h.0 h.2 h.3 h.4 in
    let others = sizes h.2 h.3 rest h.1 last known h.5 in
    rw (h.6) (omega (arith, one.0, others.0), omega (arith, one.1, others.1), omega (arith, one.2, others.2))

script_is_small : (items : List ItemTree) (m : ScriptMeant) → IsWithin 65536 items → script items ≡ Ok m → HasAtMost 65536 m
script_is_small items m small h =
    let well : IsWell items m = script_sound items m h in
    let all = sizes [] [] items m.clauses well.0 m.aggregations well.1 in
    record { few_descriptions = omega (arith, all.0, small.few_descriptions); few_statements = omega (arith, all.1, small.few_statements); few_variables = omega (arith, all.2, small.few_variables) }

pub typed_script_is_small : (m : ScriptMeant) → ∥ IsMeant m ∥₁ → HasAtMost 65536 m
typed_script_is_small m meant = ∥∥₁_elim meant (hlevel le_prop) (λ (h : IsMeant m). script_is_small h.0 m h.1 (meant_is_walked h.0 m h.3))
