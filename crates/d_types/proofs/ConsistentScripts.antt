-- The trees of a well-typed script are consistent with its last table of variables.
use Rattle.std.proofs.Common.{◌≡◌, ℕ, zero, suc, List, [], ◌∷◌, slice_get, All, Option, Some, None}
use Rattle.std.proofs.Common.{refl, sym, ◌∙◌, subst}
use Rattle.std.specs.Option.{option_and_then}
use Rattle.std.proofs.Math.Logic.{∥∥₁_elim}
use Rattle.std.proofs.lemmas.List.Elements.{All-nil, All-cons}
use Rattle.d_parser.specs.declared.tree.DeclaredType.{DeclaredType}
use Rattle.d_parser.specs.Tree as tree
use Rattle.d_parser.specs.Tree.{Tree, Trees, StmtTree, DeclarationTree, ClauseTree, ItemTree}
use Rattle.d_values.specs.declared.int_type.DType.{DType}
use Rattle.d_types.specs.declared.typed.Space.{Space}
use Rattle.d_types.specs.declared.typed.Space.TheVariants as s
use Rattle.d_types.specs.declared.words.Callee.{Callee}
use Rattle.d_types.specs.declared.words.Callee.TheVariants as f
use Rattle.d_types.specs.Aggregations.{first}
use Rattle.d_types.specs.Constants.{declared_type}
use Rattle.d_types.specs.Held.{slots_of, IsConsistent}
use Rattle.d_parser.specs.Numbers.{HasSmall, HaveSmall, InPredicate, InStatement, InStatements}
use Rattle.d_parser.specs.Numbers.{AreSmall}
use Rattle.d_types.specs.Steps.Scripts.{declared_kinds}
use Rattle.d_types.specs.Scripts.{IsMeant}
use Rattle.d_types.proofs.Checked.{meant_is_walked}
use Rattle.d_types.proofs.WellTyped.{AllTypes}
use Rattle.d_types.specs.Typed.{Typed, Typeds, end, more, Action, Evaluate, Trace, Print, Exit}
use Rattle.d_types.specs.Typed.{Aggregate, Aggs, ClauseMeant, ScriptMeant}
use Rattle.d_types.specs.Variables.{Rows, type_at}
use Rattle.d_types.specs.Steps.Variables.{types_in}
use Rattle.d_types.proofs.WellTyped.{Evaluates, Prints, Acts, Stands, Declares, DeclaresRow, Tests}
use Rattle.d_types.proofs.WellTyped.{Does, AllDo, Probes, AllItems, IsWell}
use Rattle.d_types.specs.Words.{callee_named}
use Rattle.d_types.specs.Wholes.{EachIs, AnyIs, ActionIs, ActionsAre, ClauseIs, ClausesAre}
use Rattle.d_types.proofs.Consistent.{types_leave}
use Rattle.d_types.proofs.OneConsistency.{clause_prop}
use Rattle.d_types.proofs.SoundScripts.{script_sound}
use Rattle.d_types.proofs.Growing.{Extends, Grows, grows_on, same_rows, push_grows, consistent_on}

-- ---- what holds of every whole expression stays so

module _ (P Q : Typed → Type 0) (to : (z : Typed) → P z → Q z) where
  each_on : (all : Typeds) → EachIs P all → EachIs Q all
  each_on end h = tt
  each_on (more x rest) h = (to x h.0, each_on rest h.1)

  any_on : (o : Option Typed) → AnyIs P o → AnyIs Q o
  any_on None h = tt
  any_on (Some x) h = to x h

  action_on : (a : Action) → ActionIs P a → ActionIs Q a
  action_on (Evaluate x) h = to x h
  action_on (Trace t x) h = to x h
  action_on (Print format types args) h = each_on args h
  action_on (Exit x) h = to x h
  action_on (Aggregate index keys argument) h = (each_on keys h.0, any_on argument h.1)

  actions_on : (all : List Action) → ActionsAre P all → ActionsAre Q all
  actions_on [] h = tt
  actions_on (a ∷ rest) h = (action_on a h.0, actions_on rest h.1)

  clause_on : (c : ClauseMeant) → ClauseIs P c → ClauseIs Q c
  clause_on c h = (any_on c.predicate h.0, actions_on c.statements h.1)

-- ---- statements

-- consistent with a table
abbrev Of : Rows → Typed → Type 0
Of rows z = IsConsistent (type_at rows) z

of_on : (mid after : Rows) → Grows mid after → (z : Typed) → Of mid z → Of after z
of_on mid after g z h = consistent_on (type_at mid) (type_at after) g.0 z h

wholes_leave : (rows : Rows) (ts : Trees) (ks : Typeds) (after : Rows) → HaveSmall ts → AllTypes rows ts ks after → Grows rows after × EachIs (Of after) ks
wholes_leave rows tree.end ks after small h = (same_rows rows after h.1, subst (EachIs (Of after)) (sym h.0) tt)
wholes_leave rows (tree.more a rest) ks after small h =
    let p = types_leave rows a h.0 h.2 small.0 h.3 in
    let q = wholes_leave h.2 rest h.1 after small.1 h.4 in
    (grows_on rows h.2 after p.0 q.0, subst (EachIs (Of after)) (sym h.5) (of_on h.2 after q.0 h.0 p.1, q.1))

-- a grown table, and an action that is consistent with it
abbrev Leaves : Rows → Action → Rows → Type 0
Leaves rows a after = Grows rows after × ActionIs (Of after) a

acts : (rows after : Rows) (a b : Action) → a ≡ b → Leaves rows b after → Leaves rows a after
acts rows after a b e h = subst (λ (x : Action). Leaves rows x after) (sym e) h

evaluates_leave : (rows : Rows) (t : Tree) (a : Action) (after : Rows) → HasSmall t → Evaluates rows t a after → Leaves rows a after
evaluates_leave rows t a after small h = acts rows after a _ h.2 (types_leave rows t h.0 after small h.1)

prints_leave : (rows : Rows) (ts : Trees) (a : Action) (after : Rows) → HaveSmall ts → Prints rows ts a after → Leaves rows a after
prints_leave rows tree.end a after small h = absurd h
prints_leave rows (tree.more t rest) a after small h = acts rows after a _ h.7 (wholes_leave rows rest h.2 after small.1 h.4)

acts_leave : (o : Option Callee) (line : ℕ) (name : List ℕ) (rows : Rows) (ts : Trees) (a : Action) (after : Rows) → HaveSmall ts →
    Acts o line name rows ts a after → Leaves rows a after
acts_leave (Some f.Trace) line name rows ts a after small h =
    let p = wholes_leave rows ts (more h.0 end) after small h.1 in
    acts rows after a _ h.2 (p.0, p.1.0)
acts_leave (Some f.Exit) line name rows ts a after small h =
    let p = wholes_leave rows ts (more h.0 end) after small h.2 in
    acts rows after a _ h.4 (p.0, p.1.0)
acts_leave (Some f.Printf) line name rows ts a after small h = prints_leave rows ts a after small h
acts_leave (Some f.Strlen) line name rows ts a after small h = evaluates_leave rows (tree.Call line name ts) a after small h
acts_leave (Some f.Strjoin) line name rows ts a after small h = evaluates_leave rows (tree.Call line name ts) a after small h
acts_leave None line name rows ts a after small h = evaluates_leave rows (tree.Call line name ts) a after small h

stands_leave : (rows : Rows) (t : Tree) (a : Action) (after : Rows) → HasSmall t → Stands rows t a after → Leaves rows a after
stands_leave rows (tree.Call line name args) a after small h = acts_leave (callee_named name) line name rows args a after small h
stands_leave rows (tree.Known line c) a after small h = evaluates_leave rows (tree.Known line c) a after small h
stands_leave rows (tree.Read x keys) a after small h = evaluates_leave rows (tree.Read x keys) a after small h
stands_leave rows (tree.Unary line op e) a after small h = evaluates_leave rows (tree.Unary line op e) a after small h
stands_leave rows (tree.Cast line to e) a after small h = evaluates_leave rows (tree.Cast line to e) a after small h
stands_leave rows (tree.Before line by x keys) a after small h = evaluates_leave rows (tree.Before line by x keys) a after small h
stands_leave rows (tree.After x keys by) a after small h = evaluates_leave rows (tree.After x keys by) a after small h
stands_leave rows (tree.Binary op d e) a after small h = evaluates_leave rows (tree.Binary op d e) a after small h
stands_leave rows (tree.Choice c d e) a after small h = evaluates_leave rows (tree.Choice c d e) a after small h
stands_leave rows (tree.Assign op x keys e) a after small h = evaluates_leave rows (tree.Assign op x keys e) a after small h

first_is : (P : Typed → Type 0) (all : Typeds) → EachIs P all → AnyIs P (first all)
first_is P end h = tt
first_is P (more x rest) h = h.0

does_leave : (rows : Rows) (aggs : Aggs) (t : StmtTree) (a : Action) (after : Rows) (known : Aggs) → InStatement t → Does rows aggs t a after known → Leaves rows a after
does_leave rows aggs (tree.Expression t) a after known small h = stands_leave rows t a after small h.0
does_leave rows aggs (tree.Aggregation line name keys word args) a after known small h =
    let ks = wholes_leave rows keys h.0 h.4 small.0 h.5 in
    let xs = wholes_leave h.4 args h.1 after small.1 h.7 in
    acts rows after a _ h.10
    (grows_on rows h.4 after ks.0 xs.0, (each_on (Of h.4) (Of after) (of_on h.4 after xs.0) h.0 ks.1, first_is (Of after) h.1 xs.1))

all_do_leave : (rows : Rows) (aggs : Aggs) (ts : List StmtTree) (all : List Action) (after : Rows) (known : Aggs) → InStatements ts →
    AllDo rows aggs ts all after known → Grows rows after × ActionsAre (Of after) all
all_do_leave rows aggs [] all after known small h = (same_rows rows after h.1, subst (ActionsAre (Of after)) (sym h.0) tt)
all_do_leave rows aggs (t ∷ rest) all after known small h =
    let p = does_leave rows aggs t h.0 h.2 h.3 small.0 h.4 in
    let q = all_do_leave h.2 h.3 rest h.1 after known small.1 h.5 in
    (grows_on rows h.2 after p.0 q.0, subst (ActionsAre (Of after)) (sym h.6) (action_on (Of h.2) (Of after) (of_on h.2 after q.0) h.0 p.1, q.1))

-- ---- clauses and scripts

tests_leave : (rows : Rows) (o : Option Tree) (p : Option Typed) (after : Rows) → InPredicate o → Tests rows o p after → Grows rows after × AnyIs (Of after) p
tests_leave rows None p after small h = (same_rows rows after h.1, subst (AnyIs (Of after)) (sym h.0) tt)
tests_leave rows (Some t) p after small h =
    let q = types_leave rows t h.0 after small h.2 in
    (q.0, subst (AnyIs (Of after)) (sym h.4) q.1)

probes_leave : (rows : Rows) (aggs : Aggs) (c : ClauseTree) (m : ClauseMeant) (after : Rows) (known : Aggs) → InPredicate c.predicate → InStatements c.statements →
    Probes rows aggs c m after known → Grows rows after × ClauseIs (Of after) m
probes_leave rows aggs c m after known small low h =
    let p = tests_leave rows c.predicate h.0 h.2 small h.3 in
    let q = all_do_leave h.2 aggs c.statements h.1 after known low h.4 in (
      grows_on rows h.2 after p.0 q.0,
      subst (ClauseIs (Of after)) (sym h.5) (any_on (Of h.2) (Of after) (of_on h.2 after q.0) h.0 p.1, q.1),
    )

declares_leave : (space : Space) (name : List ℕ) (t : DeclaredType) (keys : List DeclaredType) (rows after : Rows) → Declares space name t keys rows after → Grows rows after
declares_leave space name t keys rows after h =
    subst (λ (r : Rows). Grows rows r) (sym h.2) (push_grows rows (record { space = space; word = name; keys = declared_kinds keys; holds = Some (declared_type t) }))

declared_leaves : (rows : Rows) (d : DeclarationTree) (after : Rows) → DeclaresRow rows d after → Grows rows after
declared_leaves rows (tree.OfThread line t name keys) after h = declares_leave s.Thread name t keys rows after h
declared_leaves rows (tree.OfClause line t name) after h = declares_leave s.Clause name t [] rows after h

items_leave : (rows : Rows) (aggs : Aggs) (ts : List ItemTree) (all : List ClauseMeant) (after : Rows) (known : Aggs) → AreSmall ts →
    AllItems rows aggs ts all after known → Grows rows after × ClausesAre (Of after) all
items_leave rows aggs [] all after known small h = (same_rows rows after h.1, subst (ClausesAre (Of after)) (sym h.0) tt)
items_leave rows aggs (tree.Declared d ∷ rest) all after known small h =
    let q = items_leave h.0 aggs rest all after known small h.2 in
    (grows_on rows h.0 after (declared_leaves rows d h.0 h.1) q.0, q.1)
items_leave rows aggs (tree.Probing c ∷ rest) all after known small h =
    let p = probes_leave rows aggs c h.0 h.2 h.3 small.0 small.1 h.4 in
    let q = items_leave h.2 h.3 rest h.1 after known small.2 h.5 in
    (grows_on rows h.2 after p.0 q.0, subst (ClausesAre (Of after)) (sym h.6) (clause_on (Of h.2) (Of after) (of_on h.2 after q.0) h.0 p.1, q.1))

-- ---- the types of a script's variables

slot_is : (rows : Rows) (slot : ℕ) → option_and_then (λ t. t) (slice_get (types_in rows) slot) ≡ type_at rows slot
slot_is [] slot = refl
slot_is (r ∷ rows) zero = refl
slot_is (r ∷ rows) (suc slot) = slot_is rows slot

all_clauses : (P Q : Typed → Type 0) (to : (z : Typed) → P z → Q z) (all : List ClauseMeant) → ClausesAre P all → All (ClauseIs Q) all
all_clauses P Q to [] h = All-nil (ClauseIs Q)
all_clauses P Q to (c ∷ rest) h = All-cons (ClauseIs Q) c rest (clause_on P Q to c h.0) (all_clauses P Q to rest h.1)

well_is_consistent : (source : List ItemTree) (m : ScriptMeant) → AreSmall source → IsWell source m → All (ClauseIs (IsConsistent (slots_of m))) m.clauses
well_is_consistent source m small h =
    let extends : Extends (type_at h.0) (slots_of m) =
    λ slot t known. subst (λ (l : List (Option DType)). option_and_then (λ u. u) (slice_get l slot) ≡ Some t) (sym h.2) (slot_is h.0 slot ∙ known)
    in
    all_clauses (Of h.0) (IsConsistent (slots_of m)) (consistent_on (type_at h.0) (slots_of m) extends) m.clauses (items_leave [] [] source m.clauses h.0 m.aggregations small h.1).1

pub script_is_consistent : (m : ScriptMeant) → ∥ IsMeant m ∥₁ → All (ClauseIs (IsConsistent (slots_of m))) m.clauses
script_is_consistent m meant =
    ∥∥₁_elim meant (hlevel (clause_prop (slots_of m))) (λ (h : IsMeant m). well_is_consistent h.0 m h.2 (script_sound h.0 m (meant_is_walked h.0 m h.3)))
