-- The walk over a script gives the one answer that its rules give.
use Rattle.std.proofs.Common.{◌≡◌, ◌≢◌, ◌≤◌, ℕ, nat_le, List, [], ◌∷◌, ◌++◌, length, Bool, true}
use Rattle.std.proofs.Common.{false, if◌then◌else◌, Option, Some, None, Result, Ok, Err, refl, sym, ap}
use Rattle.std.proofs.Common.{◌∙◌, subst, append_assoc, append-nil, arith}
use Rattle.std.proofs.lemmas.Bool.Decides.{nat_tests}
use Rattle.d_parser.specs.declared.tree.DeclaredType.{DeclaredType}
use Rattle.d_parser.specs.Tree as tree
use Rattle.d_parser.specs.Tree.{Tree, Trees, StmtTree, DeclarationTree, ClauseTree, ItemTree}
use Rattle.d_values.specs.declared.int_type.IntType.{IntType}
use Rattle.d_values.specs.declared.int_type.DType.{DType}
use Rattle.d_values.specs.declared.int_type.DType.TheVariants.{Int, Text}
use Rattle.aggregations.specs.declared.function.AggFn.{AggFn}
use Rattle.d_types.specs.declared.fault.TypeFault.{TypeFault}
use Rattle.d_types.specs.declared.fault.TypeFault.TheVariants as fault
use Rattle.d_types.specs.declared.typed.Piece.{Piece}
use Rattle.d_types.specs.declared.typed.Space.{Space}
use Rattle.d_types.specs.declared.typed.Space.TheVariants as s
use Rattle.d_types.specs.declared.typed_script.TypedScript.{TypedScript}
use Rattle.d_types.specs.declared.words.Aggregating.{Aggregating}
use Rattle.d_types.specs.declared.words.Callee.{Callee}
use Rattle.d_types.specs.declared.words.Callee.TheVariants as f
use Rattle.d_types.specs.Aggregations.{arguments_fit, function, find_from, first}
use Rattle.d_types.specs.Steps.Variables.{fit}
use Rattle.d_types.specs.Steps.Aggregations.{is_again}
use Rattle.d_types.proofs.Tables.{kinds_are, same_kinds}
use Rattle.d_types.proofs.NewAggregations.{again_is, is_same}
use Rattle.d_types.specs.Checking.{Known, gives, by_rule, needs, ◌>>=◌, ◌>>◌, printed, called, appended, placed, aggregated, IsChecked}
use Rattle.d_types.specs.Checking as rules
use Rattle.d_parser.specs.declared.tree.Constant.TheVariants as literal
use Rattle.d_types.specs.Formats as formats
use Rattle.d_types.specs.Lines.{line_of}
use Rattle.d_types.specs.Needs.{count, need}
use Rattle.d_types.specs.Rules.{IsInteger}
use Rattle.d_types.specs.Steps.Aggregations.{index_for, new_aggregation, aggregate}
use Rattle.d_types.specs.Steps.Faults.{Fault, Cause, refuse, unless, Gives}
use Rattle.d_types.specs.Steps.Faults.{◌>>=◌ as and_then}
use Rattle.d_types.specs.Steps.Faults as cause
use Rattle.d_types.specs.Steps.Formats.{pieces}
use Rattle.d_types.specs.Steps.Scripts as walk
use Rattle.d_types.specs.Steps.Statements.{wholes, trace, exit_by, exit, print, evaluate, call_statement, action}
use Rattle.d_types.specs.Steps.Typing.{only, expr}
use Rattle.d_types.specs.Steps.Typing as typing
use Rattle.d_types.specs.Typed.{Typed, Typeds, end, type_of, types_of, Action, Evaluate, Trace, Print, Aggregate, Agg, Aggs, ClauseMeant, ScriptMeant}
use Rattle.d_types.specs.TypedScripts.{typed_script_of, IsCheckOf}
use Rattle.d_types.specs.Variables.{Rows, find, kinds_of_typed}
use Rattle.d_types.specs.Steps.Variables.{types_in}
use Rattle.d_types.specs.Words.{callee_named, aggregating_named}
use Rattle.d_types.proofs.CheckedExpressions.{same_fault, expression_decided, whole_decided, wholes_decided, small_enough, is_small}
use Rattle.d_types.proofs.Decided.{type_fault_at, type_fault_of, at, with_rows, with_both, answer, Decides, given, refuses, ruled, follows, got, lost, met, unmet, tested, of_known}
use Rattle.d_types.proofs.Sound.{bound, within, is_some_of, some_is}
use Rattle.d_types.proofs.SoundScripts.{ok_is, only_is, exit_by_sound}
use Rattle.d_types.proofs.Spelled.{spelled_is_read}
use Rattle.d_types.proofs.Spelling.{read_is_spelled}

-- ---- actions

abbrev evaluated : Tree → rules.Checked Action
evaluated t = rules.whole t >>= λ x. gives (Evaluate x)

evaluated_decided : (t : Tree) (rows : Rows) (aggs : Aggs) → Decides (evaluated t) (at rows aggs) (answer (with_rows aggs) (evaluate rows t))
evaluated_decided t rows aggs =
    follows _ _ (at rows aggs) (with_rows aggs) (with_rows aggs) (typing.whole rows t) _ (whole_decided t rows aggs) (λ x e. given (Evaluate x.0) (at x.1 aggs))

-- one argument
single_fails : {B : Type 0} (cause : Cause) (line : ℕ) (o : Option B) {C : Type 0} (go : B → C) (f : Fault) → ◌≡◌ {A = Result C Fault} (and_then (unless cause line o) (λ x. Ok (go x))) (Err f) → type_fault_of f ≡ type_fault_of (record { cause = cause; line = line })
single_fails cause line None go f h = ap type_fault_of (sym (same_fault cause line f h))
single_fails cause line (Some x) go f h = absurd cc

trace_decided : (line : ℕ) (ts : Trees) (rows : Rows) (aggs : Aggs) (name : List ℕ) → Decides (called (Some f.Trace) line name ts) (at rows aggs) (answer (with_rows aggs) (trace line rows ts))
trace_decided line ts rows aggs name =
    follows _ _ (at rows aggs) (with_rows aggs) (with_rows aggs) (wholes end rows ts) _ (wholes_decided ts rows aggs)
    (λ k e. of_known k.1 aggs (fault.Mismatch line) _ (single_fails cause.Mismatch line (only k.0) (λ x. (Trace (type_of x) x, k.1))) _
    (λ a last h.
    let q = bound (unless cause.Mismatch line (only k.0)) _ _ h in
    let same : (Trace (type_of q.0) q.0, k.1) ≡ (a, last) = ok_is _ _ q.2 in
    ((q.0, only_is k.0 q.0 (is_some_of cause.Mismatch line _ q.0 q.1), sym (ap (λ (p : Action × Rows). p.0) same)), sym (ap (λ (p : Action × Rows). p.1) same)))
    (λ a h. rw (h.1, h.2) refl))

exit_fails : (line : ℕ) (t : DType) (x : Typed) (rows : Rows) (g : Fault) → exit_by line t x rows ≡ Err g → type_fault_of g ≡ fault.Mismatch line
exit_fails line (Int t) x rows g h = absurd cc
exit_fails line Text x rows g h = ap type_fault_of (sym (same_fault cause.Mismatch line g h))

one_fails : (line : ℕ) (o : Option Typed) (rows : Rows) (g : Fault) → and_then (unless cause.Mismatch line o) (λ x. exit_by line (type_of x) x rows) ≡ Err g → type_fault_of g ≡ fault.Mismatch line
one_fails line None rows g h = ap type_fault_of (sym (same_fault cause.Mismatch line g h))
one_fails line (Some x) rows g h = exit_fails line (type_of x) x rows g h

exit_decided : (line : ℕ) (ts : Trees) (rows : Rows) (aggs : Aggs) (name : List ℕ) → Decides (called (Some f.Exit) line name ts) (at rows aggs) (answer (with_rows aggs) (exit line rows ts))
exit_decided line ts rows aggs name =
    follows _ _ (at rows aggs) (with_rows aggs) (with_rows aggs) (wholes end rows ts) _ (wholes_decided ts rows aggs)
    (λ k e. of_known k.1 aggs (fault.Mismatch line) _ (one_fails line (only k.0) k.1) _
    (λ a last h.
    let q = bound (unless cause.Mismatch line (only k.0)) _ _ h in
    let p = exit_by_sound line _ q.0 k.1 (a, last) refl q.2 in
    ((q.0, p.0, only_is k.0 q.0 (is_some_of cause.Mismatch line _ q.0 q.1), p.1, sym (ap (λ (y : Action × Rows). y.0) p.2)), sym (ap (λ (y : Action × Rows). y.1) p.2)))
    (λ a h. rw (h.2, h.3, h.4) refl))

print_fails : (line : ℕ) (o : Option (List Piece)) (xs : Typeds) (rows : Rows) (g : Fault)
    → and_then {B = Action × Rows} (unless cause.PrintfArguments line o) (λ ps. if formats.fit ps xs then Ok (Print ps (types_of xs) xs, rows) else refuse cause.PrintfArguments line) ≡ Err g → type_fault_of g ≡ fault.PrintfArguments line
print_fails line None xs rows g h = ap type_fault_of (sym (same_fault cause.PrintfArguments line g h))
print_fails line (Some ps) xs rows g h = by (formats.fit ps xs) h
  where
    by : (b : Bool) → ◌≡◌ {A = Result (Action × Rows) Fault} (if b then Ok (Print ps (types_of xs) xs, rows) else refuse cause.PrintfArguments line) (Err g) → type_fault_of g ≡ fault.PrintfArguments line
    by true h = absurd cc
    by false h = ap type_fault_of (sym (same_fault cause.PrintfArguments line g h))

printed_decided : (line : ℕ) (ts : Trees) (rows : Rows) (aggs : Aggs) → Decides (printed line ts) (at rows aggs) (answer (with_rows aggs) (print line rows ts))
printed_decided line (tree.more (tree.Known index (literal.Text format)) ts) rows aggs =
    follows _ _ (at rows aggs) (with_rows aggs) (with_rows aggs) (wholes end rows ts) _ (wholes_decided ts rows aggs)
    (λ k e. of_known k.1 aggs (fault.PrintfArguments line) _ (print_fails line (pieces format) k.0 k.1) _
    (λ a last h.
    let q = bound (unless cause.PrintfArguments line (pieces format)) _ _ h in
    let p = within cause.PrintfArguments line (formats.fit q.0 k.0) (Print q.0 (types_of k.0) k.0, k.1) (a, last) q.2 in
    ((q.0, read_is_spelled format q.0 (is_some_of cause.PrintfArguments line _ q.0 q.1), p.0, sym (ap (λ (y : Action × Rows). y.0) p.1)), sym (ap (λ (y : Action × Rows). y.1) p.1)))
    (λ a h. rw (spelled_is_read format h.0 h.1, h.2, h.3) refl))
printed_decided line ts rows aggs =
    follows _ _ (at rows aggs) (with_rows aggs) (with_rows aggs) (wholes end rows ts) (λ x. refuse {A = Action × Rows} cause.PrintfArguments line) (wholes_decided ts rows aggs) (λ k e. refuses _ _)

called_decided : (o : Option Callee) (line : ℕ) (name : List ℕ) (ts : Trees) (rows : Rows) (aggs : Aggs) → Decides (called o line name ts) (at rows aggs) (answer (with_rows aggs) (call_statement o line name rows ts))
called_decided (Some f.Trace) line name ts rows aggs = trace_decided line ts rows aggs name
called_decided (Some f.Exit) line name ts rows aggs = exit_decided line ts rows aggs name
called_decided (Some f.Printf) line name ts rows aggs = printed_decided line ts rows aggs
called_decided (Some f.Strlen) line name ts rows aggs = evaluated_decided (tree.Call line name ts) rows aggs
called_decided (Some f.Strjoin) line name ts rows aggs = evaluated_decided (tree.Call line name ts) rows aggs
called_decided None line name ts rows aggs = evaluated_decided (tree.Call line name ts) rows aggs

action_decided : (t : Tree) (rows : Rows) (aggs : Aggs) → Decides (rules.statement (tree.Expression t)) (at rows aggs) (answer (with_rows aggs) (action rows t))
action_decided (tree.Call line name args) rows aggs = called_decided (callee_named name) line name args rows aggs
action_decided (tree.Known line c) rows aggs = evaluated_decided (tree.Known line c) rows aggs
action_decided (tree.Read x keys) rows aggs = evaluated_decided (tree.Read x keys) rows aggs
action_decided (tree.Unary line op a) rows aggs = evaluated_decided (tree.Unary line op a) rows aggs
action_decided (tree.Cast line to a) rows aggs = evaluated_decided (tree.Cast line to a) rows aggs
action_decided (tree.Before line by x keys) rows aggs = evaluated_decided (tree.Before line by x keys) rows aggs
action_decided (tree.After x keys by) rows aggs = evaluated_decided (tree.After x keys by) rows aggs
action_decided (tree.Binary op a b) rows aggs = evaluated_decided (tree.Binary op a b) rows aggs
action_decided (tree.Choice c a b) rows aggs = evaluated_decided (tree.Choice c a b) rows aggs
action_decided (tree.Assign op x keys a) rows aggs = evaluated_decided (tree.Assign op x keys a) rows aggs

-- ---- aggregation statements

few_keys : (n : ℕ) → nat_le n 8 ≡ true → n ≤ 8
few_keys n h = grind (arith, nat_tests, h)

are_few : (n : ℕ) → n ≤ 8 → nat_le n 8 ≡ true
are_few n h = grind (arith, nat_tests, h)

abbrev with_aggs : Rows → ℕ × Aggs → ℕ × Known
with_aggs rows a = (a.0, at rows a.1)

module _ (line : ℕ) (name : List ℕ) (ks : Typeds) (g : Option AggFn) (rows : Rows) (aggs : Aggs) where
  abbrev as_new : AggFn → Agg
  as_new h = record { name = name; keys = kinds_of_typed ks; function = h }

  bounds_decided : (o : Option AggFn) → g ≡ o
      → Decides (by_rule (λ h. g ≡ Some h) (fault.LquantizeBounds line) >>= λ h. appended (as_new h)) (at rows aggs) (answer (with_aggs rows) (and_then (unless cause.LquantizeBounds line o) (new_aggregation name ks aggs)))
  bounds_decided None none = lost _ _ _ _ (λ h e. let never = sym none ∙ e in absurd cc)
  bounds_decided (Some h) is = got _ _ _ _ h is (λ y e. some_is y h (sym e ∙ is)) _ (record { is = refl; only = λ s e. e })

  new_decided : (b : Bool) → nat_le (count ks) 8 ≡ b
      → Decides (placed line name ks g None) (at rows aggs) (answer (with_aggs rows) (if b then and_then (unless cause.LquantizeBounds line g) (new_aggregation name ks aggs) else refuse cause.Keys line))
  new_decided true few = met _ _ _ _ (few_keys (count ks) few) _ (bounds_decided g refl)
  new_decided false many = unmet _ _ _ _ (λ h. let few = are_few (count ks) h in let never = sym many ∙ few in absurd cc)

  again_decided : (index : ℕ) (a : Agg) (b : Bool) → is_again g a.function ≡ b
      → Decides (needs (λ known. g ≡ Some a.function) (fault.AggregationRedefined line) >> gives index) (at rows aggs) (answer (with_aggs rows) (if b then Ok (index, aggs) else refuse cause.AggregationRedefined line))
  again_decided index a true again = met _ _ _ _ (again_is g a.function again) _ (given _ _)
  again_decided index a false other = unmet _ _ _ _ (λ h. let never = sym other ∙ is_same g a.function h in absurd cc)

  known_decided : (index : ℕ) (a : Agg) (b : Bool) → fit a.keys ks ≡ b
      → Decides (placed line name ks g (Some (index, a))) (at rows aggs)
      (answer (with_aggs rows) (if b then (if is_again g a.function then Ok (index, aggs) else refuse cause.AggregationRedefined line) else refuse cause.Keys line))
  known_decided index a true fits = met _ _ _ _ (kinds_are a.keys ks fits) _ (again_decided index a (is_again g a.function) refl)
  known_decided index a false others = unmet _ _ _ _ (λ h. let never = sym (same_kinds a.keys ks h) ∙ others in absurd cc)

  index_decided : (o : Option (ℕ × Agg)) → Decides (placed line name ks g o) (at rows aggs) (answer (with_aggs rows) (index_for line name ks g aggs o))
  index_decided None = new_decided (nat_le (count ks) 8) refl
  index_decided (Some (index, a)) = known_decided index a (fit a.keys ks) refl

named_fails : (line : ℕ) (o : Option Aggregating) (h : Fault) → unless cause.Undeclared line o ≡ Err h → type_fault_of h ≡ fault.Undeclared line
named_fails line None h e = ap type_fault_of (sym (same_fault cause.Undeclared line h e))
named_fails line (Some g) h e = absurd cc

aggregated_decided : (line : ℕ) (name : List ℕ) (keys : Trees) (word : List ℕ) (args : Trees) (rows : Rows) (aggs : Aggs) →
    Decides (aggregated line name keys word args) (at rows aggs) (answer with_both (aggregate line name keys word args rows aggs))
aggregated_decided line name keys word args rows aggs =
    follows _ _ (at rows aggs) (with_rows aggs) with_both (wholes end rows keys) _ (wholes_decided keys rows aggs)
    (λ k e. follows _ _ (at k.1 aggs) (λ g. (g, at k.1 aggs)) with_both (unless cause.Undeclared line (aggregating_named word)) _
    (ruled _ (fault.Undeclared line) (at k.1 aggs) (λ g. (g, at k.1 aggs)) (unless cause.Undeclared line (aggregating_named word))
    (λ g h. (is_some_of cause.Undeclared line _ g h, refl))
    (λ g later h. (g, rw (h.0) refl, ap (λ (y : Known). (g, y)) (sym h.1)))
    (λ h never. named_fails line (aggregating_named word) h never))
    (λ g f. follows _ _ (at k.1 aggs) (with_rows aggs) with_both (wholes end k.1 args) _ (wholes_decided args k.1 aggs)
    (λ x h. tested _ _ _ _ (arguments_fit g x.0) (record { cause = cause.Mismatch; line = line }) with_both _ refl (λ b. b) (λ b. b)
    (λ b. let d = index_decided line name k.0 (function g args) x.1 aggs (find_from 0 name aggs) in
    follows _ _ (at x.1 aggs) (with_aggs x.1) with_both (index_for line name k.0 (function g args) aggs (find_from 0 name aggs)) _ (record { is = d.is; only = d.only })
    (λ a m. given (Aggregate a.0 k.0 (first x.0)) (at x.1 a.1))))))

-- ---- statements

raised : {X : Type 0} (aggs : Aggs) (r : Result (X × Rows) Fault) → answer with_both (and_then {B = X × (Rows × Aggs)} r (λ a. Ok (a.0, (a.1, aggs)))) ≡ answer (with_rows aggs) r
raised aggs (Ok x) = refl
raised aggs (Err f) = refl

statement_decided : (t : StmtTree) (rows : Rows) (aggs : Aggs) → Decides (rules.statement t) (at rows aggs) (answer with_both (walk.statement rows aggs t))
statement_decided (tree.Expression t) rows aggs = subst (Decides (rules.statement (tree.Expression t)) (at rows aggs)) (sym (raised aggs (action rows t))) (action_decided t rows aggs)
statement_decided (tree.Aggregation line name keys word args) rows aggs = aggregated_decided line name keys word args rows aggs

module _ {X : Type 0} where
  abbrev After : (List X → Rows → Aggs → Result (List X × (Rows × Aggs)) Fault) → Type 0
  After list = (done : List X) (rows : Rows) (aggs : Aggs) → list done rows aggs ≡ and_then {B = List X × (Rows × Aggs)} (list [] rows aggs) (λ k. Ok (done ++ k.0, k.1))

  after_one : (done : List X) (x : X) (r : Result (List X × (Rows × Aggs)) Fault) → and_then {B = List X × (Rows × Aggs)} r (λ k. Ok ((done ++ x ∷ []) ++ k.0, k.1)) ≡ and_then {B = List X × (Rows × Aggs)} (and_then {B = List X × (Rows × Aggs)} r (λ k. Ok (x ∷ k.0, k.1))) (λ k. Ok (done ++ k.0, k.1))
  after_one done x (Ok k) = ap (λ (l : List X). Ok (l, k.1)) (append_assoc done (x ∷ []) k.0)
  after_one done x (Err f) = refl

  rest_after : (list : List X → Rows → Aggs → Result (List X × (Rows × Aggs)) Fault) → After list → (done : List X) (r : Result (X × (Rows × Aggs)) Fault)
      → and_then {B = List X × (Rows × Aggs)} r (λ x. list (done ++ x.0 ∷ []) x.1.0 x.1.1) ≡ and_then {B = List X × (Rows × Aggs)} (and_then {B = List X × (Rows × Aggs)} r (λ x. list (x.0 ∷ []) x.1.0 x.1.1)) (λ k. Ok (done ++ k.0, k.1))
  rest_after list is done (Ok x) =
      is (done ++ x.0 ∷ []) x.1.0 x.1.1 ∙ after_one done x.0 (list [] x.1.0 x.1.1) ∙ ap (λ (e : Result (List X × (Rows × Aggs)) Fault). and_then {B = List X × (Rows × Aggs)} e (λ k. Ok (done ++ k.0, k.1))) (sym (is (x.0 ∷ []) x.1.0 x.1.1))
  rest_after list is done (Err f) = refl

  rest_more : (list : List X → Rows → Aggs → Result (List X × (Rows × Aggs)) Fault) → After list → (r : Result (X × (Rows × Aggs)) Fault)
      → and_then {B = List X × (Rows × Aggs)} r (λ x. list (x.0 ∷ []) x.1.0 x.1.1) ≡ and_then {B = List X × (Rows × Aggs)} r (λ x. and_then {B = List X × (Rows × Aggs)} (list [] x.1.0 x.1.1) (λ k. Ok (x.0 ∷ k.0, k.1)))
  rest_more list is (Ok x) = is (x.0 ∷ []) x.1.0 x.1.1
  rest_more list is (Err f) = refl

statements_after : (ts : List StmtTree) → After (λ done rows aggs. walk.statements done rows aggs ts)
statements_after [] done rows aggs = ap (λ (l : List Action). Ok (l, (rows, aggs))) (sym (append-nil done))
statements_after (t ∷ rest) done rows aggs = rest_after (λ d r a. walk.statements d r a rest) (statements_after rest) done (walk.statement rows aggs t)

statements_decided : (ts : List StmtTree) (rows : Rows) (aggs : Aggs) → Decides (rules.statements ts) (at rows aggs) (answer with_both (walk.statements [] rows aggs ts))
statements_decided [] rows aggs = given [] (at rows aggs)
statements_decided (t ∷ rest) rows aggs =
    subst (λ (r : Result (List Action × (Rows × Aggs)) Fault). Decides (rules.statements (t ∷ rest)) (at rows aggs) (answer with_both r))
    (sym (rest_more (λ d r a. walk.statements d r a rest) (statements_after rest) (walk.statement rows aggs t)))
    (follows _ _ (at rows aggs) with_both with_both (walk.statement rows aggs t) _ (statement_decided t rows aggs)
    (λ x e. follows _ _ (at x.1.0 x.1.1) with_both with_both (walk.statements [] x.1.0 x.1.1 rest) _ (statements_decided rest x.1.0 x.1.1)
    (λ k f. given (x.0 ∷ k.0) (at k.1.0 k.1.1))))

-- ---- clauses

integer_decided : (u : DType) (t : Tree) (x : Typed) (rows : Rows) (aggs : Aggs) → type_of x ≡ u →
    Decides (needs (λ known. (n : IntType) × IsInteger x n) (fault.Mismatch (line_of t)) >> needs (λ known. need x ≤ 6) (fault.NoRegister (line_of t)) >> rules.gives (Some x)) (at rows aggs)
    (answer (with_rows aggs) (walk.test_of u t x rows))
integer_decided (Int n) t x rows aggs e =
    met _ _ _ _ (n, e) _ (tested _ _ _ _ (nat_le (need x) 6) (record { cause = cause.NoRegister; line = line_of t }) (with_rows aggs) (Ok (Some x, rows)) refl
    (small_enough (need x)) (is_small (need x)) (λ b. given (Some x) (at rows aggs)))
integer_decided Text t x rows aggs e = unmet _ _ _ _ (λ h. let never : Text ≡ Int h.0 = sym e ∙ h.1 in absurd cc)

predicate_decided : (o : Option Tree) (rows : Rows) (aggs : Aggs) → Decides (rules.predicate o) (at rows aggs) (answer (with_rows aggs) (walk.predicate rows o))
predicate_decided None rows aggs = given None (at rows aggs)
predicate_decided (Some t) rows aggs =
    follows _ _ (at rows aggs) (with_rows aggs) (with_rows aggs) (expr rows t) _ (expression_decided t rows aggs) (λ x e. integer_decided (type_of x.0) t x.0 x.1 aggs refl)

clause_decided : (c : ClauseTree) (rows : Rows) (aggs : Aggs) → Decides (rules.clause c) (at rows aggs) (answer with_both (walk.clause rows aggs c))
clause_decided c rows aggs =
    follows _ _ (at rows aggs) (with_rows aggs) with_both (walk.predicate rows c.predicate) _ (predicate_decided c.predicate rows aggs)
    (λ p e. follows _ _ (at p.1 aggs) with_both with_both (walk.statements [] p.1 aggs c.statements) _ (statements_decided c.statements p.1 aggs)
    (λ a h. given _ (at a.1.0 a.1.1)))

-- ---- declarations

abbrev with_nothing : Aggs → Rows → Unit {0} × Known
with_nothing aggs rows = (tt, at rows aggs)

keys_fail : (b : Bool) (rows : Rows) (line : ℕ) (h : Fault) → ◌≡◌ {A = Result Rows Fault} (if b then Ok rows else refuse cause.Keys line) (Err h) → type_fault_of h ≡ fault.Keys line
keys_fail true rows line h e = absurd cc
keys_fail false rows line h e = ap type_fault_of (sym (same_fault cause.Keys line h e))

declared_decided : (space : Space) (line : ℕ) (name : List ℕ) (t : DeclaredType) (keys : List DeclaredType) (rows : Rows) (aggs : Aggs) (o : Option ℕ) → find space name rows ≡ o →
    Decides (rules.declared space line name t keys) (at rows aggs) (answer (with_nothing aggs) (walk.declare space line name t keys rows o))
declared_decided space line name t keys rows aggs (Some slot) e = unmet _ _ _ _ (λ none. let never = sym e ∙ none in absurd cc)
declared_decided space line name t keys rows aggs None e =
    met _ _ _ _ e _ (ruled _ (fault.Keys line) (at rows aggs) (with_nothing aggs) _
    (λ last h. let p = within cause.Keys line (nat_le (length keys) 8) _ last h in ((few_keys (length keys) p.0, sym p.1), refl))
    (λ u later h. let few = are_few (length keys) h.0.0 in (later.rows, rw (few, h.0.1) refl, ap (λ (a : Aggs). (tt, at later.rows a)) (sym h.1)))
    (λ h never. keys_fail (nat_le (length keys) 8) _ line h never))

declaration_decided : (d : DeclarationTree) (rows : Rows) (aggs : Aggs) → Decides (rules.declaration d) (at rows aggs) (answer (with_nothing aggs) (walk.declaration rows d))
declaration_decided (tree.OfThread line t name keys) rows aggs = declared_decided s.Thread line name t keys rows aggs _ refl
declaration_decided (tree.OfClause line t name) rows aggs = declared_decided s.Clause line name t [] rows aggs _ refl

-- ---- scripts

abbrev ItemsAfter : List ItemTree → Type 0
ItemsAfter ts = After (λ done rows aggs. walk.items done rows aggs ts)

declared_after : (rest : List ItemTree) → ItemsAfter rest → (done : List ClauseMeant) (aggs : Aggs) (r : Result Rows Fault)
    → and_then {B = List ClauseMeant × (Rows × Aggs)} (and_then {B = List ClauseMeant × (Rows × Aggs)} r (λ rows. Ok (done, (rows, aggs)))) (λ x. walk.items x.0 x.1.0 x.1.1 rest) ≡ and_then {B = List ClauseMeant × (Rows × Aggs)} r (λ rows. and_then {B = List ClauseMeant × (Rows × Aggs)} (walk.items [] rows aggs rest) (λ k. Ok (done ++ k.0, k.1)))
declared_after rest is done aggs (Ok rows) = is done rows aggs
declared_after rest is done aggs (Err f) = refl

clause_after : (rest : List ItemTree) (done : List ClauseMeant) (r : Result (ClauseMeant × (Rows × Aggs)) Fault)
    → and_then {B = List ClauseMeant × (Rows × Aggs)} (and_then {B = List ClauseMeant × (Rows × Aggs)} r (λ a. Ok (done ++ a.0 ∷ [], a.1))) (λ x. walk.items x.0 x.1.0 x.1.1 rest) ≡ and_then {B = List ClauseMeant × (Rows × Aggs)} r (λ x. walk.items (done ++ x.0 ∷ []) x.1.0 x.1.1 rest)
clause_after rest done (Ok a) = refl
clause_after rest done (Err f) = refl

same_after : (done : List ClauseMeant) (rest : List ItemTree) (aggs : Aggs) (r : Result Rows Fault)
    → and_then {B = List ClauseMeant × (Rows × Aggs)} r (λ rows. and_then {B = List ClauseMeant × (Rows × Aggs)} (walk.items [] rows aggs rest) (λ k. Ok (done ++ k.0, k.1))) ≡ and_then {B = List ClauseMeant × (Rows × Aggs)} (and_then {B = List ClauseMeant × (Rows × Aggs)} r (λ rows. walk.items [] rows aggs rest)) (λ k. Ok (done ++ k.0, k.1))
same_after done rest aggs (Ok rows) = refl
same_after done rest aggs (Err f) = refl

nothing_done : {X Y : Type 0} (r : Result (List X × Y) Fault) → and_then {B = List X × Y} r (λ k. Ok ([] ++ k.0, k.1)) ≡ r
nothing_done (Ok k) = refl
nothing_done (Err f) = refl

declared_first : (d : DeclarationTree) (rest : List ItemTree) → ItemsAfter rest → (rows : Rows) (aggs : Aggs) → walk.items [] rows aggs (tree.Declared d ∷ rest) ≡ and_then {B = List ClauseMeant × (Rows × Aggs)} (walk.declaration rows d) (λ r. walk.items [] r aggs rest)
declared_first d rest is rows aggs = declared_after rest is [] aggs (walk.declaration rows d) ∙ same_after [] rest aggs (walk.declaration rows d) ∙ nothing_done _

items_after : (ts : List ItemTree) → ItemsAfter ts
items_after [] done rows aggs = ap (λ (l : List ClauseMeant). Ok (l, (rows, aggs))) (sym (append-nil done))
items_after (tree.Declared d ∷ rest) done rows aggs =
    declared_after rest (items_after rest) done aggs (walk.declaration rows d) ∙ same_after done rest aggs (walk.declaration rows d)
    ∙ ap (λ (e : Result (List ClauseMeant × (Rows × Aggs)) Fault). and_then {B = List ClauseMeant × (Rows × Aggs)} e (λ k. Ok (done ++ k.0, k.1))) (sym (declared_first d rest (items_after rest) rows aggs))
items_after (tree.Probing c ∷ rest) done rows aggs =
    clause_after rest done (walk.clause rows aggs c) ∙ rest_after (λ d r a. walk.items d r a rest) (items_after rest) done (walk.clause rows aggs c)
    ∙ ap (λ (e : Result (List ClauseMeant × (Rows × Aggs)) Fault). and_then {B = List ClauseMeant × (Rows × Aggs)} e (λ k. Ok (done ++ k.0, k.1))) (sym (clause_after rest [] (walk.clause rows aggs c)))

items_decided : (ts : List ItemTree) (rows : Rows) (aggs : Aggs) → Decides (rules.items ts) (at rows aggs) (answer with_both (walk.items [] rows aggs ts))
items_decided [] rows aggs = given [] (at rows aggs)
items_decided (tree.Declared d ∷ rest) rows aggs =
    subst (λ (r : Result (List ClauseMeant × (Rows × Aggs)) Fault). Decides (rules.items (tree.Declared d ∷ rest)) (at rows aggs) (answer with_both r)) (sym (declared_first d rest (items_after rest) rows aggs))
    (follows _ _ (at rows aggs) (with_nothing aggs) with_both (walk.declaration rows d) _ (declaration_decided d rows aggs) (λ r e. items_decided rest r aggs))
items_decided (tree.Probing c ∷ rest) rows aggs =
    subst (λ (r : Result (List ClauseMeant × (Rows × Aggs)) Fault). Decides (rules.items (tree.Probing c ∷ rest)) (at rows aggs) (answer with_both r))
    (sym (clause_after rest [] (walk.clause rows aggs c) ∙ rest_more (λ d r a. walk.items d r a rest) (items_after rest) (walk.clause rows aggs c)))
    (follows _ _ (at rows aggs) with_both with_both (walk.clause rows aggs c) _ (clause_decided c rows aggs)
    (λ x e. follows _ _ (at x.1.0 x.1.1) with_both with_both (walk.items [] x.1.0 x.1.1 rest) _ (items_decided rest x.1.0 x.1.1)
    (λ k h. given (x.0 ∷ k.0) (at k.1.0 k.1.1))))

-- ---- the answer

-- what the walk over a script gives, as an answer
abbrev pub script_answer : Result ScriptMeant Fault → Result ScriptMeant TypeFault
script_answer (Ok m) = Ok m
script_answer (Err f) = Err (type_fault_of f)

abbrev of_items : List ClauseMeant × (Rows × Aggs) → ScriptMeant
of_items x = record { clauses = x.0; aggregations = x.1.1; slots = types_in x.1.0 }

checked_by : (source : List ItemTree) (r : Result (List ClauseMeant × (Rows × Aggs)) Fault) → walk.items [] [] [] source ≡ r → IsChecked source (script_answer (and_then r (λ x. Ok (of_items x))))
checked_by source (Ok x) e = (at x.1.0 x.1.1, subst (λ (r : Result (List ClauseMeant × (Rows × Aggs)) Fault). rules.items source (at [] []) (answer with_both r)) e (items_decided source [] []).is, refl, refl)
checked_by source (Err f) e = subst (λ (r : Result (List ClauseMeant × (Rows × Aggs)) Fault). rules.items source (at [] []) (answer with_both r)) e (items_decided source [] []).is

-- the walk's answer is one by the rules
pub walk_is_checked : (source : List ItemTree) → IsChecked source (script_answer (walk.script source))
walk_is_checked source = checked_by source (walk.items [] [] [] source) refl

only_by : (source : List ItemTree) (r : Result (List ClauseMeant × (Rows × Aggs)) Fault) → walk.items [] [] [] source ≡ r → (given : Result ScriptMeant TypeFault) → IsChecked source given
    → given ≡ script_answer (and_then r (λ x. Ok (of_items x)))
only_by source (Ok x) e (Ok m) h =
    let there : ◌≡◌ {A = Result (List ClauseMeant × Known) TypeFault} (Ok (m.clauses, h.0)) (Ok (with_both x)) = (items_decided source [] []).only (Ok (m.clauses, h.0)) h.1 ∙ ap (answer with_both) e in
    let same : (m.clauses, h.0) ≡ with_both x = cc in
    let script : List ClauseMeant → Aggs → List (Option DType) → ScriptMeant = λ c a l. record { clauses = c; aggregations = a; slots = l } in
    ap (λ (n : ScriptMeant). Ok n) (
    ap (λ (a : Aggs). script m.clauses a m.slots) h.2 ∙ ap (λ (l : List (Option DType)). script m.clauses h.0.aggs l) h.3
    ∙ ap (λ (y : List ClauseMeant × Known). script y.0 y.1.aggs (types_in y.1.rows)) same
    )
only_by source (Err f) e (Ok m) h = let never : ◌≡◌ {A = Result (List ClauseMeant × Known) TypeFault} (Ok (m.clauses, h.0)) (Err (type_fault_of f)) = (items_decided source [] []).only (Ok (m.clauses, h.0)) h.1 ∙ ap (answer with_both) e in absurd cc
only_by source (Ok x) e (Err g) h = let never : ◌≡◌ {A = Result (List ClauseMeant × Known) TypeFault} (Err g) (Ok (with_both x)) = (items_decided source [] []).only (Err g) h ∙ ap (answer with_both) e in absurd cc
only_by source (Err f) e (Err g) h =
    let there : ◌≡◌ {A = Result (List ClauseMeant × Known) TypeFault} (Err g) (Err (type_fault_of f)) = (items_decided source [] []).only (Err g) h ∙ ap (answer with_both) e in
    let same : g ≡ type_fault_of f = cc in
    ap (λ (k : TypeFault). Err k) same

-- an answer by the rules is the walk's
pub checked_is_walk : (source : List ItemTree) (r : Result ScriptMeant TypeFault) → IsChecked source r → r ≡ script_answer (walk.script source)
checked_is_walk source r h = only_by source (walk.items [] [] [] source) refl r h

pub has_answer : (source : List ItemTree) → (r : Result ScriptMeant TypeFault) × IsChecked source r
has_answer source = (script_answer (walk.script source), walk_is_checked source)

pub some_answer : (source : List ItemTree) → ∥ ((r : Result ScriptMeant TypeFault) × IsChecked source r) ∥₁
some_answer source = ∣ has_answer source ∣₁

pub one_answer : (source : List ItemTree) (a b : Result ScriptMeant TypeFault) → IsChecked source a → IsChecked source b → a ≡ b
one_answer source a b g h = checked_is_walk source a g ∙ sym (checked_is_walk source b h)

meant_by : (m : ScriptMeant) (r : Result ScriptMeant Fault) → Ok m ≡ script_answer r → r ≡ Ok m
meant_by m (Ok n) h = let same : m ≡ n = cc in ap (λ (k : ScriptMeant). Ok k) (sym same)
meant_by m (Err f) h = absurd cc

-- what a script means is what the walk gives
pub meant_is_walked : (source : List ItemTree) (m : ScriptMeant) → IsChecked source (Ok m) → walk.script source ≡ Ok m
meant_is_walked source m h = meant_by m (walk.script source) (checked_is_walk source (Ok m) h)

pub walked_is_meant : (source : List ItemTree) (m : ScriptMeant) → walk.script source ≡ Ok m → IsChecked source (Ok m)
walked_is_meant source m h = subst (λ (r : Result ScriptMeant Fault). IsChecked source (script_answer r)) h (walk_is_checked source)

-- ---- what a check returns

named : (c : Cause) (line : ℕ) → type_fault_at c line ≢ fault.Memory
named (cause.GlobalAssignment name) line e = cc
named cause.Undeclared line e = cc
named cause.Mismatch line e = cc
named cause.Keys line e = cc
named cause.AggregationRedefined line e = cc
named cause.LquantizeBounds line e = cc
named cause.PrintfArguments line e = cc
named cause.ReadOnly line e = cc
named cause.NoRegister line e = cc

named_by : (r : Result ScriptMeant Fault) (f : TypeFault) → Err f ≡ script_answer r → f ≢ fault.Memory
named_by (Ok m) f h e = absurd cc
named_by (Err g) f h e = let same : f ≡ type_fault_of g = cc in named g.cause g.line (sym same ∙ e)

-- that memory ran out is no answer
pub fault_is_named : (source : List ItemTree) (f : TypeFault) → IsChecked source (Err f) → f ≢ fault.Memory
fault_is_named source f h = named_by (walk.script source) f (checked_is_walk source (Err f) h)

fault_checked : (source : List ItemTree) (e : TypeFault) (f : Fault) → walk.script source ≡ Err f → type_fault_of f ≡ e → IsChecked source (Err e)
fault_checked source e f h is = subst (λ (g : TypeFault). IsChecked source (Err g)) is (subst (λ (r : Result ScriptMeant Fault). IsChecked source (script_answer r)) h (walk_is_checked source))

pub check_is_answer : (source : List ItemTree) (r : Result TypedScript TypeFault) → Gives typed_script_of r (walk.script source) → IsCheckOf source r
check_is_answer source (Ok x) h = walked_is_meant source _ h
check_is_answer source (Err (fault.GlobalAssignment name line)) h = fault_checked source _ _ h refl
check_is_answer source (Err (fault.Undeclared line)) h = fault_checked source _ _ h refl
check_is_answer source (Err (fault.Mismatch line)) h = fault_checked source _ _ h refl
check_is_answer source (Err (fault.Keys line)) h = fault_checked source _ _ h refl
check_is_answer source (Err (fault.AggregationRedefined line)) h = fault_checked source _ _ h refl
check_is_answer source (Err (fault.LquantizeBounds line)) h = fault_checked source _ _ h refl
check_is_answer source (Err (fault.PrintfArguments line)) h = fault_checked source _ _ h refl
check_is_answer source (Err (fault.ReadOnly line)) h = fault_checked source _ _ h refl
check_is_answer source (Err (fault.NoRegister line)) h = fault_checked source _ _ h refl
check_is_answer source (Err fault.Memory) h = tt
