-- The walk over an expression gives the one answer that its rules give.
use Rattle.std.proofs.Common.{◌≡◌, ◌≢◌, ◌≤◌, ℕ, nat_le, List, Bool, true, false}
use Rattle.std.proofs.Common.{if◌then◌else◌, Option, Some, None, Result, Ok, Err, refl, sym, ap, ◌∙◌}
use Rattle.std.proofs.Common.{subst, arith}
use Rattle.std.proofs.lemmas.Bool.Decides.{nat_tests}
use Rattle.d_parser.specs.declared.operators.Step.{Step}
use Rattle.d_parser.specs.declared.tree.Variable.{Variable}
use Rattle.d_parser.specs.declared.tree.Variable.TheVariants as v
use Rattle.d_parser.specs.Tree as tree
use Rattle.d_parser.specs.Tree.{Tree, Trees}
use Rattle.d_values.specs.declared.int_type.DType.{DType}
use Rattle.d_values.specs.declared.int_type.DType.TheVariants.{Int}
use Rattle.d_values.specs.Types.{INT64}
use Rattle.d_types.specs.declared.fault.TypeFault.TheVariants as fault
use Rattle.d_types.specs.declared.typed.Answer.{Answer}
use Rattle.d_types.specs.declared.typed.Answer.TheVariants as w
use Rattle.d_types.specs.declared.typed.BuiltIn.{BuiltIn}
use Rattle.d_types.specs.declared.typed.Space.{Space}
use Rattle.d_types.specs.declared.typed.Variable.{Variable as Slot}
use Rattle.d_types.specs.declared.typed.Space.TheVariants as s
use Rattle.d_types.specs.declared.words.Callee.{Callee}
use Rattle.d_types.specs.Checking.{by_rule, IsVariable, read_in, read, target, stepped, needs}
use Rattle.d_types.specs.Checking.{expression, expressions, whole, wholes, ◌>>◌}
use Rattle.d_types.specs.Constants.{int_type, constant}
use Rattle.d_types.specs.Lines.{line_of_variable, line_of}
use Rattle.d_types.specs.Needs.{count, need}
use Rattle.d_types.specs.Rules.{IsOperation, IsChoice, IsAssignment, IsStep, IsCall}
use Rattle.d_types.proofs.WellTyped.{IsTargetOf}
use Rattle.d_types.proofs.Tables.{keys_are, own_keys}
use Rattle.d_types.specs.Steps.Faults.{Fault, Cause, refuse, ◌>>=◌ as and_then}
use Rattle.d_types.specs.Steps.Faults as cause
use Rattle.d_types.specs.Steps.Operators.{as_type, unary, binary, choice}
use Rattle.d_types.specs.Steps.Statements as walk
use Rattle.d_types.specs.Steps.Targets.{plain, load, load_at, read_variable, plain_target, slot_for}
use Rattle.d_types.specs.Steps.Targets as targets
use Rattle.d_types.specs.Steps.Typing.{beside, fitting, typed_call, step_rest, expr, exprs}
use Rattle.d_types.specs.Steps.Typing as typing
use Rattle.d_types.specs.Targets.{space_of, type_at_once, most_keys}
use Rattle.d_types.specs.Typed.{Typed, Typeds, end, more, type_of, Aggs}
use Rattle.d_types.specs.Steps.Typing.{with_typed}
use Rattle.d_types.specs.Variables.{Rows, find, type_at}
use Rattle.d_types.specs.Steps.Variables.{keys_fit}
use Rattle.d_types.specs.Words.{built_in, callee_named}
use Rattle.d_types.proofs.Complete.{after, after-add, after-end, joins_complete, chooses_complete, targets_complete, stores_complete, steps_complete, calls_complete}
use Rattle.d_types.proofs.Decided.{type_fault_of, at, with_rows, answer, Decides, given, refuses, follows, got, lost, met, unmet, tested, of_rows, of_known}
use Rattle.d_types.proofs.Sound.{some_is, fitted, fitted_pair, unary_sound, cast_sound, joins_sound, chooses_sound, targets_sound, stores_sound, steps_sound, calls_sound}

pub same_fault : {X : Type 0} (cause : Cause) (line : ℕ) (f : Fault) → ◌≡◌ {A = Result X Fault} (refuse cause line) (Err f) → record { cause = cause; line = line } ≡ f
same_fault cause line f h = cc

-- ---- constructs that are refused as a mismatch

fitting_fails : (line : ℕ) (o : Option (Typed × Rows)) (f : Fault) → fitting line o ≡ Err f → type_fault_of f ≡ fault.Mismatch line
fitting_fails line None f h = ap type_fault_of (sym (same_fault cause.Mismatch line f h))
fitting_fails line (Some x) f h = cc

fits_decided : (Rule : Typed → Type 0) (line : ℕ) (rows : Rows) (aggs : Aggs) (o : Option Typed) → ((z : Typed) → o ≡ Some z → Rule z) → ((z : Typed) → Rule z → o ≡ Some z)
    → Decides (by_rule Rule (fault.Mismatch line)) (at rows aggs) (answer (with_rows aggs) (fitting line (beside rows o)))
fits_decided Rule line rows aggs o sound complete =
    of_known rows aggs (fault.Mismatch line) (fitting line (beside rows o)) (fitting_fails line (beside rows o)) (λ known. Rule)
    (λ z last h. let f = fitted line rows o z last h in (sound z f.0, sym f.1))
    (λ z h. rw (complete z h) refl)

-- ---- variables that are read

plain_read : (line : ℕ) (name : List ℕ) (rows : Rows) (aggs : Aggs) (o : Option BuiltIn) (ks : Typeds) → built_in name ≡ o
    → Decides (read (v.Plain line name) ks) (at rows aggs) (answer (with_rows aggs) (and_then {B = Typed × Rows} (plain line o ks) (λ y. Ok (y, rows))))
plain_read line name rows aggs None ks e = lost _ _ _ _ (λ b h. let never = sym e ∙ h in absurd cc)
plain_read line name rows aggs (Some b) end e = got _ _ _ _ b e (λ y h. some_is y b (sym h ∙ e)) _ (met _ _ _ _ refl _ (given _ _))
plain_read line name rows aggs (Some b) (more x rest) e = got _ _ _ _ b e (λ y h. some_is y b (sym h ∙ e)) _ (unmet _ _ _ _ (λ never. absurd cc))

module _ (space : Space) (line : ℕ) (name : List ℕ) (rows : Rows) (aggs : Aggs) (ks : Typeds) where
  abbrev OwnGives : Result Typed Fault → Type 0
  OwnGives r = Decides (read_in space line name ks) (at rows aggs) (answer (with_rows aggs) (and_then {B = Typed × Rows} r (λ y. Ok (y, rows))))

  -- only one variable has this name
  one_own : (slot : ℕ) (t : DType) → find space name rows ≡ Some slot → type_at rows slot ≡ Some t → (y : Slot) → IsVariable space name rows y → y ≡ record { space = space; slot = slot; holds = t }
  one_own slot t e known y h =
      let same : slot ≡ y.slot = some_is slot y.slot (sym e ∙ h.1) in
      let type_is : t ≡ y.holds = some_is t y.holds (sym known ∙ ap (type_at rows) same ∙ h.2) in
      let there : record { space = space; slot = slot; holds = t } ≡ y = rw (← h.0, same, type_is) refl in
      sym there

  own_load : (slot : ℕ) (o : Option DType) (same : Bool) → find space name rows ≡ Some slot → type_at rows slot ≡ o → keys_fit rows slot ks ≡ same → OwnGives (load space line slot o same ks)
  own_load slot None same e none k =
      lost _ _ _ _ (λ y h. let here : slot ≡ y.slot = some_is slot y.slot (sym e ∙ h.1) in let never = sym none ∙ ap (type_at rows) here ∙ h.2 in absurd cc)
  own_load slot (Some t) true e known k = got _ _ _ _ (record { space = space; slot = slot; holds = t }) (refl, e, known) (one_own slot t e known) _ (met _ _ _ _ (keys_are rows slot ks k) _ (given _ _))
  own_load slot (Some t) false e known k =
      got _ _ _ _ (record { space = space; slot = slot; holds = t }) (refl, e, known) (one_own slot t e known) _ (unmet _ _ _ _ (λ h. let never = sym (own_keys rows slot ks h) ∙ k in absurd cc))

  own_read : (o : Option ℕ) → find space name rows ≡ o → OwnGives (load_at space line rows o ks)
  own_read None e = lost _ _ _ _ (λ y h. let never = sym e ∙ h.1 in absurd cc)
  own_read (Some slot) e = own_load slot (type_at rows slot) (keys_fit rows slot ks) e refl refl

read_decided : (rows : Rows) (aggs : Aggs) (x : Variable) (ks : Typeds) → Decides (read x ks) (at rows aggs) (answer (with_rows aggs) (and_then {B = Typed × Rows} (read_variable rows x ks) (λ y. Ok (y, rows))))
read_decided rows aggs (v.Plain line name) ks = plain_read line name rows aggs _ ks refl
read_decided rows aggs (v.Thread line name) ks = own_read s.Thread line name rows aggs ks _ refl
read_decided rows aggs (v.Clause line name) ks = own_read s.Clause line name rows aggs ks _ refl

-- ---- variables that are assigned

fit_fails : {X : Type 0} (b : Bool) (x : X) (line : ℕ) (f : Fault) → ◌≡◌ {A = Result X Fault} (if b then Ok x else refuse cause.Keys line) (Err f) → type_fault_of f ≡ fault.Keys line
fit_fails true x line f h = absurd cc
fit_fails false x line f h = ap type_fault_of (sym (same_fault cause.Keys line f h))

slot_fails : (space : Space) (line : ℕ) (name : List ℕ) (rows : Rows) (t : Option DType) (ks : Typeds) (o : Option ℕ) (f : Fault) → slot_for space line name rows t ks o ≡ Err f → type_fault_of f ≡ fault.Keys line
slot_fails space line name rows t ks None f h = fit_fails (nat_le (count ks) (most_keys space)) _ line f h
slot_fails space line name rows t ks (Some slot) f h = fit_fails (keys_fit rows slot ks) _ line f h

plain_decided : (line : ℕ) (name : List ℕ) (rows : Rows) (aggs : Aggs) (t : Option DType) (o : Option BuiltIn) (ks : Typeds) → built_in name ≡ o
    → Decides (target (v.Plain line name) t ks) (at rows aggs) (answer (with_rows aggs) (plain_target line name o ks))
plain_decided line name rows aggs t None ks e = unmet _ _ _ _ (λ n. n e)
plain_decided line name rows aggs t (Some b) end e = met _ _ _ _ (λ none. let never = sym e ∙ none in absurd cc) _ (met _ _ _ _ refl _ (refuses _ _))
plain_decided line name rows aggs t (Some b) (more y rest) e = met _ _ _ _ (λ none. let never = sym e ∙ none in absurd cc) _ (unmet _ _ _ _ (λ never. absurd cc))

target_decided : (rows : Rows) (aggs : Aggs) (x : Variable) (t : Option DType) (ks : Typeds) → Decides (target x t ks) (at rows aggs) (answer (with_rows aggs) (targets.target rows x t ks))
target_decided rows aggs (v.Plain line name) t ks = plain_decided line name rows aggs t _ ks refl
target_decided rows aggs (v.Thread line name) t ks =
    of_rows rows aggs (fault.Keys line) _ (slot_fails s.Thread line name rows t ks _) (λ r slot last. IsTargetOf r (v.Thread line name) t ks slot last)
    (λ slot last h. targets_sound rows (v.Thread line name) t ks slot last h) (λ slot last h. targets_complete rows (v.Thread line name) t ks slot last h)
target_decided rows aggs (v.Clause line name) t ks =
    of_rows rows aggs (fault.Keys line) _ (slot_fails s.Clause line name rows t ks _) (λ r slot last. IsTargetOf r (v.Clause line name) t ks slot last)
    (λ slot last h. targets_sound rows (v.Clause line name) t ks slot last h) (λ slot last h. targets_complete rows (v.Clause line name) t ks slot last h)

stepped_decided : (rows : Rows) (aggs : Aggs) (line : ℕ) (by : Step) (way : Answer) (x : Variable) (ks : Typeds)
    → Decides (stepped line by way x ks) (at rows aggs) (answer (with_rows aggs) (step_rest rows line by way x ks))
stepped_decided rows aggs line by way x ks =
    follows _ _ (at rows aggs) (with_rows aggs) (with_rows aggs) (targets.target rows x (Some (Int INT64)) ks) _ (target_decided rows aggs x (Some (Int INT64)) ks)
    (λ q e. of_known q.1 aggs (fault.Mismatch line) _ (fitting_fails line _) (λ known. IsStep by way (space_of x) q.0 ks known.rows)
    (λ z last h. let f = fitted line q.1 _ z last h in (steps_sound by way (space_of x) _ q.0 ks q.1 z refl f.0, sym f.1))
    (λ z h. rw (steps_complete by way (space_of x) q.0 ks q.1 z h) refl))

-- ---- calls

call_decided : (line : ℕ) (name : List ℕ) (ks : Typeds) (rows : Rows) (aggs : Aggs) (o : Option Callee) → callee_named name ≡ o
    → Decides (needs (λ known. callee_named name ≢ None) (fault.Undeclared line) >> by_rule (IsCall name ks) (fault.Mismatch line)) (at rows aggs)
    (answer (with_rows aggs) (typed_call line o ks rows))
call_decided line name ks rows aggs None e = unmet _ _ _ _ (λ n. n e)
call_decided line name ks rows aggs (Some callee) e =
    met _ _ _ _ (λ none. let never = sym e ∙ none in absurd cc) _
    (fits_decided (IsCall name ks) line rows aggs (typing.call callee ks)
    (λ z h. (calls_sound line name (Some callee) ks rows z rows e (rw h refl)).0)
    (λ z h. let there : typed_call line (Some callee) ks rows ≡ Ok (z, rows) = subst (λ (c : Option Callee). typed_call line c ks rows ≡ Ok (z, rows)) e (calls_complete line name ks rows z h) in (fitted line rows (typing.call callee ks) z rows there).0))

-- ---- lists

abbrev List_after : (Typeds → Rows → Result (Typeds × Rows) Fault) → Type 0
List_after list = (done : Typeds) (rows : Rows) → list done rows ≡ and_then {B = Typeds × Rows} (list end rows) (λ k. Ok (after done k.0, k.1))

after_one : (done : Typeds) (x : Typed) (r : Result (Typeds × Rows) Fault) → and_then {B = Typeds × Rows} r (λ k. Ok (after (with_typed done x) k.0, k.1)) ≡ and_then {B = Typeds × Rows} (and_then {B = Typeds × Rows} r (λ k. Ok (more x k.0, k.1))) (λ k. Ok (after done k.0, k.1))
after_one done x (Ok k) = ap (λ (l : Typeds). Ok (l, k.1)) (after-add done x k.0)
after_one done x (Err f) = refl

-- a list after what is done is that list, after what is done
rest_after : (list : Typeds → Rows → Result (Typeds × Rows) Fault) → List_after list → (done : Typeds) (r : Result (Typed × Rows) Fault)
    → and_then r (λ x. list (with_typed done x.0) x.1) ≡ and_then {B = Typeds × Rows} (and_then r (λ x. list (with_typed end x.0) x.1)) (λ k. Ok (after done k.0, k.1))
rest_after list is done (Ok x) = is (with_typed done x.0) x.1 ∙ after_one done x.0 (list end x.1) ∙ ap (λ (e : Result (Typeds × Rows) Fault). and_then {B = Typeds × Rows} e (λ k. Ok (after done k.0, k.1))) (sym (is (more x.0 end) x.1))
rest_after list is done (Err f) = refl

rest_more : (list : Typeds → Rows → Result (Typeds × Rows) Fault) → List_after list → (r : Result (Typed × Rows) Fault)
    → and_then r (λ x. list (with_typed end x.0) x.1) ≡ and_then r (λ x. and_then {B = Typeds × Rows} (list end x.1) (λ k. Ok (more x.0 k.0, k.1)))
rest_more list is (Ok x) = is (more x.0 end) x.1
rest_more list is (Err f) = refl

exprs_after : (ts : Trees) → List_after (λ done rows. exprs done rows ts)
exprs_after tree.end done rows = ap (λ (l : Typeds). Ok (l, rows)) (sym (after-end done))
exprs_after (tree.more a rest) done rows = rest_after (λ d r. exprs d r rest) (exprs_after rest) done (expr rows a)

wholes_after : (ts : Trees) → List_after (λ done rows. walk.wholes done rows ts)
wholes_after tree.end done rows = ap (λ (l : Typeds). Ok (l, rows)) (sym (after-end done))
wholes_after (tree.more a rest) done rows = rest_after (λ d r. walk.wholes d r rest) (wholes_after rest) done (typing.whole rows a)

-- ---- expressions

mutual
  pub expression_decided : (t : Tree) (rows : Rows) (aggs : Aggs) → Decides (expression t) (at rows aggs) (answer (with_rows aggs) (expr rows t))
  expression_decided (tree.Known line c) rows aggs = given (constant c) (at rows aggs)
  expression_decided (tree.Read x keys) rows aggs =
      follows _ _ (at rows aggs) (with_rows aggs) (with_rows aggs) (exprs end rows keys) _ (expressions_decided keys rows aggs) (λ k e. read_decided k.1 aggs x k.0)
  expression_decided (tree.Call line name args) rows aggs =
      follows _ _ (at rows aggs) (with_rows aggs) (with_rows aggs) (exprs end rows args) _ (expressions_decided args rows aggs) (λ k e. call_decided line name k.0 k.1 aggs _ refl)
  expression_decided (tree.Unary line op a) rows aggs =
      follows _ _ (at rows aggs) (with_rows aggs) (with_rows aggs) (expr rows a) _ (expression_decided a rows aggs)
      (λ x e. fits_decided _ line x.1 aggs (unary op (type_of x.0) x.0) (λ z h. unary_sound op _ x.0 z refl h) (λ z h. rw (h.1, h.2) refl))
  expression_decided (tree.Cast line to a) rows aggs =
      follows _ _ (at rows aggs) (with_rows aggs) (with_rows aggs) (expr rows a) _ (expression_decided a rows aggs)
      (λ x e. fits_decided _ line x.1 aggs (as_type (type_of x.0) (Int (int_type to)) x.0) (λ z h. cast_sound (int_type to) _ x.0 z refl h) (λ z h. rw (h.1, h.2) refl))
  expression_decided (tree.Before line by x keys) rows aggs =
      follows _ _ (at rows aggs) (with_rows aggs) (with_rows aggs) (exprs end rows keys) _ (expressions_decided keys rows aggs) (λ k e. stepped_decided k.1 aggs line by w.New x k.0)
  expression_decided (tree.After x keys by) rows aggs =
      follows _ _ (at rows aggs) (with_rows aggs) (with_rows aggs) (exprs end rows keys) _ (expressions_decided keys rows aggs)
      (λ k e. stepped_decided k.1 aggs (line_of_variable x) by w.Old x k.0)
  expression_decided (tree.Binary op a b) rows aggs =
      follows _ _ (at rows aggs) (with_rows aggs) (with_rows aggs) (expr rows a) _ (expression_decided a rows aggs)
      (λ x e. follows _ _ (at x.1 aggs) (with_rows aggs) (with_rows aggs) (expr x.1 b) _ (expression_decided b x.1 aggs)
      (λ y f. fits_decided (IsOperation op x.0 y.0) (line_of a) y.1 aggs (binary op (type_of x.0) (type_of y.0) x.0 y.0)
      (λ z h. joins_sound op _ _ x.0 y.0 z refl refl h) (λ z h. joins_complete op x.0 y.0 z h)))
  expression_decided (tree.Choice c a b) rows aggs =
      follows _ _ (at rows aggs) (with_rows aggs) (with_rows aggs) (expr rows c) _ (expression_decided c rows aggs)
      (λ x e. follows _ _ (at x.1 aggs) (with_rows aggs) (with_rows aggs) (expr x.1 a) _ (expression_decided a x.1 aggs)
      (λ y f. follows _ _ (at y.1 aggs) (with_rows aggs) (with_rows aggs) (expr y.1 b) _ (expression_decided b y.1 aggs)
      (λ u g. fits_decided (IsChoice x.0 y.0 u.0) (line_of c) u.1 aggs (choice (type_of x.0) (type_of y.0) (type_of u.0) x.0 y.0 u.0)
      (λ z h. chooses_sound _ _ _ x.0 y.0 u.0 z refl refl refl h) (λ z h. chooses_complete x.0 y.0 u.0 z h))))
  expression_decided (tree.Assign op x keys a) rows aggs =
      follows _ _ (at rows aggs) (with_rows aggs) (with_rows aggs) (exprs end rows keys) _ (expressions_decided keys rows aggs)
      (λ k e. follows _ _ (at k.1 aggs) (with_rows aggs) (with_rows aggs) (targets.target k.1 x (type_at_once op) k.0) _ (target_decided k.1 aggs x (type_at_once op) k.0)
      (λ q f. follows _ _ (at q.1 aggs) (with_rows aggs) (with_rows aggs) (expr q.1 a) _ (expression_decided a q.1 aggs)
      (λ y g. of_rows y.1 aggs (fault.Mismatch (line_of_variable x)) _ (fitting_fails (line_of_variable x) _) (λ r z last. IsAssignment op (space_of x) q.0 k.0 y.0 r z last)
      (λ z last h. stores_sound op (space_of x) _ _ q.0 k.0 y.0 y.1 z last refl refl (fitted_pair (line_of_variable x) _ z last h))
      (λ z last h. rw (stores_complete op (space_of x) q.0 k.0 y.0 y.1 z last h) refl))))

  pub expressions_decided : (ts : Trees) (rows : Rows) (aggs : Aggs) → Decides (expressions ts) (at rows aggs) (answer (with_rows aggs) (exprs end rows ts))
  expressions_decided tree.end rows aggs = given end (at rows aggs)
  expressions_decided (tree.more a rest) rows aggs =
      subst (λ (r : Result (Typeds × Rows) Fault). Decides (expressions (tree.more a rest)) (at rows aggs) (answer (with_rows aggs) r)) (sym (rest_more (λ d r. exprs d r rest) (exprs_after rest) (expr rows a)))
      (follows _ _ (at rows aggs) (with_rows aggs) (with_rows aggs) (expr rows a) _ (expression_decided a rows aggs)
      (λ x e. follows _ _ (at x.1 aggs) (with_rows aggs) (with_rows aggs) (exprs end x.1 rest) _ (expressions_decided rest x.1 aggs)
      (λ k f. given (more x.0 k.0) (at k.1 aggs))))

-- ---- whole expressions

pub small_enough : (n : ℕ) → nat_le n 6 ≡ true → n ≤ 6
small_enough n h = grind (arith, nat_tests, h)

pub is_small : (n : ℕ) → n ≤ 6 → nat_le n 6 ≡ true
is_small n h = grind (arith, nat_tests, h)

pub whole_decided : (t : Tree) (rows : Rows) (aggs : Aggs) → Decides (whole t) (at rows aggs) (answer (with_rows aggs) (typing.whole rows t))
whole_decided t rows aggs =
    follows _ _ (at rows aggs) (with_rows aggs) (with_rows aggs) (expr rows t) _ (expression_decided t rows aggs)
    (λ x e. tested _ _ _ _ (nat_le (need x.0) 6) (record { cause = cause.NoRegister; line = line_of t }) (with_rows aggs) (Ok x) refl
    (small_enough (need x.0)) (is_small (need x.0)) (λ b. given x.0 (at x.1 aggs)))

pub wholes_decided : (ts : Trees) (rows : Rows) (aggs : Aggs) → Decides (wholes ts) (at rows aggs) (answer (with_rows aggs) (walk.wholes end rows ts))
wholes_decided tree.end rows aggs = given end (at rows aggs)
wholes_decided (tree.more a rest) rows aggs =
    subst (λ (r : Result (Typeds × Rows) Fault). Decides (wholes (tree.more a rest)) (at rows aggs) (answer (with_rows aggs) r)) (sym (rest_more (λ d r. walk.wholes d r rest) (wholes_after rest) (typing.whole rows a)))
    (follows _ _ (at rows aggs) (with_rows aggs) (with_rows aggs) (typing.whole rows a) _ (whole_decided a rows aggs)
    (λ x e. follows _ _ (at x.1 aggs) (with_rows aggs) (with_rows aggs) (walk.wholes end x.1 rest) _ (wholes_decided rest x.1 aggs)
    (λ k f. given (more x.0 k.0) (at k.1 aggs))))
