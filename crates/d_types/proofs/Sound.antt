-- What the recursion gives is well typed.
use Rattle.std.proofs.Common.{◌≡◌, ℕ, inl, inr, List, Bool, true, false, Option, Some, None, Result}
use Rattle.std.proofs.Common.{Ok, Err, refl, sym, ap, ◌∙◌, subst, if◌then◌else◌}
use Rattle.d_parser.specs.declared.operators.Step.{Step}
use Rattle.d_parser.specs.declared.operators.UnaryOperator.{UnaryOperator}
use Rattle.d_parser.specs.declared.tree.Variable.{Variable}
use Rattle.d_parser.specs.declared.tree.Variable.TheVariants as v
use Rattle.d_parser.specs.Tree as tree
use Rattle.d_parser.specs.Tree.{Tree, Trees}
use Rattle.d_values.specs.declared.int_type.IntType.{IntType}
use Rattle.d_values.specs.declared.int_type.DType.{DType}
use Rattle.d_values.specs.declared.int_type.DType.TheVariants.{Int, Text}
use Rattle.d_values.specs.Types.{INT64, promoted_of}
use Rattle.d_types.specs.declared.typed.Answer.{Answer}
use Rattle.d_types.specs.declared.typed.Answer.TheVariants as w
use Rattle.d_types.specs.declared.typed.BuiltIn.{BuiltIn}
use Rattle.d_types.specs.declared.typed.Space.{Space}
use Rattle.d_types.specs.declared.typed.Space.TheVariants as s
use Rattle.d_parser.specs.declared.operators.BinaryOperator.{BinaryOperator}
use Rattle.d_parser.specs.declared.operators.BinaryOperator.TheVariants as bs
use Rattle.d_parser.specs.declared.operators.AssignOperator.{AssignOperator}
use Rattle.d_parser.specs.declared.operators.AssignOperator.TheVariants as sg
use Rattle.d_types.specs.declared.words.Callee.{Callee}
use Rattle.d_types.specs.declared.words.Callee.TheVariants as f
use Rattle.d_types.specs.Steps.Faults.{◌>>=◌, Fault, Cause, refuse, unless}
use Rattle.d_types.specs.Constants.{int_type}
use Rattle.d_types.specs.Words.{callee_named}
use Rattle.d_types.specs.Typed as typed
use Rattle.d_types.specs.Typed.{Typed, Typeds, end, more, type_of}
use Rattle.d_types.specs.Steps.Typing.{with_typed}
use Rattle.d_types.specs.Variables.{Rows, find, type_at}
use Rattle.d_types.specs.Steps.Variables.{keys_fit}
use Rattle.d_types.proofs.Tables.{keys_are}
use Rattle.d_types.specs.Operators.{conversion_node}
use Rattle.d_types.specs.Steps.Operators.{unary, binary}
use Rattle.d_types.specs.Steps.Operators.{choice, as_type}
use Rattle.d_types.specs.Lines.{line_of_variable}
use Rattle.d_types.specs.Targets.{settle_slot, space_of, type_at_once}
use Rattle.d_types.specs.Steps.Targets.{plain}
use Rattle.d_types.specs.Steps.Targets.{load, load_at, read_variable, plain_target, slot_for}
use Rattle.d_types.specs.Steps.Targets.{target}
use Rattle.d_types.specs.Steps.Targets.{store}
use Rattle.d_types.specs.Steps.Targets.{store_node, assignment, step}
use Rattle.d_types.specs.Lines.{line_of}
use Rattle.d_types.specs.Steps.Typing.{strlen, strjoin, call, typed_call, beside, fitting}
use Rattle.d_types.specs.Steps.Typing.{step_rest, expr, exprs}
use Rattle.d_types.proofs.WellTyped.{IsLoad, IsRead, IsTargetOf, Types, AllTypes}
use Rattle.d_types.specs.Rules.{IsInteger, HasTextType, IsOperation, IsChoice}
use Rattle.d_types.specs.Rules.{IsSlotOf, IsConverted, IsAssignment, IsStep, IsCall}
use Rattle.d_types.proofs.Complete.{after, after-add, after-end}

pub bound : {A B : Type 0} (r : Result A Fault) (go : A → Result B Fault) (y : B) → (r >>= go) ≡ Ok y → (x : A) × (r ≡ Ok x) × (go x ≡ Ok y)
bound (Err e) go y h = cc
bound (Ok x) go y h = (x, refl, h)

pub within : {A : Type 0} (cause : Cause) (line : ℕ) (b : Bool) (x y : A) → ◌≡◌ {A = Result A Fault} (if b then Ok x else refuse cause line) (Ok y) → (b ≡ true) × (x ≡ y)
within cause line false x y h = cc
within cause line true x y h = (refl, cc)

pub is_some_of : {A : Type 0} (cause : Cause) (line : ℕ) (o : Option A) (x : A) → unless cause line o ≡ Ok x → o ≡ Some x
is_some_of cause line None x h = cc
is_some_of cause line (Some y) x h = cc

pub some_is : {A : Type 0} (x y : A) → Some x ≡ Some y → x ≡ y
some_is x y e = cc

pub fitted : (line : ℕ) (rows : Rows) (o : Option Typed) (z : Typed) (last : Rows) → fitting line (beside rows o) ≡ Ok (z, last) → (o ≡ Some z) × (rows ≡ last)
fitted line rows None z last h = cc
fitted line rows (Some x) z last h =
    let same : (x, rows) ≡ (z, last) = cc in
    (ap (λ (p : Typed × Rows). Some p.0) same, ap (λ (p : Typed × Rows). p.1) same)

pub fitted_pair : (line : ℕ) (o : Option (Typed × Rows)) (z : Typed) (last : Rows) → fitting line o ≡ Ok (z, last) → o ≡ Some (z, last)
fitted_pair line None z last h = cc
fitted_pair line (Some x) z last h = cc

kept : (rows : Rows) (y z : Typed) (last : Rows) → ◌≡◌ {A = Result (Typed × Rows) Fault} (Ok (y, rows)) (Ok (z, last)) → (y ≡ z) × (rows ≡ last)
kept rows y z last h = let f = fitted 0 rows (Some y) z last h in (some_is _ _ f.0, f.1)

-- ---- operators

pub unary_sound : (op : UnaryOperator) (k : DType) (x z : Typed) → type_of x ≡ k → unary op k x ≡ Some z →
    (t : IntType) × IsInteger x t × (z ≡ typed.Unary op (promoted_of t) (conversion_node t (promoted_of t) x))
unary_sound op (Int t) x z p e = (t, p, sym (some_is _ _ e))
unary_sound op Text x z p e = cc

pub cast_sound : (to : IntType) (k : DType) (x z : Typed) → type_of x ≡ k → as_type k (Int to) x ≡ Some z →
    (t : IntType) × IsInteger x t × (z ≡ conversion_node t to x)
cast_sound to (Int t) x z p e = (t, p, sym (some_is _ _ e))
cast_sound to Text x z p e = cc

pub joins_sound : (sort : BinaryOperator) (k l : DType) (x y z : Typed) → type_of x ≡ k → type_of y ≡ l → binary sort k l x y ≡ Some z → IsOperation sort x y z
joins_sound (bs.Arithmetic op) (Int t) (Int u) x y z p q e = (t, u, p, q, sym (some_is _ _ e))
joins_sound (bs.Arithmetic op) Text l x y z p q e = cc
joins_sound (bs.Arithmetic op) (Int t) Text x y z p q e = cc
joins_sound (bs.Shift op) (Int t) (Int u) x y z p q e = (t, u, p, q, sym (some_is _ _ e))
joins_sound (bs.Shift op) Text l x y z p q e = cc
joins_sound (bs.Shift op) (Int t) Text x y z p q e = cc
joins_sound (bs.Compare op) (Int t) (Int u) x y z p q e = inl (t, u, p, q, sym (some_is _ _ e))
joins_sound (bs.Compare op) Text Text x y z p q e = inr (p, q, sym (some_is _ _ e))
joins_sound (bs.Compare op) Text (Int u) x y z p q e = cc
joins_sound (bs.Compare op) (Int t) Text x y z p q e = cc
joins_sound (bs.Logic op) (Int t) (Int u) x y z p q e = (t, u, p, q, sym (some_is _ _ e))
joins_sound (bs.Logic op) Text l x y z p q e = cc
joins_sound (bs.Logic op) (Int t) Text x y z p q e = cc

pub chooses_sound : (k l m : DType) (x y u z : Typed) → type_of x ≡ k → type_of y ≡ l → type_of u ≡ m → choice k l m x y u ≡ Some z → IsChoice x y u z
chooses_sound (Int c) (Int t) (Int n) x y u z p q r e = inl (c, t, n, p, q, r, sym (some_is _ _ e))
chooses_sound (Int c) Text Text x y u z p q r e = inr (c, p, q, r, sym (some_is _ _ e))
chooses_sound Text l m x y u z p q r e = cc
chooses_sound (Int c) (Int t) Text x y u z p q r e = cc
chooses_sound (Int c) Text (Int n) x y u z p q r e = cc

-- ---- variables

loaded : (space : Space) (line slot : ℕ) (o : Option DType) (same : Bool) (ks : Typeds) (z : Typed) → load space line slot o same ks ≡ Ok z →
    (t : DType) × (o ≡ Some t) × (same ≡ true) × (z ≡ typed.Read (record { space = space; slot = slot; holds = t }) ks)
loaded space line slot None same ks z h = cc
loaded space line slot (Some t) false ks z h = cc
loaded space line slot (Some t) true ks z h = (t, refl, refl, cc)

found : (space : Space) (line : ℕ) (rows : Rows) (o : Option ℕ) (ks : Typeds) (z : Typed) → load_at space line rows o ks ≡ Ok z →
    (slot : ℕ) × (o ≡ Some slot) × (load space line slot (type_at rows slot) (keys_fit rows slot ks) ks ≡ Ok z)
found space line rows None ks z h = cc
found space line rows (Some slot) ks z h = (slot, refl, h)

loads_sound : (space : Space) (line : ℕ) (name : List ℕ) (rows : Rows) (ks : Typeds) (z : Typed) →
    load_at space line rows (find space name rows) ks ≡ Ok z → IsLoad space name rows ks z
loads_sound space line name rows ks z h =
    let p = found space line rows _ ks z h in
    let q = loaded space line p.0 _ _ ks z p.2 in
    (p.0, q.0, p.1, q.1, keys_are rows p.0 ks q.2, q.3)

plain_sound : (line : ℕ) (o : Option BuiltIn) (ks : Typeds) (z : Typed) → plain line o ks ≡ Ok z →
    (b : BuiltIn) × (o ≡ Some b) × (ks ≡ end) × (z ≡ typed.Fixed b)
plain_sound line None ks z h = cc
plain_sound line (Some b) end z h = (b, refl, refl, cc)
plain_sound line (Some b) (more x rest) z h = cc

pub reads_sound : (rows : Rows) (x : Variable) (ks : Typeds) (z : Typed) → read_variable rows x ks ≡ Ok z → IsRead rows x ks z
reads_sound rows (v.Plain line name) ks z h = plain_sound line _ ks z h
reads_sound rows (v.Thread line name) ks z h = loads_sound s.Thread line name rows ks z h
reads_sound rows (v.Clause line name) ks z h = loads_sound s.Clause line name rows ks z h

pair_is : (a b : ℕ) (m n : Rows) → ◌≡◌ {A = Result (ℕ × Rows) Fault} (Ok (a, m)) (Ok (b, n)) → (b ≡ a) × (n ≡ m)
pair_is a b m n h =
    let same : (a, m) ≡ (b, n) = cc in
    (sym (ap (λ (p : ℕ × Rows). p.0) same), sym (ap (λ (p : ℕ × Rows). p.1) same))

allowed : (line : ℕ) (cause : Cause) (b : Bool) (a slot : ℕ) (m last : Rows) →
    ◌≡◌ {A = Result (ℕ × Rows) Fault} (if b then Ok (a, m) else refuse cause line) (Ok (slot, last)) → (b ≡ true) × (slot ≡ a) × (last ≡ m)
allowed line cause false a slot m last h = cc
allowed line cause true a slot m last h = let p = pair_is a slot m last h in (refl, p.0, p.1)

indices_sound_at : (space : Space) (line : ℕ) (name : List ℕ) (rows : Rows) (t : Option DType) (ks : Typeds) (o : Option ℕ) (slot : ℕ) (last : Rows) →
    find space name rows ≡ o → slot_for space line name rows t ks o ≡ Ok (slot, last) → IsSlotOf space name t ks rows slot last
indices_sound_at space line name rows t ks None slot last p h =
    let q = allowed line _ _ _ slot _ last h in
    inl (p, q.0, q.1, q.2)
indices_sound_at space line name rows t ks (Some n) slot last p h =
    let q = allowed line _ _ _ slot _ last h in
    inr (p ∙ ap (λ k. Some k) (sym q.1), keys_are rows slot ks (ap (λ k. keys_fit rows k ks) q.1 ∙ q.0), q.2 ∙ ap (λ k. settle_slot (type_at rows k) k t rows) (sym q.1))

not_plain : (line : ℕ) (name : List ℕ) (o : Option BuiltIn) (ks : Typeds) (slot : ℕ) (last : Rows) → plain_target line name o ks ≡ Ok (slot, last) → ⊥
not_plain line name None ks slot last h = cc
not_plain line name (Some b) end slot last h = cc
not_plain line name (Some b) (more x rest) slot last h = cc

pub targets_sound : (rows : Rows) (x : Variable) (t : Option DType) (ks : Typeds) (slot : ℕ) (last : Rows) →
    target rows x t ks ≡ Ok (slot, last) → IsTargetOf rows x t ks slot last
targets_sound rows (v.Plain line name) t ks slot last h = not_plain line name _ ks slot last h
targets_sound rows (v.Thread line name) t ks slot last h = indices_sound_at s.Thread line name rows t ks _ slot last refl h
targets_sound rows (v.Clause line name) t ks slot last h = indices_sound_at s.Clause line name rows t ks _ slot last refl h

two : (a b : Typed) (m n : Rows) → ◌≡◌ {A = Option (Typed × Rows)} (Some (a, m)) (Some (b, n)) → (b ≡ a) × (n ≡ m)
two a b m n h =
    let same : (a, m) ≡ (b, n) = some_is _ _ h in
    (sym (ap (λ (p : Typed × Rows). p.0) same), sym (ap (λ (p : Typed × Rows). p.1) same))

fits_sound : (x : Typed) (k t : DType) (y : Typed) → type_of x ≡ k → as_type k t x ≡ Some y → IsConverted x t y
fits_sound x (Int t) (Int u) y p e = (t, p, sym (some_is _ _ e))
fits_sound x Text Text y p e = (p, sym (some_is _ _ e))
fits_sound x (Int t) Text y p e = cc
fits_sound x Text (Int u) y p e = cc

stored_sound : (space : Space) (slot : ℕ) (t : DType) (ks : Typeds) (rows : Rows) (o : Option Typed) (z : Typed) (last : Rows) →
    store_node space slot t ks rows o ≡ Some (z, last) →
    (y : Typed) × (o ≡ Some y) × (z ≡ typed.Assign (record { space = space; slot = slot; holds = t }) ks y) × (last ≡ rows)
stored_sound space slot t ks rows None z last h = cc
stored_sound space slot t ks rows (Some y) z last h = let p = two _ z rows last h in (y, refl, p.0, p.1)

set_sound : (space : Space) (o : Option DType) (slot : ℕ) (ks : Typeds) (x : Typed) (rows : Rows) (z : Typed) (last : Rows) →
    type_at rows slot ≡ o → store space o slot ks x rows ≡ Some (z, last) → IsAssignment sg.Set space slot ks x rows z last
set_sound space None slot ks x rows z last p h = let q = two _ z _ last h in inl (p, q.0, q.1)
set_sound space (Some t) slot ks x rows z last p h =
    let q = stored_sound space slot t ks rows (as_type (type_of x) t x) z last h in
    inr (t, q.0, p, fits_sound x _ t q.0 refl q.1, q.2, q.3)

pub stores_sound : (sort : AssignOperator) (space : Space) (o : Option DType) (k : DType) (slot : ℕ) (ks : Typeds) (x : Typed) (rows : Rows) (z : Typed) (last : Rows) →
    type_at rows slot ≡ o → type_of x ≡ k → assignment sort space o k slot ks x rows ≡ Some (z, last) → IsAssignment sort space slot ks x rows z last
stores_sound sg.Set space o k slot ks x rows z last p q h = set_sound space o slot ks x rows z last p h
stores_sound (sg.Arithmetic op) space (Some (Int t)) (Int u) slot ks x rows z last p q h = let r = two _ z rows last h in (t, u, p, q, r.0, r.1)
stores_sound (sg.Arithmetic op) space None k slot ks x rows z last p q h = cc
stores_sound (sg.Arithmetic op) space (Some Text) k slot ks x rows z last p q h = cc
stores_sound (sg.Arithmetic op) space (Some (Int t)) Text slot ks x rows z last p q h = cc
stores_sound (sg.Shift op) space (Some (Int t)) (Int u) slot ks x rows z last p q h = let r = two _ z rows last h in (t, u, p, q, r.0, r.1)
stores_sound (sg.Shift op) space None k slot ks x rows z last p q h = cc
stores_sound (sg.Shift op) space (Some Text) k slot ks x rows z last p q h = cc
stores_sound (sg.Shift op) space (Some (Int t)) Text slot ks x rows z last p q h = cc

pub steps_sound : (by : Step) (answer : Answer) (space : Space) (o : Option DType) (slot : ℕ) (ks : Typeds) (rows : Rows) (z : Typed) →
    type_at rows slot ≡ o → step by answer space o slot ks ≡ Some z → IsStep by answer space slot ks rows z
steps_sound by answer space (Some (Int t)) slot ks rows z p h = (t, p, sym (some_is _ _ h))
steps_sound by answer space (Some Text) slot ks rows z p h = cc
steps_sound by answer space None slot ks rows z p h = cc

-- ---- calls

lengths_sound : (k : DType) (x z : Typed) → type_of x ≡ k → strlen k x ≡ Some z → HasTextType x × (z ≡ typed.Strlen x)
lengths_sound Text x z p e = (p, sym (some_is _ _ e))
lengths_sound (Int t) x z p e = cc

strjoin_sound : (k l : DType) (x y z : Typed) → type_of x ≡ k → type_of y ≡ l → strjoin k l x y ≡ Some z → HasTextType x × HasTextType y × (z ≡ typed.Strjoin x y)
strjoin_sound Text Text x y z p q e = (p, q, sym (some_is _ _ e))
strjoin_sound (Int t) l x y z p q e = cc
strjoin_sound Text (Int u) x y z p q e = cc

call_sound : (callee : Callee) (name : List ℕ) (ks : Typeds) (z : Typed) → callee_named name ≡ Some callee → call callee ks ≡ Some z → IsCall name ks z
call_sound f.Strlen name end z p h = cc
call_sound f.Strlen name (more x end) z p h = let q = lengths_sound _ x z refl h in inl (x, p, refl, q.0, q.1)
call_sound f.Strlen name (more x (more y rest)) z p h = cc
call_sound f.Strjoin name end z p h = cc
call_sound f.Strjoin name (more x end) z p h = cc
call_sound f.Strjoin name (more x (more y end)) z p h = let q = strjoin_sound _ _ x y z refl refl h in inr (x, y, p, refl, q.0, q.1, q.2)
call_sound f.Strjoin name (more x (more y (more u rest))) z p h = cc
call_sound f.Trace name ks z p h = cc
call_sound f.Printf name ks z p h = cc
call_sound f.Exit name ks z p h = cc

pub calls_sound : (line : ℕ) (name : List ℕ) (o : Option Callee) (ks : Typeds) (rows : Rows) (z : Typed) (last : Rows) →
    callee_named name ≡ o → typed_call line o ks rows ≡ Ok (z, last) → IsCall name ks z × (rows ≡ last)
calls_sound line name None ks rows z last p h = cc
calls_sound line name (Some callee) ks rows z last p h =
    let q = fitted line rows (call callee ks) z last h in
    (call_sound callee name ks z p q.0, q.1)

-- ---- expressions

alone : (rows : Rows) (ts : Trees) (ks : Typeds) (last : Rows) → ((new : Typeds) × AllTypes rows ts new last × (ks ≡ after end new)) → AllTypes rows ts ks last
alone rows ts ks last r = subst (λ (l : Typeds). AllTypes rows ts l last) (sym r.2) r.1

step_sound : (rows : Rows) (line : ℕ) (by : Step) (answer : Answer) (x : Variable) (ks : Typeds) (z : Typed) (last : Rows) →
    step_rest rows line by answer x ks ≡ Ok (z, last) →
    (slot : ℕ) × IsTargetOf rows x (Some (Int INT64)) ks slot last × IsStep by answer (space_of x) slot ks last z
step_sound rows line by answer x ks z last h =
    let q = bound (target rows x (Some (Int INT64)) ks) _ _ h in
    let r = fitted line q.0.1 (step by answer (space_of x) (type_at q.0.1 q.0.0) q.0.0 ks) z last q.2 in (
      q.0.0,
      subst (λ (m : Rows). IsTargetOf rows x (Some (Int INT64)) ks q.0.0 m) r.1 (targets_sound rows x _ ks q.0.0 q.0.1 q.1),
      subst (λ (m : Rows). IsStep by answer (space_of x) q.0.0 ks m z) r.1 (steps_sound by answer (space_of x) _ q.0.0 ks q.0.1 z refl r.0),
    )

mutual
  pub sound : (rows : Rows) (t : Tree) (z : Typed) (last : Rows) → expr rows t ≡ Ok (z, last) → Types rows t z last
  sound rows (tree.Known line c) z last h = let f = kept rows _ z last h in (sym f.0, sym f.1)
  sound rows (tree.Read x keys) z last h =
      let p = bound (exprs end rows keys) _ _ h in
      let q = bound (read_variable p.0.1 x p.0.0) _ _ p.2 in
      let f = kept p.0.1 q.0 z last q.2 in (
        p.0.0,
        subst (AllTypes rows keys p.0.0) f.1 (alone rows keys p.0.0 p.0.1 (all_sound end rows keys p.0.0 p.0.1 p.1)),
        subst (λ (r : Rows). IsRead r x p.0.0 z) f.1 (reads_sound p.0.1 x p.0.0 z (q.1 ∙ ap (λ (y : Typed). Ok y) f.0)),
      )
  sound rows (tree.Call line name args) z last h =
      let p = bound (exprs end rows args) _ _ h in
      let c = calls_sound line name _ p.0.0 p.0.1 z last refl p.2 in
      (p.0.0, subst (AllTypes rows args p.0.0) c.1 (alone rows args p.0.0 p.0.1 (all_sound end rows args p.0.0 p.0.1 p.1)), c.0)
  sound rows (tree.Unary line op a) z last h =
      let p = bound (expr rows a) _ _ h in
      let f = fitted line p.0.1 (unary op (type_of p.0.0) p.0.0) z last p.2 in
      let u = unary_sound op _ p.0.0 z refl f.0 in
      (p.0.0, u.0, subst (Types rows a p.0.0) f.1 (sound rows a p.0.0 p.0.1 p.1), u.1, u.2)
  sound rows (tree.Cast line to a) z last h =
      let p = bound (expr rows a) _ _ h in
      let f = fitted line p.0.1 (as_type (type_of p.0.0) (Int (int_type to)) p.0.0) z last p.2 in
      let u = cast_sound (int_type to) _ p.0.0 z refl f.0 in
      (p.0.0, u.0, subst (Types rows a p.0.0) f.1 (sound rows a p.0.0 p.0.1 p.1), u.1, u.2)
  sound rows (tree.Before line by x keys) z last h =
      let p = bound (exprs end rows keys) _ _ h in
      let q = step_sound p.0.1 line by w.New x p.0.0 z last p.2 in
      (p.0.0, q.0, p.0.1, alone rows keys p.0.0 p.0.1 (all_sound end rows keys p.0.0 p.0.1 p.1), q.1, q.2)
  sound rows (tree.After x keys by) z last h =
      let p = bound (exprs end rows keys) _ _ h in
      let q = step_sound p.0.1 (line_of_variable x) by w.Old x p.0.0 z last p.2 in
      (p.0.0, q.0, p.0.1, alone rows keys p.0.0 p.0.1 (all_sound end rows keys p.0.0 p.0.1 p.1), q.1, q.2)
  sound rows (tree.Binary op a b) z last h =
      let p = bound (expr rows a) _ _ h in
      let q = bound (expr p.0.1 b) _ _ p.2 in
      let f = fitted (line_of a) q.0.1 (binary op (type_of p.0.0) (type_of q.0.0) p.0.0 q.0.0) z last q.2 in (
        p.0.0,
        q.0.0,
        p.0.1,
        sound rows a p.0.0 p.0.1 p.1,
        subst (Types p.0.1 b q.0.0) f.1 (sound p.0.1 b q.0.0 q.0.1 q.1),
        joins_sound op _ _ p.0.0 q.0.0 z refl refl f.0,
      )
  sound rows (tree.Choice c a b) z last h =
      let p = bound (expr rows c) _ _ h in
      let q = bound (expr p.0.1 a) _ _ p.2 in
      let r = bound (expr q.0.1 b) _ _ q.2 in
      let f = fitted (line_of c) r.0.1 (choice (type_of p.0.0) (type_of q.0.0) (type_of r.0.0) p.0.0 q.0.0 r.0.0) z last r.2 in (
        p.0.0,
        q.0.0,
        r.0.0,
        p.0.1,
        q.0.1,
        sound rows c p.0.0 p.0.1 p.1,
        sound p.0.1 a q.0.0 q.0.1 q.1,
        subst (Types q.0.1 b r.0.0) f.1 (sound q.0.1 b r.0.0 r.0.1 r.1),
        chooses_sound _ _ _ p.0.0 q.0.0 r.0.0 z refl refl refl f.0,
      )
  sound rows (tree.Assign op x keys a) z last h =
      let p = bound (exprs end rows keys) _ _ h in
      let q = bound (target p.0.1 x (type_at_once op) p.0.0) _ _ p.2 in
      let r = bound (expr q.0.1 a) _ _ q.2 in (
        p.0.0,
        r.0.0,
        q.0.0,
        p.0.1,
        q.0.1,
        r.0.1,
        alone rows keys p.0.0 p.0.1 (all_sound end rows keys p.0.0 p.0.1 p.1),
        targets_sound p.0.1 x _ p.0.0 q.0.0 q.0.1 q.1,
        sound q.0.1 a r.0.0 r.0.1 r.1,
        stores_sound op (space_of x) _ _ q.0.0 p.0.0 r.0.0 r.0.1 z last refl refl
            (fitted_pair (line_of_variable x) (assignment op (space_of x) (type_at r.0.1 q.0.0) (type_of r.0.0) q.0.0 p.0.0 r.0.0 r.0.1) z last r.2),
      )

  all_sound : (done : Typeds) (rows : Rows) (ts : Trees) (ks : Typeds) (last : Rows) → exprs done rows ts ≡ Ok (ks, last) →
      (new : Typeds) × AllTypes rows ts new last × (ks ≡ after done new)
  all_sound done rows tree.end ks last h =
      let same : (done, rows) ≡ (ks, last) = cc in
      (end, (refl, sym (ap (λ (p : Typeds × Rows). p.1) same)), sym (ap (λ (p : Typeds × Rows). p.0) same) ∙ sym (after-end done))
  all_sound done rows (tree.more a rest) ks last h =
      let p = bound (expr rows a) _ _ h in
      let r = all_sound (with_typed done p.0.0) p.0.1 rest ks last p.2 in
      (more p.0.0 r.0, (p.0.0, r.0, p.0.1, sound rows a p.0.0 p.0.1 p.1, r.1, refl), r.2 ∙ after-add done p.0.0 r.0)
