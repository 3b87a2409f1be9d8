-- A valid object is never stuck.
use Rattle.std.specs.Prelude.{◌≡◌, ◌≢◌, ◌<◌, ℕ, zero, suc, ◌+◌, ◌++◌, Bool, true, false, List, []}
use Rattle.std.specs.Prelude.{◌∷◌, length, nat_lt, if◌then◌else◌, Option, Some, None, Result, Ok}
use Rattle.std.specs.Prelude.{Err, slice_get}
use Rattle.dif_machine.specs.Vocabulary.{cast_signed, w64, OutOfZero, KeyPart, Kind, Value, Firing}
use Rattle.dif_machine.specs.Vocabulary.{Condition, Function, Strlen, Strjoin, Instr, Alu, Not, Mov}
use Rattle.dif_machine.specs.Vocabulary.{Cmp, Tst, Scmp, Ba, Branch, Setx, Sets, Ldgs, Ldga, Ldts}
use Rattle.dif_machine.specs.Vocabulary.{Stts, Ldls, Stls, Pushtr, Pushtv, Flushts, Ldtaa, Sttaa}
use Rattle.dif_machine.specs.Vocabulary.{Call, Ret, Nop, Reg, Object, at, return_kind, IsValid}
use Rattle.dif_machine.specs.Vocabulary.{MachineFault, DivideByZero, Memory, Variables, as_kind}
use Rattle.std.proofs.Common.{refl, sym, ap, ◌∙◌, subst, ⊎_elim, arith, cond}
use Rattle.std.proofs.lemmas.List.{map-append, length-map}
use Rattle.std.proofs.lemmas.Bool.{ltb-false, leb-false, not-false}
use Rattle.std.proofs.lemmas.Option.{slice_get_cases}
use Rattle.d_values.specs.Stores.{kind_of, with_local, with_own}
use Rattle.d_values.specs.declared.key.KeyPart.TheVariants as part
use Rattle.d_values.specs.declared.value.Kind.TheVariants.{Number, Text}
use Rattle.d_values.specs.declared.value.Value.TheVariants as va
use Rattle.dif_validate.specs.declared.register.Reg.TheVariants.{R0}
use Rattle.dif_validate.specs.declared.shape.Shape.{Shape}
use Rattle.dif_validate.specs.Asks.{takes_tuple, is_tuple_of, is_some_tuple}
use Rattle.dif_validate.specs.Faults.{misses_tuple}
use Rattle.dif_validate.specs.Flow.{falls, jump_target, before}
use Rattle.dif_validate.specs.Leaves.{leaves, with_register, tuple_with}
use Rattle.dif_validate.specs.Rows.{kind_of_built_in, kind_of_function}
use Rattle.dif_validate.specs.Shapes.{first_shape}
use Rattle.dif_validate.proofs.Faultless.{IsFaultless, faultless, goes_on, stays_in}
use Rattle.dif_validate.proofs.Flowing.{flows_next, flows_target}
use Rattle.dif_validate.proofs.Returning.{next_inside, closed_inside, returns_its_kind}
use Rattle.dif_machine.specs.Frames.{Frame}
use Rattle.dif_machine.specs.Frames as frames
use Rattle.dif_machine.specs.Kinds.{kind_of_part, kinds_of}
use Rattle.dif_machine.specs.Known.{Holds, FitsShape}
use Rattle.dif_machine.specs.Operators.{result_of, comparison_of, text_comparison_of, holds}
use Rattle.dif_machine.specs.Operators.{call_of}
use Rattle.dif_machine.specs.Runs.{End, Reaches, faults, goes, Comes, stays, steps_on, RunEnds}
use Rattle.dif_machine.specs.Sources.{built_in_of, built_ins, local_in, own_value}
use Rattle.dif_machine.specs.Semantics.{Next, Goes, Ends, Faults, Stuck, on, on_key, puts_result}
use Rattle.dif_machine.specs.Semantics.{pushes, act, step_of}
use Rattle.dif_machine.specs.Steps.Semantics.{Stepped}
use Rattle.dif_machine.proofs.Fitting.{fits_within, fits_value, fits_index, fits_comparison}
use Rattle.dif_machine.proofs.Fitting.{fits_tuple, one, two, any, on_there, number_there}
use Rattle.dif_machine.proofs.Fitting.{some_there, text_there, kind_there}

-- what is known at a frame's index holds of it
pub record Reached (o : Object) (f : Frame) : Type 0 where
  pub inside : f.pc < length o.code
  pub shape : Shape
  pub is : before o.code f.pc ≡ Some shape
  pub fits : FitsShape shape f

-- a step goes further, to where what is known holds, or ends with a value of the object's kind
abbrev pub Onward : Object → ℕ → Next → Type 0
Onward o pc (Goes f vars) = (pc < f.pc) × Reached o f
Onward o pc (Ends value vars) = return_kind o ≡ Some (kind_of value)
Onward o pc (Faults vars) = Unit {0}
Onward o pc Stuck = ⊥

-- ---- what a tuple is

length_of : (parts : List KeyPart) (ks : List Kind) → kinds_of parts ≡ ks → length parts ≡ length ks
length_of parts ks e = sym (length-map parts kind_of_part) ∙ ap length e

pushed_is : (t : Option (List Kind)) (parts : List KeyPart) (p : KeyPart) → ((ks : List Kind) → t ≡ Some ks → kinds_of parts ≡ ks)
    → (ks : List Kind) → tuple_with t (kind_of_part p) ≡ Some ks → kinds_of (parts ++ p ∷ []) ≡ ks
pushed_is None parts p h ks e = cc
pushed_is (Some js) parts p h ks e = by (nat_lt (length js) 8) e
  where
    by : (b : Bool) → cond b (Some (js ++ kind_of_part p ∷ [])) None ≡ Some ks → kinds_of (parts ++ p ∷ []) ≡ ks
    by true e = map-append kind_of_part parts (p ∷ []) ∙ ap (λ l. l ++ kind_of_part p ∷ []) (h js refl) ∙ (let x : Some (js ++ kind_of_part p ∷ []) ≡ Some ks = e in cc)
    by false e = cc

tuple_known : (i : Instr) (t : Option (List Kind)) → misses_tuple i t ≡ false → (ks : List Kind) × (t ≡ Some ks) × (takes_tuple i ks ≡ true)
tuple_known i None h = cc
tuple_known i (Some ks) h = (ks, refl, not-false (takes_tuple i ks) h)

called : (function : Function) (parts : List KeyPart) (ks : List Kind) → kinds_of parts ≡ ks → is_tuple_of function ks ≡ true
    → (v : Value) × (call_of function parts ≡ Some v) × (kind_of v ≡ kind_of_function function)
called function parts ks e h = by function parts (subst (λ l. is_tuple_of function l ≡ true) (sym e) h)
  where
    by : (function : Function) (parts : List KeyPart) → is_tuple_of function (kinds_of parts) ≡ true → (v : Value) × (call_of function parts ≡ Some v) × (kind_of v ≡ kind_of_function function)
    by Strlen (part.Name a ∷ []) h = (_, refl, refl)
    by Strjoin (part.Name a ∷ part.Name b ∷ []) h = (_, refl, refl)
    by _ _ h = cc

built_in_kind : (f : Firing) (v : ℕ) (x : Value) (k : Kind) → built_in_of f v ≡ Some x → Some (kind_of_built_in v) ≡ Some k → kind_of x ≡ k
built_in_kind f (suc (suc (suc (suc (suc (suc (suc (suc (suc n))))))))) x k is h = cc
built_in_kind f _ x k is h = cc

as_kind_is : (k : Kind) (v : Value) → kind_of (as_kind k v) ≡ k
as_kind_is k v = grind arith

there : {A : Type 0} (xs : List A) (n : ℕ) → n < length xs → (x : A) × (slice_get xs n ≡ Some x)
there xs n h = ⊎_elim (λ a. (a.0, a.2)) (λ b. absurd (omega (arith, b.0))) (slice_get_cases xs n).1

is_kind : (v : Value) (k : Kind) → kind_of v ≡ k → (j : Kind) → Some k ≡ Some j → kind_of v ≡ j
is_kind v k e j h = cc

module _ (o : Object) (valid : IsValid o) (f : Firing) (s : Frame) (vars : Variables) (inside : s.pc < length o.code) (t : Shape) (is : before o.code s.pc ≡ Some t) (fits : FitsShape t s) where
  abbrev Good : Next → Type 0
  Good = Onward o s.pc

  module _ (i : Instr) (at_pc : slice_get o.code s.pc ≡ Some i) (fine : IsFaultless o s.pc i t) where
    -- on to the next instruction
    fall : (next : Frame) (after : Variables) → next.pc ≡ s.pc + 1 → falls i ≡ true → FitsShape (leaves i t) next → Good (Goes next after)
    fall next after e f' h =
        let has = flows_next o.code s.pc i t at_pc is (s.pc + 1) (omega arith) f' in (
          omega arith,
          record {
            inside = omega (arith, next_inside o s.pc i valid.closed at_pc f');
            shape = has.shape;
            is = ap (before o.code) e ∙ has.is;
            fits = fits_within has.shape (leaves i t) next has.within h;
          },
        )

    -- to a target
    jump : (to : ℕ) → jump_target i ≡ Some to → leaves i t ≡ t → Good (Goes (frames.at_index s to) vars)
    jump to e same =
        let less = goes_on i s.pc to fine.forward e in
        let has = flows_target o.code s.pc i t at_pc is to to less e in (
          less,
          record {
            inside = stays_in i (length o.code) to fine.inside e;
            shape = has.shape;
            is = has.is;
            fits = fits_within has.shape (leaves i t) (frames.at_index s to) has.within (subst (λ u. FitsShape u (frames.at_index s to)) (sym same) (fits_index t s to fits));
          },
        )

    result_good : (d : Reg) (r : Result ℕ OutOfZero) → falls i ≡ true → leaves i t ≡ with_register t d (Some Number) → Good (puts_result s d r vars)
    result_good d (Err e) on l = tt
    result_good d (Ok word) on l = fall _ vars refl on (subst (λ u. FitsShape u (frames.with_value s d (va.Int word))) (sym l) (fits_value t s d (Some Number) (va.Int word) fits (λ j e. cc)))

    value_good : (d : Reg) (k : Option Kind) (v : Value) → falls i ≡ true → leaves i t ≡ with_register t d k → ((j : Kind) → k ≡ Some j → kind_of v ≡ j) → Good (Goes (frames.with_value s d v) vars)
    value_good d k v on l h = fall _ vars refl on (subst (λ u. FitsShape u (frames.with_value s d v)) (sym l) (fits_value t s d k v fits h))

    push_good : (p : KeyPart) (ks : List Kind) → falls i ≡ true → leaves i t ≡ record { registers = t.registers; compared = t.compared; tuple = tuple_with t.tuple (kind_of_part p) } → t.tuple ≡ Some ks → nat_lt (length ks) 8 ≡ true → Good (pushes s p vars)
    push_good p ks on l e small =
        let same : nat_lt (length s.tuple) 8 ≡ true = ap (λ n. nat_lt n 8) (length_of s.tuple ks (fits.tuple ks e)) ∙ small in
        subst (λ b. Good (cond b (Goes (frames.with_tuple s (s.tuple ++ p ∷ [])) vars) Stuck)) (sym same)
        (fall _ vars refl on (subst (λ u. FitsShape u (frames.with_tuple s (s.tuple ++ p ∷ []))) (sym l) (fits_tuple t s (tuple_with t.tuple (kind_of_part p)) (s.tuple ++ p ∷ []) fits (pushed_is t.tuple s.tuple p fits.tuple))))

    key_good : (next : Next) (ks : List Kind) → t.tuple ≡ Some ks → ks ≢ [] → Good next → Good (on_key s.tuple next)
    key_good next ks e some h = by s.tuple (fits.tuple ks e)
      where
        by : (parts : List KeyPart) → kinds_of parts ≡ ks → Good (on_key parts next)
        by [] x = absurd (some (sym x))
        by (p ∷ ps) x = h

  compared_good : (i : Instr) (at_pc : slice_get o.code s.pc ≡ Some i) (fine : IsFaultless o s.pc i t) (known : _) → falls i ≡ true → leaves i t ≡ record { registers = t.registers; compared = true; tuple = t.tuple } → Good (Goes (frames.with_comparison s known) vars)
  compared_good i at_pc fine known on l = fall i at_pc fine _ vars refl on (subst (λ u. FitsShape u (frames.with_comparison s known)) (sym l) (fits_comparison t s known fits))

  some_tuple : (ks : List Kind) → is_some_tuple ks ≡ true → ks ≢ []
  some_tuple [] h e = cc
  some_tuple (k ∷ ks) h e = cc

  branch_good : (condition : Condition) (to : ℕ) (at_pc : slice_get o.code s.pc ≡ Some (Branch condition to)) (fine : IsFaultless o s.pc (Branch condition to) t) (b : Bool) → Good (Goes (frames.at_index s (if b then to else (s.pc + 1))) vars)
  branch_good condition to at_pc fine true = jump (Branch condition to) at_pc fine to refl refl
  branch_good condition to at_pc fine false = fall (Branch condition to) at_pc fine _ vars refl refl (fits_index t s _ fits)

  act_good : (i : Instr) (at_pc : slice_get o.code s.pc ≡ Some i) (fine : IsFaultless o s.pc i t) → Good (act i o f s vars)
  act_good (Alu op a b d) p fine =
      let r = two Number a b t fine.fine.kinds fine.fine.set in
      number_there Good (at s.registers a) _ (fits.registers a Number r.0) (λ x. number_there Good (at s.registers b) _ (fits.registers b Number r.1) (λ y. result_good (Alu op a b d) p fine d (result_of op x y) refl refl))
  act_good (Not a d) p fine =
      number_there Good (at s.registers a) _ (fits.registers a Number (one Number a t fine.fine.kinds fine.fine.set)) (λ x. value_good (Not a d) p fine d (Some Number) _ refl refl (λ j e. cc))
  act_good (Mov a d) p fine =
      let k = any a t fine.fine.set in
      let has = fits.registers a k.0 k.1 in
      on_there Good (at s.registers a) has.value _ has.is (value_good (Mov a d) p fine d (at t.registers a) has.value refl refl (λ j e. has.kind ∙ (let x : Some k.0 ≡ Some j = sym k.1 ∙ e in cc)))
  act_good (Cmp a b) p fine =
      let r = two Number a b t fine.fine.kinds fine.fine.set in
      number_there Good (at s.registers a) _ (fits.registers a Number r.0) (λ x. number_there Good (at s.registers b) _ (fits.registers b Number r.1) (λ y. compared_good (Cmp a b) p fine (comparison_of x y) refl refl))
  act_good (Tst a) p fine =
      number_there Good (at s.registers a) _ (fits.registers a Number (one Number a t fine.fine.kinds fine.fine.set)) (λ x. compared_good (Tst a) p fine (comparison_of x 0) refl refl)
  act_good (Scmp a b) p fine =
      let r = two Text a b t fine.fine.kinds fine.fine.set in
      text_there Good (at s.registers a) _ (fits.registers a Text r.0) (λ x. text_there Good (at s.registers b) _ (fits.registers b Text r.1) (λ y. compared_good (Scmp a b) p fine (text_comparison_of x y) refl refl))
  act_good (Ba to) p fine = jump (Ba to) p fine to refl refl
  act_good (Branch condition to) p fine =
      let c = some_there s.comparison (fits.compared (not-false t.compared fine.fine.compared)) in
      on_there Good s.comparison c.0 _ c.1 (branch_good condition to p fine (holds condition c.0))
  act_good (Setx i d) p fine =
      let x = there o.numbers i (leb-false (length o.numbers) i fine.table) in
      on_there Good (slice_get o.numbers i) x.0 _ x.1 (value_good (Setx i d) p fine d (Some Number) _ refl refl (λ j e. cc))
  act_good (Sets i d) p fine =
      let x = there o.texts i (leb-false (length o.texts) i fine.table) in
      on_there Good (slice_get o.texts i) x.0 _ x.1 (value_good (Sets i d) p fine d (Some Text) _ refl refl (λ j e. cc))
  act_good (Ldgs v d) p fine =
      let x = there (built_ins f) v (omega (arith, ltb-false 8 v fine.variable)) in
      on_there Good (built_in_of f v) x.0 _ x.1 (value_good (Ldgs v d) p fine d (Some (kind_of_built_in v)) x.0 refl refl (λ j e. built_in_kind f v x.0 j x.1 e))
  act_good (Ldga (suc v) a d) p fine = absurd (omega (arith, ltb-false 0 (suc v) fine.variable))
  act_good (Ldga zero a d) p fine =
      number_there Good (at s.registers a) _ (fits.registers a Number (one Number a t fine.fine.kinds fine.fine.set)) (λ n. value_good (Ldga 0 a d) p fine d (Some Number) _ refl refl (λ j e. cc))
  act_good (Ldts x d) p fine = value_good (Ldts x d) p fine d (Some x.kind) (own_value vars x []) refl refl (is_kind (own_value vars x []) x.kind (as_kind_is x.kind (vars.own x [])))
  act_good (Stts x a) p fine =
      kind_there Good x.kind (at s.registers a) _ (fits.registers a x.kind (one x.kind a t fine.fine.kinds fine.fine.set))
      (λ v e. fall (Stts x a) p fine _ (record { locals = vars.locals; own = with_own vars.own x [] v }) refl refl (fits_index t s _ fits))
  act_good (Ldls x d) p fine = value_good (Ldls x d) p fine d (Some x.kind) (local_in vars x) refl refl (is_kind (local_in vars x) x.kind (as_kind_is x.kind (vars.locals x)))
  act_good (Stls x a) p fine =
      kind_there Good x.kind (at s.registers a) _ (fits.registers a x.kind (one x.kind a t fine.fine.kinds fine.fine.set))
      (λ v e. fall (Stls x a) p fine _ (record { locals = with_local vars.locals x v; own = vars.own }) refl refl (fits_index t s _ fits))
  act_good (Pushtr a) p fine =
      let ks = tuple_known (Pushtr a) t.tuple fine.fine.tuple in
      text_there Good (at s.registers a) _ (fits.registers a Text (one Text a t fine.fine.kinds fine.fine.set)) (λ bytes. push_good (Pushtr a) p fine (part.Name bytes) ks.0 refl refl ks.1 ks.2)
  act_good (Pushtv a) p fine =
      let ks = tuple_known (Pushtv a) t.tuple fine.fine.tuple in
      number_there Good (at s.registers a) _ (fits.registers a Number (one Number a t fine.fine.kinds fine.fine.set)) (λ n. push_good (Pushtv a) p fine (part.Number (cast_signed w64 n)) ks.0 refl refl ks.1 ks.2)
  act_good Flushts p fine = fall Flushts p fine _ vars refl refl (fits_tuple t s (Some []) [] fits (λ ks e. cc))
  act_good (Ldtaa x d) p fine =
      let ks = tuple_known (Ldtaa x d) t.tuple fine.fine.tuple in
      key_good (Ldtaa x d) p fine _ ks.0 ks.1 (some_tuple ks.0 ks.2) (value_good (Ldtaa x d) p fine d (Some x.kind) (own_value vars x s.tuple) refl refl (is_kind (own_value vars x s.tuple) x.kind (as_kind_is x.kind (vars.own x s.tuple))))
  act_good (Sttaa x a) p fine =
      let ks = tuple_known (Sttaa x a) t.tuple fine.fine.tuple in
      key_good (Sttaa x a) p fine _ ks.0 ks.1 (some_tuple ks.0 ks.2)
      (kind_there Good x.kind (at s.registers a) _ (fits.registers a x.kind (one x.kind a t fine.fine.kinds fine.fine.set))
      (λ v e. fall (Sttaa x a) p fine _ (record { locals = vars.locals; own = with_own vars.own x s.tuple v }) refl refl (fits_index t s _ fits)))
  act_good (Call function d) p fine =
      let ks = tuple_known (Call function d) t.tuple fine.fine.tuple in
      let v = called function s.tuple ks.0 (fits.tuple ks.0 ks.1) ks.2 in
      on_there Good (call_of function s.tuple) v.0 _ v.1 (value_good (Call function d) p fine d (Some (kind_of_function function)) v.0 refl refl (is_kind v.0 (kind_of_function function) v.2))
  act_good (Ret a) p fine =
      let k = any a t fine.fine.set in
      let has = fits.registers a k.0 k.1 in
      on_there Good (at s.registers a) has.value _ has.is (returns_its_kind o s.pc t a k.0 (valid.each s.pc) p is k.1 ∙ ap Some (sym has.kind))
  act_good Nop p fine = fall Nop p fine _ vars refl refl (fits_index t s _ fits)

-- a step from a reached state is never stuck, and goes on to such a state
pub progress : (o : Object) → IsValid o → (f : Firing) (s : Frame) (vars : Variables) → Reached o s → Onward o s.pc (step_of o f s vars)
progress o valid f s vars r =
    let i = there o.code s.pc r.inside in
    on_there (Onward o s.pc) (slice_get o.code s.pc) i.0 (λ i. act i o f s vars) i.1
    (act_good o valid f s vars r.inside r.shape r.is r.fits i.0 i.1 (faultless o s.pc i.0 r.shape (valid.each s.pc) i.1 r.is))

-- ---- whole runs

start_registers : (r : Reg) (k : Kind) → at first_shape.registers r ≡ Some k → Holds (at frames.start.registers r) k
start_registers R0 k e = record { value = va.Int 0; is = refl; kind = cc }
start_registers _ k e = cc

pub start_reached : (o : Object) → IsValid o → Reached o frames.start
start_reached o valid = record {
  inside = closed_inside o.code valid.closed;
  shape = first_shape;
  is = refl;
  fits = record { registers = start_registers; compared = λ e. cc; tuple = λ ks e. cc; long = refl };
}

-- where a run is: it came here from the start, and what it comes to from here it comes to from the start
pub record Follows (o : Object) (f : Firing) (first : Variables) (s : Frame) (vars : Variables) : Type 0 where
  pub valid : IsValid o
  pub reached : Reached o s
  pub comes : Comes o f frames.start first s vars
  pub so_far : (end : End) → Reaches o f s vars end → Reaches o f frames.start first end

pub follows_start : (o : Object) (f : Firing) (vars : Variables) → IsValid o → Follows o f vars frames.start vars
follows_start o f vars valid = record { valid = valid; reached = start_reached o valid; comes = stays; so_far = λ end h. h }

onward : (o : Object) (f : Firing) (first : Variables) (s : Frame) (vars : Variables) → Follows o f first s vars → Onward o s.pc (step_of o f s vars)
onward o f first s vars h = progress o h.valid f s vars h.reached

pub never_stuck : (o : Object) (f : Firing) (first : Variables) (s : Frame) (vars : Variables) → Follows o f first s vars → step_of o f s vars ≢ Stuck
never_stuck o f first s vars h e = subst (Onward o s.pc) e (onward o f first s vars h)

pub follows_on : (o : Object) (f : Firing) (first : Variables) (s next : Frame) (vars after : Variables) → Follows o f first s vars → step_of o f s vars ≡ Goes next after → (s.pc < next.pc) × Follows o f first next after
follows_on o f first s next vars after h e =
    let on = subst (Onward o s.pc) e (onward o f first s vars h) in
    (on.0, record { valid = h.valid; reached = on.1; comes = steps_on next after h.comes e; so_far = λ end r. h.so_far end (goes next after e r) })

pub ends_badly : (o : Object) (f : Firing) (first : Variables) (s next : Frame) (vars after : Variables) (fault : MachineFault) → Follows o f first s vars → Stepped vars (step_of o f s vars) (Err fault) next after → RunEnds o f first (Err fault) after
ends_badly o f first s next vars after DivideByZero h e = h.so_far _ (faults after e)
ends_badly o f first s next vars after Memory h e = (s, subst (Comes o f frames.start first s) (sym e) h.comes)

-- each state that a run comes to follows
follows_all : (o : Object) (f : Firing) (first : Variables) (s : Frame) (vars : Variables) → IsValid o → Comes o f frames.start first s vars → Follows o f first s vars
follows_all o f first s vars valid stays = follows_start o f first valid
follows_all o f first s vars valid (steps_on {t} {mid} next after so_far e) = (follows_on o f first t next mid after (follows_all o f first t mid valid so_far) e).1

pub not_stuck : (o : Object) (f : Firing) (first vars : Variables) (s : Frame) → IsValid o → Comes o f frames.start first s vars → step_of o f s vars ≢ Stuck
not_stuck o f first vars s valid comes = never_stuck o f first s vars (follows_all o f first s vars valid comes)

-- and has what is known before its instruction
pub has_known : (o : Object) (f : Firing) (first vars : Variables) (s : Frame) → IsValid o → Comes o f frames.start first s vars
    → (shape : Shape) × (before o.code s.pc ≡ Some shape) × FitsShape shape s
has_known o f first vars s valid comes = let there = (follows_all o f first s vars valid comes).reached in (there.shape, there.is, there.fits)
