-- One instruction changes no more than it is for.
use Rattle.std.specs.Prelude.{◌≡◌, ◌≢◌, ℕ, zero, suc, ◌+◌, ◌++◌, Bool, true, false, List, [], ◌∷◌}
use Rattle.std.specs.Prelude.{length, nat_lt, Option, Some, None, Result, Ok, Err, slice_get}
use Rattle.std.specs.Int.{cast_signed, w64}
use Rattle.std.proofs.Common.{refl, sym, ap, ◌∙◌, subst, ⊎_elim, arith, cond}
use Rattle.std.proofs.lemmas.Bool.{cases_eq}
use Rattle.std.proofs.lemmas.List.{get_or-set_other}
use Rattle.dif_validate.specs.Flow.{jump_target}
use Rattle.dif_validate.specs.Registers.{register_number, put}
use Rattle.dif_validate.proofs.Writes.{put_set, put_zero}
use Rattle.dif_machine.specs.Vocabulary.{Comparison, Firing, Instr, Alu, Not, Mov, Cmp, Tst, Scmp}
use Rattle.dif_machine.specs.Vocabulary.{Ba, Branch, Setx, Sets, Ldgs, Ldga, Ldts, Stts, Ldls, Stls}
use Rattle.dif_machine.specs.Vocabulary.{Pushtr, Pushtv, Flushts, Ldtaa, Sttaa, Call, Ret, Nop}
use Rattle.dif_machine.specs.Vocabulary.{KeyPart, Number, Name, Kind, NumberKind, TextKind, Object}
use Rattle.dif_machine.specs.Vocabulary.{OutOfZero, Reg, at, Value, Int, Text, Variables}
use Rattle.dif_validate.specs.declared.row.Change.TheVariants.{ComparesTwo, StoresVariable}
use Rattle.dif_validate.specs.Rows.{row_of}
use Rattle.dif_machine.specs.Changes.{output_register, fills, Changes}
use Rattle.dif_machine.specs.Frames.{Frame, at_index, with_value, with_comparison, with_tuple}
use Rattle.dif_machine.specs.Operators.{result_of, comparison_of, text_comparison_of, holds}
use Rattle.dif_machine.specs.Operators.{call_of}
use Rattle.dif_machine.specs.Sources.{built_in_of}
use Rattle.dif_machine.specs.Semantics.{Next, Goes, Ends, Stuck, on, on_number, on_text, on_kind}
use Rattle.dif_machine.specs.Semantics.{on_key, puts_result, act, step_of}

pub same_register : (d r : Reg) → register_number d ≡ register_number r → d ≡ r
same_register d r e = grind arith

put_other : (xs : List (Option Value)) (d r : Reg) (x : Option Value) → Some d ≢ Some r → at (put xs d x) r ≡ at xs r
put_other xs d r x ne =
    ⊎_elim
    (λ zero. ap (λ l. at l r) (put_zero xs d x zero))
    (λ other. ap (λ l. at l r) (put_set xs d x other) ∙ get_or-set_other xs (register_number d) (register_number r) x None (λ e. ne (ap Some (same_register d r (sym e)))))
    (cases_eq (register_number d) 0)

module _ (s : Frame) (vars : Variables) (i : Instr) where
  number : (v : Option Value) (go : ℕ → Next) → ((x : ℕ) → Changes i s vars (go x)) → Changes i s vars (on_number v go)
  number (Some (Int n)) go h = h n
  number _ go h = tt

  text : (v : Option Value) (go : List ℕ → Next) → ((x : List ℕ) → Changes i s vars (go x)) → Changes i s vars (on_text v go)
  text (Some (Text bytes)) go h = h bytes
  text _ go h = tt

  some : {A : Type 0} (v : Option A) (go : A → Next) → ((x : A) → Changes i s vars (go x)) → Changes i s vars (on v go)
  some None go h = tt
  some (Some x) go h = h x

  kind : (k : Kind) (v : Option Value) (go : Value → Next) → ((x : Value) → Changes i s vars (go x)) → Changes i s vars (on_kind k v go)
  kind NumberKind v go h = number v (λ n. go (Int n)) (λ n. h (Int n))
  kind TextKind v go h = text v (λ bytes. go (Text bytes)) (λ bytes. h (Text bytes))

  key : (parts : List KeyPart) (next : Next) → Changes i s vars next → Changes i s vars (on_key parts next)
  key [] next h = tt
  key (p ∷ ps) next h = h

  value : (d : Reg) (v : Value) → output_register i ≡ Some d → Changes i s vars (Goes (with_value s d v) vars)
  value d v e = record {
    index = λ ne. absurd (ne refl);
    registers = λ r ne. put_other s.registers d r (Some v) (λ x. ne (e ∙ x));
    comparison = λ h. refl;
    tuple = λ h. refl;
    variables = λ h. refl;
  }

  result : (d : Reg) (r : Result ℕ OutOfZero) → output_register i ≡ Some d → Changes i s vars (puts_result s d r vars)
  result d (Ok word) e = value d (Int word) e
  result d (Err none) e = refl

  comparison : (known : Comparison) → (row_of i).change ≡ ComparesTwo → Changes i s vars (Goes (with_comparison s known) vars)
  comparison known e = record {
    index = λ ne. absurd (ne refl);
    registers = λ r ne. refl;
    comparison = λ h. absurd (h e);
    tuple = λ h. refl;
    variables = λ h. refl;
  }

  tuple : (parts : List KeyPart) → fills i ≡ true → Changes i s vars (Goes (with_tuple s parts) vars)
  tuple parts e = record {
    index = λ ne. absurd (ne refl);
    registers = λ r ne. refl;
    comparison = λ h. refl;
    tuple = λ h. absurd (let x : true ≡ false = sym e ∙ h in cc);
    variables = λ h. refl;
  }

  push : (b : Bool) (p : KeyPart) → fills i ≡ true → Changes i s vars (cond b (Goes (with_tuple s (s.tuple ++ p ∷ [])) vars) Stuck)
  push true p e = tuple (s.tuple ++ p ∷ []) e
  push false p e = tt

  store : (after : Variables) → (row_of i).change ≡ StoresVariable → Changes i s vars (Goes (at_index s (s.pc + 1)) after)
  store after e = record {
    index = λ ne. absurd (ne refl);
    registers = λ r ne. refl;
    comparison = λ h. refl;
    tuple = λ h. refl;
    variables = λ h. absurd (h e);
  }

  go : (to : ℕ) → (to ≢ s.pc + 1 → jump_target i ≡ Some to) → Changes i s vars (Goes (at_index s to) vars)
  go to h = record { index = h; registers = λ r ne. refl; comparison = λ h. refl; tuple = λ h. refl; variables = λ h. refl }

  branch : (b : Bool) (to : ℕ) → jump_target i ≡ Some to → Changes i s vars (Goes (at_index s (cond b to (s.pc + 1))) vars)
  branch true to e = go to (λ ne. e)
  branch false to e = go (s.pc + 1) (λ ne. absurd (ne refl))

acts : (o : Object) (f : Firing) (s : Frame) (vars : Variables) (i : Instr) → Changes i s vars (act i o f s vars)
acts o f s vars (Alu op a b d) = number s vars (Alu op a b d) (at s.registers a) _ (λ x. number s vars (Alu op a b d) (at s.registers b) _ (λ y. result s vars (Alu op a b d) d (result_of op x y) refl))
acts o f s vars (Not a d) = number s vars (Not a d) (at s.registers a) _ (λ x. value s vars (Not a d) d _ refl)
acts o f s vars (Mov a d) = some s vars (Mov a d) (at s.registers a) _ (λ x. value s vars (Mov a d) d x refl)
acts o f s vars (Cmp a b) = number s vars (Cmp a b) (at s.registers a) _ (λ x. number s vars (Cmp a b) (at s.registers b) _ (λ y. comparison s vars (Cmp a b) (comparison_of x y) refl))
acts o f s vars (Tst a) = number s vars (Tst a) (at s.registers a) _ (λ x. comparison s vars (Tst a) (comparison_of x 0) refl)
acts o f s vars (Scmp a b) = text s vars (Scmp a b) (at s.registers a) _ (λ x. text s vars (Scmp a b) (at s.registers b) _ (λ y. comparison s vars (Scmp a b) (text_comparison_of x y) refl))
acts o f s vars (Ba to) = go s vars (Ba to) to (λ ne. refl)
acts o f s vars (Branch condition to) = some s vars (Branch condition to) s.comparison _ (λ known. branch s vars (Branch condition to) (holds condition known) to refl)
acts o f s vars (Setx i d) = some s vars (Setx i d) (slice_get o.numbers i) _ (λ n. value s vars (Setx i d) d _ refl)
acts o f s vars (Sets i d) = some s vars (Sets i d) (slice_get o.texts i) _ (λ bytes. value s vars (Sets i d) d _ refl)
acts o f s vars (Ldgs v d) = some s vars (Ldgs v d) (built_in_of f v) _ (λ x. value s vars (Ldgs v d) d x refl)
acts o f s vars (Ldga zero a d) = number s vars (Ldga 0 a d) (at s.registers a) _ (λ n. value s vars (Ldga 0 a d) d _ refl)
acts o f s vars (Ldga (suc v) a d) = tt
acts o f s vars (Ldts x d) = value s vars (Ldts x d) d _ refl
acts o f s vars (Stts x a) = kind s vars (Stts x a) x.kind (at s.registers a) _ (λ v. store s vars (Stts x a) _ refl)
acts o f s vars (Ldls x d) = value s vars (Ldls x d) d _ refl
acts o f s vars (Stls x a) = kind s vars (Stls x a) x.kind (at s.registers a) _ (λ v. store s vars (Stls x a) _ refl)
acts o f s vars (Pushtr a) = text s vars (Pushtr a) (at s.registers a) _ (λ bytes. push s vars (Pushtr a) (nat_lt (length s.tuple) 8) (Name bytes) refl)
acts o f s vars (Pushtv a) = number s vars (Pushtv a) (at s.registers a) _ (λ n. push s vars (Pushtv a) (nat_lt (length s.tuple) 8) (Number (cast_signed w64 n)) refl)
acts o f s vars Flushts = tuple s vars Flushts [] refl
acts o f s vars (Ldtaa x d) = key s vars (Ldtaa x d) s.tuple _ (value s vars (Ldtaa x d) d _ refl)
acts o f s vars (Sttaa x a) = key s vars (Sttaa x a) s.tuple _ (kind s vars (Sttaa x a) x.kind (at s.registers a) _ (λ v. store s vars (Sttaa x a) _ refl))
acts o f s vars (Call function d) = some s vars (Call function d) (call_of function s.tuple) _ (λ v. value s vars (Call function d) d v refl)
acts o f s vars (Ret a) = some s vars (Ret a) (at s.registers a) _ (λ v. refl)
acts o f s vars Nop = go s vars Nop (s.pc + 1) (λ ne. absurd (ne refl))

pub step_changes : (o : Object) (f : Firing) (s : Frame) (vars : Variables) (i : Instr) → slice_get o.code s.pc ≡ Some i → Changes i s vars (step_of o f s vars)
step_changes o f s vars i there = subst (λ x. Changes i s vars (on x (λ j. act j o f s vars))) (sym there) (acts o f s vars i)

-- a step that ends the run changes no variable
pub end_keeps : (o : Object) (f : Firing) (s : Frame) (vars after : Variables) (value : Value) → step_of o f s vars ≡ Ends value after → after ≡ vars
end_keeps o f s vars after value e = by (slice_get o.code s.pc) e
  where
    by : (x : Option Instr) → on x (λ i. act i o f s vars) ≡ Ends value after → after ≡ vars
    by None h = cc
    by (Some i) h = subst (Changes i s vars) h (acts o f s vars i)
