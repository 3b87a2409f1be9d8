-- The object of an expression is valid, returns the kind of its type, and computes it.
use Rattle.std.specs.Prelude.{◌≡◌, ◌≤◌, ℕ, ◌+◌, [], ◌∷◌, length, Some, slice_get}
use Rattle.std.proofs.Common.{refl, sym, ap, ◌∙◌, subst, arith}
use Rattle.d_values.specs.declared.value.Value.{Value}
use Rattle.firings.specs.declared.firing.Firing.{Firing}
use Rattle.d_types.specs.Expressions.{Outcome, Has, Faults, eval}
use Rattle.d_types.specs.Held.{Slots, IsConsistent}
use Rattle.d_types.specs.Needs.{need}
use Rattle.d_types.specs.Storage.{Variables}
use Rattle.d_types.specs.Typed.{Typed, type_of}
use Rattle.d_types.specs.Variables.{kind_of_type}
use Rattle.dif_validate.specs.declared.instruction.Instr.TheVariants.{Ret}
use Rattle.dif_validate.specs.declared.register.Reg.{Reg}
use Rattle.dif_validate.specs.declared.register.Reg.TheVariants.{R0, R1, R2, R3, R4, R5, R6, R7}
use Rattle.dif_validate.specs.Objects.{Object}
use Rattle.dif_validate.specs.Registers.{at}
use Rattle.dif_validate.specs.Shapes.{first_shape}
use Rattle.dif_validate.specs.Validity.{IsReturning}
use Rattle.dif_validate.proofs.Flowing.{Within}
use Rattle.dif_machine.specs.Frames.{Frame}
use Rattle.dif_machine.specs.Frames as frames
use Rattle.dif_machine.specs.Runs.{Reaches, Returns, ends}
use Rattle.dif_machine.specs.Semantics as st
use Rattle.dif_codegen.specs.Steps.Code.{code_of, object_code}
use Rattle.dif_codegen.specs.Correct.{end_of_outcome, Computes}
use Rattle.dif_codegen.specs.Steps.Pieces.{Place, one_instr, past}
use Rattle.dif_codegen.proofs.Leading.{Leads, step}
use Rattle.dif_codegen.proofs.Levels.{level}
use Rattle.dif_codegen.proofs.Simulation.{expr_leads}
use Rattle.dif_codegen.proofs.Standing.{HasAt, has_all, Stands, stands_front, stands_back}
use Rattle.dif_codegen.proofs.Typed.{expr_makes}
use Rattle.dif_codegen.proofs.Valid.{returning}

empty_start : (r : Reg) → (x : _) → at (level []).registers r ≡ Some x → at first_shape.registers r ≡ Some x
empty_start R0 x h = h
empty_start R1 x h = cc
empty_start R2 x h = cc
empty_start R3 x h = cc
empty_start R4 x h = cc
empty_start R5 x h = cc
empty_start R6 x h = cc
empty_start R7 x h = cc

begins : Within (level []) first_shape
begins = record { registers = empty_start; compared = λ e. e; tuple = λ t e. e }

-- the value is given back
last_leads : (o : Object) (f : Firing) (pc : ℕ) (s : Frame) (vars : Variables) (z : Outcome Value) → slice_get o.code pc ≡ Some (Ret R1) → Leads o f 1 pc s vars z → Reaches o f s vars (end_of_outcome z)
last_leads o f pc s vars (Faults w) has h = h
last_leads o f pc s vars (Has v w) has h = h (Returns v w) (λ t d. ends v w (step o f t w pc (Ret R1) d.at has ∙ ap (λ x. st.on x (λ y. st.Ends y w)) d.value))

module _ (slots : Slots) (e : Typed) (consistent : IsConsistent slots e) (few : need e ≤ 6) (o : Object) (code : o.code ≡ (object_code e).code) (texts : o.texts ≡ (object_code e).texts) (numbers : o.numbers ≡ (object_code e).numbers) where
  abbrev pl : Place
  pl = record { at = 0; texts = 0; numbers = 0 }

  stands : Stands o pl (object_code e)
  stands = record {
    code = subst (λ l. HasAt l 0 (object_code e).code) (sym code) (has_all (object_code e).code []);
    texts = subst (λ l. HasAt l 0 (object_code e).texts) (sym texts) (has_all (object_code e).texts []);
    numbers = subst (λ l. HasAt l 0 (object_code e).numbers) (sym numbers) (has_all (object_code e).numbers []);
  }

  front : Stands o pl (code_of e 1 pl)
  front = stands_front o pl (code_of e 1 pl) (one_instr (Ret R1) (past pl (code_of e 1 pl))) stands

  back : slice_get o.code (0 + length (code_of e 1 pl).code) ≡ Some (Ret R1)
  back = (stands_back o pl (code_of e 1 pl) (one_instr (Ret R1) (past pl (code_of e 1 pl))) stands).code.0

  pub is_returning : IsReturning o (kind_of_type (type_of e))
  is_returning =
      returning o (code_of e 1 pl).code R1 (kind_of_type (type_of e)) (level []) (level (kind_of_type (type_of e) ∷ [])) code
      (expr_makes o slots e consistent [] pl (omega arith) front) begins refl refl

  pub computes : Computes slots o e
  computes f vars fit good =
      last_leads o f (0 + length (code_of e 1 pl).code) frames.start vars (eval f e vars) back
      (expr_leads o f slots fit e consistent 1 pl frames.start vars good (omega arith) (omega arith) (record { long = refl; zero_is = refl; empty = refl }) refl front)
