-- The walk gives what each rule gives.
use Rattle.std.proofs.Common.{◌≡◌, ℕ, inl, inr, List, Option, Some, Ok, refl, ap}
use Rattle.d_parser.specs.declared.operators.Step.{Step}
use Rattle.d_parser.specs.declared.tree.Variable.{Variable}
use Rattle.d_parser.specs.declared.tree.Variable.TheVariants as v
use Rattle.d_values.specs.declared.int_type.DType.{DType}
use Rattle.d_values.specs.declared.int_type.DType.TheVariants.{Int, Text}
use Rattle.d_types.specs.declared.typed.Answer.{Answer}
use Rattle.d_types.specs.declared.typed.Space.{Space}
use Rattle.d_types.specs.declared.typed.Space.TheVariants as s
use Rattle.d_parser.specs.declared.operators.BinaryOperator.{BinaryOperator}
use Rattle.d_parser.specs.declared.operators.BinaryOperator.TheVariants as bs
use Rattle.d_parser.specs.declared.operators.AssignOperator.{AssignOperator}
use Rattle.d_parser.specs.declared.operators.AssignOperator.TheVariants as sg
use Rattle.d_types.specs.Words.{callee_named}
use Rattle.d_types.specs.Typed.{Typed, Typeds, end, more, type_of}
use Rattle.d_types.specs.Steps.Typing.{with_typed}
use Rattle.d_types.specs.Variables.{Rows, find, type_at}
use Rattle.d_types.proofs.Tables.{own_keys}
use Rattle.d_types.specs.Steps.Operators.{binary, choice, as_type}
use Rattle.d_types.specs.Steps.Targets.{target, slot_for, assignment, step}
use Rattle.d_types.specs.Steps.Typing.{typed_call}
use Rattle.d_types.specs.Rules.{IsOperation, IsChoice, IsSlotOf}
use Rattle.d_types.proofs.WellTyped.{IsTargetOf}
use Rattle.d_types.specs.Rules.{IsConverted, IsAssignment, IsStep, IsCall}

-- the list after what is done
abbrev pub after : Typeds → Typeds → Typeds
after end ks = ks
after (more x rest) ks = more x (after rest ks)

pub after-add : (done : Typeds) (x : Typed) (ks : Typeds) → after (with_typed done x) ks ≡ after done (more x ks)
after-add end x ks = refl
after-add (more y rest) x ks = ap (more y) (after-add rest x ks)

pub after-end : (done : Typeds) → after done end ≡ done
after-end end = refl
after-end (more y rest) = ap (more y) (after-end rest)

pub joins_complete : (sort : BinaryOperator) (x y z : Typed) → IsOperation sort x y z → binary sort (type_of x) (type_of y) x y ≡ Some z
joins_complete (bs.Arithmetic op) x y z h = rw (h.2, h.3, h.4) refl
joins_complete (bs.Shift op) x y z h = rw (h.2, h.3, h.4) refl
joins_complete (bs.Compare op) x y z (inl h) = rw (h.2, h.3, h.4) refl
joins_complete (bs.Compare op) x y z (inr h) = rw (h.0, h.1, h.2) refl
joins_complete (bs.Logic op) x y z h = rw (h.2, h.3, h.4) refl

pub chooses_complete : (x y u z : Typed) → IsChoice x y u z → choice (type_of x) (type_of y) (type_of u) x y u ≡ Some z
chooses_complete x y u z (inl h) = rw (h.3, h.4, h.5, h.6) refl
chooses_complete x y u z (inr h) = rw (h.1, h.2, h.3, h.4) refl

indices_complete : (space : Space) (line : ℕ) (name : List ℕ) (rows : Rows) (t : Option DType) (ks : Typeds) (slot : ℕ) (last : Rows) →
    IsSlotOf space name t ks rows slot last → slot_for space line name rows t ks (find space name rows) ≡ Ok (slot, last)
indices_complete space line name rows t ks slot last (inl h) = rw (h.0, h.1, h.2, h.3) refl
indices_complete space line name rows t ks slot last (inr h) = rw (h.0, own_keys rows slot ks h.1, h.2) refl

pub targets_complete : (rows : Rows) (x : Variable) (t : Option DType) (ks : Typeds) (slot : ℕ) (last : Rows) →
    IsTargetOf rows x t ks slot last → target rows x t ks ≡ Ok (slot, last)
targets_complete rows (v.Plain line name) t ks slot last h = absurd h
targets_complete rows (v.Thread line name) t ks slot last h = indices_complete s.Thread line name rows t ks slot last h
targets_complete rows (v.Clause line name) t ks slot last h = indices_complete s.Clause line name rows t ks slot last h

fits_complete : (x : Typed) (t : DType) (y : Typed) → IsConverted x t y → as_type (type_of x) t x ≡ Some y
fits_complete x (Int u) y h = rw (h.1, h.2) refl
fits_complete x Text y h = rw (h.0, h.1) refl

pub stores_complete : (sort : AssignOperator) (space : Space) (slot : ℕ) (ks : Typeds) (x : Typed) (rows : Rows) (z : Typed) (last : Rows) →
    IsAssignment sort space slot ks x rows z last → assignment sort space (type_at rows slot) (type_of x) slot ks x rows ≡ Some (z, last)
stores_complete sg.Set space slot ks x rows z last (inl h) = rw (h.0, h.1, h.2) refl
stores_complete sg.Set space slot ks x rows z last (inr h) = rw (h.2, fits_complete x h.0 h.1 h.3, h.4, h.5) refl
stores_complete (sg.Arithmetic op) space slot ks x rows z last h = rw (h.2, h.3, h.4, h.5) refl
stores_complete (sg.Shift op) space slot ks x rows z last h = rw (h.2, h.3, h.4, h.5) refl

pub steps_complete : (by : Step) (answer : Answer) (space : Space) (slot : ℕ) (ks : Typeds) (rows : Rows) (z : Typed) →
    IsStep by answer space slot ks rows z → step by answer space (type_at rows slot) slot ks ≡ Some z
steps_complete by answer space slot ks rows z h = rw (h.1, h.2) refl

pub calls_complete : (line : ℕ) (name : List ℕ) (ks : Typeds) (rows : Rows) (z : Typed) → IsCall name ks z →
    typed_call line (callee_named name) ks rows ≡ Ok (z, rows)
calls_complete line name ks rows z (inl h) = rw (h.1, h.2, h.3, h.4) refl
calls_complete line name ks rows z (inr h) = rw (h.2, h.3, h.4, h.5, h.6) refl
