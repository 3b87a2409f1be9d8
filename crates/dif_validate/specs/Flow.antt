-- Where an instruction leads, and what is known at the indices that ways lead to.
-- Source: Cantrill, Shapiro and Leventhal, "Dynamic Instrumentation of Production Systems" (USENIX
-- 2004), on DIF.
use Rattle.std.specs.Prelude.{ℕ, zero, suc, ◌+◌, Bool, true, false, ◌&&◌, nat_eq, if◌then◌else◌}
use Rattle.std.specs.Prelude.{List, Option, Some, None, slice_get}
use Rattle.dif_validate.specs.Vocabulary.{Flow, Next, Jump, Either, End, Instr, Shape}
use Rattle.dif_validate.specs.Rows.{row_of}
use Rattle.dif_validate.specs.Leaves.{leaves}
use Rattle.dif_validate.specs.Shapes.{first_shape, meet}

-- where an instruction leads
abbrev pub flow : Instr → Flow
flow i = (row_of i).flow

abbrev pub has_next : Flow → Bool
has_next Next = true
has_next (Jump to) = false
has_next (Either to) = true
has_next (End a) = false

-- the next instruction may follow
abbrev pub falls : Instr → Bool
falls i = has_next (flow i)

abbrev pub flow_target : Flow → Option ℕ
flow_target Next = None
flow_target (Jump to) = Some to
flow_target (Either to) = Some to
flow_target (End a) = None

-- the index that it jumps to
abbrev pub jump_target : Instr → Option ℕ
jump_target i = flow_target (flow i)

abbrev pub is_index : Option ℕ → ℕ → Bool
is_index None pc = false
is_index (Some to) pc = nat_eq to pc

-- what is known by one way, by another, or by both
abbrev pub join : Option Shape → Option Shape → Option Shape
join None way = way
join (Some s) None = Some s
join (Some s) (Some t) = Some (meet s t)

-- what the instruction at q, if s is known, makes known at pc as its next one
abbrev pub to_next : Instr → ℕ → Shape → ℕ → Option Shape
to_next i q s pc =
    if falls i && nat_eq (q + 1) pc then Some (leaves i s) else None

-- and as its target
abbrev pub to_target : Instr → Shape → ℕ → Option Shape
to_target i s pc = if is_index (jump_target i) pc then Some (leaves i s) else None

-- what is known at pc by one instruction more, that at q, if it is reached
abbrev pub further : Option Shape → Option Instr → ℕ → Option Shape → ℕ → Option Shape
further way (Some i) q (Some s) pc =
    join (join way (to_next i q s pc)) (to_target i s pc)
further way _ q _ pc = way

abbrev pub shape_at_start : ℕ → Option Shape
shape_at_start zero = Some first_shape
shape_at_start (suc pc) = None

-- what is known at pc by the instructions before n
abbrev pub shape_at : List Instr → ℕ → ℕ → Option Shape
shape_at code zero pc = shape_at_start pc
shape_at code (suc q) pc =
    further (shape_at code q pc) (slice_get code q) q (shape_at code q q) pc

-- what is known before the instruction at pc; none if no way leads to it
abbrev pub before : List Instr → ℕ → Option Shape
before code pc = shape_at code pc pc
