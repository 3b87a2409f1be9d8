use Rattle.std.specs.Prelude.{◌≡◌, ◌+◌, ℕ, List, Some, slice_get}
use Rattle.std.proofs.Common.{◌<◌, ◌∙◌, ap, arith, drop, get_or, length, length-drop, sym}
use Rattle.std.proofs.lemmas.List.{drop-drop, get_or-drop, take_rest}
use Rattle.std.proofs.lemmas.Option.{slice_get-get_or}
use Rattle.dif_validate.specs.Objects.{object_of}
use Rattle.dif_machine.specs.Vocabulary.{Instr}
use Rattle.dif_machine.proofs.Underway.{begins, failed, falls_on, goes_on, returned, runs}
use Rattle.dif_machine.proofs.running.run_to_return.Given.{Over}
use Rattle.dif_machine.proofs.running.run_to_return.Goals.{In-Ok-Goes}
use Rattle.dif_machine.proofs.running.run_to_return.Goals as goal

-- the first instruction that is left is the one at the index
there : (left code : List Instr) (index : ℕ) (d : Instr) → left ≡ drop index code → index < length code → slice_get code index ≡ Some (get_or left 0 d)
there left code index d is inside =
    let same : index ≡ index + 0 = omega arith in
    slice_get-get_or code index d inside ∙ ap Some (ap (λ n. get_or code n d) same ∙ sym (get_or-drop index code 0 d) ∙ ap (λ left. get_or left 0 d) (sym is))

-- an index that an instruction goes to is later, and there
on : (g : Over) (c : In-Ok-Goes g) → (c.loop-left.invariant.0 < c.in-Ok-Goes.index) × (c.in-Ok-Goes.index < length c.as_slice-code.result.now)
on g c =
    let (index, is, way) = c.loop-left.invariant in
    let on = goes_on g.M.Memory.holds g.M.Memory.is_over g.M.Memory.beside (object_of c.args.difo.now) c.args.firing.now c.args.memory.now c.args.machine.now index c.loop-left.memory c.loop-left.machine way _ (there c.loop-left.left.now c.args.difo.now.code.items index _ is way.follows.reached.inside) _ _ _ (rw c.in-Ok-Goes.field-0-is at c.in-Ok-Goes.ensures) in
    let inside : c.in-Ok-Goes.index < length c.args.difo.now.code.items = on.1.follows.reached.inside in
    (on.0, omega (arith, inside, ap length c.as_slice-code.ensures.value))

pub loop-left-init : goal.loop-left-init
loop-left-init g c = (0, c.as_slice-code.ensures.value, begins g.M.Memory.holds g.M.Memory.is_over g.M.Memory.beside (object_of c.args.difo.now) c.args.firing.now c.args.memory.now c.args.machine.now _ c.requires.valid c.restart.ensures c.requires.ready.known c.requires.ready.over)

pub execute-requires-clause-can : goal.execute-requires-clause-can
execute-requires-clause-can g c =
    let (index, is, way) = c.loop-left.invariant in
    record { object = _; firing = _; vars = _; index = index; runs = runs g.M.Memory.holds g.M.Memory.is_over g.M.Memory.beside (object_of c.args.difo.now) c.args.firing.now c.args.memory.now c.args.machine.now index c.loop-left.memory c.loop-left.machine way _ (there c.loop-left.left.now c.args.difo.now.code.items index _ is way.follows.reached.inside) }

pub execute-requires-clause-runs : goal.execute-requires-clause-runs
execute-requires-clause-runs g c =
    let (index, is, way) = c.loop-left.invariant in
    (index, runs g.M.Memory.holds g.M.Memory.is_over g.M.Memory.beside (object_of c.args.difo.now) c.args.firing.now c.args.memory.now c.args.machine.now index c.loop-left.memory c.loop-left.machine way _ (there c.loop-left.left.now c.args.difo.now.code.items index _ is way.follows.reached.inside))

pub execute-requires-clause-known : goal.execute-requires-clause-known
execute-requires-clause-known g c = c.loop-left.invariant.2.known

pub execute-requires-clause-running : goal.execute-requires-clause-running
execute-requires-clause-running g c = c.loop-left.invariant.2.running

pub loop-left-preserved-in-Ok-Next : goal.loop-left-preserved-in-Ok-Next
loop-left-preserved-in-Ok-Next g c =
    let (index, is, way) = c.loop-left.invariant in
    (index + 1, take_rest _ 1 ∙ ap (drop 1) is ∙ drop-drop 1 index c.args.difo.now.code.items, (falls_on g.M.Memory.holds g.M.Memory.is_over g.M.Memory.beside (object_of c.args.difo.now) c.args.firing.now c.args.memory.now c.args.machine.now index c.loop-left.memory c.loop-left.machine way _ (there c.loop-left.left.now c.args.difo.now.code.items index _ is way.follows.reached.inside) _ _ (rw c.in-Ok-Next.field-0-is at c.in-Ok-Next.ensures)).1)

pub offset_bounds-code-index : goal.offset_bounds-code-index
offset_bounds-code-index g c = omega (arith, (on g c).1, c.as_slice-code.type_inv.1)

pub slice_bounds-left-count-in-Ok-Goes : goal.slice_bounds-left-count-in-Ok-Goes
slice_bounds-left-count-in-Ok-Goes g c = omega (arith, (on g c).1)

pub slice_bounds-left-start-in-Ok-Goes : goal.slice_bounds-left-start-in-Ok-Goes
slice_bounds-left-start-in-Ok-Goes g c = omega (arith, (on g c).1)

pub loop-left-preserved : goal.loop-left-preserved
loop-left-preserved g c =
    let (index, is, way) = c.loop-left.invariant in
    (c.in-Ok-Goes.index, take_rest _ c.in-Ok-Goes.index ∙ ap (drop c.in-Ok-Goes.index) c.as_slice-code.ensures.value, (goes_on g.M.Memory.holds g.M.Memory.is_over g.M.Memory.beside (object_of c.args.difo.now) c.args.firing.now c.args.memory.now c.args.machine.now index c.loop-left.memory c.loop-left.machine way _ (there c.loop-left.left.now c.args.difo.now.code.items index _ is way.follows.reached.inside) _ _ _ (rw c.in-Ok-Goes.field-0-is at c.in-Ok-Goes.ensures)).1)

pub loop-left-smaller : goal.loop-left-smaller
loop-left-smaller g c =
    let (index, is, way) = c.loop-left.invariant in
    let on = on g (goal.at.loop-left-smaller g c).In-Ok-Goes in
    let all = c.as_slice-code.result.now in
    omega (arith, on.0, on.1, ap length (take_rest all c.in-Ok-Goes.index), length-drop c.in-Ok-Goes.index all, ap length is, length-drop index c.args.difo.now.code.items, ap length c.as_slice-code.ensures.value)

pub returns-in-Ok-Ends : goal.returns-in-Ok-Ends
returns-in-Ok-Ends g c =
    let (index, is, way) = c.loop-left.invariant in
    returned g.M.Memory.holds g.M.Memory.is_over g.M.Memory.beside (object_of c.args.difo.now) c.args.firing.now c.args.memory.now c.args.machine.now index c.loop-left.memory c.loop-left.machine way _ (there c.loop-left.left.now c.args.difo.now.code.items index _ is way.follows.reached.inside) _ _ _ (rw c.in-Ok-Ends.field-0-is at c.in-Ok-Ends.ensures)

pub returns-in-Err : goal.returns-in-Err
returns-in-Err g c =
    let (index, is, way) = c.loop-left.invariant in
    failed g.M.Memory.holds g.M.Memory.is_over g.M.Memory.beside (object_of c.args.difo.now) c.args.firing.now c.args.memory.now c.args.machine.now index c.loop-left.memory c.loop-left.machine way _ (there c.loop-left.left.now c.args.difo.now.code.items index _ is way.follows.reached.inside) _ _ c.in-Err.fault c.in-Err.ensures
