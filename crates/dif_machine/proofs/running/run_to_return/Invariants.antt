use Rattle.std.proofs.Common.{◌≡◌, ℕ, drop, length}
use Rattle.dif_validate.specs.Objects.{object_of}
use Rattle.dif_machine.proofs.Underway.{IsUnderWay}
use Rattle.dif_machine.proofs.running.run_to_return.Given as goal

-- what is left of the code begins at the index where the run is
abbrev pub invariant-loop-left : goal.invariant-loop-left
invariant-loop-left g l = (index : ℕ) × (l.left ≡ drop index l.fn.difo.code.items)
    × IsUnderWay g.M.Memory.holds g.M.Memory.is_over g.M.Memory.beside (object_of l.fn.difo) l.fn.firing l.fn.memory l.fn.machine index l.memory l.machine

abbrev pub decreases-loop-left : goal.decreases-loop-left
decreases-loop-left g l = length l.left
