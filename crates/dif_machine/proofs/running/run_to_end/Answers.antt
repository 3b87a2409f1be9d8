use Rattle.std.specs.Prelude.{Err}
use Rattle.dif_validate.specs.Objects.{object_of}
use Rattle.dif_machine.proofs.Underway.{ended, is_there, rested}
use Rattle.dif_machine.proofs.running.run_to_end.Goals as goal

pub end-requires : goal.end-requires
end-requires g c = is_there g.M.Memory.holds g.M.Memory.is_over g.M.Memory.beside (object_of c.args.difo.now) c.args.firing.now c.args.memory.now c.args.machine.now _ _ _ c.in-Ok.ensures

pub returns-in-Ok : goal.returns-in-Ok
returns-in-Ok g c = rested g.M.Memory.holds g.M.Memory.is_over g.M.Memory.beside (object_of c.args.difo.now) c.args.firing.now c.args.memory.now c.args.machine.now _ _ g.met.M.Memory.stays _ c.in-Ok.ensures _ c.end.ensures.rests _ (ended g.M.Memory.holds g.M.Memory.is_over g.M.Memory.beside (object_of c.args.difo.now) c.args.firing.now c.args.memory.now c.args.machine.now _ _ _ c.in-Ok.ensures _ c.end.ensures.is) c.end.ensures.within

pub returns-in-Err : goal.returns-in-Err
returns-in-Err g c = rested g.M.Memory.holds g.M.Memory.is_over g.M.Memory.beside (object_of c.args.difo.now) c.args.firing.now c.args.memory.now c.args.machine.now _ _ g.met.M.Memory.stays _ c.in-Err.ensures _ c.forget.ensures.rests (Err c.in-Err.fault) c.in-Err.ensures.ends tt
