use Rattle.std.proofs.Common.{All, take}
use Rattle.firing_reader.specs.Plain.{IsEnd}
use Rattle.firing_reader.proofs.plain.front.ends_at.Given as goal

abbrev pub invariant-loop-at : goal.invariant-loop-at
invariant-loop-at l = All IsEnd (take l.at l.bytes)
