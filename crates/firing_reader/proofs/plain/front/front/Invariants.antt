use Rattle.std.proofs.Common.{All, take}
use Rattle.firing_reader.specs.Steps.Plain.{JoinsField}
use Rattle.firing_reader.proofs.plain.front.front.Given as goal

abbrev pub invariant-loop-at : goal.invariant-loop-at
invariant-loop-at l = All JoinsField (take l.at l.bytes)
