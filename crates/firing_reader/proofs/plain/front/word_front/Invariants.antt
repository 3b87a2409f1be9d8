use Rattle.std.proofs.Common.{All, take}
use Rattle.firing_reader.specs.Steps.Plain.{IsWordByte}
use Rattle.firing_reader.proofs.plain.front.word_front.Given as goal

abbrev pub invariant-loop-at : goal.invariant-loop-at
invariant-loop-at l = All IsWordByte (take l.at l.bytes)
