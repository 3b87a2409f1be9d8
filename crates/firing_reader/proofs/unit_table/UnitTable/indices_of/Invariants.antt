use Rattle.std.proofs.Common.{take}
use Rattle.firings.specs.Stored.{AreIndices, Extends}
use Rattle.firing_reader.proofs.unit_table.UnitTable.indices_of.Given as goal

abbrev pub invariant-loop-at : goal.invariant-loop-at
invariant-loop-at g l = record {
  grows : Extends l.fn.self l.self;
  indices : AreIndices l.self l.indices.items (take l.at l.others);
}
