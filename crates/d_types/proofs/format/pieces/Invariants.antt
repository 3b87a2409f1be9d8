use Rattle.std.proofs.Common.{◌≡◌, [], drop}
use Rattle.d_types.specs.declared.format.Place.TheVariants as at
use Rattle.d_types.specs.Steps.Formats as spec
use Rattle.d_types.proofs.format.pieces.Given as goal

abbrev pub invariant-loop-byte : goal.invariant-loop-byte
invariant-loop-byte l = spec.pieces_from l.done.items l.place (drop l.byte-index l.format) ≡ spec.pieces_from [] at.Outside l.format
