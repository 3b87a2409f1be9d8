use Rattle.std.proofs.Common.{◌≡◌, length}
use Rattle.firing_reader.proofs.PlainArguments.{ReadSoFar}
use Rattle.firing_reader.proofs.plain.arguments.read_arguments.Given as goal

abbrev pub invariant-loop-n : goal.invariant-loop-n
invariant-loop-n l = record {
  read : ReadSoFar l.n l.bytes l.rest l.fn.all.items l.all.items;
  first : l.first ≡ length l.fn.all.items;
}
