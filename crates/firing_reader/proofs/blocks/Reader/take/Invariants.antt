use Rattle.std.proofs.Common.{◌≡◌, ◌++◌, ℕ, List, length}
use Rattle.firing_reader.specs.{Blocks.reads}
use Rattle.firing_reader.proofs.blocks.Reader.take.Given as goal

abbrev pub invariant-loop-left : goal.invariant-loop-left
invariant-loop-left g l = (rest : List ℕ) → reads l.self (l.left ++ rest) ≡ reads l.fn.self (l.fn.block ++ rest)

abbrev pub decreases-loop-left : goal.decreases-loop-left
decreases-loop-left g l = length l.left
