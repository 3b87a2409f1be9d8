use Rattle.std.proofs.Common.{arith}
use Rattle.shard_queue.proofs.BoardSteps.{begins}
use Rattle.shard_queue.proofs.board.ClaimBoard.open.Goals as goal

pub of_words-requires : goal.of_words-requires
of_words-requires c = begins (Unit {0}) _ _ (omega arith)
