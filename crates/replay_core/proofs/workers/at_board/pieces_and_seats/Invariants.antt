use Rattle.std.proofs.Common.{◌≡◌, ◌+◌, ◌++◌, List, Result, vec_len}
use Rattle.std.specs.declared.alloc.AllocError.{AllocError}
use Rattle.replay_core.specs.AtBoard.{Part}
use Rattle.replay_core.specs.Steps.AtBoard.{AreFinished}
use Rattle.replay_core.proofs.workers.at_board.pieces_and_seats.Given as goal

abbrev pub invariant-loop-worked : goal.invariant-loop-worked
invariant-loop-worked l = record {
  len : vec_len l.seats + l.worked-iterator.rest.len ≡ vec_len l.fn.results;
  finished : (before : List (Result Part AllocError)) × (l.fn.results.items ≡ before ++ l.worked-iterator.rest.items) × AreFinished before l.pieces.items l.seats.items;
}
