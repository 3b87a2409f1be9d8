use Rattle.replay_core.proofs.workers.at_board.add_worked.Goals as goal

pub returns-clause-added : goal.returns-clause-added
returns-clause-added c = record {
  part = (c.in_ok-part.part, c.in_ok-part.seat);
  came = c.in_ok-part.was;
  added = c.in_ok-append.ensures.items;
  seated = c.in_ok-push.ensures.items;
}
