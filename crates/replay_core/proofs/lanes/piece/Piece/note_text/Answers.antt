use Rattle.std.proofs.Common.{is_ok}
use Rattle.replay_core.proofs.NotedLemmas.{event_noted}
use Rattle.replay_core.proofs.lanes.piece.Piece.note_text.Goals as goal

pub invariant_of-self : goal.invariant_of-self
invariant_of-self c = record {
  noted = event_noted (is_ok c.push.result) c.args.self.now.taken.items c.args.self.now.events.items c.push.new.self.items c.args.number c.args.text
      c.push.ensures.items c.args.self.now.noted c.requires;
}
