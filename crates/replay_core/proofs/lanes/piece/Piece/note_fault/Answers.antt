use Rattle.std.proofs.Common.{is_ok}
use Rattle.replay_core.proofs.NotedLemmas.{event_noted, front_noted}
use Rattle.replay_core.proofs.lanes.piece.Piece.note_fault.Goals as goal

pub invariant_of-self : goal.invariant_of-self
invariant_of-self c = record {
  noted = front_noted _ c.args.self.now.taken.items c.args.self.now.events.items c.truncate.new.self.items
      c.truncate.ensures.items c.args.self.now.noted;
}

pub invariant_of-self-2 : goal.invariant_of-self-2
invariant_of-self-2 c =
    let taken = c.args.self.now.taken.items in
    let front = front_noted _ taken c.args.self.now.events.items c.truncate.new.self.items c.truncate.ensures.items c.args.self.now.noted in
    record {
      noted = event_noted (is_ok c.push.result) taken c.truncate.new.self.items c.push.new.self.items c.args.number c.in_ok-line.line
          c.push.ensures.items front c.requires;
    }
