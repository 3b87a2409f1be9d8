use Rattle.std.proofs.Common.{arith, ◌≡◌, ◌∙◌, ap}
use Rattle.shard_queue.proofs.Lists.{all_tail, all_push}
use Rattle.replay_core.specs.Vocabulary.{IsAt, IsNew}
use Rattle.replay_core.proofs.workers.at_board.fn.in_threads.scope.Goals as goal

pub loop-seat-preserved : goal.loop-seat-preserved
loop-seat-preserved g c =
    let i = c.loop-seat.invariant in
    let p = c.in_ok-child.ensures.ok in
    let w = c.in_ok-child.child.promise in
    let kept : (w.board.now ≡ c.captures.board.now) × (w.lanes.now ≡ c.captures.lanes.now) × (w.trace.now ≡ c.captures.trace.now) × (w.groups.now ≡ c.captures.groups.now) × (w.span ≡ c.captures.span) = (ap (λ w. w.board.now) p ∙ c.new.ensures.board, ap (λ w. w.lanes.now) p ∙ c.new.ensures.lanes, ap (λ w. w.trace.now) p ∙ c.new.ensures.trace, ap (λ w. w.groups.now) p ∙ c.new.ensures.groups, ap (λ w. w.span) p ∙ c.new.ensures.span) in
    record {
      len = let l = c.push_reserved.ensures.len in let s = c.in-Some.ensures.steps.1 in let m = i.len in omega arith;
      room = let l = c.push_reserved.ensures.capacity in let m = i.room in omega arith;
      seats = all_tail (λ s. IsAt c.captures.board.now s × IsNew s) _ _ _ i.seats c.in-Some.ensures.steps.0;
      promised = all_push (λ h. (h.promise.board.now ≡ c.captures.board.now) × (h.promise.lanes.now ≡ c.captures.lanes.now) × (h.promise.trace.now ≡ c.captures.trace.now) × (h.promise.groups.now ≡ c.captures.groups.now) × (h.promise.span ≡ c.captures.span)) c.loop-seat.handles.items c.push_reserved.new.self.items c.in_ok-child.child i.promised kept c.push_reserved.ensures.items;
    }
