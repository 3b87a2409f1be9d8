use Rattle.std.proofs.Common.{◌≡◌, ◌≤◌, ◌+◌, All, vec_len, vec_capacity}
use Rattle.replay_core.specs.Vocabulary.{IsAt, IsNew}
use Rattle.replay_core.proofs.workers.at_board.fn.in_threads.scope.Given as goal

abbrev pub invariant-loop-seat : goal.invariant-loop-seat
invariant-loop-seat g l = record {
  len : vec_len l.handles + l.seat-iterator.rest.len ≡ l.initial.seat-iterator.rest.len;
  room : l.initial.seat-iterator.rest.len ≤ vec_capacity l.handles;
  seats : All (λ s. IsAt l.board.now s × IsNew s) l.seat-iterator.rest.items;
  promised : All (λ h. (h.promise.board.now ≡ l.board.now) × (h.promise.lanes.now ≡ l.lanes.now) × (h.promise.trace.now ≡ l.trace.now) × (h.promise.groups.now ≡ l.groups.now) × (h.promise.span ≡ l.span)) l.handles.items;
}
