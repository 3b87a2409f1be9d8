use Rattle.std.proofs.Common.{◌≡◌, ◌≤◌, ◌+◌, ◌++◌, map, Some, length, vec_len, vec_capacity}
use Rattle.std.specs.Vec.Iter.{into_iter_items}
use Rattle.replay_core.specs.Steps.PiecePlaces.{first_missing}
use Rattle.replay_core.proofs.collector.placing.pieces_in_order.Given as goal

abbrev pub invariant-loop-place : goal.invariant-loop-place
invariant-loop-place l = record {
  group : l.group ≡ vec_len l.pieces;
  len : vec_len l.pieces + length (into_iter_items l.place-iterator) ≡ vec_len l.fn.places;
  room : vec_len l.fn.places ≤ vec_capacity l.pieces;
  parts : map Some l.pieces.items ++ into_iter_items l.place-iterator ≡ l.fn.places.items;
  missing : first_missing 0 l.fn.places.items ≡ first_missing l.group (into_iter_items l.place-iterator);
}
