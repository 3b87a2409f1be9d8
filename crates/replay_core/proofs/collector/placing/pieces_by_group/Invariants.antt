use Rattle.std.proofs.Common.{◌≡◌, ◌≤◌, ◌++◌, ℕ, None, get_or, vec_len, vec_capacity, IsPermutation}
use Rattle.std.specs.Vec.Iter.{into_iter_items}
use Rattle.replay_core.specs.Steps.PiecePlaces.{is_filled, pieces_with_places}
use Rattle.replay_core.specs.Collecting.{first_bad, first_bad_after}
use Rattle.replay_core.proofs.collector.placing.pieces_by_group.Given as goal

abbrev pub invariant-room : goal.invariant-room
invariant-room l = record {
  len : vec_len l.places ≡ l.counter;
  room : l.fn.n ≤ vec_capacity l.places;
  none : (k : ℕ) → get_or l.places.items k None ≡ None;
}

abbrev pub invariant-fill : goal.invariant-fill
invariant-fill l = record {
  len : vec_len l.places ≡ l.fn.n;
  bad : first_bad l.fn.n l.fn.pieces.items ≡ first_bad_after (is_filled l.places.items) l.fn.n (into_iter_items l.group-iterator);
  same : IsPermutation l.fn.pieces.items (pieces_with_places 0 l.places.items ++ into_iter_items l.group-iterator);
}
