use Rattle.std.proofs.Common.{◌≡◌, ◌≤◌, ℕ, [], map, vec_len}
use Rattle.std.specs.Prelude.{slice_index_or, vec_capacity}
use Rattle.shard_queue.proofs.filling.empty_lists.Given as goal

abbrev pub invariant-loop : goal.invariant-loop
invariant-loop l = record {
  len : vec_len l.lists ≡ l.counter;
  room : l.count ≤ vec_capacity l.lists;
  none : (g : ℕ) → slice_index_or (map (λ v. v.items) l.lists.items) g [] ≡ [];
}
