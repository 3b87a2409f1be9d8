use Rattle.std.proofs.Common.{◌≡◌, ◌+◌, ◌++◌, ◌∷◌, [], ℕ, map, drop}
use Rattle.firings.specs.Firings.{thread_of}
use Rattle.shard_queue.specs.Threads.{thread_zero, run_threads}
use Rattle.shard_queue.specs.Groupings.{is_group}
use Rattle.shard_queue.specs.Groups.{grouping, indices, indices_from}
use Rattle.shard_queue.proofs.groups.Groups.fill.Given as goal

abbrev pub invariant-loop-at : goal.invariant-loop-at
invariant-loop-at l = record {
  index : l.index ≡ l.at + 1;
  stays : grouping l.self ≡ grouping l.fn.self;
  indices : (g : ℕ) → indices l.self g ++ indices_from (λ t. is_group g ((grouping l.fn.self).group t)) l.index (drop l.at (map thread_of l.fn.firings) ++ thread_zero ∷ [])
      ≡ indices_from (λ t. is_group g ((grouping l.fn.self).group t)) 0 (run_threads l.fn.firings);
}
