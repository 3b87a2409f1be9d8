use Rattle.std.proofs.Common.{◌≤◌, ◌<◌, ℕ, length, get_or, ◌-◌}
use Rattle.replay_core.proofs.selection.indices.count_below.Given as goal

abbrev pub invariant-loop-count : goal.invariant-loop-count
invariant-loop-count l = record {
  within : l.count ≤ length l.indices;
  low : (k : ℕ) → k < l.count → get_or l.indices k 0 < l.index;
}

abbrev pub decreases-loop-count : goal.decreases-loop-count
decreases-loop-count l = length l.indices - l.count
