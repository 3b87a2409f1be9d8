use Rattle.std.proofs.Common.{◌≡◌, ◌+◌, ◌-◌, ℕ, get_or, vec_len}
use Rattle.dif_machine.proofs.lane_memory.set_at.Given as goal

abbrev pub invariant-loop-words : goal.invariant-loop-words
invariant-loop-words l = (k : ℕ) → get_or l.words.items k 0 ≡ get_or l.fn.words.items k 0

abbrev pub decreases-loop-words : goal.decreases-loop-words
decreases-loop-words l = (l.index + 1) - vec_len l.words
