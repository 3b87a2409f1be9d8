-- What is gone from `rest` was written, in at most as many calls.
use Rattle.std.proofs.Common.{◌≡◌, ◌+◌, ◌≤◌, ℕ, length, take, drop, IsFalse}
use Rattle.std.specs.Io.KnownBytes.{Appends}
use Rattle.streams.proofs.writing.emit.Given as goal

abbrev pub invariant-loop-rest : goal.invariant-loop-rest
invariant-loop-rest g l = (k : ℕ) × (k ≤ length l.fn.bytes) × (l.rest ≡ drop k l.fn.bytes)
    × Appends (g.S.Sink.seen l.initial.sink).bytes (g.S.Sink.seen l.sink).bytes (take k l.fn.bytes)
    × ((g.S.Sink.seen l.sink).calls ≤ (g.S.Sink.seen l.initial.sink).calls + k)
    × IsFalse (g.S.Sink.seen l.sink).has_failed

abbrev pub decreases-loop-rest : goal.decreases-loop-rest
decreases-loop-rest g l = length l.rest
