-- The block has what the feed gave, in calls that are off those that are left.
use Rattle.std.proofs.Common.{◌≡◌, ◌+◌, ◌++◌, ◌≤◌, ℕ, List}
use Rattle.std.specs.Io.KnownBytes.{Consumes}
use Rattle.streams.specs.Turns.{GoesOn}
use Rattle.streams.proofs.reading.read_block.Given as goal

abbrev pub invariant-loop-reading : goal.invariant-loop-reading
invariant-loop-reading g l = record {
  going : GoesOn l.reading.calls_left (g.F.Feed.seen l.feed);
  counted : (g.F.Feed.seen l.feed).calls + l.reading.calls_left ≡ (g.F.Feed.seen l.initial.feed).calls + l.initial.reading.calls_left;
  fewer : l.reading.calls_left ≤ l.initial.reading.calls_left;
  added : (bytes : List ℕ)
      × Consumes (g.F.Feed.seen l.initial.feed).remaining (g.F.Feed.seen l.feed).remaining bytes
      × (l.block.items ≡ l.initial.block.items ++ bytes);
}

abbrev pub decreases-loop-reading : goal.decreases-loop-reading
decreases-loop-reading g l = l.reading.calls_left
