-- The intake has taken what the feed gave.
use Rattle.std.proofs.Common.{[], ℕ, List}
use Rattle.std.specs.Prelude.{Option}
use Rattle.std.specs.Io.KnownBytes.{Consumes}
use Rattle.streams.proofs.Readings.{HasMade}
use Rattle.consumer.specs.Steps.Blocks.{HasTaken}
use Rattle.consumer.proofs.intake.Intake.read_from.Given as goal

abbrev pub invariant-loop-reading : goal.invariant-loop-reading
invariant-loop-reading g l = record {
  made : HasMade (g.F.Feed.seen l.initial.feed) (g.F.Feed.seen l.feed) l.reading.calls_left;
  taken : (input : List ℕ)
      × Consumes (g.F.Feed.seen l.initial.feed).remaining (g.F.Feed.seen l.feed).remaining input
      × ((apart : Option (List ℕ)) → HasTaken apart [] l.fn.begun [] → HasTaken apart l.block.items l.taken input);
}

abbrev pub decreases-loop-reading : goal.decreases-loop-reading
decreases-loop-reading g l = l.reading.calls_left
