use Rattle.std.proofs.Common.{ℕ, List}
use Rattle.std.specs.Io.KnownBytes.{Appends}
use Rattle.recording_rows.specs.Steps.Blocks.{Ends}
use Rattle.recording_rows.proofs.conversion.convert_lines.Given as goal

abbrev pub invariant-loop-feed : goal.invariant-loop-feed
invariant-loop-feed g l = (sent : List ℕ) × Appends (g.W.Write.contents l.initial.output) (g.W.Write.contents l.output) sent × Ends sent l.rows
