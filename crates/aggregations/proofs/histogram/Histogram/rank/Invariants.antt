use Rattle.aggregations.proofs.RankLemmas.{Ranking}
use Rattle.aggregations.proofs.histogram.Histogram.rank.Given as goal

abbrev pub invariant-loop-bucket : goal.invariant-loop-bucket
invariant-loop-bucket l = Ranking l.self-inside.scale l.self-inside.used.entries l.bucket-iterator l.rank
