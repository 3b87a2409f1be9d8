-- The aggregations of a run, appended to what was written before.
use Rattle.std.specs.Prelude.{◌≡◌, ℕ, List, [], ◌++◌}
use Rattle.report.specs.Vocabulary.{AggFn, Contribution}
use Rattle.report.specs.Output.{IsOutput}

-- the bytes after are those before, and then the aggregations
pub record AppendsTables (functions : List AggFn) (contributions : List Contribution)
    (before after : List ℕ) : Type 0 where
  pub tables : List ℕ
  pub shown : IsOutput functions [] contributions tables
  pub joined : after ≡ before ++ tables
