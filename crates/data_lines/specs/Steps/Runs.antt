-- The lines of some aggregations, appended to what was written before.
use Rattle.std.specs.Prelude.{◌≡◌, ℕ, List, ◌++◌}
use Rattle.data_lines.specs.Vocabulary.{Agg, Contribution, flat_map}
use Rattle.data_lines.specs.Runs.{Listed, listed_lines, AreListed}

-- the bytes after are those before, and then the entries of these aggregations
pub record AppendsListed (aggregations : List (ℕ × Agg)) (contributions : List Contribution)
    (before after : List ℕ) : Type 0 where
  pub listed : List Listed
  pub are : AreListed aggregations contributions listed
  pub joined : after ≡ before ++ flat_map listed_lines listed
