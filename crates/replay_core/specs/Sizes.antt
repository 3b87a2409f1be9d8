-- How many firings a run has at most.
use Rattle.std.specs.Prelude.{ℕ, ◌+◌}
use Rattle.firings.specs.declared.limits.TheConstants.{MAX_ROWS}

-- BEGIN, the rows of a trace and END
abbrev pub most_firings : ℕ
most_firings = MAX_ROWS + 2
