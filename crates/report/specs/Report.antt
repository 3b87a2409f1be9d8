-- What the layout for people shows of a run.
use Rattle.std.specs.Prelude.{ℕ, List}
use Rattle.replay_core.specs.Meaning.{contributions_of, texts_of}
use Rattle.replay_core.specs.Vocabulary.{Firing, Made, ScriptMeant, functions_in}
use Rattle.report.specs.Output.{IsOutput}

-- the texts of the run, and then its aggregations
abbrev pub IsReport : ScriptMeant → List (Firing × Made) → List ℕ → Type 0
IsReport m run bytes = IsOutput (functions_in m) (texts_of run) (contributions_of run) bytes
