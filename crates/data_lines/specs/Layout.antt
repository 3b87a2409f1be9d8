-- What the layout for other programs shows of a run.
use Rattle.std.specs.Prelude.{ℕ, List, length}
use Rattle.replay_core.specs.Meaning.{contributions_of, exit_of, texts_of}
use Rattle.replay_core.specs.Vocabulary.{Firing, Made, ScriptMeant}
use Rattle.data_lines.specs.Runs.{IsData, WholeRun}

-- a run of firings, each with what it makes
abbrev pub whole_run : List (Firing × Made) → WholeRun
whole_run run = record {
  texts = texts_of run;
  contributions = contributions_of run;
  exit = exit_of run;
  firings = length run;
}

-- the run's data
abbrev pub IsDataOf : ScriptMeant → List (Firing × Made) → List ℕ → Type 0
IsDataOf m run bytes = IsData m.aggregations (whole_run run) bytes
