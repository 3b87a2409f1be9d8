-- What a layout shows of a run.
use Rattle.std.specs.Prelude.{◌≡◌, ℕ, List}
use Rattle.replay_core.specs.Vocabulary.{Firing, Made, ScriptMeant}

-- which bytes show a run of a script; a run is its firings, each with what it made
abbrev pub LayoutMeant : Type 1
LayoutMeant = ScriptMeant → List (Firing × Made) → List ℕ → Type 0

-- each run is shown by some bytes, and by no others
pub record IsDeterministic (shows : LayoutMeant) : Type 0 where
  pub one : (m : ScriptMeant) (run : List (Firing × Made)) (xs ys : List ℕ)
      → shows m run xs → shows m run ys → xs ≡ ys
  pub some : (m : ScriptMeant) (run : List (Firing × Made)) → (bytes : List ℕ) × shows m run bytes
