-- The script in a file, of which no more is read than shows that it is too long.
use Rattle.std.specs.Prelude.{◌≡◌, ◌<◌, ◌⊎◌, ◌++◌, ℕ, List, length}
use Rattle.consumer.specs.Vocabulary.{MAX_BYTES}

-- all of the file, or a beginning of it that no script can have
abbrev pub IsScriptIn : (all script : List ℕ) → Type 0
IsScriptIn all script = (script ≡ all)
    ⊎ ((MAX_BYTES < length script) × (rest : List ℕ) × (all ≡ script ++ rest))
