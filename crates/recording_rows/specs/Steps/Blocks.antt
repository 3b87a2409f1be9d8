-- A trace on its way, of which a block is held.
use Rattle.std.specs.Prelude.{◌≡◌, ◌≤◌, ◌∷◌, ◌++◌, ℕ, List, [], Option, length, map, All}
use Rattle.std.specs.Io.KnownBytes.{Appends}
use Rattle.std.specs.List.{AllZip}
use Rattle.csv.specs.Writing.{default_writer, row_text}
use Rattle.firings.specs.Firings.{number_of}
use Rattle.firings.specs.Firings.{IsTrace}
use Rattle.firings.specs.declared.firing.Firing.{Firing}
use Rattle.firing_reader.specs.Written.{WritesFiring, WritesTrace}
use Rattle.recording_rows.specs.declared.rows.Rows.{Rows}

-- rows as csv writes them
abbrev pub rows_text : List (List (List ℕ)) → List ℕ
rows_text [] = []
rows_text (row ∷ rows) = row_text default_writer row ++ rows_text rows

-- bytes after which the rows of firings are a trace of them
abbrev pub IsHeading : List ℕ → Type 0
IsHeading bytes =
    (rows : List (List (List ℕ))) → (fs : List Firing) → AllZip WritesFiring rows fs → IsTrace fs
    → WritesTrace (bytes ++ rows_text rows) fs

-- a trace of this many rows, none of whose numbers is above that
pub record IsWritten (bytes : List ℕ) (count : ℕ) : Type 0 where
  pub heading : List ℕ
  pub rows : List (List (List ℕ))
  pub firings : List Firing
  pub is_heading : IsHeading heading
  pub text : bytes ≡ heading ++ rows_text rows
  pub each : AllZip WritesFiring rows firings
  pub trace : IsTrace firings
  pub below : All (λ n. n ≤ count) (map number_of firings)
  pub few : length firings ≤ count

-- after these bytes the block ends a trace of as many rows as are counted
abbrev pub Ends : List ℕ → Rows → Type 0
Ends before rows = IsWritten (before ++ rows.block.items) rows.count

-- whatever the block came after, it still does
abbrev pub Continues : Rows → Rows → Type 0
Continues old new = (before : List ℕ) → Ends before old → Ends before new

-- a writer took these bytes of the block's front, and the rest stays
abbrev pub Sends : Option (List ℕ) → Option (List ℕ) → Rows → Rows → Type 0
Sends before after old new =
    (sent : List ℕ) × Appends before after sent × (old.block.items ≡ sent ++ new.block.items)
    × (new.count ≡ old.count)
