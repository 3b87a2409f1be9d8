-- Where rows end in the bytes of a trace, as csv reads them byte by byte.
use Rattle.std.specs.Prelude.{◌≡◌, ◌==◌, ◌||◌, ℕ, List, ◌++◌, Some, if◌then◌else◌}
use Rattle.csv.specs.declared.parser.State.{State}
use Rattle.firing_reader.specs.Left.{left_in}
use Rattle.firing_reader.specs.declared.row_ends.Place.{Place}
use Rattle.firing_reader.specs.declared.row_ends.Place.TheVariants.{Between, Start, Field, Quoted}
use Rattle.firing_reader.specs.declared.row_ends.Place.TheVariants.{Quote}

-- rows end where these bytes do: csv reads from them, and from any bytes after them, the records
-- that it reads from both at once
abbrev pub RowsEnd : List ℕ → Type 0
RowsEnd bytes = (rest : List ℕ) → left_in State.StartRecord (Some (bytes ++ rest))
    ≡ left_in State.StartRecord (Some bytes) ++ left_in State.StartRecord (Some rest)

-- where a byte that is no quote leads, outside quotes
abbrev pub plain_after : ℕ → Place
plain_after b = if b == 44 then Start else if (b == 13) || (b == 10) then Between else Field

-- where a byte leads from a place
abbrev pub place_after : Place → ℕ → Place
place_after Field b = plain_after b
place_after Quoted b = if b == 34 then Quote else Quoted
place_after Between b = if b == 34 then Quoted else plain_after b
place_after Start b = if b == 34 then Quoted else plain_after b
place_after Quote b = if b == 34 then Quoted else plain_after b
