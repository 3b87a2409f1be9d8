-- What a row is written as.
use Rattle.std.specs.Prelude.{◌≡◌, ◌<◌, ◌^◌, ℕ, ℤ, pos, List, [], ◌∷◌, ◌++◌, Option, None, Some}
use Rattle.std.specs.Prelude.{All, FitsSigned, codes, length, map, unwrap_or}
use Rattle.std.specs.Int.{w64}
use Rattle.std.specs.Fmt.{decimal, signed_decimal}
use Rattle.recording_rows.specs.declared.row.Owner.{Owner}
use Rattle.recording_rows.specs.declared.row.Row.{Row}
use Rattle.recording_rows.specs.declared.row.Side.{Side}
use Rattle.recording_rows.specs.declared.row.Side.TheVariants.{Entry, Return}

-- the name of the probe
abbrev pub side_word : Side → List ℕ
side_word Entry = codes "entry"
side_word Return = codes "return"

-- an argument's field, which is empty if there is none
abbrev pub argument_text : Option ℤ → List ℕ
argument_text None = []
argument_text (Some z) = signed_decimal z

-- the fields from cpu to execname
abbrev pub owner_fields : Owner → List (List ℕ)
owner_fields o =
    codes "0" ∷ decimal o.thread.number ∷ decimal o.process.number ∷ o.program.bytes.now ∷ []

-- the fields of the row with this number
abbrev pub row_fields : ℕ → Row → List (List ℕ)
row_fields number r =
    decimal number ∷ codes "0" ∷ decimal r.owner.thread.number ∷ decimal r.owner.process.number
    ∷ r.owner.program.bytes.now ∷ decimal r.time ∷ codes "syscall" ∷ [] ∷ r.call.bytes.now
    ∷ side_word r.side ∷ map argument_text r.arguments

-- each of these fields after a comma
abbrev pub after_commas : List (List ℕ) → List ℕ
after_commas [] = []
after_commas (x ∷ xs) = 44 ∷ (x ++ after_commas xs)

-- the line of these fields
abbrev pub line_of : List (List ℕ) → List ℕ
line_of [] = 10 ∷ []
line_of (x ∷ xs) = (x ++ after_commas xs) ++ 10 ∷ []

-- the number that an argument is read as
abbrev pub value_of : Option ℤ → ℤ
value_of a = unwrap_or a (pos 0)

-- an argument has 64 bits
abbrev pub IsArgument : Option ℤ → Type 0
IsArgument a = FitsSigned w64 (value_of a)

-- what the types of its fields keep of a row
pub record IsRow (r : Row) : Type 0 where
  pub time : r.time < 2 ^ 64
  pub ten : length r.arguments ≡ 10
  pub fits : All IsArgument r.arguments
