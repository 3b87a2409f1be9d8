-- Plain fields and rows as they are taken off the front of the bytes.
use Rattle.std.specs.Prelude.{◌≡◌, ◌≢◌, ◌<◌, ◌≤◌, ℕ, List, [], ◌∷◌, ◌++◌, All, Option, Some, map}
use Rattle.std.specs.Prelude.{ℤ, ◌^◌, length, take}
use Rattle.csv.specs.declared.parser.State.{State}
use Rattle.firing_reader.specs.Vocabulary.{next_record, default_config}
use Rattle.firing_reader.specs.Plain.{IsEnd, Passes, state_after}
use Rattle.firing_reader.specs.Column.{number_from, signed_of}

-- a byte that only joins a field: no comma, quote, carriage return or line feed
abbrev pub JoinsField : ℕ → Type 0
JoinsField b = (b ≢ 44) × (b ≢ 34) × (b ≢ 13) × (b ≢ 10)

-- there are this many bytes, and each of them at the front is so
abbrev pub AreFirst : (ℕ → Type 0) → List ℕ → (count : ℕ) → Type 0
AreFirst Holds bytes count = (count ≤ length bytes) × All Holds (take count bytes)

-- the bytes begin with this field
pub record BeginsWith (bytes field rest : List ℕ) : Type 0 where
  pub split : bytes ≡ field ++ rest
  pub plain : All JoinsField field

-- the bytes begin with a field that reads as this value
abbrev pub BeginsAs : {V : Type 0} → (List ℕ → Option V) → List ℕ → V → List ℕ → Type 0
BeginsAs read bytes value rest =
    (field : List ℕ) × BeginsWith bytes field rest × (read field ≡ Some value)

-- a byte from the minus on, in ASCII: digits, letters and most of what names have
abbrev pub IsWordByte : ℕ → Type 0
IsWordByte b = (45 ≤ b) × (b < 128)

-- csv takes these fields off the bytes, whatever comes after them, and they end a record: the rest
-- begins at its end
pub record Closes (bytes : List ℕ) (fields : List (List ℕ)) (rest : List ℕ) : Type 0 where
  pub end : ℕ
  pub after : List ℕ
  pub is_rest : rest ≡ end ∷ after
  pub ends : IsEnd end
  pub read : (before : List (List ℕ)) (tail : List ℕ) →
      next_record default_config State.StartField before [] (bytes ++ tail)
      ≡ Some (before ++ fields, state_after end, after ++ tail)

-- after a record the bytes begin with a row of this number, maybe after empty lines, and the rest
-- comes after its comma
pub record BeginsRow (bytes : List ℕ) (number : ℕ) (rest : List ℕ) : Type 0 where
  pub ends : List ℕ
  pub first : ℕ
  pub more : List ℕ
  pub is_bytes : bytes ≡ ends ++ first ∷ more
  pub are_ends : All IsEnd ends
  pub joins : JoinsField first
  pub field : List ℕ
  pub passes : Passes (first ∷ more) (field ∷ []) rest
  pub is_number : number_from 1 (2 ^ 62) field ≡ Some number

-- the last ten columns: arguments, and the fields that write them
pub record ReadsArguments (bytes rest : List ℕ) (args : List ℤ) : Type 0 where
  pub x0 : List ℕ
  pub x1 : List ℕ
  pub x2 : List ℕ
  pub x3 : List ℕ
  pub x4 : List ℕ
  pub x5 : List ℕ
  pub x6 : List ℕ
  pub x7 : List ℕ
  pub x8 : List ℕ
  pub x9 : List ℕ
  pub closes : Closes bytes (x0 ∷ x1 ∷ x2 ∷ x3 ∷ x4 ∷ x5 ∷ x6 ∷ x7 ∷ x8 ∷ x9 ∷ []) rest
  pub values : map signed_of (x0 ∷ x1 ∷ x2 ∷ x3 ∷ x4 ∷ x5 ∷ x6 ∷ x7 ∷ x8 ∷ x9 ∷ [])
      ≡ map (λ a. Some a) args

-- the rest is the end of a row, and then the last of the bytes, after at least one of them
pub record Leaves (bytes rest : List ℕ) : Type 0 where
  pub first : ℕ
  pub front : List ℕ
  pub end : ℕ
  pub after : List ℕ
  pub is_bytes : bytes ≡ first ∷ (front ++ after)
  pub is_rest : rest ≡ end ∷ after
  pub ends : IsEnd end
