-- When keys are the same, and their order.
use Rattle.std.specs.Prelude.{◌≡◌, ◌≢◌, ℕ, Bool, false, List, [], ◌∷◌, ◌++◌}
use Rattle.std.specs.{Ordering.int_eq, Hash.i64}
use Rattle.d_values.specs.Vocabulary.{pointwise, slice_cmp, int_cmp, eq_by_cmp, cast_signed, w64}
use Rattle.d_values.specs.Vocabulary.{Ordering}
use Rattle.d_values.specs.Vocabulary.{Less, Greater, KeyPart, Value}
use Rattle.d_values.specs.declared.key.KeyPart.TheVariants.{Number, Name}
use Rattle.d_values.specs.Texts.{text_cmp, same_text}

-- an integer is a signed number as a part of a key, and a text its bytes
abbrev pub part_of : Value → KeyPart
part_of (Value.Int word) = Number (cast_signed w64 word)
part_of (Value.Text bytes) = Name bytes

-- parts: integers as signed numbers, texts by their bytes, and an integer before a text
abbrev pub part_cmp : KeyPart → KeyPart → Ordering
part_cmp (Number x) (Number y) = int_cmp x y
part_cmp (Number x) (Name y) = Less
part_cmp (Name x) (Number y) = Greater
part_cmp (Name x) (Name y) = text_cmp x y

-- keys by their parts, from left to right: the first part that differs decides, and a beginning
-- comes first
abbrev pub key_cmp : List KeyPart → List KeyPart → Ordering
key_cmp = slice_cmp part_cmp

-- an order of two keys in words: a beginning comes first, and else the first part that differs
-- decides
pub record DecidesByFirstDifference (a b : List KeyPart) (order : Ordering) : Type 0 where
  pub beginning : (p : KeyPart) (more : List KeyPart) → b ≡ a ++ p ∷ more → order ≡ Less
  pub longer : (p : KeyPart) (more : List KeyPart) → a ≡ b ++ p ∷ more → order ≡ Greater
  pub differs : (front : List KeyPart) (p q : KeyPart) (xs ys : List KeyPart)
      → a ≡ front ++ p ∷ xs → b ≡ front ++ q ∷ ys → p ≢ q → order ≡ part_cmp p q

-- the same integer, or the same text
abbrev pub same_part : KeyPart → KeyPart → Bool
same_part (Number x) (Number y) = int_eq x y
same_part (Name x) (Name y) = same_text x y
same_part _ _ = false

-- as many parts, and of each two neither comes before the other
abbrev pub same_key : List KeyPart → List KeyPart → Bool
same_key = pointwise (eq_by_cmp part_cmp)

-- what a part feeds a hasher: its bytes, at once
abbrev pub part_writes : KeyPart → List (List ℕ)
part_writes (Number x) = i64 x
part_writes (Name x) = x ∷ []
