-- A description as it is read: field by field from the left.
use Rattle.std.specs.Prelude.{◌==◌, ℕ, zero, suc, if◌then◌else◌, List, [], ◌∷◌, Option, Some, None}
use Rattle.d_parser.specs.Vocabulary.{Description}
use Rattle.d_parser.specs.Script.{is_ascii_digit}
use Rattle.std.specs.Str.{byte}
pub use Rattle.std.specs.List.{list_all}

abbrev pub colon : ℕ
colon = byte ":"

abbrev pub description_with : (a b c d : List ℕ) → Description
description_with a b c d = record { provider = a; «module» = b; function = c; name = d }

-- the bytes before the first colon
unfoldable pub before_colon : List ℕ → List ℕ
before_colon [] = []
before_colon (b ∷ bytes) = if b == colon then [] else b ∷ before_colon bytes

-- the bytes after the first colon, if there is one
unfoldable pub after_colon : List ℕ → Option (List ℕ)
after_colon [] = None
after_colon (b ∷ bytes) = if b == colon then Some bytes else after_colon bytes

-- one field before others, if there are such
abbrev pub with_first : List ℕ → Option (List (List ℕ)) → Option (List (List ℕ))
with_first field None = None
with_first field (Some others) = Some (field ∷ others)

-- the fields between colons, if there are no more than that
abbrev pub fields : ℕ → Option (List ℕ) → Option (List (List ℕ))
fields n None = Some []
fields zero (Some bytes) = None
fields (suc n) (Some bytes) = with_first (before_colon bytes) (fields n (after_colon bytes))

-- the fields read from the right
abbrev pub description_from : Option (List (List ℕ)) → Option Description
description_from (Some (a ∷ [])) = Some (description_with [] [] [] a)
description_from (Some (a ∷ (b ∷ []))) = Some (description_with [] [] a b)
description_from (Some (a ∷ (b ∷ (c ∷ [])))) = Some (description_with [] a b c)
description_from (Some (a ∷ (b ∷ (c ∷ (d ∷ []))))) = Some (description_with a b c d)
description_from other = None

-- at most four fields, and not digits alone
abbrev pub description_of : List ℕ → Option Description
description_of run =
    if list_all is_ascii_digit run then None else description_from (fields 4 (Some run))
