-- Numbers: what a run of letters and digits stands for.
-- Source: Dynamic Tracing Guide, "Constants".
use Rattle.std.specs.Prelude.{◌≡◌, ◌≢◌, ℕ, ◌^◌, ◌<◌, true, Option, Some, List, [], ◌∷◌, ◌++◌, map}
use Rattle.std.specs.Prelude.{codes}
use Rattle.std.specs.{Map.lookup, Str.bytes_eq, Str.byte}
use Rattle.std.specs.Str.Parse.{AllDigits, digits_value}
use Rattle.std.specs.Char.{to_ascii_lowercase, eq_ignore_ascii_case}
use Rattle.d_lexer.specs.declared.token.Suffix.{Suffix}
use Rattle.d_lexer.specs.declared.token.Suffix.TheVariants.{Absent, Unsigned, Long, UnsignedLong}

-- the suffixes, in lower case
abbrev pub suffixes : List (List ℕ × Suffix)
suffixes =
    (codes "", Absent) ∷ (codes "u", Unsigned) ∷ (codes "l", Long) ∷ (codes "ul", UnsignedLong)
    ∷ (codes "ll", Long) ∷ (codes "ull", UnsignedLong) ∷ []

-- the suffix that the letters spell, in either case
unfoldable pub suffix_of : List ℕ → Option Suffix
suffix_of letters = lookup (bytes_eq (map to_ascii_lowercase letters)) suffixes

-- how the base is written: 0x and hexadecimal digits, 0 and perhaps octal digits, or decimal digits
-- that begin with another
pub data IsBase (base : ℕ) (before digits : List ℕ) : Type 0 where
  hexadecimal : (x d : ℕ) (ds : List ℕ) → base ≡ 16 → before ≡ byte "0" ∷ (x ∷ [])
      → eq_ignore_ascii_case x (byte "x") ≡ true → digits ≡ d ∷ ds → IsBase base before digits
  octal : (ds : List ℕ) → base ≡ 8 → before ≡ [] → digits ≡ byte "0" ∷ ds
      → IsBase base before digits
  decimal : (d : ℕ) (ds : List ℕ) → base ≡ 10 → before ≡ [] → digits ≡ d ∷ ds → d ≢ byte "0"
      → IsBase base before digits

-- the bytes are digits of the base, whose value is n, below 2 ^ 64, and a suffix
pub record IsIntegerConstant (own : List ℕ) (n : ℕ) (s : Suffix) : Type 0 where
  pub base : ℕ
  pub before : List ℕ
  pub digits : List ℕ
  pub later : List ℕ
  pub is : own ≡ before ++ (digits ++ later)
  pub stated : IsBase base before digits
  pub are : AllDigits base digits
  pub value : n ≡ digits_value base digits
  pub fits : n < 2 ^ 64
  pub suffix : suffix_of later ≡ Some s
