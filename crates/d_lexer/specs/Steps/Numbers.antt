-- Numbers, digit by digit.
use Rattle.std.specs.Prelude.{ℕ, ◌+◌, ◌*◌, ◌-◌, ◌^◌, nat_lt, ◌==◌, Bool, ◌&&◌, ◌||◌, if◌then◌else◌}
use Rattle.std.specs.Prelude.{List, [], ◌∷◌, Option, Some, None, option_and_then}
use Rattle.d_lexer.specs.declared.token.Suffix.{Suffix, TheVariants.Absent}
use Rattle.d_lexer.specs.declared.token.Suffix.TheVariants.{Unsigned, Long, UnsignedLong}
use Rattle.std.specs.{Char.is_digit, Char.digit_value, Str.byte}

-- the value of a digit of the base
abbrev pub digit_of : ℕ → ℕ → Option ℕ
digit_of base d = if is_digit d base then Some (digit_value d) else None

-- letters, in either case
abbrev pub is_u : ℕ → Bool
is_u b = b == byte "u" || b == byte "U"

abbrev pub is_l : ℕ → Bool
is_l b = b == byte "l" || b == byte "L"

abbrev pub is_x : ℕ → Bool
is_x b = b == byte "x" || b == byte "X"

-- the suffix that the letters spell
unfoldable pub suffix_by_letters : List ℕ → Option Suffix
suffix_by_letters [] = Some Absent
suffix_by_letters (a ∷ []) =
    if is_u a then Some Unsigned else (if is_l a then Some Long else None)
suffix_by_letters (a ∷ b ∷ []) =
    if is_u a && is_l b then Some UnsignedLong else (if is_l a && is_l b then Some Long else None)
suffix_by_letters (a ∷ b ∷ c ∷ []) =
    if is_u a && is_l b && is_l c then Some UnsignedLong else None
suffix_by_letters (a ∷ b ∷ c ∷ d ∷ z) = None

-- one digit more, below 2 ^ 64
abbrev pub one_digit_more : ℕ → ℕ → ℕ → Option ℕ
one_digit_more base n k = if nat_lt (n * base + k) (2 ^ 64) then Some (n * base + k) else None

-- the number, if what comes after its digits is a suffix
abbrev pub with_suffix : ℕ → Option Suffix → Option (ℕ × Suffix)
with_suffix n None = None
with_suffix n (Some s) = Some (n, s)

-- the digits of the base, and after them a suffix
abbrev pub number_by : (go : ℕ → Option (ℕ × Suffix)) → ℕ → ℕ → List ℕ → Option ℕ
    → Option (ℕ × Suffix)
number_by go base n bytes None = with_suffix n (suffix_by_letters bytes)
number_by go base n bytes (Some k) = option_and_then go (one_digit_more base n k)

-- the number whose first digits are n
unfoldable pub number_from : ℕ → ℕ → List ℕ → Option (ℕ × Suffix)
number_from base n [] = Some (n, Absent)
number_from base n (d ∷ ds) =
    number_by (λ k. number_from base k ds) base n (d ∷ ds) (digit_of base d)

-- hexadecimal digits, if the first byte is one
abbrev pub hex_by : List ℕ → Option ℕ → Option (ℕ × Suffix)
hex_by z None = None
hex_by z (Some k) = number_from 16 0 z

-- after 0x
abbrev pub hex_from : List ℕ → Option (ℕ × Suffix)
hex_from [] = None
hex_from (d ∷ ds) = hex_by (d ∷ ds) (digit_of 16 d)

-- after a first 0
abbrev pub zero_from : List ℕ → Option (ℕ × Suffix)
zero_from [] = Some (0, Absent)
zero_from (c ∷ ds) = if is_x c then hex_from ds else number_from 8 0 (c ∷ ds)

-- the number that a run of letters and digits spells
unfoldable pub number_spelled : List ℕ → Option (ℕ × Suffix)
number_spelled [] = None
number_spelled (b ∷ ds) = if b == byte "0" then zero_from ds else number_from 10 (b - byte "0") ds
