-- Texts that a field of CSV holds as they are.
-- Source: RFC 4180, section 2, with the reading of the crate `csv`.
use Rattle.std.specs.Prelude.{ℕ, Bool, List, length, nat_le, ◌&&◌, ◌==◌, not}
use Rattle.std.specs.List.{list_all}

-- a space or a byte that can be seen, and no quote and no comma
abbrev pub is_plain_byte : ℕ → Bool
is_plain_byte b = nat_le 32 b && nat_le b 126 && not (b == 34) && not (b == 44)

-- at most 255 such bytes
abbrev pub is_word : List ℕ → Bool
is_word bytes = nat_le (length bytes) 255 && list_all is_plain_byte bytes
