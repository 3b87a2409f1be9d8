-- A text of a firing.
use Rattle.std.specs.Prelude.{ℕ, ◌==◌, ◌&&◌, nat_le, not, List, length, Option, Some, None}
use Rattle.std.specs.Prelude.{if◌then◌else◌}
use Rattle.std.specs.List.{list_any}
use Rattle.std.specs.Str.{is_utf8}
use Rattle.firings.specs.declared.limits.TheConstants.{MAX_TEXT}

-- a text: UTF-8 of at most 255 bytes, none of them zero
abbrev pub text_of : List ℕ → Option (List ℕ)
text_of bytes =
    if nat_le (length bytes) MAX_TEXT && not (list_any (λ b. b == 0) bytes) && is_utf8 bytes
    then Some bytes else None
