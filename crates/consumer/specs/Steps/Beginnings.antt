-- What is known of a bundle by a beginning of it.
use Rattle.std.specs.Prelude.{◌≤◌, ℕ, List, ◌++◌, length, take, drop}
use Rattle.consumer.specs.Bundle.{Divides, IsLine}

-- these bytes are whole lines, none of which divides: they come before the script of any bundle
-- that begins with them
abbrev pub ArePassed : List ℕ → Type 0
ArePassed front = (rest script trace : List ℕ) → Divides rest script trace
    → Divides (front ++ rest) (front ++ script) trace

-- the first `count` bytes are whole lines, none of which divides, and the rest is part of a line
pub record IsUndivided (bytes : List ℕ) (count : ℕ) : Type 0 where
  pub few : count ≤ length bytes
  pub passed : ArePassed (take count bytes)
  pub line : IsLine (drop count bytes)

-- the first dividing line comes after `count` bytes, which are the script; the trace begins with
-- these bytes, and goes on with those that come later
pub record IsDividedAt (bytes : List ℕ) (count : ℕ) (trace : List ℕ) : Type 0 where
  pub few : count ≤ length bytes
  pub divides : (tail : List ℕ) → Divides (bytes ++ tail) (take count bytes) (trace ++ tail)
