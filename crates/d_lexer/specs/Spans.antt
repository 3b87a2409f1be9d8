-- Where tokens and faults are, by the bytes alone.
use Rattle.std.specs.Prelude.{◌≡◌, ◌==◌, ℕ, ◌+◌, ◌<◌, ◌≤◌}
use Rattle.std.specs.Prelude.{List, [], ◌∷◌, ◌++◌, length, count_by}
use Rattle.std.specs.Str.{byte}
use Rattle.d_lexer.specs.declared.token.Token.{Token}
use Rattle.d_lexer.specs.declared.fault.Flaw.{Flaw}
use Rattle.d_lexer.specs.declared.fault.LexFault.{LexFault}
use Rattle.d_lexer.specs.Faults.{on_line}

-- the line after these bytes: one more than their line feeds
abbrev pub line_after : List ℕ → ℕ
line_after bytes = 1 + count_by (λ b. b == byte "\n") bytes

-- the token has bytes of its own, and its start, stop and line are those
pub record IsInPlace (bytes : List ℕ) (t : Token) : Type 0 where
  pub before : List ℕ
  pub own : List ℕ
  pub later : List ℕ
  pub is : bytes ≡ before ++ (own ++ later)
  pub start : t.start ≡ length before
  pub stop : t.stop ≡ length (before ++ own)
  pub line : t.line ≡ line_after before

-- the tokens begin at this offset or later, have a byte at least, and none begins before the one in
-- front of it stops
abbrev pub AreInOrder : ℕ → List Token → Type 0
AreInOrder from [] = Unit {0}
AreInOrder from (t ∷ ts) = (from ≤ t.start) × (t.start < t.stop) × AreInOrder t.stop ts

-- the fault has the line of its first byte
pub record HasItsLine (bytes : List ℕ) (fault : LexFault) : Type 0 where
  pub before : List ℕ
  pub first : ℕ
  pub later : List ℕ
  pub flaw : Flaw
  pub is : bytes ≡ before ++ first ∷ later
  pub stated : fault ≡ on_line flaw (line_after before)
