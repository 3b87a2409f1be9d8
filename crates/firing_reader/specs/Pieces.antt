-- Pieces of bytes, one after another, that were read apart, and what of a trace waits in them.
-- Source: RFC 4180, section 2, with the reading of the crate `csv`.
use Rattle.std.specs.Prelude.{◌≡◌, ◌<◌, ℕ, List, [], ◌∷◌, ◌++◌, ◌+◌, drop, length, take, Some, Ok}
use Rattle.csv.specs.declared.parser.State.{State}
use Rattle.firing_reader.specs.declared.blocks.Stage.{Stage}
use Rattle.firing_reader.specs.declared.blocks.Stage.TheVariants.{Header, Rows, Refused}
use Rattle.firing_reader.specs.declared.pieces.Piece.{Piece}
use Rattle.firing_reader.specs.declared.waiting.Progress.{Progress}
use Rattle.firings.specs.declared.firing.Firing.{Firing}
use Rattle.firing_reader.specs.Left.{left_in}
use Rattle.firing_reader.specs.Plain.{BeginsAtEnd, IsEnd, rows_after}
use Rattle.firing_reader.specs.Blocks.{AreRead, BeginsAtFeed}

-- csv takes rows off the bytes, whatever comes after them, and goes on with the rest; after the old
-- firings these rows read as the new ones
pub record GoesOn (old : List Firing) (bytes : List ℕ) (new : List Firing) (rest : List ℕ)
    : Type 0 where
  pub rows : List (List (List ℕ))
  pub read : rows_after old rows ≡ Ok new
  pub taken : (tail : List ℕ) → left_in State.StartRecord (Some (bytes ++ tail))
      ≡ rows ++ left_in State.StartRecord (Some (rest ++ tail))

-- the rows in the first `count` bytes come after the old firings, and give the new ones; the next
-- byte is where a row ended, for which a line feed stands
pub record PassesRows (old : List Firing) (bytes : List ℕ) (new : List Firing) (count : ℕ)
    : Type 0 where
  pub read : GoesOn old bytes new (10 ∷ drop (count + 1) bytes)
  pub inside : count < length bytes

-- two pieces that share the end of a row
pub record AreCut (bytes front last : List ℕ) : Type 0 where
  pub first : BeginsAtEnd front
  pub end : ℕ
  pub after : List ℕ
  pub is_last : last ≡ end ∷ after
  pub ends : IsEnd end
  pub is_bytes : bytes ≡ front ++ after

-- the bytes begin with those of this piece, and it has their rows
pub record BeginsWithPiece (bytes : List ℕ) (p : Piece) : Type 0 where
  pub cut : AreCut bytes (take (p.end + 1) bytes) (drop p.end bytes)
  pub piece : PassesRows [] (take (p.end + 1) bytes) p.firings p.passed

-- the bytes are those of the pieces, one after another, and what comes after them
abbrev pub ArePieces : List Piece → List ℕ → Type 0
ArePieces [] bytes = BeginsAtEnd bytes
ArePieces (p ∷ ps) bytes = BeginsWithPiece bytes p × ArePieces ps (drop p.end bytes)

-- what isn't among the firings: bytes that wait, and those that are left, which share a line feed
abbrev pub unread : List ℕ → List ℕ → List ℕ
unread [] left = left
unread (b ∷ bytes) left = b ∷ (bytes ++ drop 1 left)

-- rows that were read in pieces, if there are bytes that wait
abbrev pub AreWaiting : List Piece → List ℕ → Type 0
AreWaiting pieces [] = Unit {0}
AreWaiting pieces (b ∷ bytes) = BeginsAtFeed (b ∷ bytes) × ArePieces pieces (b ∷ bytes)

-- what there is at each stage: only rows wait, and have a line feed before what is left
abbrev pub IsKeptAt : Stage → List Firing → List Piece → (waiting left : List ℕ) → Type 0
IsKeptAt Header firings pieces waiting left = (firings ≡ []) × (waiting ≡ [])
IsKeptAt Rows firings pieces waiting left =
    BeginsAtFeed left × (AreWaiting pieces waiting × AreRead firings)
IsKeptAt (Refused e) firings pieces waiting left = waiting ≡ []

-- what a reader keeps
abbrev pub IsKept : Stage → Progress → Type 0
IsKept stage p =
    IsKeptAt stage p.firings p.waiting.pieces.items p.waiting.bytes.items p.left.items
