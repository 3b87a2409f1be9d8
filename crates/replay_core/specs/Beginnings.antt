-- What a worker runs of a group while it watches for exits.
use Rattle.std.specs.Prelude.{◌≡◌, ◌⊎◌, ℕ, ◌<◌, min, List, [], ◌∷◌, ◌++◌, All, Option, None, Some}
use Rattle.std.specs.Prelude.{is_some, true}
use Rattle.replay_core.specs.Vocabulary.{Firing, ScriptMeant, no_number}
use Rattle.replay_core.specs.declared.lanes.piece.Piece.{Piece}
use Rattle.replay_core.specs.{Groups.Grouping, Groups.of_group, Meaning.exit_of, Meaning.history}
use Rattle.replay_core.specs.{Meaning.blank_threads, Pieces.IsPieceOf, Seen.IsRoomy}
use Rattle.replay_core.specs.{Seen.piece_seen}

-- the exit of a run over these firings
abbrev pub exit_over : ScriptMeant → List Firing → Option (ℕ × ℕ)
exit_over m fs = exit_of (history m fs blank_threads)

-- the last of these firings is the first that exits
pub record ExitsLast (m : ScriptMeant) (fs : List Firing) : Type 0 where
  pub before : List Firing
  pub last : Firing
  pub parts : fs ≡ before ++ last ∷ []
  pub none : exit_over m before ≡ None
  pub exits : is_some (exit_over m fs) ≡ true

-- nothing is left, or what is left begins with a number over what was seen
abbrev pub IsLeft : ℕ → List Firing → Type 0
IsLeft seen [] = Unit {0}
IsLeft seen (f ∷ fs) = seen < f.number

-- these are a beginning of all: it ends with the first that exits; if none does, before one whose
-- number is above what was seen, or with the last
pub record IsBeginning (m : ScriptMeant) (seen : ℕ) (fs all : List Firing) : Type 0 where
  pub rest : List Firing
  pub parts : all ≡ fs ++ rest
  pub end : ExitsLast m fs ⊎ ((exit_over m fs ≡ None) × IsLeft seen rest)

-- the piece is what a beginning of these firings makes
pub record IsBegun (m : ScriptMeant) (seen : ℕ) (all : List Firing) (p : Piece) : Type 0 where
  pub fired : List Firing
  pub beginning : IsBeginning m seen fired all
  pub piece : IsPieceOf m fired (piece_seen p)

abbrev pub IsBegunOf : ScriptMeant → ℕ → Grouping → List Firing → ℕ × Piece → Type 0
IsBegunOf m seen grouping fs (g, piece) = IsBegun m seen (of_group grouping g fs) piece

-- each piece is so for each meaning of the script, and holds few enough contributions
pub record AreBegun (runs : ScriptMeant → Type 0) (seen : ℕ) (grouping : Grouping)
    (fs : List Firing) (pieces : List (ℕ × Piece)) : Type 0 where
  pub each : (m : ScriptMeant) → runs m → All (IsBegunOf m seen grouping fs) pieces
  pub roomy : All (λ (g, piece). IsRoomy piece) pieces

-- a number, or that of the exit if it is less
abbrev pub lesser_of : ℕ → Option (ℕ × ℕ) → ℕ
lesser_of number None = number
lesser_of number (Some (other, status)) = min number other

-- the least number of the pieces' exits, 2^64 - 1 without any
abbrev pub least_exit : List (ℕ × Piece) → ℕ
least_exit [] = no_number
least_exit ((g, piece) ∷ others) = lesser_of (least_exit others) piece.exit
