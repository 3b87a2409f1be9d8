-- A group's piece that is added to others.
use Rattle.std.specs.Prelude.{◌≡◌, ℕ, List, [], ◌∷◌, ◌++◌}
use Rattle.replay_core.specs.declared.{lanes.piece.Piece.Piece}

-- a piece comes after those before, and this holds of it and its group
pub record IsAdded (P : ℕ × Piece → Type 0) (before : List (ℕ × Piece)) (group : ℕ)
    (after : List (ℕ × Piece)) : Type 0 where
  pub piece : Piece
  pub pushed : after ≡ before ++ (group, piece) ∷ []
  pub is : P (group, piece)
