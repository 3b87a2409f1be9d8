-- What a worker gave back, added to what others did.
use Rattle.std.specs.Prelude.{◌≡◌, ℕ, List, [], ◌∷◌, ◌++◌, Result, Ok}
use Rattle.replay_core.specs.Vocabulary.{ClaimSeat}
use Rattle.replay_core.specs.declared.{lanes.piece.Piece.Piece}
use Rattle.replay_core.specs.AtBoard.{Part}

-- a worker came to its end, and its pieces and its seat come after the others
pub record IsWorkAdded {E : Type 0} (worked : Result Part E) (pieces new : List (ℕ × Piece))
    (seats more : List ClaimSeat) : Type 0 where
  pub part : Part
  pub came : worked ≡ Ok part
  pub added : new ≡ pieces ++ part.0.items
  pub seated : more ≡ seats ++ part.1 ∷ []
