-- The ends of all workers, and what they make a round.
use Rattle.std.specs.Prelude.{◌≡◌, ℕ, List, map, All, Result, Ok}
use Rattle.replay_core.specs.Vocabulary.{ClaimBoard, ClaimSeat, Firing, Groups, ScriptMeant}
use Rattle.replay_core.specs.Vocabulary.{flat_map, grouping}
use Rattle.replay_core.specs.declared.{lanes.piece.Piece.Piece, workers.round.Round.Round}
use Rattle.replay_core.specs.{Exit.firings_over, Groups.IsAllBelow, Seen.IsRoomy}
use Rattle.replay_core.specs.Working.{IsOfGroup, IsReady}
use Rattle.replay_core.specs.{Selecting.AreSelected}
use Rattle.replay_core.specs.AtBoard.{Part}

-- a board hands out all groups, and what its workers run is known
abbrev pub IsGiven : (ScriptMeant → Type 0) → ClaimBoard → Groups → List Firing → List (List ℕ)
    → Type 0
IsGiven runs board groups trace selected =
    (board.end ≡ (grouping groups).count) × IsReady runs groups trace
    × AreSelected runs trace selected

-- every worker came to its end, and the pieces and the seats are theirs, in order
pub record AreFinished {E : Type 0} (results : List (Result Part E)) (pieces : List (ℕ × Piece))
    (seats : List ClaimSeat) : Type 0 where
  pub parts : List Part
  pub each : results ≡ map Ok parts
  pub all : pieces ≡ flat_map (λ p. p.0.items) parts
  pub seated : seats ≡ map (λ p. p.1) parts

-- each of the groups has one piece and is in one worker's list, and each piece is what the group's
-- firings that count make
pub record IsRun (runs : ScriptMeant → Type 0) (groups : Groups) (trace : List Firing) (r : Round)
    : Type 0 where
  pub once : IsAllBelow (grouping groups).count (map (λ p. p.0) r.pieces.items)
  pub taken : IsAllBelow (grouping groups).count (flat_map (λ list. list.items) r.lists.items)
  pub each : (m : ScriptMeant) → runs m
      → All (IsOfGroup m (grouping groups) (firings_over m trace)) r.pieces.items
  pub roomy : All (λ p. IsRoomy p.1) r.pieces.items
