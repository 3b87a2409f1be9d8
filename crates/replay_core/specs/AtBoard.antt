-- What the workers of a board give back.
use Rattle.std.specs.Prelude.{◌≡◌, ◌≤◌, ℕ, true, List, map, All, Vec, IfOk, Result}
use Rattle.replay_core.specs.Vocabulary.{ClaimBoard, ClaimSeat, Firing, Global, Groups, Handed}
use Rattle.replay_core.specs.Vocabulary.{IsAt, ScriptMeant, claim_handed, flat_map, grouping}
use Rattle.replay_core.specs.Vocabulary.{least_lowered, least_seen, number_lowered, number_seen}
use Rattle.replay_core.specs.Vocabulary.{with_ends}
use Rattle.replay_core.specs.declared.{lanes.piece.Piece.Piece, workers.round.Round.Round}
use Rattle.replay_core.specs.declared.{workers.span.Span.Span}
use Rattle.replay_core.specs.declared.workers.span.Span.TheVariants as span
use Rattle.replay_core.specs.{Groups.IsAllBelow}
use Rattle.replay_core.specs.Beginnings.{AreBegun, least_exit}
use Rattle.replay_core.specs.Working.{AreOfGroups, firings_in}

-- a worker's pieces, each with its group, and its seat
abbrev pub PartOf : Type 0 → Type 0
PartOf S = Vec (ℕ × Piece) Global × S

abbrev pub Part : Type 0
Part = PartOf ClaimSeat

abbrev pub pieces_of : {S : Type 0} → PartOf S → List (ℕ × Piece)
pieces_of (pieces, seat) = pieces.items

abbrev pub seat_of : {S : Type 0} → PartOf S → S
seat_of (pieces, seat) = seat

-- the pieces are of the groups that the seat was handed, in their order, and it is at the end
pub record IsWorkOf {S : Type 0} (is_at : S → Type 0) (handed : S → Handed)
    (Gives : PartOf S → Type 0) (part : PartOf S) : Type 0 where
  pub at : is_at (seat_of part)
  pub at_end : (handed (seat_of part)).at_end ≡ true
  pub order : map (λ (g, piece). g) (pieces_of part) ≡ (handed (seat_of part)).numbers
  pub gives : Gives part

-- the worker's promise at a board
abbrev pub IsWork : (Part → Type 0) → ClaimBoard → Part → Type 0
IsWork P board = IsWorkOf (IsAt board) claim_handed P

-- the pieces are what these firings of their groups make
abbrev pub GivesPieces : {S : Type 0} → (ScriptMeant → Type 0) → Groups → List Firing
    → PartOf S → Type 0
GivesPieces runs groups firings part = AreOfGroups runs (grouping groups) firings (pieces_of part)

-- the pieces are what beginnings make, and the seat lowered the least number of their exits
abbrev pub GivesBegun : {S : Type 0} → (seen lowered : S → ℕ) → (ScriptMeant → Type 0)
    → Groups → List Firing → PartOf S → Type 0
GivesBegun seen lowered runs groups trace part =
    AreBegun runs (seen (seat_of part)) (grouping groups) (with_ends trace trace) (pieces_of part)
    × (lowered (seat_of part) ≡ least_exit (pieces_of part))

abbrev pub Gives : Span → (ScriptMeant → Type 0) → Groups → List Firing → Part → Type 0
Gives span.All runs groups trace = GivesPieces runs groups (firings_in span.All trace)
Gives (span.UpTo last end) runs groups trace =
    GivesPieces runs groups (firings_in (span.UpTo last end) trace)
Gives span.UntilExit runs groups trace = GivesBegun number_seen number_lowered runs groups trace

-- a worker did the groups that it took of a board, unless memory was refused
abbrev pub HasWorked : {E : Type 0} → Span → (ScriptMeant → Type 0) → Groups → List Firing
    → ClaimBoard → Result Part E → Type 0
HasWorked span runs groups trace board result =
    IfOk result (IsWork (Gives span runs groups trace) board)

-- the pieces and the seats are those of these workers, one worker after the other
pub record AreParts (P : Part → Type 0) (pieces : List (ℕ × Piece)) (seats : List ClaimSeat)
    : Type 0 where
  pub parts : List Part
  pub each : All P parts
  pub all : pieces ≡ flat_map pieces_of parts
  pub seated : seats ≡ map seat_of parts

-- each of n groups has one piece and is in one worker's list, and P holds of what each worker gave.
-- The least number is the least that one of their seats lowered, and no more than any was shown
pub record IsRound (P : Part → Type 0) (n : ℕ) (r : Round) : Type 0 where
  pub once : IsAllBelow n (map (λ (g, piece). g) r.pieces.items)
  pub taken : IsAllBelow n (flat_map (λ list. list.items) r.lists.items)
  pub seats : List ClaimSeat
  pub parts : AreParts P r.pieces.items seats
  pub lowered : r.least ≡ least_lowered seats
  pub seen : r.least ≤ least_seen seats
