-- What a worker makes of the groups that it takes.
use Rattle.std.specs.Prelude.{◌≡◌, ◌==◌, ◌||◌, ℕ, nat_le, Bool, true, List, [], All, filter}
use Rattle.replay_core.specs.Vocabulary.{AreOf, Firing, Groups, Handed, ScriptMeant, grouping}
use Rattle.replay_core.specs.Vocabulary.{run_threads, with_ends}
use Rattle.replay_core.specs.declared.{lanes.piece.Piece.Piece, workers.span.Span.Span}
use Rattle.replay_core.specs.declared.workers.span.Span.TheVariants as span
use Rattle.replay_core.specs.{Pieces.IsPieceOf}
use Rattle.replay_core.specs.Groups.{Grouping, of_group}
use Rattle.replay_core.specs.Seen.{IsRoomy, piece_seen}

-- the script means something, and the groups are those of this trace
pub record IsReady (runs : ScriptMeant → Type 0) (groups : Groups) (trace : List Firing)
    : Type 0 where
  pub script : (m : ScriptMeant) × runs m
  pub placed : AreOf groups (run_threads trace)

-- a seat that was handed nothing, at a source of a number for each group
pub record IsSeated {S Seat : Type 0} (end : S → ℕ) (is_at : S → Seat → Type 0)
    (handed : Seat → Handed) (source : S) (seat : Seat) (groups : Groups) : Type 0 where
  pub at : is_at source seat
  pub new : (handed seat).numbers ≡ []
  pub all : end source ≡ (grouping groups).count

-- all, or those up to the last number, and END
abbrev pub is_in : Span → Firing → Bool
is_in span.All f = true
is_in span.UntilExit f = true
is_in (span.UpTo last end) f = nat_le f.number last || (f.number == end)

-- BEGIN, the rows of a trace and END, as far as they count
abbrev pub firings_in : Span → List Firing → List Firing
firings_in span trace = filter (is_in span) (with_ends trace trace)

-- the piece is what the script makes of its group's firings
abbrev pub IsOfGroup : ScriptMeant → Grouping → List Firing → ℕ × Piece → Type 0
IsOfGroup m grouping fs (g, piece) = IsPieceOf m (of_group grouping g fs) (piece_seen piece)

-- each piece is so for each meaning of the script, and holds few enough contributions
pub record AreOfGroups (runs : ScriptMeant → Type 0) (grouping : Grouping) (fs : List Firing)
    (pieces : List (ℕ × Piece)) : Type 0 where
  pub each : (m : ScriptMeant) → runs m → All (IsOfGroup m grouping fs) pieces
  pub roomy : All (λ (g, piece). IsRoomy piece) pieces
