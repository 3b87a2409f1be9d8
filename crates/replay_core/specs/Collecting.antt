-- What a whole has of the pieces of all groups.
use Rattle.std.specs.Prelude.{◌≡◌, ◌≢◌, ◌==◌, ◌+◌, ◌<◌, ℕ, Bool, true, false, List, [], ◌∷◌}
use Rattle.std.specs.Prelude.{Option, None, Some, All, Contains, if◌then◌else◌, length, map, nat_lt}
use Rattle.replay_core.specs.Vocabulary.{IsPermutation, flat_map}
use Rattle.replay_core.specs.declared.{lanes.piece.Piece.Piece, collector.whole.Whole.Whole}
use Rattle.replay_core.specs.declared.collect_fault.CollectFault.{CollectFault}
use Rattle.replay_core.specs.declared.collect_fault.CollectFault.TheVariants.{Twice, Stranger}
use Rattle.replay_core.specs.declared.collect_fault.CollectFault.TheVariants.{Missing, Memory}
use Rattle.replay_core.specs.{Tables.Table}
use Rattle.replay_core.specs.{Tables.Refine, Uniting.IsSorted, Uniting.first_exit}

-- the whole has the texts of these pieces, sorted by number, one table in place of theirs, the
-- numbers of each piece, and the first exit
pub record IsMadeOf (pieces : List Piece) (w : Whole) : Type 0 where
  pub texts : IsSorted (flat_map (λ p. p.events.items) pieces) w.events.items
  pub table : Refine (w.table ∷ []) (map (λ p. p.table) pieces)
  pub ran : map (λ v. v.items) w.ran.items ≡ map (λ p. p.taken.items) pieces
  pub exit : w.exit ≡ first_exit (map (λ p. p.exit) pieces)

-- the pieces, each with its group, counted from here
abbrev pub pieces_with_groups : {P : Type 0} → ℕ → List P → List (ℕ × P)
pieces_with_groups g [] = []
pieces_with_groups g (p ∷ ps) = (g, p) ∷ pieces_with_groups (g + 1) ps

-- the pieces are one of each of n groups, in any order, and the whole is made of them by group
pub record IsCollected (n : ℕ) (pieces : List (ℕ × Piece)) (w : Whole) : Type 0 where
  pub sorted : List Piece
  pub count : length sorted ≡ n
  pub same : IsPermutation pieces (pieces_with_groups 0 sorted)
  pub whole : IsMadeOf sorted w

-- the tables of pieces
abbrev pub tables_of : List (ℕ × Piece) → List Table
tables_of pieces = map (λ (g, piece). piece.table) pieces

-- the least group that has no piece
pub record IsFirstMissing (n g : ℕ) (pieces : List (ℕ × Piece)) : Type 0 where
  pub below : g < n
  pub none : All (λ (h, piece). h ≢ g) pieces
  pub others : (less : ℕ) → less < g → (p : Piece) × Contains pieces (less, p)

-- the first piece of a group that is not below n, or that is there or before it
abbrev pub first_bad_after : {P : Type 0} → (ℕ → Bool) → ℕ → List (ℕ × P) → Option CollectFault
first_bad_after had n [] = None
first_bad_after had n (p ∷ ps) = if nat_lt p.0 n
    then (if had p.0 then Some (Twice p.0)
    else first_bad_after (λ g. if g == p.0 then true else had g) n ps)
    else Some (Stranger p.0)

-- the first piece of a group that is not below n, or that an earlier piece is of
abbrev pub first_bad : {P : Type 0} → ℕ → List (ℕ × P) → Option CollectFault
first_bad n pieces = first_bad_after (λ g. false) n pieces

-- why the pieces are not one of each of n groups
abbrev pub IsCollectFault : ℕ → List (ℕ × Piece) → CollectFault → Type 0
IsCollectFault n pieces Memory = Unit {0}
IsCollectFault n pieces (Missing g) = (first_bad n pieces ≡ None) × IsFirstMissing n g pieces
IsCollectFault n pieces fault = first_bad n pieces ≡ Some fault
