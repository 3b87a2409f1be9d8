-- Pieces of no firings can be collected.
use Rattle.std.proofs.Common.{◌≡◌, ℕ, List, [], ◌∷◌, ◌++◌, sum_by, arith}
use Rattle.std.proofs.lemmas.List.Sums.{sum_by-cons}
use Rattle.aggregations.specs.Table.{count_held, functions_of}
use Rattle.aggregations.specs.declared.function.AggFn.{AggFn}
use Rattle.replay_core.specs.declared.lanes.piece.Piece.{Piece}
use Rattle.replay_core.specs.Collecting.{tables_of}
use Rattle.replay_core.specs.Tables.{AllHave}

pub have_more : (functions : List AggFn) (ps : List (ℕ × Piece)) (p : ℕ × Piece) → AllHave functions (tables_of ps) → functions_of p.1.table ≡ functions
    → AllHave functions (tables_of (ps ++ p ∷ []))
have_more functions [] p all own = (own, tt)
have_more functions (q ∷ ps) p all own = (all.0, have_more functions ps p all.1 own)

pub held_more : (ps : List (ℕ × Piece)) (p : ℕ × Piece) → sum_by count_held (tables_of ps) ≡ 0 → count_held p.1.table ≡ 0 → sum_by count_held (tables_of (ps ++ p ∷ [])) ≡ 0
held_more [] p none own = let one = sum_by-cons count_held p.1.table [] in omega (arith, one, none, own)
held_more (q ∷ ps) p none own =
    let before = sum_by-cons count_held q.1.table (tables_of ps) in
    let after = sum_by-cons count_held q.1.table (tables_of (ps ++ p ∷ [])) in
    let rest : sum_by count_held (tables_of ps) ≡ 0 = omega (arith, before, none) in
    let more = held_more ps p rest own in
    omega (arith, before, after, none, more)
