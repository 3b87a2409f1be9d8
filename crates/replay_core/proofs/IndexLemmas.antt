-- The aggregations that a clause's statements name.
use Rattle.std.proofs.Common.{ℕ, zero, suc, ◌<◌, ◌≤◌, List, [], ◌∷◌, length, map, arith, get_or}
use Rattle.replay_core.specs.Vocabulary.{ActionOf}
use Rattle.replay_core.specs.Bounds.{index_in, indices_among}

pub index_at : {S E Es : Type 0} (form : S → ActionOf E Es) (n : ℕ) (all : List S) (i : ℕ) (d : S) → i < length all
    → indices_among (map form all) ≤ n → index_in (form (get_or all i d)) ≤ n
index_at form n [] i d lt few = absurd (omega arith)
index_at form n (a ∷ all) zero d lt few = omega arith
index_at form n (a ∷ all) (suc i) d lt few = index_at form n all i d (omega arith) (omega arith)
