-- The pieces of a round can be collected.
use Rattle.std.proofs.Common.{◌≡◌, ◌≢◌, ℕ, suc, ◌+◌, ◌*◌, ◌==◌, ◌<◌, ◌≤◌, Bool, true, false, cond}
use Rattle.std.proofs.Common.{List, [], ◌∷◌, All, None, map, length, sum_by, refl, ap, ◌∙◌, arith}
use Rattle.std.proofs.Common.{lt_of_not-le}
use Rattle.std.proofs.lemmas.List.{length-map}
use Rattle.std.proofs.lemmas.List.Elements.{All-map}
use Rattle.std.proofs.lemmas.List.Sums.{sum_by-cons}
use Rattle.std.proofs.lemmas.Bool.Decides.{nat_tests}
use Rattle.shard_queue.proofs.Totals.{below-once, below-times, weight_of, weight_of-other}
use Rattle.shard_queue.proofs.Totals.{weight_of-same}
use Rattle.replay_core.specs.Vocabulary.{count_held, ScriptMeant, Firing, number_of, functions_in}
use Rattle.replay_core.specs.Vocabulary.{functions_of}
use Rattle.replay_core.specs.declared.lanes.piece.Piece.{Piece}
use Rattle.replay_core.specs.Groups.{AreGrouped, Grouping, IsAllBelow, below, of_group}
use Rattle.replay_core.specs.Collecting.{first_bad, first_bad_after, tables_of, IsFirstMissing}
use Rattle.replay_core.specs.Seen.{IsRoomy}
use Rattle.replay_core.specs.Tables.{CanMerge}
use Rattle.replay_core.specs.Working.{IsOfGroup}
use Rattle.replay_core.proofs.CollectSteps.{all_have}
use Rattle.replay_core.proofs.GroupSums.{parts_sum}

-- no piece is bad where each group has one
no_bad_from : (n : ℕ) (had : ℕ → Bool) (ps : List (ℕ × Piece)) → ((g : ℕ) → cond (had g) 1 0 + sum_by (weight_of g) (map (λ p. p.0) ps) ≤ sum_by (weight_of g) (below n)) → first_bad_after had n ps ≡ None
no_bad_from n had [] each = refl
no_bad_from n had (p ∷ ps) each =
    let own = each p.0 in
    let sum = sum_by-cons (weight_of p.0) p.0 (map (λ q. q.0) ps) in
    let one = weight_of-same p.0 in
    let below : p.0 < n = lt_of_not-le (λ le. let none = below-times p.0 n le in omega arith) in
    let once = below-once p.0 n below in
    let more = no_bad_from n (λ (g : ℕ). cond (g == p.0) true (had g)) ps (λ g. let cons = sum_by-cons (weight_of g) p.0 (map (λ q. q.0) ps) in let all = each g in grind (arith, nat_tests)) in
    grind (arith, nat_tests)

pub no_bad : (n : ℕ) (ps : List (ℕ × Piece)) → IsAllBelow n (map (λ p. p.0) ps) → first_bad n ps ≡ None
no_bad n ps all = no_bad_from n (λ g. false) ps (λ g. let same = all (weight_of g) in omega arith)

none_weighs : (g : ℕ) (ps : List (ℕ × Piece)) → All (λ p. p.0 ≢ g) ps → sum_by (weight_of g) (map (λ p. p.0) ps) ≡ 0
none_weighs g [] none = refl
none_weighs g (p ∷ ps) none =
    let here = weight_of-other g p.0 (none 0 p (omega arith)) in
    let more = none_weighs g ps (λ k d lt. none (suc k) d (omega arith)) in
    let cons = sum_by-cons (weight_of g) p.0 (map (λ q. q.0) ps) in
    omega arith

pub no_missing : (n g : ℕ) (ps : List (ℕ × Piece)) → IsAllBelow n (map (λ p. p.0) ps) → IsFirstMissing n g ps → ⊥
no_missing n g ps all missing = let none = none_weighs g ps missing.none in let one = below-once g n missing.below in let same = all (weight_of g) in absurd (omega arith)

-- ---- tables

ones : {A : Type 0} (xs : List A) → sum_by (λ x. 1) xs ≡ length xs
ones [] = refl
ones (x ∷ xs) = sum_by-cons (λ y. 1) x xs ∙ ap (λ s. 1 + s) (ones xs) ∙ omega arith

module _ (m : ScriptMeant) (grouping : Grouping) (fs : List Firing) where
  size : ℕ → ℕ
  size g = sum_by (λ f. 1) (of_group grouping g fs)

  held_each : (ps : List (ℕ × Piece)) → All (IsOfGroup m grouping fs) ps → All (λ p. IsRoomy p.1) ps
      → sum_by count_held (tables_of ps) ≤ 4294967296 * sum_by size (map (λ p. p.0) ps)
  unfolding size
  held_each [] each roomy = omega arith
  held_each (p ∷ ps) each roomy =
      let here = roomy 0 p (omega arith) in
      let taken = ap length (each 0 p (omega arith)).taken in
      let same = length-map (of_group grouping p.0 fs) number_of in
      let one = ones (of_group grouping p.0 fs) in
      let more = held_each ps (λ k d lt. each (suc k) d (omega arith)) (λ k d lt. roomy (suc k) d (omega arith)) in
      let left = sum_by-cons count_held p.1.table (tables_of ps) in
      let right = sum_by-cons size p.0 (map (λ q. q.0) ps) in
      omega (arith, here, taken, same, one, more, left, right)

  pub can_collect : (ps : List (ℕ × Piece)) → AreGrouped grouping fs → IsAllBelow grouping.count (map (λ p. p.0) ps) → All (IsOfGroup m grouping fs) ps → All (λ p. IsRoomy p.1) ps
      → length fs ≤ 1000002 → CanMerge (tables_of ps)
  unfolding size
  can_collect ps grouped all each roomy few =
      let held = held_each ps each roomy in
      let sizes : sum_by size (map (λ p. p.0) ps) ≡ length fs = all size ∙ parts_sum (λ (f : Firing). grouping.group f.thread) grouping.count (λ f. 1) fs grouped ∙ ones fs in
      ((functions_in m, all_have (functions_in m) (tables_of ps) (All-map (λ t. functions_of t ≡ functions_in m) (λ p. p.1.table) ps (λ k d lt. (each k d lt).functions))), let le : sum_by count_held (tables_of ps) ≤ 4503599627370496 = omega (arith, held, sizes, few) in le)
