-- Totals over views, and weights of lists.
use Rattle.std.proofs.Common.{◌≡◌, ◌≢◌, ℕ, zero, suc, ◌+◌, ◌≤◌, ◌<◌, List, [], ◌∷◌, ◌++◌, length}
use Rattle.std.proofs.Common.{set, refl, sym, ap, ◌∙◌, subst, ⊎_elim, arith, lt_of_not-le}
use Rattle.std.specs.Prelude.{◌==◌, if◌then◌else◌, sum_by, slice_index_or, Contains}
use Rattle.std.specs.List.{range_with_len}
use Rattle.std.proofs.lemmas.List.Sums.{sum_by-cons, sum_by_push}
use Rattle.std.proofs.lemmas.List.FromFn.{length-range_with_len}
use mathlib.Core.Logic.{dite}
use native.Mathlib.Decide.{dec_le}
use mathlib.Core.Option.{some, some-ne-none, some-injective}
use lib.ListN.{get_elem?}
use Rattle.atomic_table.proofs.Lists.{at_set, at_snoc, set_else}
use Rattle.shard_queue.specs.declared.knowledge.Hand.{Hand}
use Rattle.shard_queue.specs.Numbers.{below}
use Rattle.shard_queue.specs.Hands.{empty_hand, total_over, seats_of, FitsSeats, AllFit}

pub total_set : (f : Hand → ℕ) (views : List Hand) (by : ℕ) (v w : Hand) → get_elem? views by ≡ some v → total_over f (set views by w) + f v ≡ total_over f views + f w
total_set f [] by v w e = absurd (some-ne-none v (sym e))
total_set f (x ∷ xs) zero v w e = let same : f x ≡ f v = ap f (some-injective x v e) in omega arith
total_set f (x ∷ xs) (suc by) v w e = let more = total_set f xs by v w e in omega arith

pub total_snoc : (f : Hand → ℕ) (views : List Hand) (w : Hand) → total_over f (views ++ w ∷ []) ≡ total_over f views + f w
total_snoc f [] w = omega arith
total_snoc f (x ∷ xs) w = let more = total_snoc f xs w in omega arith

pub total_le : (f g : Hand → ℕ) (views : List Hand) → ((by : ℕ) (v : Hand) → get_elem? views by ≡ some v → f v ≤ g v) → total_over f views ≤ total_over g views
total_le f g [] each = omega arith
total_le f g (x ∷ xs) each = let here = each 0 x refl in let more = total_le f g xs (λ by v e. each (suc by) v e) in omega arith

pub one_le_total : (f : Hand → ℕ) (views : List Hand) (by : ℕ) (v : Hand) → get_elem? views by ≡ some v → f v ≤ total_over f views
one_le_total f [] by v e = absurd (some-ne-none v (sym e))
one_le_total f (x ∷ xs) zero v e = let same : f x ≡ f v = ap f (some-injective x v e) in omega arith
one_le_total f (x ∷ xs) (suc by) v e = let more = one_le_total f xs by v e in omega arith

-- where g is 0 of all views but one, so is f, which is 0 where g is
total_none : (f g : Hand → ℕ) (views : List Hand) → ((by : ℕ) (v : Hand) → get_elem? views by ≡ some v → g v ≡ 0 → f v ≡ 0) → total_over g views ≡ 0 → total_over f views ≡ 0
total_none f g [] each none = refl
total_none f g (x ∷ xs) each none = let here = each 0 x refl (omega arith) in let more = total_none f g xs (λ by v e. each (suc by) v e) (omega arith) in omega arith

pub total_one : (f g : Hand → ℕ) (views : List Hand) (by : ℕ) (v : Hand) → ((j : ℕ) (u : Hand) → get_elem? views j ≡ some u → g u ≡ 0 → f u ≡ 0) → get_elem? views by ≡ some v → total_over g views ≡ g v → total_over f views ≡ f v
total_one f g [] by v each e all = absurd (some-ne-none v (sym e))
total_one f g (x ∷ xs) zero v each e all =
    let same : f x ≡ f v = ap f (some-injective x v e) in
    let same' : g x ≡ g v = ap g (some-injective x v e) in
    let none = total_none f g xs (λ j u a. each (suc j) u a) (omega arith) in
    omega arith
total_one f g (x ∷ xs) (suc by) v each e all =
    let part = one_le_total g xs by v e in
    let here = each 0 x refl (omega arith) in
    let more = total_one f g xs by v (λ j u a. each (suc j) u a) e (omega arith) in
    omega arith

pub sum_by-ones : (xs : List ℕ) → sum_by (λ _. 1) xs ≡ length xs
sum_by-ones [] = refl
sum_by-ones (x ∷ xs) = let more = sum_by-ones xs in let here = sum_by-cons (λ _. 1) x xs in omega arith

pub range_more : (first n : ℕ) → range_with_len first (suc n) ≡ range_with_len first n ++ (first + n) ∷ []
range_more first zero = ap (λ k. k ∷ []) (omega arith)
range_more first (suc n) =
    ap (λ l. first ∷ l) (range_more (first + 1) n ∙ ap (λ k. range_with_len (first + 1) n ++ k ∷ []) (let same : first + 1 + n ≡ first + suc n = omega arith in same))

-- one number more
pub sum_by-below : (h : ℕ → ℕ) (n : ℕ) → sum_by h (below (suc n)) ≡ sum_by h (below n) + h n
sum_by-below h n = ap (sum_by h) (range_more 0 n) ∙ sum_by_push h (below n) (0 + n) ∙ ap (λ k. sum_by h (below n) + h k) (let same : 0 + n ≡ n = omega arith in same)

pub below-ones : (n : ℕ) → sum_by (λ _. 1) (below n) ≡ n
below-ones n = sum_by-ones (below n) ∙ length-range_with_len 0 n

-- 1 for x, and 0 for any other
abbrev pub weight_of : ℕ → ℕ → ℕ
weight_of x y = if y == x then 1 else 0

pub weight_of-other : (x y : ℕ) → y ≢ x → weight_of x y ≡ 0
weight_of-other x y apart = grind arith

pub weight_of-same : (x : ℕ) → weight_of x x ≡ 1
weight_of-same x = grind arith

pub below-times : (x n : ℕ) → n ≤ x → sum_by (weight_of x) (below n) ≡ 0
below-times x zero le = refl
below-times x (suc n) le =
    let more = below-times x n (omega arith) in let here = weight_of-other x n (λ e. omega arith) in let step = sum_by-below (weight_of x) n in omega arith

pub below-once : (x n : ℕ) → x < n → sum_by (weight_of x) (below n) ≡ 1
below-once x zero lt = absurd (omega arith)
below-once x (suc n) lt =
    let step = sum_by-below (weight_of x) n in
    dite (dec_le n x)
    (λ (le : n ≤ x).
    let none = below-times x n le in
    let here : weight_of x n ≡ 1 = subst (λ k. weight_of x k ≡ 1) (let same : x ≡ n = omega arith in same) (weight_of-same x) in
    omega arith)
    (λ no.
    let less : x < n = lt_of_not-le no in
    let once = below-once x n less in
    let here = weight_of-other x n (λ e. omega arith) in
    omega arith)

counted : (x : ℕ) (xs : List ℕ) (k : ℕ) → k < length xs → slice_index_or xs k x ≡ x → 0 < sum_by (weight_of x) xs
counted x [] k lt is = absurd (omega arith)
counted x (y ∷ xs) zero lt is = let here : weight_of x y ≡ 1 = subst (λ z. weight_of x z ≡ 1) (sym is) (weight_of-same x) in let step = sum_by-cons (weight_of x) y xs in omega arith
counted x (y ∷ xs) (suc k) lt is = let more = counted x xs k (omega arith) is in let step = sum_by-cons (weight_of x) y xs in omega arith

-- what weighs nothing isn't there
pub not_there : (x : ℕ) (xs : List ℕ) → sum_by (weight_of x) xs ≡ 0 → ¬ (Contains xs x)
not_there x xs none there = let lt = counted x xs there.0 there.1 there.2 in omega arith

pub fits_set : (n : ℕ) (views : List Hand) (by : ℕ) (w : Hand) → AllFit n views → FitsSeats n w → AllFit n (set views by w)
fits_set n views by w all mine j u e = ⊎_elim
    (λ (x : (j ≡ by) × (w ≡ u)). subst (λ y. FitsSeats n y) x.1 mine)
    (λ (x : (j ≢ by) × (get_elem? views j ≡ some u)). all j u x.1)
    (at_set views by j w u e)

pub fits_snoc : (n : ℕ) (views : List Hand) (w : Hand) → AllFit n views → FitsSeats n w → AllFit n (views ++ w ∷ [])
fits_snoc n views w all mine j u e = ⊎_elim (λ x. all j u x) (λ (x : w ≡ u). subst (λ y. FitsSeats n y) x mine) (at_snoc views w u j e)

-- where one view counts all seats, no other counts any
pub alone : (views : List Hand) (id : ℕ) (v : Hand) → get_elem? views id ≡ some v → total_over seats_of views ≡ v.seats → (j : ℕ) (u : Hand) → j ≢ id → get_elem? views j ≡ some u → u.seats ≡ 0
alone views id v at all j u apart at' =
    let s = total_set seats_of views id v empty_hand at in
    let one = one_le_total seats_of (set views id empty_hand) j u (set_else views id j empty_hand apart ∙ at') in
    omega arith
