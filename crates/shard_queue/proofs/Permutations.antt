-- Lists of numbers have the same items exactly where one is the other in some order.
use Rattle.std.specs.Prelude.{◌≡◌, ◌≢◌, ◌<◌, ◌↔◌, ℕ, List, [], ◌∷◌, ◌++◌, sum_by}
use Rattle.std.specs.Prelude.{IsPermutation}
use Rattle.std.proofs.Common.{sym, ap, ◌∙◌, subst, ⊎_elim, arith}
use Rattle.std.proofs.lemmas.Bool.{cases_eq}
use Rattle.std.proofs.lemmas.List.Sorted.{IsPermutation-cons, IsPermutation-middle}
use Rattle.std.proofs.lemmas.List.Sorted.{IsPermutation-refl, IsPermutation-sym}
use Rattle.std.proofs.lemmas.List.Sorted.{IsPermutation-trans, sum_by-IsPermutation}
use Rattle.std.proofs.lemmas.List.Sums.{sum_by-append, sum_by-cons}
use Rattle.shard_queue.specs.Numbers.{SameItems}
use Rattle.shard_queue.proofs.Totals.{weight_of, weight_of-other, weight_of-same}

-- what weighs something stands somewhere
record Stands (x : ℕ) (ys : List ℕ) : Type 0 where
  pub front : List ℕ
  pub back : List ℕ
  pub parts : ys ≡ front ++ x ∷ back

stands : (x : ℕ) (ys : List ℕ) → 0 < sum_by (weight_of x) ys → Stands x ys
stands x [] heavy = absurd (omega arith)
stands x (y ∷ ys) heavy =
    ⊎_elim
    (λ (same : y ≡ x). record { front = []; back = ys; parts = ap (λ z. z ∷ ys) same })
    (λ (other : y ≢ x).
    let light = weight_of-other x y other in
    let step = sum_by-cons (weight_of x) y ys in
    let rest = stands x ys (omega arith) in
    record { front = y ∷ rest.front; back = rest.back; parts = ap (λ zs. y ∷ zs) rest.parts })
    (cases_eq y x)

permuted : (xs ys : List ℕ) → SameItems xs ys → IsPermutation xs ys
permuted [] [] same = IsPermutation-refl []
permuted [] (y ∷ ys) same =
    let none = same (λ _. 1) in let step = sum_by-cons (λ (_ : ℕ). 1) y ys in absurd (omega arith)
permuted (x ∷ xs) ys same =
    let here = sum_by-cons (weight_of x) x xs in
    let one = weight_of-same x in
    let all = same (weight_of x) in
    let at = stands x ys (omega arith) in
    let others : SameItems xs (at.front ++ at.back) = λ weight.
    let first = sum_by-cons weight x xs in
    let whole = same weight ∙ ap (sum_by weight) at.parts ∙ sum_by-append weight at.front (x ∷ at.back) in
    let after = sum_by-cons weight x at.back in
    let joined = sum_by-append weight at.front at.back in
    omega arith in
    IsPermutation-trans (x ∷ xs) (x ∷ (at.front ++ at.back)) ys
    (IsPermutation-cons x xs (at.front ++ at.back) (permuted xs (at.front ++ at.back) others))
    (subst (IsPermutation (x ∷ (at.front ++ at.back))) (sym at.parts)
    (IsPermutation-sym (at.front ++ x ∷ at.back) (x ∷ (at.front ++ at.back)) (IsPermutation-middle at.front x at.back)))

pub same_items : (xs ys : List ℕ) → SameItems xs ys ↔ IsPermutation xs ys
same_items xs ys = (permuted xs ys, λ moved weight. sym (sum_by-IsPermutation weight xs ys moved))
