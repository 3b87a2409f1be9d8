-- Lists sorted by number.
use Rattle.std.proofs.Common.{take, drop, zero, true, false, ltb, leb, ◌+◌, subst, length-drop}
use Rattle.std.proofs.Common.{get_or-drop, ◌≡◌, ◌≢◌, ◌⊎◌, ℕ, suc, ◌==◌, ◌<◌, ◌≤◌, ◌&&◌, not, cond}
use Rattle.std.proofs.Common.{List, [], ◌∷◌, length, get_or, refl, sym, ap, ◌∙◌, ⊎_elim, arith}
use Rattle.std.proofs.Common.{eq-eqb, ne_eqb, IsPermutation, nat_cmp, is_lt}
use Rattle.std.specs.List.Sorted.{IsPartitionPoint, IsNonDecreasingBy, IsStableByKey, ties}
use Rattle.std.proofs.lemmas.List.Sorted.{length_permutation}
use Rattle.std.proofs.lemmas.List.Elements.{filter_agree}
use Rattle.std.proofs.lemmas.Bool.{cases_eq, cases_order}
use Rattle.std.proofs.lemmas.Bool.Decides.{nat_tests}
use Rattle.replay_core.specs.Uniting.{with_number, AllFrom, InOrder, IsSorted}

tied : (x k : ℕ) → (not (is_lt (nat_cmp k x)) && not (is_lt (nat_cmp x k))) ≡ (x == k)
tied x k = grind (arith, nat_tests)

module _ {T : Type 0} where
  none_below : (n k : ℕ) (xs : List (ℕ × T)) → k < n → AllFrom n xs → with_number k xs ≡ []
  none_below n k [] lt h = refl
  none_below n k (x ∷ xs) lt h = ap (λ b. cond b (x ∷ with_number k xs) (with_number k xs)) (ne_eqb x.0 k (λ same. let le = h.0 in omega arith)) ∙ none_below n k xs lt h.1

  with_here : (k : ℕ) (x : ℕ × T) (xs : List (ℕ × T)) → x.0 ≡ k → with_number k (x ∷ xs) ≡ x ∷ with_number k xs
  with_here k x xs same = ap (λ b. cond b (x ∷ with_number k xs) (with_number k xs)) (eq-eqb x.0 k same)

  with_other : (k : ℕ) (x : ℕ × T) (xs : List (ℕ × T)) → x.0 ≢ k → with_number k (x ∷ xs) ≡ with_number k xs
  with_other k x xs ne = ap (λ b. cond b (x ∷ with_number k xs) (with_number k xs)) (ne_eqb x.0 k ne)

  -- an order by number, and what stands at each number, make the list
  same_items : (xs ys : List (ℕ × T)) → InOrder xs → InOrder ys → ((k : ℕ) → with_number k xs ≡ with_number k ys) → xs ≡ ys
  same_items [] [] up vp each = refl
  same_items [] (y ∷ ys) up vp each = let e = each y.0 ∙ with_here y.0 y ys refl in cc
  same_items (x ∷ xs) [] up vp each = let e = sym (with_here x.0 x xs refl) ∙ each x.0 in cc
  same_items (x ∷ xs) (y ∷ ys) up vp each = ⊎_elim
      (λ (is : x.0 ≡ y.0).
      let heads : (k : ℕ) → x.0 ≡ k → x ∷ with_number k xs ≡ y ∷ with_number k ys = λ k at. sym (with_here k x xs at) ∙ each k ∙ with_here k y ys (sym is ∙ at) in
      let first : x ≡ y = let e = heads x.0 refl in cc in
      let rest = same_items xs ys up.1 vp.1 (λ k. ⊎_elim
      (λ (at : x.0 ≡ k). let e = heads k at in cc)
      (λ (ne : x.0 ≢ k). sym (with_other k x xs ne) ∙ each k ∙ with_other k y ys (λ e. ne (is ∙ e)))
      (cases_eq x.0 k)) in
      ap (λ e. e ∷ xs) first ∙ ap (λ l. y ∷ l) rest)
      (λ (other : (x.0 < y.0) ⊎ (y.0 < x.0)). ⊎_elim
      (λ (lt : x.0 < y.0).
      let e : x ∷ with_number x.0 xs ≡ [] = sym (with_here x.0 x xs refl) ∙ each x.0 ∙ none_below y.0 x.0 (y ∷ ys) lt (omega arith, vp.0) in cc)
      (λ (gt : y.0 < x.0).
      let e : [] ≡ y ∷ with_number y.0 ys = sym (none_below x.0 y.0 (x ∷ xs) gt (omega arith, up.0)) ∙ each y.0 ∙ with_here y.0 y ys refl in cc)
      other)
      (cases_order x.0 y.0)

  pub sorted_once : (items xs ys : List (ℕ × T)) → IsSorted items xs → IsSorted items ys → xs ≡ ys
  sorted_once items xs ys a b = same_items xs ys a.order b.order (λ k. a.each k ∙ sym (b.each k))

  -- ---- what a stable sort gives

  all_from : (n : ℕ) (xs : List (ℕ × T)) → ((j : ℕ) (d : ℕ × T) → j < length xs → n ≤ (get_or xs j d).0) → AllFrom n xs
  all_from n [] h = tt
  all_from n (x ∷ xs) h = (h 0 x (omega arith), all_from n xs (λ j d lt. h (suc j) d (omega arith)))

  in_order_from : (xs : List (ℕ × T)) → IsNonDecreasingBy (λ e. e.0) xs → InOrder xs
  in_order_from [] h = tt
  in_order_from (x ∷ xs) h = (all_from x.0 xs (λ j d lt. h 0 (suc j) d (omega arith) (omega arith)), in_order_from xs (λ i j d le lt. h (suc i) (suc j) d (omega arith) (omega arith)))

  each_from_stable : (xs ys : List (ℕ × T)) → IsPermutation xs ys → IsStableByKey (λ e. e.0) nat_cmp xs ys → (k : ℕ) → with_number k ys ≡ with_number k xs
  each_from_stable [] [] moved stable k = refl
  each_from_stable [] (y ∷ ys) moved stable k = absurd (let e = length_permutation [] (y ∷ ys) moved in omega arith)
  each_from_stable (x ∷ xs) ys moved stable k =
      let test = λ (e : ℕ × T). ties (λ a b. is_lt (nat_cmp a.0 b.0)) (k, x.1) e in
      let agree : (e : ℕ × T) → test e ≡ (e.0 == k) = λ e. tied e.0 k in
      sym (filter_agree test (λ e. e.0 == k) agree ys) ∙ stable (k, x.1) ∙ filter_agree test (λ e. e.0 == k) agree (x ∷ xs)

  pub is_sorted : (xs ys : List (ℕ × T)) → IsNonDecreasingBy (λ e. e.0) ys → IsPermutation xs ys → IsStableByKey (λ e. e.0) nat_cmp xs ys → IsSorted xs ys
  is_sorted xs ys up moved stable = record { order = in_order_from ys up; each = each_from_stable xs ys moved stable }

  -- ---- those of one number

  at_from : (n : ℕ) (xs : List (ℕ × T)) (j : ℕ) (d : ℕ × T) → AllFrom n xs → j < length xs → n ≤ (get_or xs j d).0
  at_from n [] j d h lt = absurd (omega arith)
  at_from n (x ∷ xs) zero d h lt = h.0
  at_from n (x ∷ xs) (suc j) d h lt = at_from n xs j d h.1 (omega arith)

  pub non_decreasing : (xs : List (ℕ × T)) → InOrder xs → IsNonDecreasingBy (λ e. e.0) xs
  non_decreasing [] h i j d le lt = absurd (omega arith)
  non_decreasing (x ∷ xs) h zero zero d le lt = omega arith
  non_decreasing (x ∷ xs) h zero (suc j) d le lt = at_from x.0 xs j d h.0 (omega arith)
  non_decreasing (x ∷ xs) h (suc i) zero d le lt = absurd (omega arith)
  non_decreasing (x ∷ xs) h (suc i) (suc j) d le lt = non_decreasing xs h.1 i j d (omega arith) (omega arith)

  -- the first i are those with the least number
  front_of : (n : ℕ) (xs : List (ℕ × T)) (i : ℕ) → ((k : ℕ) (d : ℕ × T) → k < i → (get_or xs k d).0 ≡ n) → ((k : ℕ) (d : ℕ × T) → i ≤ k → k < length xs → n < (get_or xs k d).0)
      → i ≤ length xs → take i xs ≡ with_number n xs
  front_of n [] zero same more le = refl
  front_of n [] (suc i) same more le = absurd (omega arith)
  front_of n (x ∷ xs) zero same more le =
      front_of n xs zero (λ k d lt. absurd (omega arith)) (λ k d from lt. more (suc k) d (omega arith) (omega arith)) (omega arith)
      ∙ sym (with_other n x xs (λ e. let gt = more 0 x (omega arith) (omega arith) in omega arith))
  front_of n (x ∷ xs) (suc i) same more le =
      ap (λ l. x ∷ l) (front_of n xs i (λ k d lt. same (suc k) d (omega arith)) (λ k d from lt. more (suc k) d (omega arith) (omega arith)) (omega arith))
      ∙ sym (with_here n x xs (same 0 x (omega arith)))

  -- what comes after those of lesser numbers
  after_less : (n : ℕ) (xs : List (ℕ × T)) (i : ℕ) → ((k : ℕ) (d : ℕ × T) → k < i → (get_or xs k d).0 < n) → i ≤ length xs → with_number n xs ≡ with_number n (drop i xs)
  after_less n xs zero less le = refl
  after_less n [] (suc i) less le = absurd (omega arith)
  after_less n (x ∷ xs) (suc i) less le =
      with_other n x xs (λ e. let lt = less 0 x (omega arith) in omega arith)
      ∙ after_less n xs i (λ k d lt. less (suc k) d (omega arith)) (omega arith)

  -- those between the first that is no less and the first that is more
  pub sought_between : (n : ℕ) (xs rest : List (ℕ × T)) (less count : ℕ) → less ≤ length xs → rest ≡ drop less xs → IsPartitionPoint (λ y. ltb y.0 n ≡ true) (λ y. ltb y.0 n ≡ false) xs less
      → count ≤ length rest → IsPartitionPoint (λ y. leb y.0 n ≡ true) (λ y. leb y.0 n ≡ false) rest count → take count rest ≡ with_number n xs
  sought_between n xs rest less count within is first inside second =
      let long : length rest ≡ length (drop less xs) = ap length is in
      let all = length-drop less xs in
      let low : (k : ℕ) (d : ℕ × T) → k < less → (get_or xs k d).0 < n = λ k d lt.
      let t : ltb (get_or xs k d).0 n ≡ true = first.0 k d (omega arith) lt in grind (arith, nat_tests) in
      let high : (k : ℕ) (d : ℕ × T) → k < length rest → n ≤ (get_or (drop less xs) k d).0 = λ k d lt.
      let t : ltb (get_or xs (less + k) d).0 n ≡ false = first.1 (less + k) d (omega arith) (omega arith) in
      let le : n ≤ (get_or xs (less + k) d).0 = grind (arith, nat_tests) in
      subst (λ (e : ℕ × T). n ≤ e.0) (sym (get_or-drop less xs k d)) le in
      let same : (k : ℕ) (d : ℕ × T) → k < count → (get_or (drop less xs) k d).0 ≡ n = λ k d lt.
      let t : leb (get_or (drop less xs) k d).0 n ≡ true = subst (λ l. leb (get_or l k d).0 n ≡ true) is (second.0 k d (omega arith) lt) in
      let le : (get_or (drop less xs) k d).0 ≤ n = grind (arith, nat_tests) in
      let ge = high k d (omega arith) in omega arith in
      let more : (k : ℕ) (d : ℕ × T) → count ≤ k → k < length (drop less xs) → n < (get_or (drop less xs) k d).0 = λ k d from lt.
      let t : leb (get_or (drop less xs) k d).0 n ≡ false = subst (λ l. leb (get_or l k d).0 n ≡ false) is (second.1 k d from (omega arith)) in
      grind (arith, nat_tests) in
      ap (take count) is ∙ front_of n (drop less xs) count same more (omega arith) ∙ sym (after_less n xs less low within)
