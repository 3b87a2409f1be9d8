-- Each step of a queue keeps what it holds.
use Rattle.std.proofs.Common.{◌≡◌, ◌≢◌, ℕ, zero, suc, ◌+◌, ◌-◌, ◌≤◌, ◌<◌, min, List, [], ◌∷◌, ◌++◌}
use Rattle.std.proofs.Common.{length, set, refl, sym, ap, ◌∙◌, subst, ⊎_elim, inl, inr, arith}
use Rattle.std.proofs.Common.{lt_of_not-le}
use mathlib.Core.Option.{some, some-ne-none, some-injective}
use lib.ListN.{get_elem?}
use Rattle.atomic_table.proofs.Lists.{at_set}
use Rattle.shard_queue.specs.declared.knowledge.Hand.{Hand}
use Rattle.std.specs.Prelude.{sum_by, Contains}
use Rattle.std.proofs.lemmas.List.Sums.{sum_by-append}
use Rattle.shard_queue.specs.Numbers.{below}
use Rattle.shard_queue.specs.Hands.{hand, joint_hand, empty_hand, total_over, seats_of}
use Rattle.shard_queue.specs.Hands.{seats_at_end}
use Rattle.shard_queue.specs.Hands.{FitsSeats, IsHandOut}
use Rattle.shard_queue.specs.Marks.{count_up, Deals, Took}
use Rattle.shard_queue.proofs.Totals.{total_set, total_snoc, total_le, one_le_total, total_one}
use Rattle.shard_queue.proofs.Totals.{alone, sum_by-ones, sum_by-below, below-ones, weight_of}
use Rattle.shard_queue.proofs.Totals.{below-times, not_there, fits_set, fits_snoc}

-- what is taken is the front
pub front_is : (x : ℕ) (items : List ℕ) (front left : ℕ) → x ∷ items ≡ count_up front left → (less : ℕ) × (left ≡ suc less) × (x ≡ front) × (items ≡ count_up (suc front) less)
front_is x items front zero e = absurd (cc)
front_is x items front (suc less) e = (less, refl, cc, cc)

length-count_up : (a n : ℕ) → length (count_up a n) ≡ n
length-count_up a zero = refl
length-count_up a (suc n) = ap suc (length-count_up (suc a) n)

count_up-more : (a n : ℕ) → count_up a n ++ (a + n) ∷ [] ≡ count_up a (suc n)
count_up-more a zero = ap (λ k. k ∷ []) (omega arith)
count_up-more a (suc n) = ap (λ ys. a ∷ ys) (ap (λ k. count_up (suc a) n ++ k ∷ []) (let more : a + suc n ≡ suc a + n = omega arith in more) ∙ count_up-more (suc a) n)

hit : (put seats front left : ℕ) (items : List ℕ) (views : List Hand) (id e : ℕ) (xs : List ℕ) → Deals put seats front left (front ∷ items) views → (less : ℕ) → left ≡ suc less → items ≡ count_up (suc front) less
    → get_elem? views id ≡ some (hand e 1 0 xs) → front + seats < e → Deals put seats (suc front) less items (set views id (hand e 1 0 (xs ++ front ∷ [])))
hit put seats front left items views id e xs d less left_is rest at lt =
    let v = hand e 1 0 xs in
    let n = hand e 1 0 (xs ++ front ∷ []) in
    let mine = d.fit id v at in
    let is : e ≡ put = mine.ends (omega arith) in
    let s = total_set seats_of views id v n at in
    let t = total_set seats_at_end views id v n at in
    let a = d.all in
    let over = d.over in
    let adds = d.sum_is in
    let m : min (put - seats) front ≡ front = omega arith in
    let m' : min (put - seats) (suc front) ≡ suc front = omega arith in
    record {
      are = rest;
      sum_is = omega arith;
      fit = fits_set put views id n d.fit (record { ends = mine.ends; few = omega arith; idle = λ none. absurd (omega arith) });
      all = omega arith;
      most = omega arith;
      over = λ some_told. absurd (let o : put - seats < front = over (omega arith) in omega arith);
      drawn = λ h.
          let g = total_set (λ u. sum_by h u.drawn) views id v n at in
          let was = d.drawn h ∙ ap (λ k. sum_by h (below k)) m in
          let more = sum_by-append h xs (front ∷ []) in
          let now = ap (λ k. sum_by h (below k)) m' ∙ sum_by-below h front in
          omega arith;
    }

miss : (put seats front left : ℕ) (items : List ℕ) (views : List Hand) (id e : ℕ) (xs : List ℕ) → Deals put seats front left (front ∷ items) views → (less : ℕ) → left ≡ suc less → items ≡ count_up (suc front) less
    → get_elem? views id ≡ some (hand e 1 0 xs) → e ≤ front + seats → Deals put seats (suc front) less items (set views id (hand e 1 1 xs))
miss put seats front left items views id e xs d less left_is rest at le =
    let v = hand e 1 0 xs in
    let n = hand e 1 1 xs in
    let mine = d.fit id v at in
    let is : e ≡ put = mine.ends (omega arith) in
    let s = total_set seats_of views id v n at in
    let t = total_set seats_at_end views id v n at in
    let a = d.all in
    let most = d.most in
    let adds = d.sum_is in
    let m : min (put - seats) front ≡ put - seats = omega arith in
    let m' : min (put - seats) (suc front) ≡ put - seats = omega arith in
    record {
      are = rest;
      sum_is = omega arith;
      fit = fits_set put views id n d.fit (record { ends = mine.ends; few = omega arith; idle = λ none. absurd (omega arith) });
      all = omega arith;
      most = omega arith;
      over = λ some_told. omega arith;
      drawn = λ h.
          let g = total_set (λ u. sum_by h u.drawn) views id v n at in
          let was = d.drawn h ∙ ap (λ k. sum_by h (below k)) m in
          let now = ap (λ k. sum_by h (below k)) m' in
          omega arith;
    }

fresh : (put seats front left : ℕ) (items : List ℕ) (views : List Hand) (id e : ℕ) (xs : List ℕ) → Deals put seats front left items views → get_elem? views id ≡ some (hand e 1 0 xs) → front + seats < e
    → ¬ (Contains xs front) × (length xs + seats < e)
fresh put seats front left items views id e xs d at lt =
    let v = hand e 1 0 xs in
    let is : e ≡ put = (d.fit id v at).ends (omega arith) in
    let m : min (put - seats) front ≡ front = omega arith in
    let part = one_le_total (λ u. sum_by (weight_of front) u.drawn) views id v at in
    let whole = d.drawn (weight_of front) ∙ ap (λ k. sum_by (weight_of front) (below k)) m in
    let none = below-times front front (omega arith) in
    let part' = one_le_total (λ u. sum_by (λ _. 1) u.drawn) views id v at in
    let whole' = d.drawn (λ _. 1) ∙ ap (λ k. sum_by (λ _. 1) (below k)) m in
    let count = below-ones front in
    let len = sum_by-ones xs in
    (not_there front xs (omega arith), omega arith)

-- one take
pub deals_take : (put seats front left : ℕ) (items : List ℕ) (views : List Hand) (id e : ℕ) (xs : List ℕ) → Deals put seats front left (front ∷ items) views → (less : ℕ) → left ≡ suc less → items ≡ count_up (suc front) less
    → get_elem? views id ≡ some (hand e 1 0 xs) → Dec (e ≤ front + seats) → (n : Hand) × Deals put seats (suc front) less items (set views id n) × Took seats (hand e 1 0 xs) front n
deals_take put seats front left items views id e xs d less left_is rest at (yes le) =
    (hand e 1 1 xs, miss put seats front left items views id e xs d less left_is rest at le, inr (le, refl))
deals_take put seats front left items views id e xs d less left_is rest at (no more) =
    let lt : front + seats < e = lt_of_not-le more in
    let f = fresh put seats front left (front ∷ items) views id e xs d at lt in
    (hand e 1 0 (xs ++ front ∷ []), hit put seats front left items views id e xs d less left_is rest at lt, inl (lt, refl, f.0, f.1))

-- a seat that was not told the end finds something
pub deals_more : (put seats front left : ℕ) (items : List ℕ) (views : List Hand) (id : ℕ) (v : Hand) → Deals put seats front left items views → get_elem? views id ≡ some v → v.at_end < v.seats → seats ≤ v.end → 0 < length items
deals_more put seats front left items views id v d at few enough =
    let is : v.end ≡ put = (d.fit id v at).ends (omega arith) in
    let n = hand v.end v.seats (suc v.at_end) v.drawn in
    let t = total_set seats_at_end views id v n at in
    let s = total_set seats_of views id v n at in
    let fit' = fits_set put views id n d.fit (record { ends = (d.fit id v at).ends; few = omega arith; idle = λ none. absurd (omega arith) }) in
    let le = total_le seats_at_end seats_of (set views id n) (λ by u e. (fit' by u e).few) in
    let a = d.all in
    let most = d.most in
    let adds = d.sum_is in
    let len = ap length d.are ∙ length-count_up front left in
    omega arith

pub deals_first : Deals 0 1 0 0 [] (hand 0 1 0 [] ∷ [])
deals_first = record {
  are = refl;
  sum_is = refl;
  fit = one;
  all = refl;
  most = omega arith;
  over = λ lt. absurd (omega arith);
  drawn = λ h. refl;
}
  where
    one : (by : ℕ) (v : Hand) → get_elem? (hand 0 1 0 [] ∷ []) by ≡ some v → FitsSeats 0 v
    one zero v e = subst (FitsSeats 0) (some-injective _ _ e) (record { ends = λ _. refl; few = omega arith; idle = λ none. absurd (omega arith) })
    one (suc by) v e = absurd (some-ne-none v (sym e))

-- before anything is put, there is one seat more
pub deals_grow : (put seats front left : ℕ) (items : List ℕ) (views : List Hand) (id s : ℕ) → Deals put seats front left items views → get_elem? views id ≡ some (hand 0 s 0 []) → 0 < s → seats ≡ s
    → Deals put (seats + 1) front left items (set views id (hand 0 (s + 1) 0 []) ++ empty_hand ∷ [])
deals_grow put seats front left items views id s d at pos same =
    let v = hand 0 s 0 [] in
    let w = hand 0 (s + 1) 0 [] in
    let vs = set views id w in
    let ends = (d.fit id v at).ends pos in
    let adds = d.sum_is in
    let all : (f : Hand → ℕ) (k : ℕ) → f w ≡ f v + k → f empty_hand ≡ 0 → total_over f (vs ++ empty_hand ∷ []) ≡ total_over f views + k
    = λ f k add none. let a = total_set f views id v w at in let b = total_snoc f vs empty_hand in omega arith in
    let at_end : total_over seats_at_end (vs ++ empty_hand ∷ []) ≡ total_over seats_at_end views = let t = all seats_at_end 0 refl refl in omega arith in
    let a = all seats_of 1 refl refl in
    let b = d.all in
    let m : min (put - (seats + 1)) front ≡ min (put - seats) front = omega arith in
    record {
      are = d.are;
      sum_is = d.sum_is;
      fit = fits_snoc put vs empty_hand (fits_set put views id w d.fit (record { ends = λ _. ends; few = omega arith; idle = λ none. absurd (omega arith) }))
          (record { ends = λ lt. absurd (omega arith); few = omega arith; idle = λ _. refl });
      all = omega arith;
      most = let most = d.most in omega arith;
      over = λ lt. let over : put - seats < front = d.over (subst (λ t. 0 < t) at_end lt) in omega arith;
      drawn = λ g. let t = all (λ u. sum_by g u.drawn) 0 refl refl in let was = d.drawn g ∙ ap (λ k. sum_by g (below k)) (sym m) in omega arith;
    }

-- the starter, who counts every seat, puts one more
pub deals_put : (put seats front left : ℕ) (items : List ℕ) (views : List Hand) (id c s : ℕ) → Deals put seats front left items views → get_elem? views id ≡ some (hand c s 0 []) → 0 < s → seats ≡ s
    → Deals (put + 1) seats 0 (suc left) (items ++ c ∷ []) (set views id (hand (c + 1) s 0 []))
deals_put put seats front left items views id c s d at pos same =
    let u = hand c s 0 [] in
    let w = hand (c + 1) s 0 [] in
    let c_is : c ≡ put = (d.fit id u at).ends pos in
    let each = λ (j : ℕ) (y : Hand) (e : get_elem? views j ≡ some y). d.fit j y e in
    let every : total_over seats_of views ≡ s = d.all ∙ same in
    let at_end : total_over seats_at_end views ≡ 0 = total_one seats_at_end seats_of views id u (λ j y e none. let few = (each j y e).few in omega arith) at every in
    let ones : total_over (λ y. sum_by (λ _. 1) y.drawn) views ≡ 0 = total_one (λ y. sum_by (λ _. 1) y.drawn) seats_of views id u (λ j y e none. ap (sum_by (λ _. 1)) ((each j y e).idle none)) at every in
    let none_drawn = sym (below-ones (min (put - seats) front)) ∙ sym (d.drawn (λ _. 1)) ∙ ones in
    let most = d.most in
    let adds = d.sum_is in
    let zero_front : front ≡ 0 = omega arith in
    let left_is : left ≡ put = omega arith in
    let t = total_set seats_at_end views id u w at in
    let sum = total_set seats_of views id u w at in
    let a = d.all in
    let m : min (put + 1 - seats) 0 ≡ 0 = omega arith in
    let m' : min (put - seats) front ≡ 0 = omega arith in
    record {
      are = ap (λ ys. ys ++ c ∷ []) (d.are ∙ ap (λ k. count_up k left) zero_front) ∙ ap (λ k. count_up 0 left ++ k ∷ []) (let k : c ≡ 0 + left = omega arith in k) ∙ count_up-more 0 left;
      sum_is = omega arith;
      fit = λ j y e. ⊎_elim
          (λ (p : (j ≡ id) × (w ≡ y)). subst (λ z. FitsSeats (put + 1) z) p.1 (record { ends = λ _. ap (λ k. k + 1) c_is; few = omega arith; idle = λ none. absurd (omega arith) }))
          (λ (p : (j ≢ id) × (get_elem? views j ≡ some y)). let none = alone views id u at every j y p.0 p.1 in record { ends = λ lt. absurd (omega arith); few = (each j y p.1).few; idle = (each j y p.1).idle })
          (at_set views id j w y e);
      all = omega arith;
      most = omega arith;
      over = λ lt. absurd (omega arith);
      drawn = λ g.
          let k = total_set (λ y. sum_by g y.drawn) views id u w at in
          let was = d.drawn g ∙ ap (λ k. sum_by g (below k)) m' in
          let now = ap (λ k. sum_by g (below k)) m in
          omega arith;
    }

-- a seat is cut off a view that counts as many as are left
pub deals_split : (put seats front left : ℕ) (items : List ℕ) (views : List Hand) (id e n : ℕ) → Deals put seats front left items views → get_elem? views id ≡ some (hand e (suc n) 0 [])
    → Deals put seats front left items (set views id (hand e n 0 []) ++ hand e 1 0 [] ∷ [])
deals_split put seats front left items views id e n d at =
    let u = hand e (suc n) 0 [] in
    let l = hand e n 0 [] in
    let r = hand e 1 0 [] in
    let ends = (d.fit id u at).ends (omega arith) in
    let vs = set views id l in
    let same : (f : Hand → ℕ) → f u ≡ f l + f r → total_over f (vs ++ r ∷ []) ≡ total_over f views = λ f add. let a = total_set f views id u l at in let b = total_snoc f vs r in omega arith in
    let at_end = same seats_at_end refl in
    record {
      are = d.are;
      sum_is = d.sum_is;
      fit = fits_snoc put vs r (fits_set put views id l d.fit (record { ends = λ _. ends; few = omega arith; idle = λ _. refl })) (record { ends = λ _. ends; few = omega arith; idle = λ none. absurd (omega arith) });
      all = same seats_of (omega arith) ∙ d.all;
      most = subst (λ t. front ≤ (put - seats) + t) (sym at_end) d.most;
      over = λ lt. d.over (subst (λ t. 0 < t) at_end lt);
      drawn = λ g. same (λ y. sum_by g y.drawn) refl ∙ d.drawn g;
    }

-- a view takes in another, which counts a seat
pub deals_join : (put seats front left : ℕ) (items : List ℕ) (views : List Hand) (id : ℕ) (v : Hand) (other : ℕ) (w : Hand) → 0 < w.seats → Deals put seats front left items views → get_elem? views id ≡ some v → (other ≡ id → ⊥)
    → get_elem? (set views id (joint_hand v w)) other ≡ some w → Deals put seats front left items (set (set views id (joint_hand v w)) other empty_hand)
deals_join put seats front left items views id v other w some_seat d at apart at' =
    let both = joint_hand v w in
    let vs = set views id both in
    let was : get_elem? views other ≡ some w = ⊎_elim (λ (x : (other ≡ id) × (both ≡ w)). absurd (apart x.0)) (λ (x : (other ≢ id) × (get_elem? views other ≡ some w)). x.1) (at_set views id other both w at') in
    let mine = d.fit id v at in
    let theirs = d.fit other w was in
    let same : (f : Hand → ℕ) → f both ≡ f v + f w → f empty_hand ≡ 0 → total_over f (set vs other empty_hand) ≡ total_over f views
    = λ f add none. let a = total_set f views id v both at in let b = total_set f vs other w empty_hand at' in omega arith in
    let at_end = same seats_at_end refl refl in
    let few = mine.few in
    let few' = theirs.few in
    record {
      are = d.are;
      sum_is = d.sum_is;
      fit = fits_set put vs other empty_hand (fits_set put views id both d.fit (record { ends = λ _. theirs.ends some_seat; few = omega arith; idle = λ none. absurd (omega arith) }))
          (record { ends = λ lt. absurd (omega arith); few = omega arith; idle = λ _. refl });
      all = same seats_of refl refl ∙ d.all;
      most = subst (λ t. front ≤ (put - seats) + t) (sym at_end) d.most;
      over = λ lt. d.over (subst (λ t. 0 < t) at_end lt);
      drawn = λ g. same (λ y. sum_by g y.drawn) (sum_by-append g v.drawn w.drawn) refl ∙ d.drawn g;
    }

-- who counts every seat knows all that was taken
pub deals_whole : (put seats front left : ℕ) (items : List ℕ) (views : List Hand) (id : ℕ) (v : Hand) → v.seats ≡ seats → 0 < seats → Deals put seats front left items views → get_elem? views id ≡ some v → IsHandOut (v.end - seats) v.at_end v.drawn
deals_whole put seats front left items views id v every pos d at =
    let is : put ≡ v.end = sym ((d.fit id v at).ends (omega arith)) in
    let all : total_over seats_of views ≡ v.seats = d.all ∙ sym every in
    let at_end = total_one seats_at_end seats_of views id v (λ j u e none. let few = (d.fit j u e).few in omega arith) at all in
    subst (λ k. IsHandOut (k - seats) v.at_end v.drawn) is (
      min (put - seats) front,
      omega arith,
      (λ lt. let over = d.over (subst (λ t. 0 < t) (sym at_end) lt) in omega arith),
      λ g. sym (total_one (λ u. sum_by g u.drawn) seats_of views id v (λ j u e none. ap (sum_by g) ((d.fit j u e).idle none)) at all) ∙ d.drawn g,
    )
