-- Each step of a board keeps what its first word stands for.
use Rattle.std.proofs.Common.{◌≡◌, ◌≢◌, ℕ, zero, suc, ◌+◌, ◌%◌, ◌^◌, ◌≤◌, ◌<◌, min, List, [], ◌∷◌}
use Rattle.std.proofs.Common.{◌++◌, length, set, refl, sym, ap, ◌∙◌, subst, ⊎_elim, arith}
use Rattle.std.proofs.Common.{mod-eq_of_lt, add-one}
use mathlib.Core.Option.{some, some-ne-none, some-injective}
use lib.ListN.{get_elem?}
use Rattle.atomic_table.proofs.Lists.{at_set}
use Rattle.shard_queue.specs.declared.knowledge.Hand.{Hand}
use Rattle.std.specs.Prelude.{sum_by, Contains}
use Rattle.std.proofs.lemmas.List.Sums.{sum_by-append}
use Rattle.shard_queue.specs.Numbers.{below}
use Rattle.shard_queue.specs.Hands.{hand, joint_hand, empty_hand, total_over, seats_of}
use Rattle.shard_queue.specs.Hands.{seats_at_end}
use Rattle.shard_queue.specs.Hands.{FitsSeats, AllFit, IsHandOut}
use Rattle.shard_queue.specs.Drawing.{Draws}
use Rattle.shard_queue.proofs.Totals.{total_set, total_snoc, total_le, one_le_total, total_one}
use Rattle.shard_queue.proofs.Totals.{sum_by-ones, sum_by-below, below-ones, weight_of, below-times}
use Rattle.shard_queue.proofs.Totals.{not_there, fits_set, fits_snoc}

seats_at_end_few : (n : ℕ) (views : List Hand) → AllFit n views → total_over seats_at_end views ≤ total_over seats_of views
seats_at_end_few n views fit = total_le seats_at_end seats_of views (λ by v e. (fit by v e).few)

pub draws_hit : (n seats word : ℕ) (views : List Hand) (id e : ℕ) (xs : List ℕ) → Draws n seats word views → get_elem? views id ≡ some (hand e 1 0 xs) → word < e
    → Draws n seats (suc word) (set views id (hand e 1 0 (xs ++ word ∷ [])))
draws_hit n seats word views id e xs d at lt =
    let v = hand e 1 0 xs in
    let w = hand e 1 0 (xs ++ word ∷ []) in
    let mine = d.fit id v at in
    let is : e ≡ n = mine.ends (omega arith) in
    let s = total_set seats_of views id v w at in
    let t = total_set seats_at_end views id v w at in
    let a = d.all in
    let over = d.over in
    let m : min n word ≡ word = omega arith in
    let m' : min n (suc word) ≡ suc word = omega arith in
    record {
      small = d.small;
      fit = fits_set n views id w d.fit (record { ends = mine.ends; few = omega arith; idle = λ none. absurd (omega arith) });
      all = omega arith;
      most = omega arith;
      over = λ some_told. absurd (omega arith);
      drawn = λ h.
          let g = total_set (λ u. sum_by h u.drawn) views id v w at in
          let was = d.drawn h ∙ ap (λ k. sum_by h (below k)) m in
          let more = sum_by-append h xs (word ∷ []) in
          let now = ap (λ k. sum_by h (below k)) m' ∙ sum_by-below h word in
          omega arith;
    }

pub draws_miss : (n seats word : ℕ) (views : List Hand) (id e : ℕ) (xs : List ℕ) → Draws n seats word views → get_elem? views id ≡ some (hand e 1 0 xs) → e ≤ word
    → Draws n seats (suc word) (set views id (hand e 1 1 xs))
draws_miss n seats word views id e xs d at le =
    let v = hand e 1 0 xs in
    let w = hand e 1 1 xs in
    let mine = d.fit id v at in
    let is : e ≡ n = mine.ends (omega arith) in
    let s = total_set seats_of views id v w at in
    let t = total_set seats_at_end views id v w at in
    let a = d.all in
    let most = d.most in
    let m : min n word ≡ n = omega arith in
    let m' : min n (suc word) ≡ n = omega arith in
    record {
      small = d.small;
      fit = fits_set n views id w d.fit (record { ends = mine.ends; few = omega arith; idle = λ none. absurd (omega arith) });
      all = omega arith;
      most = omega arith;
      over = λ some_told. omega arith;
      drawn = λ h.
          let g = total_set (λ u. sum_by h u.drawn) views id v w at in
          let was = d.drawn h ∙ ap (λ k. sum_by h (below k)) m in
          let now = ap (λ k. sum_by h (below k)) m' in
          omega arith;
    }

-- what a seat has drawn, it is not given again, and it has room for one more
pub fresh : (n seats word : ℕ) (views : List Hand) (id e : ℕ) (xs : List ℕ) → Draws n seats word views → get_elem? views id ≡ some (hand e 1 0 xs) → word < e
    → ¬ (Contains xs word) × (length xs < e)
fresh n seats word views id e xs d at lt =
    let v = hand e 1 0 xs in
    let is : e ≡ n = (d.fit id v at).ends (omega arith) in
    let m : min n word ≡ word = omega arith in
    let part = one_le_total (λ u. sum_by (weight_of word) u.drawn) views id v at in
    let whole = d.drawn (weight_of word) ∙ ap (λ k. sum_by (weight_of word) (below k)) m in
    let none = below-times word word (omega arith) in
    let part' = one_le_total (λ u. sum_by (λ _. 1) u.drawn) views id v at in
    let whole' = d.drawn (λ _. 1) ∙ ap (λ k. sum_by (λ _. 1) (below k)) m in
    let count = below-ones word in
    let len = sum_by-ones xs in
    (not_there word xs (omega arith), omega arith)

pub word_fits : (n seats word : ℕ) (views : List Hand) → Draws n seats word views → (word + 1) % 2 ^ 64 ≡ suc word
word_fits n seats word views d =
    let few = seats_at_end_few n views d.fit in
    let most = d.most in
    let a = d.all in
    let small = d.small in
    let wraps : (word + 1) % 2 ^ 64 ≡ word + 1 = mod-eq_of_lt (omega arith) in
    wraps ∙ add-one word

-- a seat is cut off a view that counts as many as are left
pub draws_split : (n seats word : ℕ) (views : List Hand) (id e left : ℕ) → Draws n seats word views → get_elem? views id ≡ some (hand e (suc left) 0 [])
    → Draws n seats word (set views id (hand e left 0 []) ++ hand e 1 0 [] ∷ [])
draws_split n seats word views id e left d at =
    let v = hand e (suc left) 0 [] in
    let l = hand e left 0 [] in
    let r = hand e 1 0 [] in
    let ends = (d.fit id v at).ends (omega arith) in
    let vs = set views id l in
    let sum : (f : Hand → ℕ) → f v ≡ f l + f r → total_over f (vs ++ r ∷ []) ≡ total_over f views = λ f add. let a = total_set f views id v l at in let b = total_snoc f vs r in omega arith in
    let at_end = sum seats_at_end refl in
    record {
      small = d.small;
      fit = fits_snoc n vs r (fits_set n views id l d.fit (record { ends = λ _. ends; few = omega arith; idle = λ _. refl })) (record { ends = λ _. ends; few = omega arith; idle = λ none. absurd (omega arith) });
      all = sum seats_of (omega arith) ∙ d.all;
      most = subst (λ t. word ≤ n + t) (sym at_end) d.most;
      over = λ lt. d.over (subst (λ t. 0 < t) at_end lt);
      drawn = λ g. sum (λ u. sum_by g u.drawn) refl ∙ d.drawn g;
    }

-- a view takes in another, which counts a seat
pub draws_join : (n seats word : ℕ) (views : List Hand) (id : ℕ) (v : Hand) (other : ℕ) (w : Hand) → 0 < w.seats → Draws n seats word views → get_elem? views id ≡ some v → (other ≡ id → ⊥)
    → get_elem? (set views id (joint_hand v w)) other ≡ some w → Draws n seats word (set (set views id (joint_hand v w)) other empty_hand)
draws_join n seats word views id v other w some_seat d at apart at' =
    let both = joint_hand v w in
    let vs = set views id both in
    let was : get_elem? views other ≡ some w = ⊎_elim (λ (x : (other ≡ id) × (both ≡ w)). absurd (apart x.0)) (λ (x : (other ≢ id) × (get_elem? views other ≡ some w)). x.1) (at_set views id other both w at') in
    let mine = d.fit id v at in
    let theirs = d.fit other w was in
    let same : (f : Hand → ℕ) → f both ≡ f v + f w → f empty_hand ≡ 0 → total_over f (set vs other empty_hand) ≡ total_over f views
    = λ f add none. let a = total_set f views id v both at in let b = total_set f vs other w empty_hand at' in omega arith in
    let at_end = same seats_at_end refl refl in
    let few = mine.few in
    let few' = theirs.few in
    record {
      small = d.small;
      fit = fits_set n vs other empty_hand (fits_set n views id both d.fit (record { ends = λ _. theirs.ends some_seat; few = omega arith; idle = λ none. absurd (omega arith) }))
          (record { ends = λ lt. absurd (omega arith); few = omega arith; idle = λ _. refl });
      all = same seats_of refl refl ∙ d.all;
      most = subst (λ t. word ≤ n + t) (sym at_end) d.most;
      over = λ lt. d.over (subst (λ t. 0 < t) at_end lt);
      drawn = λ g. same (λ u. sum_by g u.drawn) (sum_by-append g v.drawn w.drawn) refl ∙ d.drawn g;
    }

-- a new view counts no seat
pub draws_enter : (n seats word : ℕ) (views : List Hand) → Draws n seats word views → Draws n seats word (views ++ empty_hand ∷ [])
draws_enter n seats word views d =
    let same : (f : Hand → ℕ) → f empty_hand ≡ 0 → total_over f (views ++ empty_hand ∷ []) ≡ total_over f views = λ f none. let a = total_snoc f views empty_hand in omega arith in
    let at_end = same seats_at_end refl in
    record {
      small = d.small;
      fit = fits_snoc n views empty_hand d.fit (record { ends = λ lt. absurd (omega arith); few = omega arith; idle = λ _. refl });
      all = same seats_of refl ∙ d.all;
      most = subst (λ t. word ≤ n + t) (sym at_end) d.most;
      over = λ lt. d.over (subst (λ t. 0 < t) at_end lt);
      drawn = λ g. same (λ u. sum_by g u.drawn) refl ∙ d.drawn g;
    }

-- who counts every seat knows all that was drawn
pub draws_whole : (n seats word : ℕ) (views : List Hand) (id : ℕ) (v : Hand) → v.seats ≡ seats → Draws n seats word views → get_elem? views id ≡ some v → IsHandOut n v.at_end v.drawn
draws_whole n seats word views id v every d at =
    let all : total_over seats_of views ≡ v.seats = d.all ∙ sym every in
    let at_end = total_one seats_at_end seats_of views id v (λ j u e none. let few = (d.fit j u e).few in omega arith) at all in (
      min n word,
      omega arith,
      (λ lt. let over = d.over (subst (λ t. 0 < t) (sym at_end) lt) in omega arith),
      λ h. sym (total_one (λ u. sum_by h u.drawn) seats_of views id v (λ j u e none. ap (sum_by h) ((d.fit j u e).idle none)) at all) ∙ d.drawn h,
    )

pub draws_first : (n seats : ℕ) → n + seats < 2 ^ 63 → Draws n seats 0 (hand n seats 0 [] ∷ [])
draws_first n seats small = record {
  small = small;
  fit = one;
  all = omega arith;
  most = omega arith;
  over = λ lt. absurd (omega arith);
  drawn = λ h. let m : min n 0 ≡ 0 = omega arith in omega (arith, ap (λ k. sum_by h (below k)) m);
}
  where
    one : (by : ℕ) (v : Hand) → get_elem? (hand n seats 0 [] ∷ []) by ≡ some v → FitsSeats n v
    one zero v e = subst (FitsSeats n) (some-injective _ _ e) (record { ends = λ _. refl; few = omega arith; idle = λ _. refl })
    one (suc by) v e = absurd (some-ne-none v (sym e))
