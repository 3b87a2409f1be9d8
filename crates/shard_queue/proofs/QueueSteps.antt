-- Each step of a queue keeps its rule.
use Rattle.std.proofs.Common.{◌≡◌, ◌≢◌, ℕ, zero, suc, ◌+◌, ◌-◌, ◌≤◌, ◌<◌, List, [], ◌∷◌, ◌++◌, map}
use Rattle.std.proofs.Common.{set, refl, sym, ap, ◌∙◌, subst, ⊎_elim, arith, Bool, false}
use Rattle.std.proofs.Common.{if◌then◌else◌}
use mathlib.Core.Option.{some, some-ne-none, some-injective}
use native.Mathlib.Decide.{dec_le}
use lib.ListN.{get_elem?}
use Rattle.std.proofs.lemmas.List.{map-set, map-append}
use Rattle.atomic_table.proofs.Lists.{at_set, at_snoc, at_map, set_else}
use Rattle.crossbeam_queue.specs.Fifo.{Pushes, Pops, Forks, Merges, Learns}
use Rattle.shard_queue.specs.declared.knowledge.Hand.{Hand}
use Rattle.shard_queue.specs.declared.knowledge.QueueView.{QueueView}
use Rattle.shard_queue.specs.Hands.{hand, empty_hand, IsHandOut}
use Rattle.shard_queue.specs.Marks.{Deals, Took}
use Rattle.shard_queue.specs.QueueRule.{among, hand_in, Know, Dealt, no_seat, one_seat_more}
use Rattle.shard_queue.specs.QueueRule.{one_put}
use Rattle.shard_queue.specs.QueueRule.{one_off, one_seat, joint, Taken, More, Total}
use Rattle.shard_queue.proofs.Totals.{alone}
use Rattle.shard_queue.proofs.Marks.{front_is, deals_take, deals_more, deals_first, deals_grow}
use Rattle.shard_queue.proofs.Marks.{deals_put, deals_split, deals_join, deals_whole}

know_set : (seats : ℕ) (views : List QueueView) (id : ℕ) (w : QueueView) → (0 < w.hand.seats → w.seats ≡ seats) → Know seats views → Know seats (set views id w)
know_set seats views id w mine all j u e = ⊎_elim
    (λ (x : (j ≡ id) × (w ≡ u)). subst (λ (y : QueueView). 0 < y.hand.seats → y.seats ≡ seats) x.1 mine)
    (λ (x : (j ≢ id) × (get_elem? views j ≡ some u)). all j u x.1)
    (at_set views id j w u e)

know_snoc : (seats : ℕ) (views : List QueueView) (w : QueueView) → (0 < w.hand.seats → w.seats ≡ seats) → Know seats views → Know seats (views ++ w ∷ [])
know_snoc seats views w mine all j u e = ⊎_elim (λ x. all j u x) (λ (x : w ≡ u). subst (λ (y : QueueView). 0 < y.hand.seats → y.seats ≡ seats) x mine) (at_snoc views w u j e)

-- the hands where one view is set, and where one joins
hands_set : (views : List QueueView) (id : ℕ) (w : QueueView) → set (map hand_in views) id w.hand ≡ map hand_in (set views id w)
hands_set views id w = sym (map-set hand_in views id w)

hands_snoc : (views : List QueueView) (id : ℕ) (w u : QueueView) → set (map hand_in views) id w.hand ++ u.hand ∷ [] ≡ map hand_in (set views id w ++ u ∷ [])
hands_snoc views id w u = sym (map-append hand_in (set views id w) (u ∷ []) ∙ ap (λ hs. hs ++ u.hand ∷ []) (map-set hand_in views id w))

pub begins : Dealt [] (among 1 (hand 0 1 0 []) ∷ [])
begins = (0, 1, 0, 0, deals_first, one)
  where
    one : Know 1 (among 1 (hand 0 1 0 []) ∷ [])
    one zero v e lt = ap (λ (u : QueueView). u.seats) (sym (some-injective _ _ e))
    one (suc by) v e lt = absurd (some-ne-none v (sym e))

pub grows : (id : ℕ) (v : QueueView) (s : ℕ) → v ≡ among s (hand 0 s 0 []) → 0 < s → Forks Dealt id v (one_seat_more v) no_seat
grows id v s is pos = subst (λ (u : QueueView). Forks Dealt id u (one_seat_more u) no_seat) (sym is) growing
  where
    growing : Forks Dealt id (among s (hand 0 s 0 [])) (among (s + 1) (hand 0 (s + 1) 0 [])) no_seat
    growing items views h at =
        let u = among s (hand 0 s 0 []) in
        let w = among (s + 1) (hand 0 (s + 1) 0 []) in
        let hs = map hand_in views in
        let at' = at_map hand_in views id u at in
        let d = h.4 in
        let know = h.5 in
        let same : h.1 ≡ s = sym (know id u at pos) in
        let others : Know (h.1 + 1) (set views id w) = λ j y e lt. ⊎_elim
        (λ (x : (j ≡ id) × (w ≡ y)). ap (λ (z : QueueView). z.seats) (sym x.1) ∙ ap (λ k. k + 1) (sym same))
        (λ (x : (j ≢ id) × (get_elem? views j ≡ some y)). absurd (let none = alone hs id u.hand at' (d.all ∙ same) j y.hand x.0 (at_map hand_in views j y x.1) in omega arith))
        (at_set views id j w y e) in (
          h.0,
          h.1 + 1,
          h.2,
          h.3,
          subst (λ (l : List Hand). Deals h.0 (h.1 + 1) h.2 h.3 items l) (hands_snoc views id w no_seat) (deals_grow h.0 h.1 h.2 h.3 items hs id s d at' pos same),
          know_snoc (h.1 + 1) (set views id w) no_seat (λ lt. absurd (omega arith)) others,
        )

pub puts : (room id c s x : ℕ) (v : QueueView) → v ≡ among s (hand c s 0 []) → 0 < s → x ≡ c → Pushes Dealt room id v x (λ w. w ≡ one_put v)
puts room id c s x v is pos same = subst (λ (u : QueueView). Pushes Dealt room id u x (λ w. w ≡ one_put u)) (sym is)
    (subst (λ y. Pushes Dealt room id (among s (hand c s 0 [])) y (λ w. w ≡ among s (hand (c + 1) s 0 []))) (sym same) putting)
  where
    putting : Pushes Dealt room id (among s (hand c s 0 [])) c (λ w. w ≡ among s (hand (c + 1) s 0 []))
    putting items views lt h at =
        let u = among s (hand c s 0 []) in
        let w = among s (hand (c + 1) s 0 []) in
        let hs = map hand_in views in
        let same : h.1 ≡ s = sym (h.5 id u at pos) in (
          w,
          (
            h.0 + 1,
            h.1,
            0,
            suc h.3,
            subst (λ (l : List Hand). Deals (h.0 + 1) h.1 0 (suc h.3) (items ++ c ∷ []) l) (hands_set views id w)
                (deals_put h.0 h.1 h.2 h.3 items hs id c s h.4 (at_map hand_in views id u at) pos same),
            know_set h.1 views id w (λ lt. sym same) h.5,
          ),
          refl,
        )

pub forks : (id : ℕ) (v : QueueView) (s e n : ℕ) → v ≡ among s (hand e n 0 []) → 0 < n → Forks Dealt id v (one_off v) (one_seat v)
forks id v s e zero is lt = absurd (omega arith)
forks id v s e (suc n) is lt = subst (λ (u : QueueView). Forks Dealt id u (one_off u) (one_seat u)) (sym is)
    (subst (λ m. Forks Dealt id (among s (hand e (suc n) 0 [])) (among s (hand e m 0 [])) (among s (hand e 1 0 []))) (let down : n ≡ suc n - 1 = omega arith in down) forking)
  where
    forking : Forks Dealt id (among s (hand e (suc n) 0 [])) (among s (hand e n 0 [])) (among s (hand e 1 0 []))
    forking items views h at =
        let u = among s (hand e (suc n) 0 []) in
        let l = among s (hand e n 0 []) in
        let r = among s (hand e 1 0 []) in
        let mine : s ≡ h.1 = h.5 id u at (omega arith) in (
          h.0,
          h.1,
          h.2,
          h.3,
          subst (λ (hs : List Hand). Deals h.0 h.1 h.2 h.3 items hs) (hands_snoc views id l r) (deals_split h.0 h.1 h.2 h.3 items (map hand_in views) id e n h.4 (at_map hand_in views id u at)),
          know_snoc h.1 (set views id l) r (λ lt. mine) (know_set h.1 views id l (λ lt. mine) h.5),
        )

takes : (id s e : ℕ) (xs : List ℕ) → Pops Dealt id (among s (hand e 1 0 xs)) (Taken (among s (hand e 1 0 xs)))
takes id s e xs x items views h at =
    let v = among s (hand e 1 0 xs) in
    let hs = map hand_in views in
    let mine : h.1 ≡ s = sym (h.5 id v at (omega arith)) in
    let f = front_is x items h.2 h.3 h.4.are in
    let d : Deals h.0 h.1 h.2 h.3 (h.2 ∷ items) hs = subst (λ y. Deals h.0 h.1 h.2 h.3 (y ∷ items) hs) f.2 h.4 in
    let t = deals_take h.0 h.1 h.2 h.3 items hs id e xs d f.0 f.1 f.3 (at_map hand_in views id v at) (dec_le e (h.2 + h.1)) in
    let w = among s t.0 in (
      w,
      (h.0, h.1, suc h.2, f.0, subst (λ (l : List Hand). Deals h.0 h.1 (suc h.2) f.0 items l) (hands_set views id w) t.1, know_set h.1 views id w (λ lt. sym mine) h.5),
      (refl, subst (λ k. Took k (hand e 1 0 xs) x t.0) mine (subst (λ y. Took h.1 (hand e 1 0 xs) y t.0) (sym f.2) t.2)),
    )

pub takes_as : (id : ℕ) (v : QueueView) (s e : ℕ) (at_end : Bool) (xs : List ℕ) → v ≡ among s (hand e 1 (if at_end then 1 else 0) xs) → at_end ≡ false → Pops Dealt id v (Taken v)
takes_as id v s e at_end xs is open_yet =
    let v_is : v ≡ among s (hand e 1 0 xs) = is ∙ ap (λ b. among s (hand e 1 (if b then 1 else 0) xs)) open_yet in
    subst (λ (u : QueueView). Pops Dealt id u (Taken u)) (sym v_is) (takes id s e xs)

pub more : (id : ℕ) (v : QueueView) → Learns Dealt id v (More v)
more id v items views h at few enough =
    let mine : v.seats ≡ h.1 = h.5 id v at (omega arith) in
    deals_more h.0 h.1 h.2 h.3 items (map hand_in views) id v.hand h.4 (at_map hand_in views id v at) few (subst (λ k. k ≤ v.hand.end) mine enough)

pub merges : (id : ℕ) (v : QueueView) (other : ℕ) (w : QueueView) → 0 < w.hand.seats → Merges Dealt id v other w (joint v w) no_seat
merges id v other w some_seat items views h at apart at' =
    let b = joint v w in
    let vs = set views id b in
    let was : get_elem? views other ≡ some w = sym (set_else views id other b apart) ∙ at' in
    let theirs : w.seats ≡ h.1 = h.5 other w was some_seat in
    let hands : map hand_in (set vs other no_seat) ≡ set (set (map hand_in views) id b.hand) other empty_hand = map-set hand_in vs other no_seat ∙ ap (λ hs. set hs other empty_hand) (map-set hand_in views id b) in
    let there : get_elem? (set (map hand_in views) id b.hand) other ≡ some w.hand = set_else (map hand_in views) id other b.hand apart ∙ at_map hand_in views other w was in (
      h.0,
      h.1,
      h.2,
      h.3,
      subst (λ (hs : List Hand). Deals h.0 h.1 h.2 h.3 items hs) (sym hands)
          (deals_join h.0 h.1 h.2 h.3 items (map hand_in views) id v.hand other w.hand some_seat h.4 (at_map hand_in views id v at) apart there),
      know_set h.1 vs other no_seat (λ lt. absurd (omega arith)) (know_set h.1 views id b (λ lt. theirs) h.5),
    )

pub whole : (id : ℕ) (v : QueueView) → Learns Dealt id v (Total v)
whole id v items views h at every pos =
    let mine : v.seats ≡ h.1 = h.5 id v at pos in
    subst (λ k. IsHandOut (v.hand.end - k) v.hand.at_end v.hand.drawn) (sym mine)
    (deals_whole h.0 h.1 h.2 h.3 items (map hand_in views) id v.hand (every ∙ mine) (subst (λ k. 0 < k) (every ∙ mine) pos) h.4 (at_map hand_in views id v at))
