-- Each step of a board keeps its rule.
use Rattle.std.proofs.Common.{◌≡◌, ◌≢◌, ℕ, zero, suc, ◌+◌, ◌-◌, ◌%◌, ◌^◌, ◌≤◌, ◌<◌, min, List, []}
use Rattle.std.proofs.Common.{◌∷◌, ◌++◌, map, length, set, refl, sym, ap, ◌∙◌, subst, ⊎_elim, inl}
use Rattle.std.proofs.Common.{inr, arith, lt_of_not-le, slice_index, Bool, false, if◌then◌else◌}
use mathlib.Core.Option.{some, some-ne-none, some-injective}
use native.Mathlib.Decide.{dec_le}
use lib.ListN.{get_elem?}
use Rattle.std.proofs.lemmas.List.{map-set, map-append}
use Rattle.atomic_table.proofs.Lists.{at_set, at_snoc, at_map, set_again, set_else}
use Rattle.atomic_table.specs.Table.{State, Me, Allows, Splits, Joins, Enters, Final, Seen, opening}
use Rattle.atomic_table.specs.Table.{keeps}
use Rattle.shard_queue.specs.declared.knowledge.Hand.{Hand}
use Rattle.shard_queue.specs.declared.knowledge.Low.{Low}
use Rattle.shard_queue.specs.declared.knowledge.BoardView.{BoardView}
use Rattle.shard_queue.specs.Hands.{hand, one_less, empty_hand, seats_of, IsHandOut}
use Rattle.shard_queue.specs.Drawing.{Draws}
use Rattle.shard_queue.specs.Least.{no_number, low, nothing_lowered, IsLeastLowered}
use Rattle.shard_queue.specs.BoardRule.{view, hand_of, low_of, view_of_both, empty_view, Kept}
use Rattle.shard_queue.specs.BoardRule.{Claimed}
use Rattle.shard_queue.specs.BoardRule.{Lowered, Looked}
use Rattle.shard_queue.proofs.Totals.{alone}
use Rattle.shard_queue.proofs.Drawing.{draws_hit, draws_miss, fresh, word_fits, draws_split}
use Rattle.shard_queue.proofs.Drawing.{draws_join, draws_enter, draws_whole, draws_first}
use Rattle.shard_queue.proofs.Least.{least_lower, least_look, least_enter, least_join, least_whole}
use Rattle.shard_queue.proofs.Least.{least_first}

-- one of two words is changed
first_word : (ws : List ℕ) (x : ℕ) → length ws ≡ 2 → (length (set ws 0 x) ≡ 2) × (slice_index (set ws 0 x) 0 ≡ x) × (slice_index (set ws 0 x) 1 ≡ slice_index ws 1)
first_word [] x e = absurd (omega arith)
first_word (a ∷ []) x e = absurd (omega arith)
first_word (a ∷ b ∷ ws) x e = (e, refl, refl)

second_word : (ws : List ℕ) (x : ℕ) → length ws ≡ 2 → (length (set ws 1 x) ≡ 2) × (slice_index (set ws 1 x) 0 ≡ slice_index ws 0) × (slice_index (set ws 1 x) 1 ≡ x)
second_word [] x e = absurd (omega arith)
second_word (a ∷ []) x e = absurd (omega arith)
second_word (a ∷ b ∷ ws) x e = (e, refl, refl)

abbrev pub Idle : List BoardView → Type 0
Idle views = (by : ℕ) (v : BoardView) → get_elem? views by ≡ some v → v.hand.seats ≡ 0 → v.low.lowered ≡ no_number

idle_set : (views : List BoardView) (id : ℕ) (w : BoardView) → (w.hand.seats ≡ 0 → w.low.lowered ≡ no_number) → Idle views → Idle (set views id w)
idle_set views id w mine all j u e = ⊎_elim
    (λ (x : (j ≡ id) × (w ≡ u)). subst (λ (y : BoardView). y.hand.seats ≡ 0 → y.low.lowered ≡ no_number) x.1 mine)
    (λ (x : (j ≢ id) × (get_elem? views j ≡ some u)). all j u x.1)
    (at_set views id j w u e)

idle_snoc : (views : List BoardView) (w : BoardView) → (w.hand.seats ≡ 0 → w.low.lowered ≡ no_number) → Idle views → Idle (views ++ w ∷ [])
idle_snoc views w mine all j u e = ⊎_elim (λ x. all j u x) (λ (x : w ≡ u). subst (λ (y : BoardView). y.hand.seats ≡ 0 → y.low.lowered ≡ no_number) x mine) (at_snoc views w u j e)

-- a view whose hand, or whose low, stays
same_hand : (views : List BoardView) (id : ℕ) (v : BoardView) (l : Low) → get_elem? views id ≡ some v → map hand_of (set views id (view v.hand l)) ≡ map hand_of views
same_hand views id v l at = map-set hand_of views id (view v.hand l) ∙ set_again (map hand_of views) id v.hand (at_map hand_of views id v at)

same_low : (views : List BoardView) (id : ℕ) (v : BoardView) (h : Hand) → get_elem? views id ≡ some v → map low_of (set views id (view h v.low)) ≡ map low_of views
same_low views id v h at = map-set low_of views id (view h v.low) ∙ set_again (map low_of views) id v.low (at_map low_of views id v at)

module _ {S : Type 0} where
  -- the first word goes up, and a seat's hand changes
  claimed : (k : ℕ × ℕ) (s : State S BoardView) (id : ℕ) (v : BoardView) (h : Hand) (word : ℕ) → Kept k s → get_elem? s.views id ≡ some v → 0 < h.seats → word ≡ suc (slice_index s.words 0)
      → Draws k.0 k.1 (suc (slice_index s.words 0)) (set (map hand_of s.views) id h) → Kept {S = S} k record { words = set s.words 0 word; homes = s.homes; views = set s.views id (view h v.low) }
  claimed k s id v h word kept at some_seat up draws =
      let new = first_word s.words word kept.two in
      record {
        two = new.0;
        draws = subst (λ x. Draws k.0 k.1 x (map hand_of (set s.views id (view h v.low)))) (sym (new.1 ∙ up))
            (subst (λ (hs : List Hand). Draws k.0 k.1 (suc (slice_index s.words 0)) hs) (sym (map-set hand_of s.views id (view h v.low))) draws);
        least = subst (λ x. IsLeastLowered x (map low_of (set s.views id (view h v.low)))) (sym new.2)
            (subst (λ (ls : List Low). IsLeastLowered (slice_index s.words 1) ls) (sym (same_low s.views id v h at)) kept.least);
        idle = idle_set s.views id (view h v.low) (λ none. absurd (omega arith)) kept.idle;
      }

  claims_if : (k : ℕ × ℕ) (id e : ℕ) (xs : List ℕ) (l : Low) (s : State S BoardView) → Kept k s → get_elem? s.views id ≡ some (view (hand e 1 0 xs) l) → Dec (e ≤ slice_index s.words 0)
      → (w : BoardView) × Kept {S = S} k record { words = set s.words 0 ((slice_index s.words 0 + 1) % 2 ^ 64); homes = s.homes; views = set s.views id w } × Claimed {S = S} (view (hand e 1 0 xs) l, []) (slice_index s.words 0) (w, [])
  claims_if k id e xs l s kept at (yes le) =
      let word = slice_index s.words 0 in
      let hs = map hand_of s.views in
      let v = view (hand e 1 0 xs) l in
      let h = hand e 1 1 xs in
      (view h l, claimed k s id v h _ kept at (omega arith) (word_fits k.0 k.1 word hs kept.draws) (draws_miss k.0 k.1 word hs id e xs kept.draws (at_map hand_of s.views id v at) le), (refl, refl, inr (le, refl)))
  claims_if k id e xs l s kept at (no more) =
      let word = slice_index s.words 0 in
      let hs = map hand_of s.views in
      let v = view (hand e 1 0 xs) l in
      let lt : word < e = lt_of_not-le more in
      let h = hand e 1 0 (xs ++ word ∷ []) in
      let at' = at_map hand_of s.views id v at in
      let room = fresh k.0 k.1 word hs id e xs kept.draws at' lt in
      (view h l, claimed k s id v h _ kept at (omega arith) (word_fits k.0 k.1 word hs kept.draws) (draws_hit k.0 k.1 word hs id e xs kept.draws at' lt), (refl, refl, inl (lt, refl, room.0, room.1)))

  pub claims : (k : ℕ × ℕ) (slots id e : ℕ) (xs : List ℕ) (l : Low) → Allows {S = S} (Kept k) slots id (view (hand e 1 0 xs) l, []) 0 (λ n. (n + 1) % 2 ^ 64) (Claimed (view (hand e 1 0 xs) l, []))
  claims k slots id e xs l s kept len at fits =
      let c = claims_if k id e xs l s kept at (dec_le e (slice_index s.words 0)) in
      (c.0, keeps, tt, c.1, c.2)

  -- the same at a seat whose hand is known
  pub claims_as : (k : ℕ × ℕ) (slots id : ℕ) (me : Me S BoardView) (e : ℕ) (at_end : Bool) (xs : List ℕ) → me.0.hand ≡ hand e 1 (if at_end then 1 else 0) xs → me.1 ≡ [] → at_end ≡ false
      → Allows {S = S} (Kept k) slots id me 0 (λ n. (n + 1) % 2 ^ 64) (Claimed me)
  claims_as k slots id me e at_end xs is empty open_yet =
      let hand_is : me.0.hand ≡ hand e 1 0 xs = is ∙ ap (λ b. hand e 1 (if b then 1 else 0) xs) open_yet in
      let me_is : me ≡ (view (hand e 1 0 xs) me.0.low, []) = ap (λ h. (view h me.0.low, me.1)) hand_is ∙ ap (λ t. (view (hand e 1 0 xs) me.0.low, t)) empty in
      subst (λ (m : Me S BoardView). Allows {S = S} (Kept k) slots id m 0 (λ n. (n + 1) % 2 ^ 64) (Claimed m)) (sym me_is) (claims k slots id e xs me.0.low)

  -- the second word changes, and a seat's low
  looked : (k : ℕ × ℕ) (s : State S BoardView) (id : ℕ) (v : BoardView) (l : Low) (word : ℕ) → Kept k s → get_elem? s.views id ≡ some v → (v.hand.seats ≡ 0 → l.lowered ≡ no_number)
      → IsLeastLowered word (set (map low_of s.views) id l) → Kept {S = S} k record { words = set s.words 1 word; homes = s.homes; views = set s.views id (view v.hand l) }
  looked k s id v l word kept at idle least =
      let new = second_word s.words word kept.two in
      record {
        two = new.0;
        draws = subst (λ x. Draws k.0 k.1 x (map hand_of (set s.views id (view v.hand l)))) (sym new.1)
            (subst (λ (hs : List Hand). Draws k.0 k.1 (slice_index s.words 0) hs) (sym (same_hand s.views id v l at)) kept.draws);
        least = subst (λ x. IsLeastLowered x (map low_of (set s.views id (view v.hand l)))) (sym new.2)
            (subst (λ (ls : List Low). IsLeastLowered word ls) (sym (map-set low_of s.views id (view v.hand l))) least);
        idle = idle_set s.views id (view v.hand l) idle kept.idle;
      }

  pub lowers : (k : ℕ × ℕ) (slots id number e t : ℕ) (xs : List ℕ) (me : Me S BoardView) → me.0.hand ≡ hand e 1 t xs → me.1 ≡ [] → Allows {S = S} (Kept k) slots id me 1 (λ n. min n number) (λ found w. Lowered number me w)
  lowers k slots id number e t xs me is empty s kept len at fits =
      let v = me.0 in
      let l = low (min v.low.lowered number) v.low.seen in
      let word = slice_index s.words 1 in
      let one : v.hand.seats ≡ 1 = ap seats_of is in
      (view v.hand l, keeps, tt, looked k s id v l (min word number) kept at (λ none. absurd (omega arith)) (least_lower word number (map low_of s.views) id v.low kept.least (at_map low_of s.views id v at)), (refl, refl))

  pub looks : (k : ℕ × ℕ) (slots id : ℕ) (me : Me S BoardView) → Allows {S = S} (Kept k) slots id me 1 (λ n. n) (λ found w. Looked me found w)
  looks k slots id me s kept len at fits =
      let v = me.0 in
      let word = slice_index s.words 1 in
      let l = low v.low.lowered (min v.low.seen word) in
      let at' = at_map low_of s.views id v at in
      (view v.hand l, keeps, tt, looked k s id v l word kept at (kept.idle id v at) (least_look word (map low_of s.views) id v.low kept.least at'), (refl, refl, kept.least.lowered id v.low at', kept.least.seen id v.low at'))

  -- a seat is cut off a view that counts as many as are left
  pub splits : (k : ℕ × ℕ) (id e n : ℕ) → Splits {S = S} (Kept k) id (view (hand e (suc n) 0 []) nothing_lowered) (view (hand e n 0 []) nothing_lowered) (view (hand e 1 0 []) nothing_lowered)
  splits k id e n s kept at =
      let v = view (hand e (suc n) 0 []) nothing_lowered in
      let left = view (hand e n 0 []) nothing_lowered in
      let right = view (hand e 1 0 []) nothing_lowered in
      let vs = set s.views id left in
      let hands : map hand_of (vs ++ right ∷ []) ≡ set (map hand_of s.views) id left.hand ++ right.hand ∷ [] = map-append hand_of vs (right ∷ []) ∙ ap (λ hs. hs ++ right.hand ∷ []) (map-set hand_of s.views id left) in
      let lows : map low_of (vs ++ right ∷ []) ≡ map low_of s.views ++ nothing_lowered ∷ [] = map-append low_of vs (right ∷ []) ∙ ap (λ ls. ls ++ nothing_lowered ∷ []) (same_low s.views id v (hand e n 0 []) at) in
      record {
        two = kept.two;
        draws = subst (λ (hs : List Hand). Draws k.0 k.1 (slice_index s.words 0) hs) (sym hands) (draws_split k.0 k.1 (slice_index s.words 0) (map hand_of s.views) id e n kept.draws (at_map hand_of s.views id v at));
        least = subst (λ (ls : List Low). IsLeastLowered (slice_index s.words 1) ls) (sym lows) (least_enter (slice_index s.words 1) (map low_of s.views) kept.least);
        idle = idle_snoc vs right (λ none. refl) (idle_set s.views id left (λ none. refl) kept.idle);
      }

  pub splits_as : (k : ℕ × ℕ) (id : ℕ) (v : BoardView) (e n : ℕ) → v ≡ view (hand e n 0 []) nothing_lowered → 0 < n
      → Splits {S = S} (Kept k) id v (view (one_less v.hand) v.low) (view (hand v.hand.end 1 0 []) nothing_lowered)
  splits_as k id v e zero is lt = absurd (omega arith)
  splits_as k id v e (suc n) is lt = subst (λ (u : BoardView). Splits {S = S} (Kept k) id u (view (one_less u.hand) u.low) (view (hand u.hand.end 1 0 []) nothing_lowered)) (sym is)
      (subst (λ m. Splits {S = S} (Kept k) id (view (hand e (suc n) 0 []) nothing_lowered) (view (hand e m 0 []) nothing_lowered) (view (hand e 1 0 []) nothing_lowered)) (let down : n ≡ suc n - 1 = omega arith in down) (splits k id e n))

  -- a view takes in another, which counts a seat
  pub joins : (k : ℕ × ℕ) (id : ℕ) (v : BoardView) (other : ℕ) (w : BoardView) → 0 < w.hand.seats → Joins {S = S} (Kept k) id v other w (view_of_both v w) empty_view
  joins k id v other w some_seat s kept at apart at' =
      let b = view_of_both v w in
      let vs = set s.views id b in
      let was : get_elem? s.views other ≡ some w = sym (set_else s.views id other b apart) ∙ at' in
      let hands : map hand_of (set vs other empty_view) ≡ set (set (map hand_of s.views) id b.hand) other empty_hand = map-set hand_of vs other empty_view ∙ ap (λ hs. set hs other empty_hand) (map-set hand_of s.views id b) in
      let lows : map low_of (set vs other empty_view) ≡ set (set (map low_of s.views) id b.low) other nothing_lowered = map-set low_of vs other empty_view ∙ ap (λ ls. set ls other nothing_lowered) (map-set low_of s.views id b) in
      let there : get_elem? (set (map hand_of s.views) id b.hand) other ≡ some w.hand = set_else (map hand_of s.views) id other b.hand apart ∙ at_map hand_of s.views other w was in
      record {
        two = kept.two;
        draws = subst (λ (hs : List Hand). Draws k.0 k.1 (slice_index s.words 0) hs) (sym hands)
            (draws_join k.0 k.1 (slice_index s.words 0) (map hand_of s.views) id v.hand other w.hand some_seat kept.draws (at_map hand_of s.views id v at) apart there);
        least = subst (λ (ls : List Low). IsLeastLowered (slice_index s.words 1) ls) (sym lows)
            (least_join (slice_index s.words 1) (map low_of s.views) id v.low other w.low kept.least (at_map low_of s.views id v at) apart (at_map low_of s.views other w was));
        idle = idle_set vs other empty_view (λ none. refl) (idle_set s.views id b (λ none. absurd (omega arith)) kept.idle);
      }

  pub joins_as : (k : ℕ × ℕ) (id : ℕ) (v : BoardView) (other : ℕ) (w : BoardView) (e t : ℕ) (xs : List ℕ) → w.hand ≡ hand e 1 t xs → Joins {S = S} (Kept k) id v other w (view_of_both v w) empty_view
  joins_as k id v other w e t xs is = joins k id v other w (let one : w.hand.seats ≡ 1 = ap seats_of is in omega arith)

  -- a new view counts no seat
  pub enters : (k : ℕ × ℕ) (slots word : ℕ) → Enters {S = S} (Kept k) slots word (λ n w. w ≡ empty_view)
  enters k slots word s kept len at =
      let hands = map-append hand_of s.views (empty_view ∷ []) in
      let lows = map-append low_of s.views (empty_view ∷ []) in (
        empty_view,
        record {
          two = kept.two;
          draws = subst (λ (hs : List Hand). Draws k.0 k.1 (slice_index s.words 0) hs) (sym hands) (draws_enter k.0 k.1 (slice_index s.words 0) (map hand_of s.views) kept.draws);
          least = subst (λ (ls : List Low). IsLeastLowered (slice_index s.words 1) ls) (sym lows) (least_enter (slice_index s.words 1) (map low_of s.views) kept.least);
          idle = idle_snoc s.views empty_view (λ none. refl) kept.idle;
        },
        refl,
      )

  -- who counts every seat knows all that was drawn, and the least number that was lowered
  pub ends_whole : (k : ℕ × ℕ) (id : ℕ) (v : BoardView) (ws : List ℕ) (ss : List S) → v.hand.seats ≡ k.1 → v.low.lowered ≤ no_number → Final (Seen (Kept {S = S} k) id v) ws ss
      → IsHandOut k.0 v.hand.at_end v.hand.drawn × (length ws ≡ 2) × (slice_index ws 1 ≡ v.low.lowered) × (slice_index ws 1 ≤ v.low.seen)
  ends_whole k id v ws ss every small final =
      let s = final.0 in
      let kept = final.1.0 in
      let at = final.1.1 in
      let hs = map hand_of s.views in
      let at' = at_map hand_of s.views id v at in
      let all = kept.draws.all ∙ sym every in
      let least = least_whole (slice_index s.words 1) (map low_of s.views) id v.low kept.least (at_map low_of s.views id v at) small
      (λ j l apart e. let o = owner s.views j l e in sym (ap (λ (x : Low). x.lowered) o.2) ∙ kept.idle j o.0 o.1 (alone hs id v.hand at' all j o.0.hand apart (at_map hand_of s.views j o.0 o.1))) in
      let one = ap (λ w. slice_index w 1) final.2 in
      (draws_whole k.0 k.1 (slice_index s.words 0) hs id v.hand every kept.draws at', sym (ap length final.2) ∙ kept.two, sym one ∙ least.0, subst (λ n. n ≤ v.low.seen) one least.1)
    where
      owner : (views : List BoardView) (j : ℕ) (l : Low) → get_elem? (map low_of views) j ≡ some l → (u : BoardView) × (get_elem? views j ≡ some u) × (u.low ≡ l)
      owner [] j l e = absurd (some-ne-none l (sym e))
      owner (x ∷ xs) zero l e = (x, refl, some-injective x.low l e)
      owner (x ∷ xs) (suc j) l e = owner xs j l e

pub begins : (S : Type 0) (n seats : ℕ) → n + seats < 2 ^ 63 → Kept {S = S} (n, seats) (opening (0 ∷ no_number ∷ []) [] (view (hand n seats 0 []) nothing_lowered))
begins S n seats small = record {
  two = refl;
  draws = draws_first n seats small;
  least = least_first;
  idle = one;
}
  where
    one : (by : ℕ) (v : BoardView) → get_elem? (view (hand n seats 0 []) nothing_lowered ∷ []) by ≡ some v → v.hand.seats ≡ 0 → v.low.lowered ≡ no_number
    one zero v e none = ap (λ (u : BoardView). u.low.lowered) (sym (some-injective _ _ e))
    one (suc by) v e none = absurd (some-ne-none v (sym e))

pub word_at : (ws : List ℕ) (i x : ℕ) → get_elem? ws i ≡ some x → slice_index ws i ≡ x
word_at [] i x e = absurd (some-ne-none x (sym e))
word_at (w ∷ ws) zero x e = some-injective w x e
word_at (w ∷ ws) (suc i) x e = word_at ws i x e
