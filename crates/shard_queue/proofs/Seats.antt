-- What the views know of lists of seats.
use Rattle.std.proofs.Common.{◌≡◌, ℕ, min, ◌≤◌, ◌+◌, List, [], ◌∷◌, ◌++◌, sym, ap, ◌∙◌, subst}
use Rattle.std.proofs.Common.{arith, length, append_assoc, append-nil, if◌then◌else◌, length-append}
use Rattle.shard_queue.specs.declared.knowledge.BoardView.{BoardView}
use Rattle.shard_queue.specs.declared.claim_seat.ClaimSeat.{ClaimSeat}
use Rattle.shard_queue.specs.Hands.{hand, joint_hand, IsHandOut}
use Rattle.shard_queue.specs.Least.{no_number}
use Rattle.shard_queue.specs.BoardRule.{view_of_both}
use Rattle.shard_queue.specs.Boards.{claim_numbers, claim_seats_at_end, number_lowered, number_seen}
use Rattle.shard_queue.specs.Boards.{least_lowered, least_seen}

-- the view counts these seats and knows what they know
pub record Counts (ss : List ClaimSeat) (v : BoardView) : Type 0 where
  pub seats : v.hand.seats ≡ length ss
  pub at_end : v.hand.at_end ≡ claim_seats_at_end ss
  pub drawn : v.hand.drawn ≡ claim_numbers ss
  pub lowered : v.low.lowered ≡ least_lowered ss
  pub seen : v.low.seen ≡ least_seen ss

pub claim_numbers-more : (ss : List ClaimSeat) (s : ClaimSeat) → claim_numbers (ss ++ s ∷ []) ≡ claim_numbers ss ++ s.taken.items
claim_numbers-more [] s = append-nil s.taken.items
claim_numbers-more (x ∷ ss) s = ap (λ ys. x.taken.items ++ ys) (claim_numbers-more ss s) ∙ sym (append_assoc x.taken.items (claim_numbers ss) s.taken.items)

pub claim_seats_at_end-more : (ss : List ClaimSeat) (s : ClaimSeat) → claim_seats_at_end (ss ++ s ∷ []) ≡ claim_seats_at_end ss + (if s.at_end then 1 else 0)
claim_seats_at_end-more [] s = omega arith
claim_seats_at_end-more (x ∷ ss) s = let more = claim_seats_at_end-more ss s in omega arith

pub lowered-more : (ss : List ClaimSeat) (s : ClaimSeat) → least_lowered (ss ++ s ∷ []) ≡ min (least_lowered ss) (number_lowered s)
lowered-more [] s = omega arith
lowered-more (x ∷ ss) s = let more = lowered-more ss s in omega arith

pub seen-more : (ss : List ClaimSeat) (s : ClaimSeat) → least_seen (ss ++ s ∷ []) ≡ min (least_seen ss) (number_seen s)
seen-more [] s = omega arith
seen-more (x ∷ ss) s = let more = seen-more ss s in omega arith

pub lowered-small : (ss : List ClaimSeat) → least_lowered ss ≤ no_number
lowered-small [] = omega arith
lowered-small (x ∷ ss) = let more = lowered-small ss in omega arith

pub counts_more : (ss : List ClaimSeat) (v : BoardView) (s : ClaimSeat) (u : BoardView) → Counts ss v → s.seat.me.0.hand ≡ hand s.end 1 (if s.at_end then 1 else 0) s.taken.items → u ≡ view_of_both v s.seat.me.0 → Counts (ss ++ s ∷ []) u
counts_more ss v s u c is new =
    let its : u.hand ≡ joint_hand v.hand (hand s.end 1 (if s.at_end then 1 else 0) s.taken.items) = ap (λ (x : BoardView). x.hand) new ∙ ap (joint_hand v.hand) is in
    let len = length-append ss (s ∷ []) in
    let at_end = claim_seats_at_end-more ss s in
    let a = c.seats in
    let b = c.at_end in
    let n : u.hand.seats ≡ v.hand.seats + 1 = ap (λ x. x.seats) its in
    let t : u.hand.at_end ≡ v.hand.at_end + (if s.at_end then 1 else 0) = ap (λ x. x.at_end) its in
    record {
      seats = omega arith;
      at_end = omega arith;
      drawn = ap (λ x. x.drawn) its ∙ ap (λ ys. ys ++ s.taken.items) c.drawn ∙ sym (claim_numbers-more ss s);
      lowered = ap (λ (x : BoardView). x.low.lowered) new ∙ ap (λ n. min n (number_lowered s)) c.lowered ∙ sym (lowered-more ss s);
      seen = ap (λ (x : BoardView). x.low.seen) new ∙ ap (λ n. min n (number_seen s)) c.seen ∙ sym (seen-more ss s);
    }

-- what a view knows, for seats that are all that it counts
pub whole_as : (n : ℕ) (ss all : List ClaimSeat) (v : BoardView) → Counts ss v → ss ≡ all → IsHandOut n v.hand.at_end v.hand.drawn → IsHandOut n (claim_seats_at_end all) (claim_numbers all)
whole_as n ss all v c same w = subst (λ (ts : List ClaimSeat). IsHandOut n (claim_seats_at_end ts) (claim_numbers ts)) same
    (subst (λ t. IsHandOut n t (claim_numbers ss)) c.at_end (subst (λ (xs : List ℕ). IsHandOut n v.hand.at_end xs) c.drawn w))
