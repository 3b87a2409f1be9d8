-- What is known of lists of a queue's seats.
use Rattle.std.proofs.Common.{◌≡◌, ℕ, ◌+◌, ◌-◌, ◌<◌, List, [], ◌∷◌, ◌++◌, length, refl, sym, ap}
use Rattle.std.proofs.Common.{◌∙◌, subst, arith, append_assoc, append-nil, if◌then◌else◌}
use Rattle.std.proofs.Common.{length-append, Option, None, Some, IfSome}
use Rattle.crossbeam_queue.specs.Passes.{IsPassOf, Pass, view}
use Rattle.shard_queue.specs.declared.knowledge.QueueView.{QueueView}
use Rattle.shard_queue.specs.declared.queue.GroupQueue.{GroupQueue}
use Rattle.shard_queue.specs.declared.queue_seat.QueueSeat.{QueueSeat}
use Rattle.shard_queue.specs.Hands.{hand, IsHandOut}
use Rattle.shard_queue.specs.QueueRule.{among, joint}
use Rattle.shard_queue.specs.Queues.{IsIn, queue_numbers, queue_seats_at_end}

-- the pass is of the queue, counts these seats and knows what they know
pub record Sums (queue : GroupQueue) (ss : List QueueSeat) (p : Pass ℕ QueueView) : Type 0 where
  pub pass : IsPassOf queue.queue p
  pub view : view p ≡ among queue.workers
      (hand (queue.end + queue.workers) (length ss) (queue_seats_at_end ss) (queue_numbers ss))

-- the same, where there are seats
abbrev pub SumsIf : GroupQueue → List QueueSeat → Option (Pass ℕ QueueView) → Type 0
SumsIf queue ss None = ss ≡ []
SumsIf queue ss (Some p) = Sums queue ss p

pub queue_numbers_more : (ss : List QueueSeat) (s : QueueSeat) → queue_numbers (ss ++ s ∷ []) ≡ queue_numbers ss ++ s.taken.items
queue_numbers_more [] s = append-nil s.taken.items
queue_numbers_more (x ∷ ss) s = ap (λ ys. x.taken.items ++ ys) (queue_numbers_more ss s) ∙ sym (append_assoc x.taken.items (queue_numbers ss) s.taken.items)

pub queue_seats_at_end_more : (ss : List QueueSeat) (s : QueueSeat) → queue_seats_at_end (ss ++ s ∷ []) ≡ queue_seats_at_end ss + (if s.at_end then 1 else 0)
queue_seats_at_end_more [] s = omega arith
queue_seats_at_end_more (x ∷ ss) s = let more = queue_seats_at_end_more ss s in omega arith

-- a seat of the queue knows what it took
seat_view : (queue : GroupQueue) (s : QueueSeat) → IsIn queue s → view s.pass ≡ among queue.workers (hand (queue.end + queue.workers) 1 (if s.at_end then 1 else 0) s.taken.items)
seat_view queue s at = s.knows ∙ ap (λ w. among w (hand (s.end + w) 1 (if s.at_end then 1 else 0) s.taken.items)) at.2 ∙ ap (λ n. among queue.workers (hand (n + queue.workers) 1 (if s.at_end then 1 else 0) s.taken.items)) at.1

sums_one : (queue : GroupQueue) (s : QueueSeat) (p : Pass ℕ QueueView) → IsIn queue s → IsPassOf queue.queue p → view p ≡ view s.pass → Sums queue (s ∷ []) p
sums_one queue s p at of same = record {
  pass = of;
  view = same ∙ seat_view queue s at ∙ ap (λ xs. among queue.workers (hand (queue.end + queue.workers) 1 (if s.at_end then 1 else 0) xs)) (sym (append-nil s.taken.items))
      ∙ ap (λ t. among queue.workers (hand (queue.end + queue.workers) 1 t (queue_numbers (s ∷ [])))) (let none : (if s.at_end then 1 else 0) ≡ queue_seats_at_end (s ∷ []) = omega arith in none);
}

sums_joint : (queue : GroupQueue) (ss : List QueueSeat) (s : QueueSeat) (p q : Pass ℕ QueueView) → IsIn queue s → Sums queue ss p → IsPassOf queue.queue q → view q ≡ joint (view p) (view s.pass) → Sums queue (ss ++ s ∷ []) q
sums_joint queue ss s p q at sums of both =
    let n = queue.end + queue.workers in
    let one = among queue.workers (hand n 1 (if s.at_end then 1 else 0) s.taken.items) in
    let len : length ss + 1 ≡ length (ss ++ s ∷ []) = sym (length-append ss (s ∷ [])) in
    record {
      pass = of;
      view = both ∙ ap (λ v. joint v (view s.pass)) sums.view ∙ ap (λ v. joint (among queue.workers (hand n (length ss) (queue_seats_at_end ss) (queue_numbers ss))) v) (seat_view queue s at)
          ∙ ap (λ k. among queue.workers (hand n k (queue_seats_at_end ss + (if s.at_end then 1 else 0)) (queue_numbers ss ++ s.taken.items))) len
          ∙ ap (λ t. among queue.workers (hand n (length (ss ++ s ∷ [])) t (queue_numbers ss ++ s.taken.items))) (sym (queue_seats_at_end_more ss s))
          ∙ ap (λ xs. among queue.workers (hand n (length (ss ++ s ∷ [])) (queue_seats_at_end (ss ++ s ∷ [])) xs)) (sym (queue_numbers_more ss s));
    }

-- one seat more is gathered
pub sums_more : (queue : GroupQueue) (ss : List QueueSeat) (s : QueueSeat) (all : Option (Pass ℕ QueueView)) (q : Pass ℕ QueueView) → IsIn queue s → SumsIf queue ss all → IsPassOf queue.queue q
    → (all ≡ None → view q ≡ view s.pass) → IfSome all (λ p. view q ≡ joint (view p) (view s.pass)) → SumsIf queue (ss ++ s ∷ []) (Some q)
sums_more queue ss s None q at none of one both = subst (λ (ts : List QueueSeat). Sums queue (ts ++ s ∷ []) q) (sym none) (sums_one queue s q at of (one refl))
sums_more queue ss s (Some p) q at sums of one both = sums_joint queue ss s p q at sums of both

-- where every seat was gathered, all that was taken is known
pub sums_whole : (queue : GroupQueue) (ss : List QueueSeat) (p : Pass ℕ QueueView) → Sums queue ss p → length ss ≡ queue.workers → 0 < queue.workers
    → ((view p).hand.seats ≡ (view p).seats → 0 < (view p).hand.seats → IsHandOut ((view p).hand.end - (view p).seats) (view p).hand.at_end (view p).hand.drawn) → IsHandOut queue.end (queue_seats_at_end ss) (queue_numbers ss)
sums_whole queue ss p sums every pos total =
    let is = sums.view in
    let seats : (view p).hand.seats ≡ length ss = ap (λ (v : QueueView). v.hand.seats) is in
    let all : (view p).seats ≡ queue.workers = ap (λ (v : QueueView). v.seats) is in
    let w = subst (λ (v : QueueView). IsHandOut (v.hand.end - v.seats) v.hand.at_end v.hand.drawn) is (total (seats ∙ every ∙ sym all) (subst (λ k. 0 < k) (sym (seats ∙ every)) pos)) in
    subst (λ k. IsHandOut k (queue_seats_at_end ss) (queue_numbers ss)) (let back : queue.end + queue.workers - queue.workers ≡ queue.end = omega arith in back) w
