use Rattle.std.proofs.Common.{List, ap, arith, sym, ◌∙◌, subst, ◌≡◌, ◌++◌, ◌∷◌, [], length}
use Rattle.std.proofs.Common.{append-nil, append_assoc, length-append}
use Rattle.std.proofs.lemmas.List.{map-append, nil_from_length}
use Rattle.shard_queue.specs.Hands.{IsHandOut}
use Rattle.shard_queue.specs.Queues.{IsIn, queue_seats_at_end, queue_numbers}
use Rattle.shard_queue.specs.declared.queue_seat.QueueSeat.{QueueSeat}
use Rattle.shard_queue.proofs.QueueSteps.{whole}
use Rattle.shard_queue.proofs.Lists.{all_head, all_tail}
use Rattle.shard_queue.proofs.QueueSeats.{SumsIf, sums_more, sums_whole}
use Rattle.shard_queue.proofs.queue.GroupQueue.close.Goals as goal
use Rattle.shard_queue.proofs.queue.GroupQueue.close.Goals.{in-Some-all, in_default}

pub loop-place-preserved : goal.loop-place-preserved
loop-place-preserved c =
    let i = c.loop-place.invariant in
    let g = c.join.ensures in record {
      sums = sums_more c.args.self c.loop-place.yielded c.in-Some.place c.loop-place.all c.join.result (all_head (IsIn c.args.self) _ _ _ i.each c.in-Some.ensures.steps.0) i.sums g.pass g.one g.both;
      lists = c.push_reserved.ensures.items ∙ ap (λ xs. xs ++ c.in-Some.place.taken ∷ []) i.lists ∙ sym (map-append (λ s. s.taken) c.loop-place.yielded (c.in-Some.place ∷ []));
      len = let l = c.push_reserved.ensures.len in let n = length-append c.loop-place.yielded (c.in-Some.place ∷ []) in let m = i.len in omega arith;
      room = let l = c.push_reserved.ensures.capacity in let m = i.room in omega arith;
      each = all_tail (IsIn c.args.self) _ _ _ i.each c.in-Some.ensures.steps.0;
      parts = append_assoc c.loop-place.yielded (c.in-Some.place ∷ []) c.next.new.self.rest.items ∙ ap (λ xs. c.loop-place.yielded ++ xs) (sym c.in-Some.ensures.steps.0) ∙ i.parts;
    }

pub learn_as-requires-clause-rule : goal.learn_as-requires-clause-rule
learn_as-requires-clause-rule c = whole _ _

pub returns-clause-whole : goal.returns-clause-whole
returns-clause-whole c =
    let i = c.loop-place.invariant in
    let rest = c.loop-place.place-iterator.rest in
    let none = c.in-None.ensures.steps.0 in
    let same : c.loop-place.yielded ≡ c.args.seats.items = sym (append-nil c.loop-place.yielded) ∙ ap (λ xs. c.loop-place.yielded ++ xs) (sym (nil_from_length rest.items (sym rest.ok.0 ∙ none))) ∙ i.parts in
    let every : length c.loop-place.yielded ≡ c.args.self.workers = ap length same ∙ sym c.args.seats.ok.0 ∙ c.requires.every in
    let pos = c.args.self.some_worker in
    elim c.match-all.branch [
      | in-Some-all w ↦ subst (λ (ss : List QueueSeat). IsHandOut c.args.self.end (queue_seats_at_end ss) (queue_numbers ss)) same
          (sums_whole c.args.self c.loop-place.yielded w.in-Some-all.pass (subst (SumsIf c.args.self c.loop-place.yielded) w.in-Some-all.is i.sums) every pos w.learn_as.ensures.rule.1)
      | in_default w ↦ absurd (let none = ap length (subst (SumsIf c.args.self c.loop-place.yielded) w.in_default.is i.sums) in omega arith)
    ]
