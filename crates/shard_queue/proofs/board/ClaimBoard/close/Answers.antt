use Rattle.std.proofs.Common.{rules, ap, arith, sym, ◌∙◌, subst, ◌≡◌, ◌≤◌, ◌++◌, ◌∷◌, [], length}
use Rattle.std.proofs.Common.{append-nil, append_assoc, length-append}
use Rattle.std.proofs.lemmas.List.{map-append, nil_from_length}
use Rattle.shard_queue.specs.Hands.{IsHandOut}
use Rattle.shard_queue.specs.Least.{no_number}
use Rattle.shard_queue.specs.Boards.{IsAt, least_lowered, least_seen}
use Rattle.shard_queue.proofs.BoardSteps.{enters, joins_as, ends_whole, word_at}
use Rattle.shard_queue.proofs.Lists.{all_head, all_tail}
use Rattle.shard_queue.proofs.Seats.{counts_more, lowered-small, whole_as}
use Rattle.shard_queue.proofs.board.ClaimBoard.close.Goals as goal

pub load_new_seat-all-requires : goal.load_new_seat-all-requires
load_new_seat-all-requires c = (search rules, enters _ _ _)

pub join_seat-requires : goal.join_seat-requires
join_seat-requires c = (
  c.loop-place.invariant.at,
  (all_head (IsAt c.args.self) _ _ _ c.loop-place.invariant.each c.in-Some.ensures.steps.0).0,
  c.in-Some.place.empty,
  search rules,
  joins_as _ _ _ _ _ _ _ _ c.in-Some.place.knows,
)

pub loop-place-preserved : goal.loop-place-preserved
loop-place-preserved c =
    let i = c.loop-place.invariant in record {
      at = search rules;
      all = counts_more _ _ _ _ i.all c.in-Some.place.knows (ap (λ m. m.0) c.join_seat.ensures.2);
      lists = c.push_reserved.ensures.items ∙ ap (λ xs. xs ++ c.in-Some.place.taken ∷ []) i.lists ∙ sym (map-append (λ s. s.taken) c.loop-place.yielded (c.in-Some.place ∷ []));
      len = let l = c.push_reserved.ensures.len in let n = length-append c.loop-place.yielded (c.in-Some.place ∷ []) in let m = i.len in omega arith;
      room = let l = c.push_reserved.ensures.capacity in let m = i.room in omega arith;
      each = all_tail (IsAt c.args.self) _ _ _ i.each c.in-Some.ensures.steps.0;
      parts = append_assoc c.loop-place.yielded (c.in-Some.place ∷ []) c.next.new.self.rest.items ∙ ap (λ xs. c.loop-place.yielded ++ xs) (sym c.in-Some.ensures.steps.0) ∙ i.parts;
    }

pub returns-clause-whole : goal.returns-clause-whole
returns-clause-whole c =
    let i = c.loop-place.invariant in
    let rest = c.loop-place.place-iterator.rest in
    let none = c.in-None.ensures.steps.0 in
    let same : c.loop-place.yielded ≡ c.args.seats.items = sym (append-nil c.loop-place.yielded) ∙ ap (λ xs. c.loop-place.yielded ++ xs) (sym (nil_from_length rest.items (sym rest.ok.0 ∙ none))) ∙ i.parts in
    let every : c.loop-place.all.me.0.hand.seats ≡ c.args.self.table.shared.key.1 = i.all.seats ∙ ap length same ∙ sym c.args.seats.ok.0 ∙ c.requires.every ∙ sym (ap (λ p. p.1) c.args.self.key_is) in
    let small : c.loop-place.all.me.0.low.lowered ≤ no_number = subst (λ n. n ≤ no_number) (sym i.all.lowered) (lowered-small c.loop-place.yielded) in
    let end = ends_whole _ _ c.loop-place.all.me.0 _ _ every small c.close_with-closed.ensures.values.2 in
    whole_as _ _ _ _ i.all same (subst (λ n. IsHandOut n c.loop-place.all.me.0.hand.at_end c.loop-place.all.me.0.hand.drawn) (ap (λ p. p.0) c.args.self.key_is) end.0)

pub returns-clause-least : goal.returns-clause-least
returns-clause-least c =
    let i = c.loop-place.invariant in
    let rest = c.loop-place.place-iterator.rest in
    let none = c.in-None.ensures.steps.0 in
    let same : c.loop-place.yielded ≡ c.args.seats.items = sym (append-nil c.loop-place.yielded) ∙ ap (λ xs. c.loop-place.yielded ++ xs) (sym (nil_from_length rest.items (sym rest.ok.0 ∙ none))) ∙ i.parts in
    let every : c.loop-place.all.me.0.hand.seats ≡ c.args.self.table.shared.key.1 = i.all.seats ∙ ap length same ∙ sym c.args.seats.ok.0 ∙ c.requires.every ∙ sym (ap (λ p. p.1) c.args.self.key_is) in
    let small : c.loop-place.all.me.0.low.lowered ≤ no_number = subst (λ n. n ≤ no_number) (sym i.all.lowered) (lowered-small c.loop-place.yielded) in
    let end = ends_whole _ _ c.loop-place.all.me.0 _ _ every small c.close_with-closed.ensures.values.2 in
    let found : c.word-least.result ≡ c.loop-place.all.me.0.low.lowered = sym (word_at _ 1 _ c.word-least.ensures) ∙ end.2 in
    let word = word_at _ 1 _ c.word-least.ensures in
    (found ∙ i.all.lowered ∙ ap least_lowered same, subst (λ n. c.word-least.result ≤ n) (i.all.seen ∙ ap least_seen same) (subst (λ n. n ≤ c.loop-place.all.me.0.low.seen) word end.3))
