use Rattle.std.proofs.Common.{◌≡◌, ◌+◌, ◌∙◌, ◌<◌, ◌≤◌, [], Some, ap, sym, arith, refl, map, length}
use Rattle.std.proofs.Common.{take, drop, get_or, ⊎_elim, inl, inr}
use Rattle.std.proofs.lemmas.List.{length-map, take_at, take_all, get_or_default}
use Rattle.std.proofs.lemmas.Result.{err_from_is_err_and}
use Rattle.shard_queue.specs.Groupings.{list_of}
use Rattle.shard_queue.specs.Faults.{all_of}
use Rattle.shard_queue.specs.Steps.Faults.{first_unfound}
use Rattle.shard_queue.proofs.Wrongs.{right_list, wrong_list, right_all, unfound_is, all_numbered}
use Rattle.shard_queue.proofs.Wrongs.{thread_fault-wrong, thread_fault-right}
use Rattle.shard_queue.proofs.listing.list_numbers.Goals as goal

pub loop-list-init : goal.loop-list-init
loop-list-init c = record { numbers = c.in_ok-found.ensures; right = refl }

pub loop-list-preserved : goal.loop-list-preserved
loop-list-preserved c =
    let i = c.loop-list.invariant in
    let threads = c.args.threads.now in
    let lists = map (λ v. v.items) c.args.lists.now in
    let k = c.loop-list.list in
    let these = get_or lists k [] in
    let step = c.in_ok-note_list.ensures in
    let new = c.note_list.new.found in
    let before = ap length i.numbers in
    let after = ap length step.noted in
    let a = length-map threads (list_of (take k lists)) in
    let b = length-map threads (list_of (take (k + 1) lists)) in
    let size = c.loop-list.found.ok.0 in
    let same : length new ≡ c.loop-list.found.len = omega arith in
    let lt : k < length lists = let n = length-map c.args.lists.now (λ v. v.items) in let m = c.loop-list-test.true in omega arith in record {
      numbers = take_at new _ c.loop-list.found.len same ∙ step.noted;
      right = right_list threads lists k these lt (get_or_default lists k these [] lt) (step.right (all_of (drop (k + 1) lists))) i.right;
    }

pub returns-in_err-note_list-clause-fault : goal.returns-in_err-note_list-clause-fault
returns-in_err-note_list-clause-fault c =
    let i = c.loop-list.invariant in
    let threads = c.args.threads.now in
    let lists = map (λ v. v.items) c.args.lists.now in
    let k = c.loop-list.list in
    let these = get_or lists k [] in
    let e = c.in_err-note_list.field-0.0 in
    let lt : k < length lists = let n = length-map c.args.lists.now (λ v. v.items) in let m = c.loop-list-test.true in omega arith in
    let p = err_from_is_err_and c.from_residual-in_err-note_list.result c.from_residual-in_err-note_list.ensures.1 in
    rw (p.1, p.2) (inr (thread_fault-wrong threads lists e
    (wrong_list threads lists k these e lt (get_or_default lists k these [] lt) (c.in_err-note_list.ensures.right (all_of (drop (k + 1) lists))) i.right)))

pub returns-clause-right : goal.returns-clause-right
returns-clause-right c =
    let lists = map (λ v. v.items) c.args.lists.now in
    right_all c.args.threads.now lists c.loop-list.list (let n = length-map c.args.lists.now (λ v. v.items) in let m = c.loop-list-test.false in omega arith) c.loop-list.invariant.right

pub returns-clause-numbers : goal.returns-clause-numbers
returns-clause-numbers c =
    let threads = c.args.threads.now in
    let lists = map (λ v. v.items) c.args.lists.now in
    c.in_ok-numbers.ensures.all ∙ c.deref.ensures.value ∙ c.loop-list.invariant.numbers
    ∙ ap (λ l. map (list_of l) threads) (take_all c.loop-list.list lists (let n = length-map c.args.lists.now (λ v. v.items) in let m = c.loop-list-test.false in omega arith))

pub returns-clause-whole : goal.returns-clause-whole
returns-clause-whole c =
    let threads = c.args.threads.now in
    let lists = map (λ v. v.items) c.args.lists.now in
    sym (unfound_is lists threads) ∙ ap (first_unfound threads) (sym (returns-clause-numbers c)) ∙ all_numbered threads c.in_ok-numbers.numbers.items

pub returns-in_err-numbers-clause-fault : goal.returns-in_err-numbers-clause-fault
returns-in_err-numbers-clause-fault c =
    let threads = c.args.threads.now in
    let lists = map (λ v. v.items) c.args.lists.now in
    let ended : length lists ≤ c.loop-list.list = let n = length-map c.args.lists.now (λ v. v.items) in let m = c.loop-list-test.false in omega arith in
    let numbers = c.deref.ensures.value ∙ c.loop-list.invariant.numbers ∙ ap (λ l. map (list_of l) threads) (take_all c.loop-list.list lists ended) in
    let right = right_all threads lists c.loop-list.list ended c.loop-list.invariant.right in
    let p = err_from_is_err_and c.from_residual-in_err-numbers.result c.from_residual-in_err-numbers.ensures.1 in
    rw (p.1, p.2) (⊎_elim (λ memory. inl memory)
    (λ missing. inr (thread_fault-right threads lists (Some c.in_err-numbers.field-0.0) right (sym (unfound_is lists threads) ∙ ap (first_unfound threads) (sym numbers) ∙ missing)))
    c.in_err-numbers.ensures.missing)
