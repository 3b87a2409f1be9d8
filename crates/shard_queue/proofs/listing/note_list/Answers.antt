use Rattle.std.proofs.Common.{◌≡◌, ◌∙◌, ◌∷◌, ◌++◌, [], Some, None, ap, sym, arith, rules, map, take}
use Rattle.std.proofs.Common.{set, length, get_or, append-nil}
use Rattle.std.specs.Prelude.{slice_index_or, pos}
use Rattle.std.proofs.lemmas.Int.{to_z-of_z}
use Rattle.std.proofs.lemmas.List.{get_or_default, take_all, length-take-le, length-map}
use Rattle.std.proofs.lemmas.Result.{err_from_is_err_and}
use mir.Val.{SFits}
use mir.Syntax.{w32}
use Rattle.shard_queue.specs.Groupings.{list_of}
use Rattle.shard_queue.specs.Faults.{all_of, first_wrong}
use Rattle.shard_queue.proofs.Lists.{take_next}
use Rattle.shard_queue.proofs.Indices.{mapped_at}
use Rattle.shard_queue.proofs.Sought.{has_at, map_same}
use Rattle.shard_queue.proofs.Listed.{list_of-empty, noted, number_at}
use Rattle.shard_queue.proofs.Wrongs.{right_next, right_ended, wrong_at}
use Rattle.shard_queue.proofs.listing.note_list.Goals as goal

pub loop-thread-init : goal.loop-thread-init
loop-thread-init c =
    let before = take c.args.list (map (λ v. v.items) c.args.lists.now) in record {
      numbers = c.requires.before ∙ map_same (list_of before) (list_of (before ++ [] ∷ [])) c.args.threads.now (λ k t at. sym (list_of-empty before t));
      right = λ rest. ap (λ b. first_wrong c.args.threads.now b (c.as_slice-listed.result.now ++ rest)) (sym (append-nil (all_of before)));
    }

pub loop-thread-preserved : goal.loop-thread-preserved
loop-thread-preserved c =
    let i = c.loop-thread.invariant in
    let lists = map (λ v. v.items) c.args.lists.now in
    let before = take c.args.list lists in
    let these = c.as_slice-listed.result.now in
    let k = c.loop-thread.thread-index in
    let t = slice_index_or these k (pos 0) in
    let fits : SFits w32 t = search rules in
    let step = simp to_z-of_z at c.in_ok-note.ensures.noted in
    let item : get_or these k t ≡ t = get_or_default these k t (pos 0) c.loop-thread-test.true in
    let len : c.args.list ≡ length before = let few = c.requires.few.0 in let n = length-map c.args.lists.now (λ v. v.items) in sym (length-take-le c.args.list lists (omega arith)) in
    let none = number_at c.args.threads.now before (take k these) step.0 t c.loop-thread.found None i.numbers step.1 step.2 in record {
      numbers = noted c.args.threads.now before (take k these) step.0 t c.loop-thread.found c.note.new.found c.requires.ascending i.numbers step.1 step.2
          (step.3 ∙ ap (λ n. set c.loop-thread.found step.0 (Some n)) len)
          ∙ ap (λ p. map (list_of (before ++ p ∷ [])) c.args.threads.now) (sym (take_next these k t c.loop-thread-test.true item));
      right = right_next c.args.threads.now before these k t c.loop-thread-test.true item (has_at c.args.threads.now step.0 t step.1) none i.right;
    }

pub returns-in_err-note-clause-right : goal.returns-in_err-note-clause-right
returns-in_err-note-clause-right c =
    let i = c.loop-thread.invariant in
    let lists = map (λ v. v.items) c.args.lists.now in
    let these = c.as_slice-listed.result.now in
    let k = c.loop-thread.thread-index in
    let t = slice_index_or these k (pos 0) in
    let fits : SFits w32 t = search rules in
    let wrong = simp to_z-of_z at c.in_err-note.ensures.wrong in
    let item : get_or these k t ≡ t = get_or_default these k t (pos 0) c.loop-thread-test.true in
    let same : get_or lists c.args.list [] ≡ these = mapped_at c.args.lists.now c.args.list c.index-lists-list.result c.requires.few.0 (sym c.index-lists-list.is) ∙ sym c.as_slice-listed.ensures.value in
    λ rest. let p = err_from_is_err_and c.from_residual.result c.from_residual.ensures.1 in
    rw (p.1, p.2) (wrong_at c.args.threads.now (take c.args.list lists) these (get_or lists c.args.list []) k t c.loop-thread.found c.in_err-note.field-0.0 c.loop-thread-test.true item i.numbers wrong same i.right rest)

pub returns-clause-noted : goal.returns-clause-noted
returns-clause-noted c =
    let i = c.loop-thread.invariant in
    let lists = map (λ v. v.items) c.args.lists.now in
    let before = take c.args.list lists in
    let these = c.as_slice-listed.result.now in
    let same : get_or lists c.args.list [] ≡ these = mapped_at c.args.lists.now c.args.list c.index-lists-list.result c.requires.few.0 (sym c.index-lists-list.is) ∙ sym c.as_slice-listed.ensures.value in
    let n = length-map c.args.lists.now (λ v. v.items) in
    i.numbers ∙ ap (λ p. map (list_of (before ++ p ∷ [])) c.args.threads.now) (take_all c.loop-thread.thread-index these c.loop-thread-test.false)
    ∙ ap (λ l. map (list_of l) c.args.threads.now) (sym (take_next lists c.args.list these (let few = c.requires.few.0 in omega arith)
    (get_or_default lists c.args.list these [] (let few = c.requires.few.0 in omega arith) ∙ same)))

pub returns-clause-right : goal.returns-clause-right
returns-clause-right c =
    let lists = map (λ v. v.items) c.args.lists.now in
    let these = c.as_slice-listed.result.now in
    let same : get_or lists c.args.list [] ≡ these = mapped_at c.args.lists.now c.args.list c.index-lists-list.result c.requires.few.0 (sym c.index-lists-list.is) ∙ sym c.as_slice-listed.ensures.value in
    right_ended c.args.threads.now (take c.args.list lists) these (get_or lists c.args.list []) c.loop-thread.thread-index c.loop-thread-test.false same c.loop-thread.invariant.right
