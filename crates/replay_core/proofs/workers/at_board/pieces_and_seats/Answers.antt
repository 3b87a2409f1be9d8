use Rattle.std.proofs.Common.{rules, arith, ap, sym, ◌++◌, ◌∷◌, [], ◌∙◌, append_assoc}
use Rattle.replay_core.proofs.Parts.{none_finished, one_finished}
use Rattle.replay_core.proofs.workers.at_board.pieces_and_seats.Goals as goal

pub loop-worked-init : goal.loop-worked-init
loop-worked-init c = record { len = search rules; finished = ([], search rules, none_finished _ _ (search rules) (search rules)) }

pub loop-worked-preserved : goal.loop-worked-preserved
loop-worked-preserved c =
    let i = c.loop-worked.invariant in
    let (before, all, finished) = i.finished in
    let steps = c.in-Some.ensures.steps in
    let one = c.in_ok-add_worked.ensures in
    let added = one.added in
    record {
      len = let a = one.len in let b = steps.1 in let m = i.len in omega arith;
      finished = (
        before ++ c.in-Some.worked ∷ [],
        all ∙ ap (λ l. before ++ l) steps.0 ∙ sym (append_assoc before (c.in-Some.worked ∷ []) _),
        one_finished before c.in-Some.worked _ _ _ _ added.part.0 added.part.1 finished added.came added.added added.seated,
      );
    }
