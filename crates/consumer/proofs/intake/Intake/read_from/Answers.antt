use Rattle.std.proofs.Common.{◌≡◌, ◌++◌, [], refl, rules, subst, sym}
use Rattle.std.proofs.KnownBytes.{Consumes-all, Consumes-nil, Consumes-trans}
use Rattle.std.proofs.lemmas.Result.{err_from_is_err_and}
use Rattle.streams.proofs.Readings.{none_made, turn_ends, turn_fails, turn_made, turn_spent}
use Rattle.consumer.specs.Steps.Blocks.{HasTaken}
use Rattle.consumer.proofs.Unread.{none_read}
use Rattle.consumer.proofs.intake.Intake.read_from.Goals as goal

pub loop-reading-init : goal.loop-reading-init
loop-reading-init g c =
    let none : c.new-block.result.items ≡ [] = search rules in
    record {
      made = none_made _ _ (search rules) c.requires;
      taken = ([], Consumes-nil _, λ apart had. subst (λ l. HasTaken apart l c.args.begun []) (sym none) had);
    }

pub returns-in_err-reading-clause-reading : goal.returns-in_err-reading-clause-reading
returns-in_err-reading-clause-reading g c =
    let p = err_from_is_err_and c.from_residual.result c.from_residual.ensures.1 in
    rw (p.1, p.2) (none_read _ c.requires)

pub returns-in_err-take_from-clause-reading : goal.returns-in_err-take_from-clause-reading
returns-in_err-take_from-clause-reading g c =
    let p = err_from_is_err_and c.from_residual-in_err-take_from.result c.from_residual-in_err-take_from.ensures.1 in
    rw (p.1, p.2) (turn_fails _ _ _ _ _ _ c.loop-reading.invariant.made _ c.in_err-take_from.ensures)

pub returns-in-Ok-clause-bytes : goal.returns-in-Ok-clause-bytes
returns-in-Ok-clause-bytes g c =
    let (bytes, given, had) = c.loop-reading.invariant.taken in
    let turn = rw c.if-branch.true at c.in_ok-take_from.ensures in
    let all = bytes ++ turn.bytes in
    record {
      input = all;
      read = Consumes-all _ _ all [] all (Consumes-trans _ _ _ _ _ given turn.gave) turn.given.nothing_left refl;
      holds = λ apart begun. c.in-Ok.ensures apart all (rw c.deref.ensures.value (turn.taken apart bytes (had apart begun)));
    }

pub returns-in-Ok-clause-reading : goal.returns-in-Ok-clause-reading
returns-in-Ok-clause-reading g c = turn_ends _ _ _ _ _ _ c.loop-reading.invariant.made _ (rw c.if-branch.true at c.in_ok-take_from.ensures)

pub returns-in-Err-clause-reading : goal.returns-in-Err-clause-reading
returns-in-Err-clause-reading g c = turn_spent _ _ _ _ _ _ c.loop-reading.invariant.made (rw c.if-branch.true at c.in_ok-take_from.ensures)

pub loop-reading-preserved : goal.loop-reading-preserved
loop-reading-preserved g c =
    let (bytes, given, had) = c.loop-reading.invariant.taken in
    let turn = rw c.if-branch.false at c.in_ok-take_from.ensures in
    record {
      made = turn_made _ _ _ _ _ _ c.loop-reading.invariant.made turn;
      taken = (_, Consumes-trans _ _ _ _ _ given turn.gave, λ apart begun. turn.taken apart bytes (had apart begun));
    }
