use Rattle.std.proofs.Common.{◌≤◌, sym, ap, ◌∙◌, arith, subst}
use Rattle.shard_queue.proofs.Lists.{all_push}
use Rattle.replay_core.specs.Vocabulary.{with_ends, grouping}
use Rattle.replay_core.specs.Beginnings.{AreBegun, IsBegunOf, least_exit, lesser_of}
use Rattle.replay_core.specs.Seen.{IsRoomy}
use Rattle.replay_core.proofs.WorkSteps.{groups_more}
use Rattle.replay_core.proofs.BeginLemmas.{seen_less, least_more}
use Rattle.replay_core.proofs.workers.until.watch_on.Goals as goal

pub loop-preserved : goal.loop-preserved
loop-preserved g c =
    let i = c.loop.invariant in
    let t = c.args.input.now.trace.now in
    let groups = grouping c.args.input.now.groups.now in
    let taken = c.in-Some-take.ensures in
    let made = c.in-Ok.ensures in
    let added = made.added in
    let pushed = added.pushed in
    let now = g.S.Source.seen c.push_beginning.new.seat in
    let less : now ≤ g.S.Source.seen c.loop.seat = let a = made.seat.2 in let b = taken.least.1 in omega arith in
    record {
      at = made.seat.0;
      groups = groups_more _ _ _ _ _ pushed i.groups (ap (λ h. h.numbers) made.seat.1 ∙ taken.next.some.2);
      pieces = record {
        each = λ m runs. all_push (IsBegunOf m now groups (with_ends t t)) _ _ _
            (λ k d lt. seen_less m (g.S.Source.seen c.loop.seat) now _ _ less (i.pieces.each m runs k d lt)) (added.is.0 m runs) pushed;
        roomy = all_push (λ p. IsRoomy p.1) _ _ _ i.pieces.roomy added.is.1 pushed;
      };
      least = added.is.2 ∙ ap (λ n. lesser_of n added.piece.exit) (taken.least.0 ∙ i.least) ∙ sym (ap least_exit pushed ∙ least_more c.loop.pieces.items (c.in-Some-take.group, added.piece));
    }

pub returns-in_default : goal.returns-in_default
returns-in_default g c =
    let i = c.loop.invariant in
    let w = c.args.input.now in
    let taken = c.in_default.ensures in
    record {
      at = taken.seat;
      at_end = taken.next.none.0;
      order = i.groups ∙ sym taken.next.none.1;
      gives = (
        subst (λ n. AreBegun (g.L.Lanes.runs w.lanes.now) n (grouping w.groups.now) (with_ends w.trace.now w.trace.now) c.loop.pieces.items) (sym taken.least.1) i.pieces,
        taken.least.0 ∙ i.least,
      );
    }
