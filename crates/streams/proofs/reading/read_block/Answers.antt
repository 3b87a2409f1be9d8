use Rattle.std.proofs.Common.{arith, inr}
use Rattle.std.proofs.lemmas.Result.{err_from_is_err_and}
use Rattle.streams.proofs.Readings.{later}
use Rattle.streams.proofs.reading.read_block.Goals as goal

pub returns-in_err-take_next-clause-turn : goal.returns-in_err-take_next-clause-turn
returns-in_err-take_next-clause-turn g c =
    let i = c.loop-reading.invariant in
    let p = err_from_is_err_and c.from_residual.result c.from_residual.ensures.1 in
    rw (p.1, p.2) (later _ _ _ _ _ _ _ _ _ _ i.fewer i.counted i.added c.in_err-take_next.ensures)

pub returns-then-branch-clause-turn : goal.returns-then-branch-clause-turn
returns-then-branch-clause-turn g c =
    let i = c.loop-reading.invariant in
    later _ _ _ _ _ _ _ _ _ _ i.fewer i.counted i.added (rw c.if-branch.true at c.in_ok-take_next.ensures)

pub returns-then-ends_line-clause-turn : goal.returns-then-ends_line-clause-turn
returns-then-ends_line-clause-turn g c =
    let i = c.loop-reading.invariant in
    later _ _ _ _ _ _ _ _ _ _ i.fewer i.counted i.added (rw c.if-branch.false at c.in_ok-take_next.ensures)

pub loop-reading-preserved : goal.loop-reading-preserved
loop-reading-preserved g c =
    let i = c.loop-reading.invariant in
    let turn = rw c.if-branch.false at c.in_ok-take_next.ensures in
    let whole = later _ (g.F.Feed.seen c.args.feed.now) (g.F.Feed.seen c.loop-reading.feed) _ _ _ _ c.args.block.now.items _ _ i.fewer i.counted i.added turn in
    record {
      going = turn.given.0;
      counted = whole.counted;
      fewer = omega (arith, turn.given.1, i.fewer);
      added = (whole.bytes, whole.gave, whole.taken);
    }

pub returns-clause-turn : goal.returns-clause-turn
returns-clause-turn g c =
    let i = c.loop-reading.invariant in
    let (bytes, gave, is) = i.added in
    record {
      counted = i.counted;
      given = tt;
      failed = λ e. inr (i.going.goes_on (omega arith), omega arith);
      memory = λ e. cc;
      bytes = bytes;
      gave = gave;
      taken = tt;
    }
