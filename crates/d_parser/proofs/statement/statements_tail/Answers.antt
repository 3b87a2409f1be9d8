use Rattle.std.proofs.Common.{sym, ◌∙◌}
use Rattle.d_parser.specs.Tree.{stmts_of}
use Rattle.d_parser.proofs.Steps.{stmts_goes}
use Rattle.d_parser.proofs.statement.statements_tail.Goals as goal

pub loop-preserved : goal.loop-preserved
loop-preserved c =
    sym (stmts_goes c.args.fuel c.args.fuel c.loop.counter (stmts_of c.loop.all.items) c.loop.rest.now c.in_ok-first.first.now (stmts_of c.in_ok-longer.longer.items, c.in_ok-longer.later.now) c.loop-test.true (sym c.is_at.ensures ∙ c.if-is_at.false) c.in_ok-first.ensures c.in_ok-longer.ensures)
    ∙ c.loop.invariant
