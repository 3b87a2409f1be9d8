use Rattle.std.proofs.Common.{rules}
use Rattle.replay_core.specs.Steps.Described.{given_of}
use Rattle.replay_core.proofs.DescribedLemmas.{given_more}
use Rattle.replay_core.proofs.selection.table.DescriptionTable.new.Goals as goal

pub loop-clause-preserved : goal.loop-clause-preserved
loop-clause-preserved c = record {
  given = given_more (λ d. d.now) c.args.descriptions.now c.loop-clause.clause c.index-descriptions-clause.result (given_of c.loop-clause.table.described.items) (given_of c.add_all.new.self.described.items) _
      (search rules) (search rules) c.in_ok-add_all.ensures.given c.loop-clause.invariant.given;
  kinds = c.in_ok-add_all.ensures.kinds c.loop-clause.invariant.kinds;
}
