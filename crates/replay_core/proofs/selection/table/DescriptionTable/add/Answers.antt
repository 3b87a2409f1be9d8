use Rattle.std.proofs.Common.{rules}
use Rattle.replay_core.specs.Steps.Described.{IsOfKind}
use Rattle.replay_core.proofs.DescribedLemmas.{kinds_more, of_exact, of_patterns}
use Rattle.replay_core.proofs.selection.table.DescriptionTable.add.Goals.{then-is_exact}
use Rattle.replay_core.proofs.selection.table.DescriptionTable.add.Goals.{else-is_exact}
use Rattle.replay_core.proofs.selection.table.DescriptionTable.add.Goals as goal

pub returns-clause-kinds : goal.returns-clause-kinds
returns-clause-kinds c = λ have.
    let key = c.args.self.now.hash_key in
    let (kind, at, same) = c.in_ok-kind.ensures.kind in
    let of : IsOfKind key kind c.if-is_exact.hash c.args.description.now = elim c.if-is_exact.branch [
      | then-is_exact w ↦ of_exact key kind c.if-is_exact.own c.if-is_exact.hash c.args.description same w.own-is (search rules) (search rules)
      | else-is_exact w ↦ of_patterns key kind c.if-is_exact.own c.if-is_exact.hash c.args.description.now same w.own-is w.hash-is
    ] in
    kinds_more key c.args.self.now.kinds.items c.kind_of.new.kinds.items c.args.self.now.described.items c.push.new.self.items _ c.in_ok-kind.ensures.grows have (kind, at, of) c.in_ok-push.ensures.items
