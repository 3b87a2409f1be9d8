use Rattle.std.proofs.Common.{◌≡◌, ◌≤◌, length, sum_by, subst, sym}
use Rattle.std.proofs.lemmas.Result.{IfOk-weaker}
use Rattle.replay_core.specs.Vocabulary.{AllZip, meant_of}
use Rattle.replay_core.proofs.TreeLemmas.{few_probes, trees_mean}
use Rattle.replay_core.proofs.lanes.tree.TreeLanesLanes.selections.Goals as goal

pub select-requires : goal.select-requires
select-requires c =
    let s = c.args.self.now.script.now in
    subst (λ l. sum_by (λ x. length x.descriptions.items) l ≤ 65536) (sym c.clauses.ensures) (few_probes s.clauses.items s.aggregations.items s.slots.items s.typed)

pub returns : goal.returns
returns c =
    let s = c.args.self.now.script.now in
    IfOk-weaker c.select.result _ _ (λ chosen are. record {
      few = are.few;
      each = λ m same. are.each m
          (subst (λ l. AllZip (λ x meant. meant ≡ meant_of x) l m.clauses) (sym c.clauses.ensures)
          (subst (λ m. AllZip (λ x meant. meant ≡ meant_of x) s.clauses.items m.clauses) (sym same) (trees_mean s.clauses.items)));
    }) c.select.ensures
