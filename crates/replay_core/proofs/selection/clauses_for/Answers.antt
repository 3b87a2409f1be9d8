use Rattle.std.proofs.Common.{length, map, sum_by, arith, ap, ◌∙◌}
use Rattle.std.proofs.lemmas.Result.{IfOk-weaker}
use Rattle.replay_core.specs.Vocabulary.{slots_of}
use Rattle.replay_core.specs.Patterns.{probe_of}
use Rattle.replay_core.specs.Indices.{indices_for}
use Rattle.replay_core.proofs.FiringLemmas.{indices_few}
use Rattle.replay_core.proofs.selection.clauses_for.Goals as goal

pub returns-clause-indices : goal.returns-clause-indices
returns-clause-indices g c =
    let all = c.in_ok-descriptions.ensures in
    let ds = map (λ d. d.now) c.deref.result.now in
    let are = ap (map (λ d. d.now)) c.deref.ensures.value in
    let f = c.args.firing.now in
    IfOk-weaker c.of.result _ _ (λ indices is m zip.
    is ∙ c.deref-2.ensures.value ∙ c.in_ok-indices.ensures ds c.in_ok-table.ensures
    ∙ ap (λ p. indices_for p 0 ds) c.probe_of.ensures
    ∙ ap (λ l. indices_for (probe_of f) 0 l) (are ∙ all.meaning (slots_of m) m.clauses zip)) c.of.ensures

pub returns-clause-few : goal.returns-clause-few
returns-clause-few g c =
    let all = c.in_ok-descriptions.ensures in
    let ds = map (λ d. d.now) c.deref.result.now in
    let are = ap (map (λ d. d.now)) c.deref.ensures.value in
    let many = ap (λ l. sum_by length l) are ∙ all.probes in
    let few = indices_few c.probe_of.result 0 ds in
    IfOk-weaker c.of.result _ _ (λ indices is.
    let size = ap length (is ∙ c.deref-2.ensures.value ∙ c.in_ok-indices.ensures ds c.in_ok-table.ensures) in
    omega (arith, few, many, size)) c.of.ensures
