use Rattle.std.proofs.Common.{◌≤◌, All, get_or, length, map, sum_by, arith, ap, inr, subst, sym}
use Rattle.std.proofs.Common.{◌∙◌}
use Rattle.std.proofs.lemmas.List.Elements.{All-map}
use Rattle.replay_core.specs.Vocabulary.{slots_of, with_ends}
use Rattle.replay_core.specs.Patterns.{probe_of}
use Rattle.replay_core.specs.Indices.{indices_for}
use Rattle.replay_core.proofs.FiringLemmas.{indices_few}
use Rattle.replay_core.proofs.selection.select.Goals as goal

pub returns : goal.returns
returns g c =
    let all = c.in_ok-descriptions.ensures in
    let t = c.args.trace.now in
    let fs = with_ends t t in
    let ds = map (λ d. d.now) c.deref.result.now in
    let are = ap (map (λ d. d.now)) c.deref.ensures.value in
    let many = ap (λ l. sum_by length l) are ∙ all.probes in
    let is = c.of.ensures ∙ c.in_ok-found.ensures in
    record {
      few = subst (All (λ indices. length indices ≤ 65536)) (sym is)
          (All-map (λ indices. length indices ≤ 65536) (λ f. indices_for (probe_of f) 0 ds) fs (λ k f lt. let few = indices_few (probe_of (get_or fs k f)) 0 ds in let most = c.requires in omega (arith, few, many, most)));
      each = λ m zip. inr (is ∙ ap (λ l. map (λ f. indices_for (probe_of f) 0 l) fs) (are ∙ all.meaning (slots_of m) m.clauses zip));
    }
