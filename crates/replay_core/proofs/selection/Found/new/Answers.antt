use Rattle.std.proofs.Common.{◌≡◌, ◌+◌, ◌∙◌, List, ℕ, Some, ap, arith, map, subst, sym, take}
use Rattle.std.proofs.Common.{slice_get, take_all}
use Rattle.std.proofs.lemmas.List.{length-map}
use Rattle.firings.specs.declared.unit.Probe.{Probe}
use Rattle.firings.proofs.Stored.{extends_more, named_more}
use Rattle.replay_core.specs.Vocabulary.{begin_of, end_of, AreIndices, Firing}
use Rattle.replay_core.specs.Patterns.{probe_of}
use Rattle.replay_core.specs.Indices.{indices_for}
use Rattle.replay_core.proofs.SelectionLemmas.{lists_more, run_listed}
use Rattle.replay_core.proofs.selection.Found.new.Goals as goal

pub loop-probe-preserved : goal.loop-probe-preserved
loop-probe-preserved c =
    let inv = c.loop-probe.invariant in
    let probes = c.probe_indices-firings.result.probes in
    let i = c.loop-probe.probe in
    record {
      end = inv.end;
      grows = extends_more _ _ _ inv.grows c.in_ok-list_for.ensures.grows;
      indices = λ ds table. subst (λ l. AreIndices c.list_for-in-loop-probe.new.lists l (take (i + 1) (map (λ p. indices_for p 0 ds) probes))) (sym c.in_ok-push.ensures.items)
          (lists_more (λ p. indices_for p 0 ds) c.loop-probe.lists c.list_for-in-loop-probe.new.lists c.loop-probe.by_probe.items probes i c.in_ok-list_for.field-0 c.probe.result c.in_ok-list_for.ensures.grows (inv.indices ds table) c.probe.ensures (c.in_ok-list_for.ensures.index ds table));
    }

pub returns : goal.returns
returns c =
    let ds = map (λ d. d.now) c.args.descriptions.now in
    let table = c.in_ok-table.ensures in
    let own : Probe → List ℕ = λ p. indices_for p 0 ds in
    let t = c.args.trace.now in
    let all = c.loop-probe.lists in
    let inv = c.loop-probe.invariant in
    let probes = c.probe_indices-firings.result.probes in
    let indices = c.probe_indices-firings.result.indices in
    let begin_is : c.into_probe.result ≡ probe_of (begin_of t) = c.into_probe.ensures ∙ ap probe_of c.begin.ensures in
    let end_is : c.into_probe-2.result ≡ probe_of (end_of t) = c.into_probe-2.ensures ∙ ap probe_of c.end.ensures in
    let first : slice_get all c.in_ok-begin.begin ≡ Some (own (probe_of (begin_of t))) =
    named_more _ all _ _ inv.grows (named_more _ _ _ _ c.in_ok-end.ensures.grows (c.in_ok-begin.ensures.index ds table)) ∙ ap (λ p. Some (own p)) begin_is in
    let last : slice_get all c.in_ok-end.end ≡ Some (own (probe_of (end_of t))) =
    named_more _ all _ _ inv.grows (c.in_ok-end.ensures.index ds table) ∙ ap (λ p. Some (own p)) end_is in
    let of : AreIndices probes indices (map probe_of t) = c.probe_indices-firings.ensures ∙ ap (λ (fs : List Firing). map (λ (p : Probe). Some p) (map probe_of fs)) c.firings.ensures.value in
    let count = length-map probes own in
    let end = inv.end in
    let each = subst (AreIndices all c.loop-probe.by_probe.items) (take_all c.loop-probe.probe (map own probes) (omega (arith, count, end))) (inv.indices ds table) in
    run_listed all c.loop-probe.by_probe.items probes own c.in_ok-begin.begin c.in_ok-end.end indices t each of first last
