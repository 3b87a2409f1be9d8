use Rattle.std.proofs.Common.{◌≡◌, ◌-◌, ◌+◌, ◌∷◌, [], ◌∙◌, Some, ap, length, slice_get, sym, arith}
use Rattle.std.proofs.Common.{length-append}
use Rattle.replay_core.specs.Vocabulary.{end_of}
use Rattle.replay_core.proofs.TraceRuns.{at_end, at_row, run_few}
use Rattle.replay_core.proofs.lanes.run_firings.firing_at.Goals as goal

pub returns-then-index-eq0-clause-few : goal.returns-then-index-eq0-clause-few
returns-then-index-eq0-clause-few c = run_few c.args.trace.now c.firings-rows.ensures.trace

pub returns-then-row-len-clause-firing : goal.returns-then-row-len-clause-firing
returns-then-row-len-clause-firing c =
    let found : slice_get c.args.trace.now (c.args.index - 1) ≡ Some c.get.result = rw (c.firings-rows.ensures.value) at c.get.ensures in
    at_row c.args.trace.now c.args.index c.get.result (omega arith) found

pub returns-clause-firing : goal.returns-clause-firing
returns-clause-firing c =
    let trace = c.args.trace.now in
    let size = length-append trace (end_of trace ∷ []) in
    let rows = ap length c.firings-rows.ensures.value in
    let within = c.requires in
    let last : c.args.index ≡ length trace + 1 = omega (arith, c.len.ensures, c.if-row-len.false, c.if-index-eq0.false) in
    at_end trace c.args.index last ∙ ap Some (sym c.end.ensures)
