use Rattle.std.proofs.Common.{◌≡◌, None, Some, map, sym, ◌∙◌, subst, arith}
use Rattle.replay_core.specs.Vocabulary.{grouping}
use Rattle.replay_core.specs.declared.collect_fault.CollectFault.TheVariants.{Twice, Stranger}
use Rattle.replay_core.specs.Collecting.{IsCollectFault, IsCollected}
use Rattle.replay_core.specs.Exit.{firings_over}
use Rattle.replay_core.specs.Groups.{IsAllBelow}
use Rattle.replay_core.proofs.Collectable.{can_collect, no_bad, no_missing}
use Rattle.replay_core.proofs.Rounds.{over_few, over_grouped, over_rise}
use Rattle.replay_core.proofs.TraceRuns.{some_group}
use Rattle.replay_core.proofs.WholeOf.{each_once, whole_of}
use Rattle.replay_core.proofs.workers.run_all.Goals as goal

pub collect-requires-clause-n : goal.collect-requires-clause-n
collect-requires-clause-n g c =
    let len = c.len.ensures.count in
    let some = some_group c.args.groups.now c.args.trace.now c.requires.ready.placed in
    omega arith

pub collect-requires-clause-tables : goal.collect-requires-clause-tables
collect-requires-clause-tables g c =
    let a = c.args in
    let round = c.in_ok-round.ensures.run in
    let script = c.requires.ready.script in
    let trace = c.in_ok-round.ensures.trace in
    can_collect script.0 (grouping a.groups.now) (firings_over script.0 a.trace.now) c.in_ok-round.round.pieces.items
    (over_grouped script.0 a.groups.now a.trace.now trace c.requires.ready.placed) round.once (round.each script.0 script.1) round.roomy (over_few script.0 a.groups.now a.trace.now trace)

pub unreachable-requires : goal.unreachable-requires
unreachable-requires g c =
    let pieces = c.in_ok-round.round.pieces.items in
    let none = no_bad c.len.result pieces (subst (λ n. IsAllBelow n (map (λ p. p.0) pieces)) (sym c.len.ensures.count) c.in_ok-round.ensures.run.once) in
    let fault = subst (λ e. IsCollectFault c.len.result pieces e) c.in-Err-Twice.field-0-is c.in-Err-Twice.ensures.err in
    let both : None ≡ Some (Twice c.in-Err-Twice.field-0-0) = sym none ∙ fault in
    absurd cc

pub unreachable-requires-in-Err-Stranger : goal.unreachable-requires-in-Err-Stranger
unreachable-requires-in-Err-Stranger g c =
    let pieces = c.in_ok-round.round.pieces.items in
    let none = no_bad c.len.result pieces (subst (λ n. IsAllBelow n (map (λ p. p.0) pieces)) (sym c.len.ensures.count) c.in_ok-round.ensures.run.once) in
    let fault = subst (λ e. IsCollectFault c.len.result pieces e) c.in-Err-Stranger.field-0-is c.in-Err-Stranger.ensures.err in
    let both : None ≡ Some (Stranger c.in-Err-Stranger.field-0-0) = sym none ∙ fault in
    absurd cc

pub unreachable-requires-in-Err-Missing : goal.unreachable-requires-in-Err-Missing
unreachable-requires-in-Err-Missing g c =
    let pieces = c.in_ok-round.round.pieces.items in
    let all = subst (λ n. IsAllBelow n (map (λ p. p.0) pieces)) (sym c.len.ensures.count) c.in_ok-round.ensures.run.once in
    let fault = subst (λ e. IsCollectFault c.len.result pieces e) c.in-Err-Missing.field-0-is c.in-Err-Missing.ensures.err in
    no_missing c.len.result c.in-Err-Missing.field-0-0 pieces all fault.1

pub returns-in-Ok-clause-whole : goal.returns-in-Ok-clause-whole
returns-in-Ok-clause-whole g c = λ m runs.
    let a = c.args in
    let pieces = c.in_ok-round.round.pieces.items in
    let round = c.in_ok-round.ensures.run in
    let trace = c.in_ok-round.ensures.trace in
    whole_of m (grouping a.groups.now) (firings_over m a.trace.now) pieces c.in-Ok.whole (over_grouped m a.groups.now a.trace.now trace c.requires.ready.placed)
    (over_rise m a.groups.now a.trace.now trace) (round.each m runs) (subst (λ n. IsCollected n pieces c.in-Ok.whole) c.len.ensures.count c.in-Ok.ensures.ok)

pub returns-in-Ok-clause-once : goal.returns-in-Ok-clause-once
returns-in-Ok-clause-once g c = λ m runs.
    let a = c.args in
    let pieces = c.in_ok-round.round.pieces.items in
    let round = c.in_ok-round.ensures.run in
    let trace = c.in_ok-round.ensures.trace in
    let grouped = over_grouped m a.groups.now a.trace.now trace c.requires.ready.placed in
    each_once m (grouping a.groups.now) (firings_over m a.trace.now) c.in-Ok.whole grouped
    (whole_of m (grouping a.groups.now) (firings_over m a.trace.now) pieces c.in-Ok.whole grouped
    (over_rise m a.groups.now a.trace.now trace) (round.each m runs) (subst (λ n. IsCollected n pieces c.in-Ok.whole) c.len.ensures.count c.in-Ok.ensures.ok))
