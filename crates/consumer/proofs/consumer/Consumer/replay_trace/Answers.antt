use Rattle.std.proofs.lemmas.Result.{err_from_is_err_and}
use Rattle.d_types.specs.TypedScripts.{typed_script_of}
use Rattle.shard_queue.specs.Groups.{grouping}
use Rattle.consumer.specs.Answer.{Denote}
use Rattle.consumer.proofs.Refusing.{groups_refused, out_of_memory, refused}
use Rattle.consumer.proofs.consumer.Consumer.replay_trace.Goals as goal

pub returns-in_err-groups : goal.returns-in_err-groups
returns-in_err-groups g c = λ source bytes accepted reads.
    let m = typed_script_of c.args.script.now in
    let p = err_from_is_err_and c.from_residual.result c.from_residual.ensures.1 in
    rw (p.1, p.2) (refused g.L.Layout.shows source bytes c.args.plan.now _
    (groups_refused source bytes c.args.plan.now m c.args.trace.now (record { accepted = accepted; reads = reads }) c.in_err-groups.field-0.0 c.in_err-groups.ensures.fault))

pub returns-in_err-ran : goal.returns-in_err-ran
returns-in_err-ran g c = λ source bytes accepted reads.
    let p = err_from_is_err_and c.from_residual-in_err-ran.result c.from_residual-in_err-ran.ensures.1 in
    rw (p.1, p.2) (out_of_memory g.L.Layout.shows source bytes c.args.plan.now)

pub returns-in_err-replayed : goal.returns-in_err-replayed
returns-in_err-replayed g c = λ source bytes accepted reads.
    let p = err_from_is_err_and c.from_residual-in_err-replayed.result c.from_residual-in_err-replayed.ensures.1 in
    rw (p.1, p.2) (out_of_memory g.L.Layout.shows source bytes c.args.plan.now)

pub returns : goal.returns
returns g c = λ source bytes accepted reads.
    let m = typed_script_of c.args.script.now in
    let shown = c.in_ok-replayed.ensures c.args.plan.now c.args.trace.now (grouping c.in_ok-groups.groups) c.in_ok-groups.ensures.grouped c.in_ok-ran.ensures in
    let means : Denote source bytes m c.args.trace.now = record { accepted = accepted; reads = reads } in
    record { answer = (m, c.args.trace.now, means, shown.0); fault = tt; carried = (m, c.args.trace.now, means, shown.1) }
