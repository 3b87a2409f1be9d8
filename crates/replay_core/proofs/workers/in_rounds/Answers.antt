use Rattle.std.proofs.Common.{rules, ◌≡◌, ◌+◌, ap, sym, ◌∙◌, false}
use Rattle.std.proofs.lemmas.Result.{IfOk-weaker}
use Rattle.firings.specs.Firings.{last_number}
use Rattle.replay_core.specs.Vocabulary.{end_of}
use Rattle.replay_core.proofs.Rounds.{one_round, plain_round, two_rounds}
use Rattle.replay_core.proofs.workers.in_rounds.Goals as goal

pub returns-then-not-exits-clause-run : goal.returns-then-not-exits-clause-run
returns-then-not-exits-clause-run g c =
    let a = c.args in
    let off : c.exits.result ≡ false = search rules in
    IfOk-weaker c.in_round.result _ _ (λ r round. plain_round (g.L.Lanes.runs a.input.now.lanes.now) a.input.now.groups.now a.input.now.trace.now r round (λ m means. sym (c.exits.ensures m means) ∙ off)) c.in_round.ensures.round

pub returns-then-first-clause-run : goal.returns-then-first-clause-run
returns-then-first-clause-run g c =
    let a = c.args in
    one_round (g.L.Lanes.runs a.input.now.lanes.now) a.input.now.groups.now a.input.now.trace.now (search rules) c.requires.ready.0.placed c.in_ok-first.first c.in_ok-first.ensures.round c.if-first.true

pub returns-clause-run : goal.returns-clause-run
returns-clause-run g c =
    let a = c.args in
    let same : c.last_number-end.result + 1 ≡ (end_of a.input.now.trace.now).number = ap (λ n. n + 1) (c.last_number-end.ensures ∙ ap last_number c.firings.ensures.value) in
    IfOk-weaker c.in_round-3.result _ _
    (λ r round. two_rounds (g.L.Lanes.runs a.input.now.lanes.now) a.input.now.groups.now a.input.now.trace.now (search rules) c.requires.ready.0.placed c.in_ok-first.first c.in_ok-first.ensures.round c.if-first.false
    _ same r round)
    c.in_round-3.ensures.round
