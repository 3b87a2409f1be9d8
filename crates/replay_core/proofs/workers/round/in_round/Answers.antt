use Rattle.std.proofs.Common.{rules, arith, ◌≡◌, ◌<◌, ap, subst, sym, ◌∙◌, length, vec_len}
use Rattle.std.proofs.Common.{flat_map}
use Rattle.std.proofs.lemmas.List.{length-map}
use Rattle.replay_core.specs.Vocabulary.{grouping}
use Rattle.replay_core.specs.AtBoard.{Gives, IsRound, IsWork}
use Rattle.replay_core.specs.declared.workers.round.Round.{Round}
use Rattle.replay_core.proofs.Parts.{all_at, drawn_lists, finished_parts, whole_round}
use Rattle.replay_core.proofs.workers.round.in_round.Goals as goal

pub close-requires-clause-at : goal.close-requires-clause-at
close-requires-clause-at g c =
    let input = c.args.input.now in
    let P = Gives c.args.span (g.L.Lanes.runs input.lanes.now) input.groups.now input.trace.now in
    let board = c.in_ok-board.board in
    all_at P board _ _ (finished_parts (IsWork P board) _ _ _ c.in_ok-pieces.ensures.parts c.in_ok-results.ensures.works)

pub returns-clause-round : goal.returns-clause-round
returns-clause-round g c =
    let input = c.args.input.now in
    let P = Gives c.args.span (g.L.Lanes.runs input.lanes.now) input.groups.now input.trace.now in
    let board = c.in_ok-board.board in
    let seats = c.in_ok-pieces.seats.items in
    let parts = finished_parts (IsWork P board) _ _ _ c.in_ok-pieces.ensures.parts c.in_ok-results.ensures.works in
    let end : board.end ≡ (grouping input.groups.now).count = search rules in
    let some : 0 < length seats = search rules in
    let closed = c.in_ok-closed.ensures in
    subst (λ (r : Round). IsRound P (grouping input.groups.now).count r) (sym c.round_of.ensures)
    (whole_round P board _ _ seats parts some end closed.whole
    (ap (λ xs. flat_map (λ v. v.items) xs) closed.lists ∙ drawn_lists seats) closed.least.0 closed.least.1)

pub returns-clause-lists : goal.returns-clause-lists
returns-clause-lists g c =
    let are = ap length c.in_ok-closed.ensures.lists in
    let same = length-map c.in_ok-pieces.seats.items (λ s. s.taken) in
    let all = c.in_ok-pieces.ensures.len in
    let each = c.in_ok-results.ensures.len in
    let opened = c.in_ok-board.ensures.seats.0 in
    let made = ap (λ (r : Round). vec_len r.lists) c.round_of.ensures in
    omega (arith, are, same, all, each, opened, made)
