use Rattle.std.proofs.Common.{◌≡◌, ◌<◌, true, false, None, is_some, get_or, length, sym, ap, ◌∙◌}
use Rattle.std.proofs.Common.{rules}
use Rattle.std.proofs.lemmas.List.{get_or_default}
use Rattle.replay_core.specs.Steps.PiecePlaces.{is_filled}
use Rattle.replay_core.proofs.PlaceSteps.{bad_stranger, bad_twice}
use Rattle.replay_core.proofs.collector.placing.place_piece.Goals as goal

pub returns-then-group-n-clause-err : goal.returns-then-group-n-clause-err
returns-then-group-n-clause-err c = λ rest.
    bad_stranger c.args.n (is_filled c.args.places.now.items) c.args.group c.args.piece rest (search rules)

pub returns-then-is_some-clause-err : goal.returns-then-is_some-clause-err
returns-then-is_some-clause-err c = λ rest.
    let places = c.args.places.now.items in
    let g = c.args.group in
    let within : g < length places = search rules in
    let at : get_or places g None ≡ c.index.result.now = get_or_default places g None c.index.result.now within ∙ sym c.index.ensures in
    let now : is_some c.index.result.now ≡ true = search rules in
    bad_twice c.args.n (is_filled places) g c.args.piece rest (search rules) (ap is_some at ∙ now)

pub returns-clause-ok : goal.returns-clause-ok
returns-clause-ok c =
    let places = c.args.places.now.items in
    let g = c.args.group in
    let within : g < length places = search rules in
    let at : get_or places g None ≡ c.index.result.now = get_or_default places g None c.index.result.now within ∙ sym c.index.ensures in
    let now : is_some c.index.result.now ≡ false = search rules in
    record { within = within; free = ap is_some at ∙ now; placed = search rules }
