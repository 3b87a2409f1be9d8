use Rattle.std.proofs.Common.{◌≡◌, Some, Err, length, sym, ap, ◌∙◌, subst, List, IfErr, Option}
use Rattle.std.proofs.Common.{arith, rules, IsPermutation}
use Rattle.std.proofs.lemmas.List.{length-map}
use Rattle.replay_core.specs.declared.lanes.piece.Piece.{Piece}
use Rattle.replay_core.specs.Steps.PiecePlaces.{pieces_with_places}
use Rattle.replay_core.specs.Collecting.{IsCollectFault}
use Rattle.replay_core.proofs.SamePieces.{standing_all}
use Rattle.replay_core.proofs.CollectSteps.{fault_bad, fault_missing, can_sorted}
use Rattle.replay_core.proofs.collector.collect.Goals as goal

pub returns-in_err-places-clause-err : goal.returns-in_err-places-clause-err
returns-in_err-places-clause-err c =
    let fault = fault_bad c.args.n c.args.pieces.items c.in_err-places.field-0.0 c.in_err-places.ensures.err in
    let same : c.from_residual.result ≡ Err c.in_err-places.field-0.0 = search rules in
    subst (λ r. IfErr r (IsCollectFault c.args.n c.args.pieces.items)) (sym same) fault

pub returns-in_err-sorted-clause-err : goal.returns-in_err-sorted-clause-err
returns-in_err-sorted-clause-err c =
    let p = c.in_ok-places.ensures in
    let fault = fault_missing c.args.n c.args.pieces.items c.in_ok-places.places.items c.in_err-sorted.field-0.0 (search rules) p.ok.1 p.same c.in_err-sorted.ensures.err in
    let same : c.from_residual-in_err-sorted.result ≡ Err c.in_err-sorted.field-0.0 = search rules in
    subst (λ r. IfErr r (IsCollectFault c.args.n c.args.pieces.items)) (sym same) fault

pub whole_of_pieces-requires-clause-tables : goal.whole_of_pieces-requires-clause-tables
whole_of_pieces-requires-clause-tables c =
    let sorted = c.in_ok-sorted.sorted.items in
    let are = sym (ap (λ (ps : List (Option Piece)). pieces_with_places 0 ps) c.in_ok-sorted.ensures.ok) ∙ standing_all 0 sorted in
    can_sorted c.args.pieces.items sorted (subst (λ l. IsPermutation c.args.pieces.items l) are c.in_ok-places.ensures.same) c.requires.tables

pub returns-clause-ok : goal.returns-clause-ok
returns-clause-ok c =
    let sorted = c.in_ok-sorted.sorted.items in
    let are = sym (ap (λ (ps : List (Option Piece)). pieces_with_places 0 ps) c.in_ok-sorted.ensures.ok) ∙ standing_all 0 sorted in
    record {
      sorted = sorted;
      count = let len = ap length c.in_ok-sorted.ensures.ok in let same = length-map sorted Some in let all = c.in_ok-places.ensures.ok.0 in omega arith;
      same = subst (λ l. IsPermutation c.args.pieces.items l) are c.in_ok-places.ensures.same;
      whole = c.in_ok-whole.ensures;
    }
