use Rattle.std.proofs.Common.{◌≡◌, ◌<◌, ◌++◌, ◌∷◌, [], None, Some, get_or, length, ap, sym, ◌∙◌}
use Rattle.std.proofs.Common.{subst, arith, rules, append-nil, length-set, IsPermutation}
use Rattle.std.proofs.lemmas.List.{nil_from_length}
use Rattle.std.specs.Vec.Iter.{into_iter_items}
use Rattle.replay_core.specs.Steps.PiecePlaces.{is_filled, pieces_with_places}
use Rattle.replay_core.specs.Collecting.{first_bad_after}
use Rattle.replay_core.proofs.SamePieces.{same_start, same_next}
use Rattle.replay_core.proofs.PlaceSteps.{bad_next, bad_start, fault_is, none_pushed}
use Rattle.replay_core.proofs.collector.placing.pieces_by_group.Goals as goal

pub room-preserved : goal.room-preserved
room-preserved c =
    let items : c.push_reserved.new.self.items ≡ c.room.places.items ++ None ∷ [] = search rules in
    record {
      len = search rules;
      room = search rules;
      none = λ k. ap (λ l. get_or l k None) items ∙ none_pushed c.room.places.items c.room.invariant.none k;
    }

pub fill-init : goal.fill-init
fill-init c =
    let rest : into_iter_items c.into_iter-group-iterator.result ≡ c.args.pieces.items = search rules in
    record {
      len = search rules;
      bad = bad_start c.args.n c.room.places.items c.room.invariant.none c.args.pieces.items ∙ ap (λ l. first_bad_after (is_filled c.room.places.items) c.args.n l) (sym rest);
      same = same_start c.room.places.items c.args.pieces.items _ c.room.invariant.none rest;
    }

pub returns-in_err-place_piece-clause-err : goal.returns-in_err-place_piece-clause-err
returns-in_err-place_piece-clause-err c =
    let rest = into_iter_items c.next.new.self in
    let front : into_iter_items c.fill.group-iterator ≡ (c.in-Some.group, c.in-Some.piece) ∷ rest = search rules in
    let told = fault_is _ _ (c.fill.invariant.bad ∙ ap (first_bad_after (is_filled c.fill.places.items) c.args.n) front ∙ c.in_err-place_piece.ensures.err rest) in
    search (rules, told)

pub fill-preserved : goal.fill-preserved
fill-preserved c =
    let places = c.fill.places.items in
    let g = c.in-Some.group in
    let p = c.in-Some.piece in
    let rest = into_iter_items c.next.new.self in
    let front : into_iter_items c.fill.group-iterator ≡ (g, p) ∷ rest = search rules in
    let put = c.in_ok-place_piece.ensures.ok in
    let long = c.fill.invariant.len in
    let within = put.within in
    let lt : g < c.args.n = omega arith in
    let len = ap length put.placed ∙ length-set places g (Some p) in
    record {
      len = omega arith;
      bad = c.fill.invariant.bad ∙ ap (first_bad_after (is_filled places) c.args.n) front ∙ bad_next c.args.n places g p rest lt within put.free
          ∙ ap (λ l. first_bad_after (is_filled l) c.args.n rest) (sym put.placed);
      same = subst (λ l. IsPermutation c.args.pieces.items (pieces_with_places 0 l ++ rest)) (sym put.placed)
          (same_next c.args.pieces.items places g p rest within put.free (subst (λ l. IsPermutation c.args.pieces.items (pieces_with_places 0 places ++ l)) front c.fill.invariant.same));
    }

pub returns-clause-ok : goal.returns-clause-ok
returns-clause-ok c =
    let end : into_iter_items c.fill.group-iterator ≡ [] = let n = c.in-None.ensures.steps.0 in nil_from_length (into_iter_items c.fill.group-iterator) (search rules) in
    let inv = c.fill.invariant in
    (inv.len, inv.bad ∙ ap (first_bad_after (is_filled c.fill.places.items) c.args.n) end)

pub returns-clause-same : goal.returns-clause-same
returns-clause-same c =
    let end : into_iter_items c.fill.group-iterator ≡ [] = let n = c.in-None.ensures.steps.0 in nil_from_length (into_iter_items c.fill.group-iterator) (search rules) in
    let places = c.fill.places.items in
    subst (λ l. IsPermutation c.args.pieces.items l) (ap (λ l. pieces_with_places 0 places ++ l) end ∙ append-nil (pieces_with_places 0 places)) c.fill.invariant.same
