use Rattle.std.proofs.Common.{◌≡◌, ◌≤◌, [], sum_by, length, refl, sym, subst, ap, ◌∙◌, arith}
use Rattle.aggregations.specs.Table.{count_held, functions_of}
use Rattle.d_types.specs.Typed.{functions_in}
use Rattle.d_types.specs.TypedScripts.{typed_script_of}
use Rattle.replay_core.specs.Collecting.{tables_of}
use Rattle.replay_core.specs.Tables.{AllHave}
use Rattle.run_tests.proofs.EmptyPieces.{have_more, held_more}
use Rattle.run_tests.proofs.collecting.pieces_of.Goals as goal

pub loop-group-preserved : goal.loop-group-preserved
loop-group-preserved c =
    let m = typed_script_of c.args.script.now in
    let i = c.loop-group.invariant in
    let fresh = c.in_ok-lane.ensures in
    let piece = c.finish.result in
    let same = c.finish.ensures.piece in
    let functions : functions_of piece.table ≡ functions_in m = ap (λ s. functions_of s.table) same ∙ (fresh.script m refl).0.have_functions in
    let taken : piece.taken.items ≡ [] = ap (λ s. s.taken) same ∙ fresh.fresh.taken in
    let none : length piece.taken.items ≡ 0 = ap length taken in
    let room = c.finish.ensures.held in
    let held : count_held piece.table ≡ 0 = omega (arith, room, none) in
    let items = c.in_ok-push.ensures.items in
    record {
      functions = subst (λ ps. AllHave (functions_in m) (tables_of ps)) (sym items) (have_more (functions_in m) c.loop-group.pieces.items _ i.functions functions);
      held = ap (λ ps. sum_by count_held (tables_of ps)) items ∙ held_more c.loop-group.pieces.items _ i.held held;
    }

pub returns : goal.returns
returns c =
    let i = c.loop-group.invariant in
    let few : sum_by count_held (tables_of c.loop-group.pieces.items) ≤ 4503599627370496 = let none = i.held in omega arith in
    ((functions_in (typed_script_of c.args.script.now), i.functions), few)
