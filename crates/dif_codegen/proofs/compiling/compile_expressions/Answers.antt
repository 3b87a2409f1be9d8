use Rattle.d_types.specs.Fitting.{FitsRegisters}
use Rattle.d_types.specs.Held.{IsConsistent}
use Rattle.dif_codegen.proofs.Listed.{compiled_end, compiled_on, expressions_on}
use Rattle.dif_codegen.proofs.compiling.compile_expressions.Goals as goal

pub compile_expression-requires-clause-few : goal.compile_expression-requires-clause-few
compile_expression-requires-clause-few c =
    (expressions_on c.args.all.now c.loop-e.e-index c.e-item.result FitsRegisters c.loop-e-test.true c.e-item.is c.loop-e.invariant.0).0

pub compile_expression-requires-clause-consistent : goal.compile_expression-requires-clause-consistent
compile_expression-requires-clause-consistent c =
    let slots = c.loop-e.invariant.1.0 in
    (slots, (expressions_on c.args.all.now c.loop-e.e-index c.e-item.result (IsConsistent slots) c.loop-e-test.true c.e-item.is c.loop-e.invariant.1.1).0)

pub loop-e-preserved : goal.loop-e-preserved
loop-e-preserved c =
    let slots = c.loop-e.invariant.1.0 in
    let few = expressions_on c.args.all.now c.loop-e.e-index c.e-item.result FitsRegisters c.loop-e-test.true c.e-item.is c.loop-e.invariant.0 in
    let is = expressions_on c.args.all.now c.loop-e.e-index c.e-item.result (IsConsistent slots) c.loop-e-test.true c.e-item.is c.loop-e.invariant.1.1 in
    let on = compiled_on c.args.all.now c.loop-e.e-index c.e-item.result c.loop-e.objects.items c.loop-e-test.true c.e-item.is c.loop-e.invariant.2 in
    (few.1, (slots, is.1), rw (c.in_ok-push.ensures.items, c.in_ok-object.ensures) on)

pub returns : goal.returns
returns c = compiled_end _ _ _ c.loop-e-test.false c.loop-e.invariant.2
