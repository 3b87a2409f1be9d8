use Rattle.std.proofs.Common.{ap, map, subst, ◌∙◌, ◌++◌}
use Rattle.d_types.specs.Fitting.{FitsRegisters}
use Rattle.d_types.specs.Held.{IsConsistent}
use Rattle.d_types.specs.Typed.{action_of, actions_of}
use Rattle.d_types.specs.Wholes.{ActionsAre}
use Rattle.d_types.proofs.Tables.{front}
use Rattle.dif_codegen.specs.Programs.{action_code}
use Rattle.dif_codegen.specs.Steps.Programs.{compiled_action}
use Rattle.dif_codegen.proofs.Listed.{map-map, mapped_end, mapped_on}
use Rattle.dif_codegen.proofs.clauses.compile_statements.Goals as goal

pub compile_statement-requires-clause-few : goal.compile_statement-requires-clause-few
compile_statement-requires-clause-few c =
    let e = front c.args.all.now c.loop-s.s-index c.s-item.result c.loop-s-test.true c.s-item.is in
    (subst (λ l. ActionsAre FitsRegisters (actions_of l)) e c.loop-s.invariant.0).0

pub compile_statement-requires-clause-consistent : goal.compile_statement-requires-clause-consistent
compile_statement-requires-clause-consistent c =
    let slots = c.loop-s.invariant.1.0 in
    let e = front c.args.all.now c.loop-s.s-index c.s-item.result c.loop-s-test.true c.s-item.is in
    (slots, (subst (λ l. ActionsAre (IsConsistent slots) (actions_of l)) e c.loop-s.invariant.1.1).0)

pub loop-s-init : goal.loop-s-init
loop-s-init c = (c.requires.few, c.requires.consistent, ap (λ l. map action_code l ++ map (λ s. compiled_action (action_of s)) c.args.all.now) c.new-actions.ensures.items)

pub loop-s-preserved : goal.loop-s-preserved
loop-s-preserved c =
    let slots = c.loop-s.invariant.1.0 in
    let e = front c.args.all.now c.loop-s.s-index c.s-item.result c.loop-s-test.true c.s-item.is in
    let few = subst (λ l. ActionsAre FitsRegisters (actions_of l)) e c.loop-s.invariant.0 in
    let is = subst (λ l. ActionsAre (IsConsistent slots) (actions_of l)) e c.loop-s.invariant.1.1 in (
      few.1,
      (slots, is.1),
      rw c.in_ok-push.ensures.items
          (mapped_on action_code (λ s. compiled_action (action_of s)) c.args.all.now c.loop-s.s-index c.s-item.result _ c.loop-s.actions.items c.loop-s-test.true c.s-item.is c.in_ok-action.ensures c.loop-s.invariant.2),
    )

pub returns : goal.returns
returns c =
    mapped_end action_code (λ s. compiled_action (action_of s)) _ _ c.loop-s.actions.items c.loop-s-test.false c.loop-s.invariant.2
    ∙ map-map action_of compiled_action c.args.all.now
