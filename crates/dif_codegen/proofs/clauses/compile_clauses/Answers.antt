use Rattle.std.proofs.Common.{ap, map, subst, ◌∙◌, ◌++◌}
use Rattle.d_types.specs.Fitting.{FitsRegisters}
use Rattle.d_types.specs.Held.{IsConsistent}
use Rattle.d_types.specs.Typed.{meant_of}
use Rattle.d_types.specs.Wholes.{ClausesAre}
use Rattle.d_types.proofs.Tables.{front}
use Rattle.dif_codegen.specs.Programs.{clause_code}
use Rattle.dif_codegen.specs.Steps.Programs.{compiled_clause}
use Rattle.dif_codegen.proofs.Listed.{map-map, mapped_end, mapped_on}
use Rattle.dif_codegen.proofs.clauses.compile_clauses.Goals as goal

pub compile_clause-requires-clause-few : goal.compile_clause-requires-clause-few
compile_clause-requires-clause-few c =
    let e = front c.args.all.now c.loop-c.c-index c.c-item.result c.loop-c-test.true c.c-item.is in
    (subst (λ l. ClausesAre FitsRegisters (map meant_of l)) e c.loop-c.invariant.0).0

pub compile_clause-requires-clause-consistent : goal.compile_clause-requires-clause-consistent
compile_clause-requires-clause-consistent c =
    let slots = c.loop-c.invariant.1.0 in
    let e = front c.args.all.now c.loop-c.c-index c.c-item.result c.loop-c-test.true c.c-item.is in
    (slots, (subst (λ l. ClausesAre (IsConsistent slots) (map meant_of l)) e c.loop-c.invariant.1.1).0)

pub loop-c-init : goal.loop-c-init
loop-c-init c = (c.requires.few, c.requires.consistent, ap (λ l. map clause_code l ++ map (λ s. compiled_clause (meant_of s)) c.args.all.now) c.new-clauses.ensures.items)

pub loop-c-preserved : goal.loop-c-preserved
loop-c-preserved c =
    let slots = c.loop-c.invariant.1.0 in
    let e = front c.args.all.now c.loop-c.c-index c.c-item.result c.loop-c-test.true c.c-item.is in
    let few = subst (λ l. ClausesAre FitsRegisters (map meant_of l)) e c.loop-c.invariant.0 in
    let is = subst (λ l. ClausesAre (IsConsistent slots) (map meant_of l)) e c.loop-c.invariant.1.1 in (
      few.1,
      (slots, is.1),
      rw c.in_ok-push.ensures.items
          (mapped_on clause_code (λ s. compiled_clause (meant_of s)) c.args.all.now c.loop-c.c-index c.c-item.result _ c.loop-c.clauses.items c.loop-c-test.true c.c-item.is c.in_ok-clause.ensures c.loop-c.invariant.2),
    )

pub returns : goal.returns
returns c =
    mapped_end clause_code (λ s. compiled_clause (meant_of s)) _ _ c.loop-c.clauses.items c.loop-c-test.false c.loop-c.invariant.2
    ∙ map-map meant_of compiled_clause c.args.all.now
