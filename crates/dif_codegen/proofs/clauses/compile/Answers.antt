use Rattle.std.proofs.Common.{ap, map, sym, subst, ◌∙◌}
use Rattle.d_types.specs.Fitting.{FitsRegisters}
use Rattle.d_types.specs.Held.{IsConsistent, slots_of}
use Rattle.d_types.specs.Typed.{meant_of}
use Rattle.d_types.specs.TypedScripts.{typed_script_of}
use Rattle.d_types.specs.Wholes.{ClausesAre}
use Rattle.d_types.proofs.ConsistentScripts.{script_is_consistent}
use Rattle.d_types.proofs.Fitting.{typed_script_fits}
use Rattle.dif_codegen.specs.Steps.Programs.{compiled_clause}
use Rattle.dif_codegen.proofs.Listed.{clauses_are, is_program}
use Rattle.dif_codegen.proofs.clauses.compile.Goals as goal

pub compile_clauses-requires-clause-few : goal.compile_clauses-requires-clause-few
compile_clauses-requires-clause-few c =
    let s = c.args.script.now in
    subst (λ l. ClausesAre FitsRegisters (map meant_of l)) (sym c.clauses.ensures) (typed_script_fits (typed_script_of s) s.typed)

pub compile_clauses-requires-clause-consistent : goal.compile_clauses-requires-clause-consistent
compile_clauses-requires-clause-consistent c =
    let s = c.args.script.now in
    let m = typed_script_of s in
    let slots = slots_of m in
    (slots, subst (λ l. ClausesAre (IsConsistent slots) (map meant_of l)) (sym c.clauses.ensures) (clauses_are (IsConsistent slots) m.clauses (script_is_consistent m s.typed)))

pub returns : goal.returns
returns c =
    let s = c.args.script.now in
    is_program s.clauses.items s.aggregations.items s.slots.items _ _ s.typed
    c.in_ok-functions.ensures
    (c.in_ok-clauses.ensures ∙ ap (λ l. map compiled_clause (map meant_of l)) c.clauses.ensures)
