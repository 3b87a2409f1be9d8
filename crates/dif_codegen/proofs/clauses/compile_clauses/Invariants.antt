use Rattle.std.proofs.Common.{◌≡◌, ◌++◌, drop, map}
use Rattle.d_types.specs.Fitting.{FitsRegisters}
use Rattle.d_types.specs.Held.{IsConsistent, Slots}
use Rattle.d_types.specs.Typed.{meant_of}
use Rattle.d_types.specs.Wholes.{ClausesAre}
use Rattle.dif_codegen.specs.Programs.{clause_code}
use Rattle.dif_codegen.specs.Steps.Programs.{compiled_clause}
use Rattle.dif_codegen.proofs.clauses.compile_clauses.Given as goal

abbrev pub invariant-loop-c : goal.invariant-loop-c
invariant-loop-c l =
    let rest = drop l.c-index l.all in
    ClausesAre FitsRegisters (map meant_of rest) × ((slots : Slots) × ClausesAre (IsConsistent slots) (map meant_of rest))
    × (map clause_code l.clauses.items ++ map (λ s. compiled_clause (meant_of s)) rest ≡ map (λ s. compiled_clause (meant_of s)) l.all)
