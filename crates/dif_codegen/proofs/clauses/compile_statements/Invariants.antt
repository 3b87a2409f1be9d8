use Rattle.std.proofs.Common.{◌≡◌, ◌++◌, drop, map}
use Rattle.d_types.specs.Fitting.{FitsRegisters}
use Rattle.d_types.specs.Held.{IsConsistent, Slots}
use Rattle.d_types.specs.Typed.{action_of, actions_of}
use Rattle.d_types.specs.Wholes.{ActionsAre}
use Rattle.dif_codegen.specs.Programs.{action_code}
use Rattle.dif_codegen.specs.Steps.Programs.{compiled_action}
use Rattle.dif_codegen.proofs.clauses.compile_statements.Given as goal

abbrev pub invariant-loop-s : goal.invariant-loop-s
invariant-loop-s l =
    let rest = drop l.s-index l.all in
    ActionsAre FitsRegisters (actions_of rest) × ((slots : Slots) × ActionsAre (IsConsistent slots) (actions_of rest))
    × (map action_code l.actions.items ++ map (λ s. compiled_action (action_of s)) rest ≡ map (λ s. compiled_action (action_of s)) l.all)
