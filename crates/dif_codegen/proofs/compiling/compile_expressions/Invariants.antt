use Rattle.std.proofs.Common.{◌≡◌, ◌++◌, drop}
use Rattle.d_types.specs.Fitting.{FitsRegisters}
use Rattle.d_types.specs.Held.{IsConsistent, Slots}
use Rattle.d_types.specs.Typed.{typeds_of}
use Rattle.d_types.specs.Wholes.{EachIs}
use Rattle.dif_codegen.specs.Steps.Programs.{compiled_objects}
use Rattle.dif_codegen.proofs.compiling.compile_expressions.Given as goal

abbrev pub invariant-loop-e : goal.invariant-loop-e
invariant-loop-e l =
    let rest = typeds_of (drop l.e-index l.all) in
    EachIs FitsRegisters rest × ((slots : Slots) × EachIs (IsConsistent slots) rest) × (l.objects.items ++ compiled_objects rest ≡ compiled_objects (typeds_of l.all))
