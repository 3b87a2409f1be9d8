use Rattle.std.proofs.Common.{◌≡◌, nat_le, drop}
use Rattle.d_types.specs.Typed.{typeds_of}
use Rattle.d_types.specs.Needs as spec
use Rattle.d_types.proofs.needs.+needs.Given as goal

abbrev pub invariant-keys_fit-loop-waiting : goal.invariant-keys_fit-loop-waiting
invariant-keys_fit-loop-waiting l =
    nat_le (spec.need_of_keys l.waiting (typeds_of (drop l.waiting l.keys))) l.registers ≡ nat_le (spec.need_of_keys 0 (typeds_of l.keys)) l.registers
