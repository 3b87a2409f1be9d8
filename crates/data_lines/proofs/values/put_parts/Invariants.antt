use Rattle.std.proofs.Common.{◌≡◌, ◌∷◌, ◌++◌, drop}
use Rattle.std.specs.List.{flat_map}
use Rattle.data_lines.specs.Values.{part_value}
use Rattle.data_lines.proofs.values.put_parts.Given as goal

abbrev pub invariant-loop-part : goal.invariant-loop-part
invariant-loop-part l =
    l.out.items ++ flat_map (λ p. 44 ∷ part_value p) (drop l.part-index l.rest) ≡ l.initial.out.items ++ flat_map (λ p. 44 ∷ part_value p) l.rest
