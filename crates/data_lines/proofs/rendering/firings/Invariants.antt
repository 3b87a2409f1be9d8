-- Each group adds less than 2^64.
use Rattle.std.proofs.Common.{◌≡◌, ◌*◌, ◌≤◌, length, take}
use Rattle.std.specs.List.{sum_by}
use Rattle.data_lines.proofs.rendering.firings.Given as goal

abbrev pub invariant-loop-group : goal.invariant-loop-group
invariant-loop-group l =
    (l.count ≡ sum_by (λ group. length group.items) (take l.group-index l.ran)) × (l.count ≤ l.group-index * 18446744073709551615)
