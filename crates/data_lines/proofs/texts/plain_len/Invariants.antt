use Rattle.std.proofs.Common.{length, ◌-◌, ◌≡◌, ◌≤◌, take, IsAscii}
use Rattle.std.specs.List.{flat_map}
use Rattle.data_lines.specs.Texts.{json_escape}
use Rattle.data_lines.proofs.texts.plain_len.Given as goal

abbrev pub invariant-loop-count : goal.invariant-loop-count
invariant-loop-count l =
    (l.count ≤ length l.text) × (flat_map json_escape (take l.count l.text) ≡ take l.count l.text) × IsAscii (take l.count l.text)

abbrev pub decreases-loop-count : goal.decreases-loop-count
decreases-loop-count l = length l.text - l.count
