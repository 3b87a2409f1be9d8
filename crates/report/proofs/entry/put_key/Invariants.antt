use Rattle.std.proofs.Common.{◌≡◌, ◌++◌, drop}
use Rattle.std.specs.List.{flat_map}
use Rattle.report.specs.Entry.{part_bytes}
use Rattle.report.proofs.entry.put_key.Given as goal

abbrev pub invariant-loop-part : goal.invariant-loop-part
invariant-loop-part l = l.out.items ++ flat_map part_bytes (drop l.part-index l.part-items) ≡ l.fn.out.items ++ flat_map part_bytes l.part-items
