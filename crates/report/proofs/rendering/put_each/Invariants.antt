use Rattle.std.proofs.Common.{◌≡◌, ◌++◌, drop}
use Rattle.std.specs.List.{flat_map}
use Rattle.std.specs.Map.Iter.{deref_pair}
use Rattle.report.specs.Entry.{entry_bytes}
use Rattle.report.proofs.rendering.put_each.Given as goal

abbrev pub invariant-loop-entry : goal.invariant-loop-entry
invariant-loop-entry l =
    l.out.items ++ flat_map (λ e. entry_bytes (deref_pair e)) (drop l.entry-index l.entries)
    ≡ l.fn.out.items ++ flat_map (λ e. entry_bytes (deref_pair e)) l.entries
