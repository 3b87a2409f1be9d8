use Rattle.std.proofs.Common.{◌≡◌, ◌++◌, drop}
use Rattle.std.specs.List.{flat_map}
use Rattle.std.specs.Map.Iter.{deref_pair}
use Rattle.data_lines.specs.Lines.{entry_line}
use Rattle.data_lines.proofs.rendering.put_entries.Given as goal

abbrev pub invariant-loop-entry : goal.invariant-loop-entry
invariant-loop-entry l =
    l.out.items ++ flat_map (λ e. entry_line l.head (deref_pair e)) (drop l.entry-index l.entries)
    ≡ l.fn.out.items ++ flat_map (λ e. entry_line l.head (deref_pair e)) l.entries
