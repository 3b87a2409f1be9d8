use Rattle.std.proofs.Common.{◌≡◌, ◌++◌}
use Rattle.std.specs.List.{flat_map}
use Rattle.std.specs.Map.Iter.{deref_pair}
use Rattle.std.specs.Slice.Iter.{chunks_rest}
use Rattle.report.specs.Entry.{entry_bytes}
use Rattle.report.proofs.rendering.put_entries.Given as goal

abbrev pub invariant-loop-round : goal.invariant-loop-round
invariant-loop-round g l =
    (goal.iterator-loop-round g).can_next l.round-iterator
    × (goal.iterator-loop-round g).is_finite l.round-iterator
    × (l.out.items ++ flat_map (λ e. entry_bytes (deref_pair e)) (chunks_rest l.round-iterator)
    ≡ l.initial.out.items ++ flat_map (λ e. entry_bytes (deref_pair e)) l.fn.entries)
