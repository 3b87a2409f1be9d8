-- What the groups of a trace keep.
use Rattle.std.specs.Prelude.{◌≡◌, ◌<◌, ℕ, ℤ, List, [], All, IsSomeAnd, slice_index_or, map}
use Rattle.shard_queue.specs.Vocabulary.{int_eq, lookup, zip}
use Rattle.shard_queue.specs.declared.groups.Groups.{Groups}
pub use Rattle.shard_queue.specs.Groupings.{indices_from, indices_of}
use Rattle.shard_queue.specs.Groupings.{Grouping, with_own_group}

-- a thread of the trace has the number at its index; thread 0 has the last
abbrev pub grouping : Groups → Grouping
grouping groups =
    with_own_group groups.own
    (λ t. lookup (int_eq t) (zip groups.threads.items groups.numbers.items))

-- the indices of a group's firings
abbrev pub indices : Groups → ℕ → List ℕ
indices groups g = slice_index_or (map (λ v. v.items) groups.indices.items) g []

-- each of a run's threads has a group, and a group's indices are those of its threads
pub record AreOf (groups : Groups) (threads : List ℤ) : Type 0 where
  pub each : All (λ t. IsSomeAnd ((grouping groups).group t) (λ g. g < (grouping groups).count))
      threads
  pub indices : (g : ℕ) → indices groups g ≡ indices_of (grouping groups) g threads
