-- Groups of threads, and what each has of a run.
use Rattle.std.specs.Prelude.{ℕ, ◌<◌, List, All, IsSomeAnd, map}
use Rattle.std.specs.List.{flat_map}
use Rattle.firings.specs.declared.firing.Firing.{Firing}
use Rattle.firings.specs.Firings.{number_of}
pub use Rattle.shard_queue.specs.Numbers.{SameItems, IsAllBelow, below}
pub use Rattle.shard_queue.specs.Groupings.{Grouping, is_group, of_group}

-- each firing's thread is in one of the groups
abbrev pub AreGrouped : Grouping → List Firing → Type 0
AreGrouped grouping fs =
    All (λ f. IsSomeAnd (grouping.group f.thread) (λ g. g < grouping.count)) fs

-- what each group gives, one group after the other
abbrev pub over_groups : {A : Type 0} → Grouping → (ℕ → List A) → List A
over_groups grouping given = flat_map given (below grouping.count)

-- the numbers of each group's firings, group by group
abbrev pub numbers_by_group : Grouping → List Firing → List (List ℕ)
numbers_by_group grouping fs =
    map (λ g. map number_of (of_group grouping g fs)) (below grouping.count)
