-- Groupings: how many groups there are, and which thread is in which.
use Rattle.std.specs.Prelude.{◌≡◌, ℕ, suc, ◌+◌, ◌%◌, ◌==◌, ℤ, pos, Bool, false, List, []}
use Rattle.std.specs.Prelude.{◌∷◌, length}
use Rattle.std.specs.Prelude.{filter, if◌then◌else◌, option_map, Option, Some, None}
use Rattle.shard_queue.specs.Vocabulary.{Firing, int_eq, position_from}
use Rattle.shard_queue.specs.Threads.{has, AreThreads}

-- the groups are numbered from 0; a thread that no group has is a stranger
pub record Grouping : Type 0 where
  pub count : ℕ
  pub group : ℤ → Option ℕ

-- these groups, and thread 0 in one of its own after them
abbrev pub with_own_group : ℕ → (ℤ → Option ℕ) → Grouping
with_own_group count group = record {
  count = count + 1;
  group = λ t. if int_eq t (pos 0) then Some count else group t;
}

-- dealt into `count` groups: the i-th thread goes to group i modulo count
abbrev pub grouping_in_turn : ℕ → List ℤ → Grouping
grouping_in_turn count threads =
    with_own_group count (λ t. option_map (λ i. i % count) (position_from (int_eq t) 0 threads))

-- the first of these lists that has the thread
abbrev pub list_of : List (List ℤ) → ℤ → Option ℕ
list_of lists t = position_from (λ list. has list t) 0 lists

-- a group for each list. No list at all is read as one empty list
abbrev pub grouping_by_lists : List (List ℤ) → Grouping
grouping_by_lists [] = with_own_group 1 (list_of ([] ∷ []))
grouping_by_lists (list ∷ lists) = with_own_group (length lists + 1) (list_of (list ∷ lists))

-- the trace's threads, ascending, dealt into `count` groups
abbrev pub IsDealt : ℕ → List Firing → Grouping → Type 0
IsDealt count trace grouping =
    (threads : List ℤ) × AreThreads trace threads × (grouping ≡ grouping_in_turn count threads)

-- whether this is group g
abbrev pub is_group : ℕ → Option ℕ → Bool
is_group g None = false
is_group g (Some h) = h == g

-- the firings of a group's threads, in their order
abbrev pub of_group : Grouping → ℕ → List Firing → List Firing
of_group grouping g firings = filter (λ f. is_group g (grouping.group f.thread)) firings

-- the indices of the threads that pass, if the first has index i
abbrev pub indices_from : (ℤ → Bool) → ℕ → List ℤ → List ℕ
indices_from test i [] = []
indices_from test i (t ∷ ts) =
    if test t then i ∷ indices_from test (suc i) ts else indices_from test (suc i) ts

-- the indices of a group's firings in a run whose firings have these threads
abbrev pub indices_of : Grouping → ℕ → List ℤ → List ℕ
indices_of grouping g threads = indices_from (λ t. is_group g (grouping.group t)) 0 threads
