-- Why lists aren't groups of a trace's threads.
use Rattle.std.specs.Prelude.{◌≡◌, ◌<◌, ◌≤◌, ◌⊎◌, ℤ, not, List, [], ◌∷◌, ◌++◌, length, flat_map}
use Rattle.std.specs.Prelude.{find, if◌then◌else◌, option_map, Option, Some, None}
use Rattle.shard_queue.specs.Vocabulary.{Doubled, Firing, GroupFault, MAX_GROUPS, Missing}
use Rattle.shard_queue.specs.Vocabulary.{Stranger, TooMany, option_or}
use Rattle.shard_queue.specs.Threads.{has, AreThreads}
use Rattle.shard_queue.specs.Groupings.{Grouping, grouping_by_lists}

-- all that the lists have, list after list
abbrev pub all_of : List (List ℤ) → List ℤ
all_of lists = flat_map (λ list. list) lists

-- the first of some threads that did not fire, or that came before
abbrev pub first_wrong : (threads before : List ℤ) → List ℤ → Option GroupFault
first_wrong threads before [] = None
first_wrong threads before (t ∷ ts) =
    if not (has threads t) then Some (Stranger t)
    else if has before t then Some (Doubled t)
    else first_wrong threads (before ++ t ∷ []) ts

-- the first wrong thread of lists, else the least that is in none of them, if these threads fired
abbrev pub thread_fault : (threads : List ℤ) → List (List ℤ) → Option GroupFault
thread_fault threads lists =
    option_or (first_wrong threads [] (all_of lists))
    (option_map Missing (find (λ t. not (has (all_of lists) t)) threads))

-- the lists group the trace's threads, each in one list
pub record IsListed (lists : List (List ℤ)) (trace : List Firing) (groups : Grouping) : Type 0 where
  pub few : length lists ≤ MAX_GROUPS
  pub threads : List ℤ
  pub fired : AreThreads trace threads
  pub faultless : thread_fault threads lists ≡ None
  pub is : groups ≡ grouping_by_lists lists

-- the lists aren't groups, since there are too many of them, or else since a thread is wrong or
-- missing
abbrev pub IsListFault : List (List ℤ) → List Firing → GroupFault → Type 0
IsListFault lists trace fault =
    ((MAX_GROUPS < length lists) × (fault ≡ TooMany))
    ⊎ ((length lists ≤ MAX_GROUPS) × ((threads : List ℤ) × AreThreads trace threads
    × (thread_fault threads lists ≡ Some fault)))
