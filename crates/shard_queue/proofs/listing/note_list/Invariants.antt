use Rattle.std.proofs.Common.{◌≡◌, ◌++◌, ◌∷◌, [], List, map, take, drop}
use Rattle.std.specs.Prelude.{ℤ}
use Rattle.shard_queue.specs.Groupings.{list_of}
use Rattle.shard_queue.specs.Faults.{all_of, first_wrong}
use Rattle.shard_queue.proofs.listing.note_list.Given as goal

abbrev pub invariant-loop-thread : goal.invariant-loop-thread
invariant-loop-thread l =
    let before = take l.list (map (λ v. v.items) l.lists) in record {
      numbers : l.found ≡ map (list_of (before ++ take l.thread-index l.listed ∷ [])) l.threads;
      right : (rest : List ℤ) → first_wrong l.threads (all_of before) (l.listed ++ rest)
          ≡ first_wrong l.threads (all_of before ++ take l.thread-index l.listed) (drop l.thread-index l.listed ++ rest);
    }
