use Rattle.std.proofs.Common.{◌≡◌, [], map, take, drop}
use Rattle.shard_queue.specs.Groupings.{list_of}
use Rattle.shard_queue.specs.Faults.{all_of, first_wrong}
use Rattle.shard_queue.proofs.listing.list_numbers.Given as goal

abbrev pub invariant-loop-list : goal.invariant-loop-list
invariant-loop-list l =
    let lists = map (λ v. v.items) l.lists in record {
      numbers : l.found.items ≡ map (list_of (take l.list lists)) l.threads;
      right : first_wrong l.threads [] (all_of lists) ≡ first_wrong l.threads (all_of (take l.list lists)) (all_of (drop l.list lists));
    }
