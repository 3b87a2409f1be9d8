use Rattle.std.proofs.Common.{◌≡◌, ◌≤◌, Some, map, take, drop, length, vec_len}
use Rattle.std.specs.Prelude.{vec_capacity}
use Rattle.shard_queue.specs.Steps.Faults.{first_unfound}
use Rattle.shard_queue.proofs.listing.every_number.Given as goal

abbrev pub invariant-loop-index : goal.invariant-loop-index
invariant-loop-index l = record {
  items : map Some l.numbers.items ≡ take l.index l.found;
  len : vec_len l.numbers ≡ l.index;
  room : length l.found ≤ vec_capacity l.numbers;
  rest : first_unfound l.threads l.found ≡ first_unfound (drop l.index l.threads) (drop l.index l.found);
}
