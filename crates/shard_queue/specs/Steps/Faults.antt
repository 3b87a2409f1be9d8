-- The first thread that no group has.
use Rattle.std.specs.Prelude.{ℕ, ℤ, List, [], ◌∷◌, Option, Some, None, find, not, option_map}
use Rattle.shard_queue.specs.Vocabulary.{GroupFault, Missing}
use Rattle.shard_queue.specs.Threads.{has}

-- the least thread that is in no list
abbrev pub first_missing : (threads listed : List ℤ) → Option GroupFault
first_missing threads listed = option_map Missing (find (λ t. not (has listed t)) threads)

-- the first thread without a number
abbrev pub first_unfound : List ℤ → List (Option ℕ) → Option GroupFault
first_unfound [] numbers = None
first_unfound (t ∷ ts) [] = None
first_unfound (t ∷ ts) (None ∷ numbers) = Some (Missing t)
first_unfound (t ∷ ts) (Some number ∷ numbers) = first_unfound ts numbers
