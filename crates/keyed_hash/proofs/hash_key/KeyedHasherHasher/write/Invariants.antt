use Rattle.std.proofs.Common.{◌≡◌}
use Rattle.keyed_hash.specs.Hashing.{after_words}
use Rattle.keyed_hash.proofs.hash_key.KeyedHasherHasher.write.Given as goal

abbrev pub invariant-loop-word : goal.invariant-loop-word
invariant-loop-word l = l.self.state ≡ after_words l.fn.self.state l.bytes l.word
