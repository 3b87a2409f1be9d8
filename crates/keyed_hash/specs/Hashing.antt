-- How the keys of tables are hashed.
use Rattle.std.specs.Prelude.{ℕ, zero, suc, ◌*◌, ◌/◌, List, take, drop, length, bit_xor}
use Rattle.std.specs.Hash.FoldHasher as folding
use Rattle.std.specs.declared.hash.FoldHasher.{FoldHasher}
use Rattle.keyed_hash.specs.declared.hash_key.HashKey.{HashKey}
use Rattle.keyed_hash.specs.declared.hash_key.KeyedHasher.{KeyedHasher}

-- how many whole words of eight bytes there are
abbrev pub words_in : List ℕ → ℕ
words_in bytes = length bytes / 8

-- the state after the first n words
abbrev pub after_words : FoldHasher → List ℕ → ℕ → FoldHasher
after_words state bytes zero = state
after_words state bytes (suc n) =
    folding.write (after_words state bytes n) (take 8 (drop (8 * n) bytes))

-- the state after all bytes: a word at a time, and then the up to seven that are left
abbrev pub after_bytes : KeyedHasher → List ℕ → KeyedHasher
after_bytes h bytes = record {
  state =
      folding.write (after_words h.state bytes (words_in bytes)) (drop (8 * words_in bytes) bytes);
}

abbrev pub hash_of : KeyedHasher → ℕ
hash_of h = folding.finish h.state

-- the key that a seed makes
abbrev pub key_of : List ℕ → HashKey
key_of seed = record { initial = after_bytes (record { state = folding.initial }) seed }

-- a hash with one more word
abbrev pub mix : ℕ → ℕ → ℕ
mix hash word = folding.folded_multiply (bit_xor hash word) 0x9e37_79b9_7f4a_7c15
