use Rattle.std.proofs.Common.{◌≡◌, take}
use Rattle.numbered.specs.Tables.{key_of}
use Rattle.numbered.proofs.kept_key.KeptKey.of.Given as goal

-- the words so far
abbrev pub invariant-loop-word : goal.invariant-loop-word
invariant-loop-word l = l.key ≡ key_of l.first l.second (take l.word-index l.words)
