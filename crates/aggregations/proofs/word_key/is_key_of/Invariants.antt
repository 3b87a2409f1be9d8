use Rattle.std.proofs.Common.{◌≡◌, take}
use Rattle.numbered.specs.Words.{key_in}
use Rattle.aggregations.proofs.word_key.is_key_of.Given as goal

abbrev pub invariant-loop-index : goal.invariant-loop-index
invariant-loop-index l = take l.index l.parts ≡ key_in l.made.texts.now (take l.index l.made.words.now)
