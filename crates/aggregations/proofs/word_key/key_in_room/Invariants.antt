use Rattle.std.proofs.Common.{◌≡◌, take, length}
use Rattle.numbered.specs.Words.{key_in}
use Rattle.aggregations.proofs.word_key.key_in_room.Given as goal

abbrev pub invariant-loop-index : goal.invariant-loop-index
invariant-loop-index l = record {
  length : length l.key ≡ length l.made.words.now;
  parts : take l.index l.key ≡ key_in l.made.texts.now (take l.index l.made.words.now);
}
