use Rattle.std.proofs.Common.{◌≡◌, map, take}
use Rattle.numbered.specs.Words.{bits_of}
use Rattle.numbered.proofs.kept_key.are_words.Given as goal

-- those so far are the same
abbrev pub invariant-loop-index : goal.invariant-loop-index
invariant-loop-index l = take l.index l.kept ≡ map bits_of (take l.index l.words)
