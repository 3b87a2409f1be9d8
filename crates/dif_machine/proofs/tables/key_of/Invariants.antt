use Rattle.std.proofs.Common.{◌≡◌, take}
use Rattle.dif_machine.specs.Machine.{key_in}
use Rattle.dif_machine.proofs.tables.key_of.Given as goal

abbrev pub invariant-loop-word : goal.invariant-loop-word
invariant-loop-word l = l.key ≡ key_in l.texts (take l.word-index l.words)
