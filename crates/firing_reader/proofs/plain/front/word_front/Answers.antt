use Rattle.std.proofs.lemmas.List.Elements.{All-more}
use Rattle.firing_reader.specs.Steps.Plain.{IsWordByte}
use Rattle.firing_reader.proofs.plain.front.word_front.Goals as goal

pub loop-at-preserved : goal.loop-at-preserved
loop-at-preserved c = All-more IsWordByte c.args.bytes.now c.loop-at.at 0 c.loop-at-test.true c.loop-at.invariant (c.is_word_byte.ensures c.if-not-is_word_byte.false)
