use Rattle.std.proofs.Common.{arith}
use Rattle.recording_rows.proofs.Plain.{word_of}
use Rattle.recording_rows.proofs.words.Word.of.Goals as goal

pub invariant_of-result : goal.invariant_of-result
invariant_of-result c = record { word = word_of c.args.bytes.now (omega arith) (c.are_plain.ensures.0 c.if-not-are_plain.false) }
