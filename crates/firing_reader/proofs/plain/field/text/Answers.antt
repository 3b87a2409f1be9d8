use Rattle.std.proofs.Common.{take, rules, arith, length, length-take, ◌≤◌}
use Rattle.firing_reader.proofs.PlainFields.{words_join}
use Rattle.firing_reader.proofs.FieldTexts.{words_text}
use Rattle.firing_reader.proofs.plain.field.text.Goals as goal

pub of-requires : goal.of-requires
of-requires c =
    let field = take c.word_front-count.result c.args.bytes.now in
    let short : length field ≤ 255 = grind (arith, length-take) in
    words_text field short c.word_front-count.ensures.1

pub returns : goal.returns
returns c =
    let field = take c.word_front-count.result c.args.bytes.now in
    let short : length field ≤ 255 = grind (arith, length-take) in
    let is = words_text field short c.word_front-count.ensures.1 in
    (field, record { split = rw (← c.in-Some.ensures) c.rest_after.ensures; plain = words_join field c.word_front-count.ensures.1 }, search (rules, is))
