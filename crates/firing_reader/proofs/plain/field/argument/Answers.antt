use Rattle.std.proofs.Common.{arith, rules, take}
use Rattle.firing_reader.proofs.PlainFields.{digits_join, minus_more, positive_read}
use Rattle.firing_reader.proofs.plain.field.argument.Goals as goal

pub returns-in-Some : goal.returns-in-Some
returns-in-Some c = minus_more c.args.bytes.now c.in-Some.rest.now c.in-Some.ensures c.below_zero.result c.below_zero.ensures

pub returns : goal.returns
returns c =
    let field = take c.in_ok-number.count c.args.bytes.now in
    let read = positive_read field c.in_ok-number.number c.in_ok-number.ensures.digits c.in_ok-number.ensures.value (omega arith) in
    (field, record { split = c.rest_after.ensures; plain = digits_join field c.in_ok-number.ensures.digits }, search (rules, read))
