use Rattle.std.proofs.Common.{rules, ◌<◌, take, length, length-take, arith}
use Rattle.firing_reader.proofs.PlainFields.{digits_join, negative_read}
use Rattle.firing_reader.proofs.plain.field.below_zero.Goals as goal

pub returns : goal.returns
returns c =
    let field = take c.in_ok-number.count c.args.bytes.now in
    let some : 0 < length field = grind (arith, length-take) in
    let read = negative_read field c.in_ok-number.number some c.in_ok-number.ensures.digits c.in_ok-number.ensures.value (omega arith) in
    (field, record { split = c.rest_after.ensures; plain = digits_join field c.in_ok-number.ensures.digits }, search (rules, read))
