use Rattle.std.proofs.Common.{◌<◌, take, length, length-take, arith}
use Rattle.firing_reader.proofs.Numerals.{all_read}
use Rattle.firing_reader.proofs.PlainFields.{digits_join}
use Rattle.firing_reader.proofs.plain.field.whole.Goals as goal

pub returns-clause-value : goal.returns-clause-value
returns-clause-value c =
    let field = take c.in_ok-number.count c.args.bytes.now in
    let some : 0 < length field = grind (arith, length-take) in
    let read = all_read field c.in_ok-number.number c.args.least c.args.most some c.in_ok-number.ensures.digits c.in_ok-number.ensures.value (omega arith) (omega arith) in
    (field, record { split = rw (← c.in_ok-rest.ensures) c.rest_after.ensures; plain = digits_join field c.in_ok-number.ensures.digits }, read)
