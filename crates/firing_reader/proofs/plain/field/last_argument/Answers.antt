use Rattle.std.proofs.Common.{rules}
use Rattle.firing_reader.proofs.PlainRows.{closes_one}
use Rattle.firing_reader.proofs.plain.field.last_argument.Goals as goal

pub returns : goal.returns
returns c =
    let (field, fronts, read) = c.in_ok-value.ensures in
    (field, closes_one c.args.bytes.now field c.in_ok-value.rest.now (c.begins_at_end.ensures c.if-not-begins_at_end.false) fronts, search (rules, read))
