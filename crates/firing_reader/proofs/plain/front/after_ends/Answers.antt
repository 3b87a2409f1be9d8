use Rattle.std.proofs.Common.{arith}
use Rattle.firing_reader.proofs.PlainRows.{one_end}
use Rattle.firing_reader.proofs.plain.front.after_ends.Goals as goal

pub returns-in-len1-up : goal.returns-in-len1-up
returns-in-len1-up c = one_end c.args.bytes.now (omega (arith, c.in-len1-up.len_at_least)) (c.is_end.ensures c.if-is_end.true)
