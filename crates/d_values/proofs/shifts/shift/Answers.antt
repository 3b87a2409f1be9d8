use Rattle.std.proofs.Common.{◌≡◌, ap, ◌∙◌, rules}
use Rattle.d_values.specs.Numbers.{number_of}
use Rattle.d_values.specs.Words.{shift_of}
use Rattle.d_values.proofs.Calls.{shifts}
use Rattle.d_values.proofs.shifts.shift.Goals as goal

pub returns-clause-number : goal.returns-clause-number
returns-clause-number c =
    let word : c.narrow_word.result ≡ shift_of c.args.op c.args.t c.args.a c.args.count = search rules in
    ap (number_of c.args.t) word ∙ shifts c.args.op c.args.t c.args.a c.args.count c.ranges.a.fits
