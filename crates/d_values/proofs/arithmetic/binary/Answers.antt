use Rattle.std.proofs.Common.{◌≡◌, ap, ◌∙◌, rules}
use Rattle.d_values.specs.Numbers.{number_of}
use Rattle.d_values.specs.Words.{narrow, operate}
use Rattle.d_values.proofs.Calls.{computed}
use Rattle.d_values.proofs.arithmetic.binary.Goals as goal

pub returns-clause-number : goal.returns-clause-number
returns-clause-number c =
    let word : c.narrow_word.result ≡ narrow c.args.t (operate c.args.op c.args.t.signed c.args.a c.args.b) = search rules in
    ap (number_of c.args.t) word ∙ computed c.args.op c.args.t c.args.a c.args.b c.ranges.a.fits c.ranges.b.fits
