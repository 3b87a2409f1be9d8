use Rattle.std.proofs.Common.{◌≡◌, ap, ◌∙◌, rules}
use Rattle.d_values.specs.Numbers.{number_of}
use Rattle.d_values.specs.Words.{difference_of, narrow}
use Rattle.d_values.proofs.Calls.{opposites}
use Rattle.d_values.proofs.word.negate.Goals as goal

pub returns-clause-number : goal.returns-clause-number
returns-clause-number c =
    let word : c.narrow_word.result ≡ narrow c.args.t (difference_of 0 c.args.a) = search rules in
    ap (number_of c.args.t) word ∙ opposites c.args.t c.args.a c.ranges.a.fits
