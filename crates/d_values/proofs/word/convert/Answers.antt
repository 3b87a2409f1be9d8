use Rattle.std.proofs.Common.{ap, ◌∙◌}
use Rattle.d_values.specs.Numbers.{number_of}
use Rattle.d_values.proofs.Calls.{converted}
use Rattle.d_values.proofs.word.convert.Goals as goal

pub returns-clause-number : goal.returns-clause-number
returns-clause-number c = ap (number_of c.args.to) c.narrow_word.ensures ∙ converted c.args.from c.args.to c.args.value c.ranges.value.fits
