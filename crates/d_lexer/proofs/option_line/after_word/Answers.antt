use Rattle.std.proofs.lemmas.Bool.Decides.{Decides-eqb}
use Rattle.std.proofs.lemmas.Slice.Eq.{strip_prefix_is}
use Rattle.d_lexer.proofs.OptionLines.{later_found}
use Rattle.d_lexer.proofs.option_line.after_word.Goals as goal

pub returns : goal.returns
returns c = later_found c.args.word.now c.args.bytes.now c.strip_prefix.result (strip_prefix_is Decides-eqb c.args.bytes.now c.args.word.now c.strip_prefix.result c.strip_prefix.ensures.cases)
