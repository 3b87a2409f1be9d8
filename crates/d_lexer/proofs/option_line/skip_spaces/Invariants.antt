use Rattle.std.proofs.Common.{◌≡◌, length}
use Rattle.d_lexer.specs.Steps.OptionLine.{skip_spaces}
use Rattle.d_lexer.proofs.option_line.skip_spaces.Given as goal

abbrev pub invariant-loop-rest : goal.invariant-loop-rest
invariant-loop-rest l = skip_spaces l.rest ≡ skip_spaces l.fn.bytes

abbrev pub decreases-loop-rest : goal.decreases-loop-rest
decreases-loop-rest l = length l.rest
