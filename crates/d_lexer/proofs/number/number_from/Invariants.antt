use Rattle.std.proofs.Common.{◌≡◌, length}
use Rattle.d_lexer.specs.Steps.Numbers.{number_from}
use Rattle.d_lexer.proofs.number.number_from.Given as goal

abbrev pub invariant-loop-rest : goal.invariant-loop-rest
invariant-loop-rest l = number_from l.fn.base l.n l.rest ≡ number_from l.fn.base l.fn.first l.fn.bytes

abbrev pub decreases-loop-rest : goal.decreases-loop-rest
decreases-loop-rest l = length l.rest
