use Rattle.std.proofs.Common.{◌≡◌}
use Rattle.d_lexer.specs.Lexing.{settle}
use Rattle.d_lexer.proofs.Settling.{settle_first}
use Rattle.d_lexer.proofs.closing_slash.settle.Given as goal

abbrev pub invariant-loop-i : goal.invariant-loop-i
invariant-loop-i l = settle_first l.i l.brace l.tokens ≡ settle l.initial.tokens
