use Rattle.std.proofs.Common.{◌≡◌, ◌+◌, length, false}
use Rattle.d_lexer.specs.Steps.Scan.{text_from}
use Rattle.d_lexer.proofs.Steps.{later_text}
use Rattle.d_lexer.proofs.text_constant.put_text.Given as goal

abbrev pub invariant-loop-rest : goal.invariant-loop-rest
invariant-loop-rest l = (later_text l.value.items l.n (text_from false l.rest) ≡ text_from false l.fn.bytes) × (l.n + length l.rest ≡ length l.fn.bytes)

abbrev pub decreases-loop-rest : goal.decreases-loop-rest
decreases-loop-rest l = length l.rest
