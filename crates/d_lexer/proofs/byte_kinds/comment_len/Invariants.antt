use Rattle.std.proofs.Common.{◌≡◌, ◌+◌, length}
use Rattle.d_lexer.specs.Steps.Scan.{comment_from}
use Rattle.d_lexer.proofs.Steps.{longer}
use Rattle.d_lexer.proofs.byte_kinds.comment_len.Given as goal

abbrev pub invariant-loop-rest : goal.invariant-loop-rest
invariant-loop-rest l = (longer l.n (comment_from l.rest) ≡ comment_from l.bytes) × (l.n + length l.rest ≡ length l.bytes)

abbrev pub decreases-loop-rest : goal.decreases-loop-rest
decreases-loop-rest l = length l.rest
