use Rattle.std.proofs.Common.{◌≡◌, ◌+◌, ◌≤◌, length}
use Rattle.d_lexer.specs.Places.{position_after}
use Rattle.d_lexer.proofs.position.Position.pass_all.Given as goal

abbrev pub invariant-loop-rest : goal.invariant-loop-rest
invariant-loop-rest l = (position_after l.here l.rest ≡ position_after l.fn.self l.bytes) × (l.here.at + length l.rest ≡ l.fn.self.at + length l.bytes) × (l.here.line ≤ l.here.at + 1)

abbrev pub decreases-loop-rest : goal.decreases-loop-rest
decreases-loop-rest l = length l.rest
