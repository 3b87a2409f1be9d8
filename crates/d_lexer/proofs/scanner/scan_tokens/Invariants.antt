use Rattle.std.proofs.Common.{◌≡◌, ◌+◌, ◌≤◌, length}
use Rattle.d_lexer.specs.Places.{first_position}
use Rattle.d_lexer.specs.Steps.Scan.{scan}
use Rattle.d_lexer.specs.Steps.Lexing.{with_tokens}
use Rattle.d_lexer.specs.declared.place.Place.TheVariants.{Head}
use Rattle.d_lexer.proofs.scanner.scan_tokens.Given as goal

abbrev pub invariant-loop-rest : goal.invariant-loop-rest
invariant-loop-rest l =
    (with_tokens l.tokens.items (scan 0 l.place l.pos l.rest) ≡ scan 0 Head first_position l.bytes) × (l.pos.at + length l.rest ≡ length l.bytes) × (l.pos.line ≤ l.pos.at + 1)

abbrev pub decreases-loop-rest : goal.decreases-loop-rest
decreases-loop-rest l = length l.rest
