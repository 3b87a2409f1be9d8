-- The line of a fault.
use Rattle.std.specs.Prelude.{ℕ, zero, List, [], ◌∷◌}
use Rattle.d_lexer.specs.declared.token.Token.{Token}
use Rattle.d_parser.specs.declared.fault.ParseFault.{ParseFault}
use Rattle.d_parser.specs.declared.fault.ParseFault.TheVariants as faults

-- the same fault, with the line at which the tokens end in place of 0
abbrev pub ending_on : ℕ → ParseFault → ParseFault
ending_on line (faults.Syntax zero) = faults.Syntax line
ending_on line e = e

-- the line of the first of these tokens, and 0 if there are none
abbrev pub line_at : List Token → ℕ
line_at [] = 0
line_at (t ∷ ts) = t.line
