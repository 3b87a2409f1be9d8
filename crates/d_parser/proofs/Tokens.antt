-- A token by its fields, and the statements of those that may be there.
use Rattle.std.proofs.Common.{ℕ, List, Option}
use Rattle.std.specs.List.{filter_map}
use Rattle.d_lexer.specs.declared.token.Token.{Token}
use Rattle.d_lexer.specs.declared.token.TokenKind.{TokenKind}
use Rattle.d_parser.specs.Tree.{StmtTree}

abbrev pub token : TokenKind → (start stop line : ℕ) → Token
token k start stop line = record { kind = k; start = start; stop = stop; line = line }

abbrev pub present : List (Option StmtTree) → List StmtTree
present optionals = filter_map (λ s. s) optionals
