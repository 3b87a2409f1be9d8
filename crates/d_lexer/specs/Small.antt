-- Numbers of tokens are below 2 ^ 64.
use Rattle.std.specs.Prelude.{◌<◌, ◌^◌, List}
use Rattle.std.specs.List.{AllByRecursion}
use Rattle.d_lexer.specs.declared.token.Token.{Token}
use Rattle.d_lexer.specs.declared.token.TokenKind.{TokenKind}
use Rattle.d_lexer.specs.declared.token.TokenKind.TheVariants as kind

abbrev pub HasSmallNumber : TokenKind → Type 0
HasSmallNumber (kind.Number n s) = n < 2 ^ 64
HasSmallNumber (kind.DescriptionRun w) = Unit {0}
HasSmallNumber (kind.Word w) = Unit {0}
HasSmallNumber (kind.AggregationName w) = Unit {0}
HasSmallNumber (kind.TextConstant w) = Unit {0}
HasSmallNumber (kind.Mark k) = Unit {0}

abbrev pub HaveSmallNumbers : List Token → Type 0
HaveSmallNumbers ts = AllByRecursion (λ t. HasSmallNumber t.kind) ts
