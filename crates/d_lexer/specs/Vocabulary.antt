-- The words of the definitions that the code declares, from one place.
pub use Rattle.std.specs.Char.{is_ascii_digit}
pub use Rattle.std.specs.List.{AllByRecursion}
pub use Rattle.d_lexer.specs.declared.fault.Flaw.{Flaw}
pub use Rattle.d_lexer.specs.declared.fault.Flaw.TheVariants.{BadByte, Unclosed, Constant, Escape}
pub use Rattle.d_lexer.specs.declared.fault.Flaw.TheVariants.{OptionLine}
pub use Rattle.d_lexer.specs.declared.fault.LexFault.{LexFault}
pub use Rattle.d_lexer.specs.declared.fault.Stop.{Stop}
pub use Rattle.d_lexer.specs.declared.fault.TheConstants.{MAX_BYTES}
pub use Rattle.d_lexer.specs.declared.token.Front.{Front}
pub use Rattle.d_lexer.specs.declared.token.Front.TheVariants.{Gap}
pub use Rattle.d_lexer.specs.declared.place.Place.{Place}
pub use Rattle.d_lexer.specs.declared.place.Place.TheVariants.{Head, Declaration, Predicate, Body}
pub use Rattle.d_lexer.specs.declared.position.Position.{Position}
pub use Rattle.d_lexer.specs.declared.token.Mark.{Mark}
pub use Rattle.d_lexer.specs.declared.token.Suffix.{Suffix}
pub use Rattle.d_lexer.specs.declared.token.Token.{Token}
pub use Rattle.d_lexer.specs.declared.token.TokenKind.{TokenKind}
