-- How a script writes operators and types.
-- Source: Dynamic Tracing Guide, "Types, Operators, and Expressions".
use Rattle.std.specs.Prelude.{Bool, ℕ, List, [], codes}
use Rattle.std.specs.{List.find, Option.option_map_or}
use denote.Enum.Bare.{sameb}
use Rattle.d_lexer.specs.contracts.token.Mark.{the_type}
use Rattle.d_lexer.specs.Marks.{marks_in}
use Rattle.d_lexer.specs.declared.place.Place.TheVariants.{Body}
use Rattle.d_parser.specs.Vocabulary.{Mark, IntegerType, DeclaredType, BinaryOperator}
use Rattle.d_parser.specs.Marks.{mark_and_level}

abbrev pub binary_mark : BinaryOperator → Mark
binary_mark op = (mark_and_level op).0

-- `==` on marks
abbrev pub same_mark : Mark → Mark → Bool
same_mark = sameb the_type

-- the bytes of a mark
abbrev pub text_of : Mark → List ℕ
text_of mark = option_map_or (λ e. e.0) (find (λ e. same_mark e.1 mark) (marks_in Body)) []

abbrev pub integer_word : IntegerType → List ℕ
integer_word IntegerType.Int8 = codes "int8_t"
integer_word IntegerType.Int16 = codes "int16_t"
integer_word IntegerType.Int32 = codes "int32_t"
integer_word IntegerType.Int64 = codes "int64_t"
integer_word IntegerType.Uint8 = codes "uint8_t"
integer_word IntegerType.Uint16 = codes "uint16_t"
integer_word IntegerType.Uint32 = codes "uint32_t"
integer_word IntegerType.Uint64 = codes "uint64_t"

abbrev pub type_word : DeclaredType → List ℕ
type_word (DeclaredType.Integer t) = integer_word t
type_word DeclaredType.Text = codes "string"
