-- Reserved words, and the types that words spell.
-- Source: Dynamic Tracing Guide, "Keywords" and "Data Types and Sizes".
use Rattle.std.specs.Prelude.{ℕ, List, [], ◌∷◌, map, Option, Some, None, option_map, codes}
use Rattle.std.specs.{Map.lookup, Option.unwrap_or}
use Rattle.d_parser.specs.Vocabulary.{bytes_eq, Token, TokenKind, WordKind, IntegerType}
use Rattle.d_parser.specs.Vocabulary.{DeclaredType}
use Rattle.d_parser.specs.declared.words.WordKind.TheVariants as kind
use Rattle.d_parser.specs.declared.tree.IntegerType.TheVariants as integer

-- ---- reserved words

abbrev pub reserved_words : List (List ℕ × WordKind)
reserved_words =
    (codes "self", kind.Thread) ∷ (codes "this", kind.Clause) ∷ (codes "string", kind.Text)
    ∷ (codes "char", kind.Char) ∷ (codes "short", kind.Short) ∷ (codes "int", kind.Int)
    ∷ (codes "long", kind.Long) ∷ (codes "signed", kind.Signed) ∷ (codes "unsigned", kind.Unsigned)
    ∷ (codes "int8_t", kind.Fixed integer.Int8) ∷ (codes "int16_t", kind.Fixed integer.Int16)
    ∷ (codes "int32_t", kind.Fixed integer.Int32) ∷ (codes "int64_t", kind.Fixed integer.Int64)
    ∷ (codes "uint8_t", kind.Fixed integer.Uint8) ∷ (codes "uint16_t", kind.Fixed integer.Uint16)
    ∷ (codes "uint32_t", kind.Fixed integer.Uint32) ∷ (codes "uint64_t", kind.Fixed integer.Uint64)
    ∷ []

-- what a word stands for
abbrev pub word_kind : List ℕ → WordKind
word_kind word = unwrap_or (lookup (bytes_eq word) reserved_words) kind.Plain

-- what a token stands for as a word; one that is none spells no type
abbrev pub word_kind_of : TokenKind → WordKind
word_kind_of (TokenKind.Word word) = word_kind word
word_kind_of t = kind.Plain

-- ---- types

-- the signed and the unsigned type of a width, by its words; with none it is that of `int`
abbrev pub widths_of : List WordKind → Option (IntegerType × IntegerType)
widths_of (kind.Char ∷ []) = Some (integer.Int8, integer.Uint8)
widths_of (kind.Short ∷ []) = Some (integer.Int16, integer.Uint16)
widths_of (kind.Short ∷ (kind.Int ∷ [])) = Some (integer.Int16, integer.Uint16)
widths_of [] = Some (integer.Int32, integer.Uint32)
widths_of (kind.Int ∷ []) = Some (integer.Int32, integer.Uint32)
widths_of (kind.Long ∷ []) = Some (integer.Int64, integer.Uint64)
widths_of (kind.Long ∷ (kind.Int ∷ [])) = Some (integer.Int64, integer.Uint64)
widths_of (kind.Long ∷ (kind.Long ∷ [])) = Some (integer.Int64, integer.Uint64)
widths_of (kind.Long ∷ (kind.Long ∷ (kind.Int ∷ []))) = Some (integer.Int64, integer.Uint64)
widths_of others = None

-- `string`, the name of a fixed width, or a sign, a width or both
abbrev pub type_of : List WordKind → Option DeclaredType
type_of [] = None
type_of (kind.Text ∷ []) = Some DeclaredType.Text
type_of (kind.Fixed t ∷ []) = Some (DeclaredType.Integer t)
type_of (kind.Signed ∷ width) = option_map (λ both. DeclaredType.Integer both.0) (widths_of width)
type_of (kind.Unsigned ∷ width) = option_map (λ both. DeclaredType.Integer both.1) (widths_of width)
type_of width = option_map (λ both. DeclaredType.Integer both.0) (widths_of width)

-- the type that these tokens spell
abbrev pub type_of_words : List Token → Option DeclaredType
type_of_words words = type_of (map (λ t. word_kind_of t.kind) words)
