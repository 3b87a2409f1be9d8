-- Words and types as they are read: by the first word and the others.
use Rattle.std.specs.Prelude.{ℕ, Bool, true, false, if◌then◌else◌, List, [], ◌∷◌, drop, Option}
use Rattle.std.specs.Prelude.{Some, None, option_map}
use Rattle.std.specs.{Map.lookup, Option.unwrap_or, Str.bytes_eq}
use Rattle.d_parser.specs.Vocabulary.{Token, TokenKind, WordKind, IntegerType, DeclaredType}
use Rattle.d_parser.specs.Words.{reserved_words, word_kind_of, widths_of, type_of_words}

abbrev pub kind_among : List (List ℕ × WordKind) → List ℕ → WordKind
kind_among entries word = unwrap_or (lookup (bytes_eq word) entries) WordKind.Plain

abbrev pub integer_words : List (List ℕ × WordKind)
integer_words = drop 3 reserved_words

abbrev pub fixed_words : List (List ℕ × WordKind)
fixed_words = drop 9 reserved_words

abbrev pub unsigned_words : List (List ℕ × WordKind)
unsigned_words = drop 13 reserved_words

-- the width that words spell, by the first and the tokens of the others
abbrev pub widths_with : WordKind → List Token → Option (IntegerType × IntegerType)
widths_with k [] = widths_of (k ∷ [])
widths_with k (a ∷ []) = widths_of (k ∷ (word_kind_of a.kind ∷ []))
widths_with k (a ∷ (b ∷ [])) = widths_of (k ∷ (word_kind_of a.kind ∷ (word_kind_of b.kind ∷ [])))
widths_with k ts = None

abbrev pub signed_from : List Token → Option DeclaredType
signed_from [] = Some (DeclaredType.Integer IntegerType.Int32)
signed_from (a ∷ ts) =
    option_map (λ both. DeclaredType.Integer both.0) (widths_with (word_kind_of a.kind) ts)

abbrev pub unsigned_from : List Token → Option DeclaredType
unsigned_from [] = Some (DeclaredType.Integer IntegerType.Uint32)
unsigned_from (a ∷ ts) =
    option_map (λ both. DeclaredType.Integer both.1) (widths_with (word_kind_of a.kind) ts)

-- the type that words spell, by the first and the tokens of the others
abbrev pub type_from : WordKind → List Token → Option DeclaredType
type_from (WordKind.Fixed t) [] = Some (DeclaredType.Integer t)
type_from WordKind.Text [] = Some DeclaredType.Text
type_from WordKind.Signed ts = signed_from ts
type_from WordKind.Unsigned ts = unsigned_from ts
type_from k ts = option_map (λ both. DeclaredType.Integer both.0) (widths_with k ts)

abbrev pub only_integer : Option DeclaredType → Option IntegerType
only_integer (Some (DeclaredType.Integer t)) = Some t
only_integer o = None

-- the integer type that words spell
abbrev pub integer_type : List Token → Option IntegerType
integer_type ts = only_integer (type_of_words ts)

-- the words that begin a type
abbrev pub begins_type : WordKind → Bool
begins_type WordKind.Plain = false
begins_type WordKind.Thread = false
begins_type WordKind.Clause = false
begins_type k = true

abbrev pub is_word : TokenKind → Bool
is_word (TokenKind.Word word) = true
is_word t = false

-- the words at the front, and what comes after them
unfoldable pub run : List Token → List Token
run [] = []
run (t ∷ ts) = if is_word t.kind then t ∷ run ts else []

unfoldable pub after_run : List Token → List Token
after_run [] = []
after_run (t ∷ ts) = if is_word t.kind then after_run ts else t ∷ ts
