-- The type that words spell, by the first word and the others; what spells a type are words.
use Rattle.std.proofs.Common.{◌≡◌, ◌≤◌, Bool, true, false, List, [], ◌∷◌, length, get_or, take, drop}
use Rattle.std.proofs.Common.{◌-◌, map, Option, Some, None, refl, sym, ap, ◌∙◌, arith}
use Rattle.std.proofs.lemmas.List.{take_rest}
use Rattle.std.specs.Prelude.{option_map}
use Rattle.d_lexer.specs.declared.token.Token.{Token}
use Rattle.d_lexer.specs.declared.token.TokenKind.{TokenKind}
use Rattle.d_lexer.specs.declared.token.TokenKind.TheVariants as kind
use Rattle.d_parser.specs.declared.tree.DeclaredType.{DeclaredType}
use Rattle.d_parser.specs.declared.tree.DeclaredType.TheVariants as d
use Rattle.d_parser.specs.declared.tree.IntegerType.{IntegerType}
use Rattle.d_parser.specs.declared.words.WordKind.{WordKind}
use Rattle.d_parser.specs.declared.words.WordKind.TheVariants as w
use Rattle.d_parser.specs.Words.{word_kind_of, widths_of, type_of, type_of_words}
use Rattle.d_parser.specs.Steps.Words.{is_word, widths_with, signed_from, unsigned_from, type_from}
use Rattle.d_parser.proofs.Runs.{AreWords}

abbrev kinds : List Token → List WordKind
kinds ts = map (λ (t : Token). word_kind_of t.kind) ts

-- no width has four words
four_words : (j k l n : WordKind) (ks : List WordKind) → widths_of (j ∷ (k ∷ (l ∷ (n ∷ ks)))) ≡ None
four_words w.Short w.Int l n ks = refl
four_words w.Long w.Int l n ks = refl
four_words w.Long w.Long w.Int n ks = refl
four_words j k l n ks = refl

width_is : (k : WordKind) (ts : List Token) → widths_of (k ∷ kinds ts) ≡ widths_with k ts
width_is k [] = refl
width_is k (a ∷ []) = refl
width_is k (a ∷ (b ∷ [])) = refl
width_is k (a ∷ (b ∷ (c ∷ ts))) = four_words k (word_kind_of a.kind) (word_kind_of b.kind) (word_kind_of c.kind) (kinds ts)

signed_is : (ts : List Token) → option_map (λ (both : IntegerType × IntegerType). d.Integer both.0) (widths_of (kinds ts)) ≡ signed_from ts
signed_is [] = refl
signed_is (a ∷ ts) = ap (option_map (λ (both : IntegerType × IntegerType). d.Integer both.0)) (width_is (word_kind_of a.kind) ts)

unsigned_is : (ts : List Token) → option_map (λ (both : IntegerType × IntegerType). d.Integer both.1) (widths_of (kinds ts)) ≡ unsigned_from ts
unsigned_is [] = refl
unsigned_is (a ∷ ts) = ap (option_map (λ (both : IntegerType × IntegerType). d.Integer both.1)) (width_is (word_kind_of a.kind) ts)

plain_is : (k : WordKind) (ts : List Token) → option_map (λ (both : IntegerType × IntegerType). d.Integer both.0) (widths_of (k ∷ kinds ts)) ≡ option_map (λ (both : IntegerType × IntegerType). d.Integer both.0) (widths_with k ts)
plain_is k ts = ap (option_map (λ (both : IntegerType × IntegerType). d.Integer both.0)) (width_is k ts)

from_is : (k : WordKind) (ts : List Token) → type_of (k ∷ kinds ts) ≡ type_from k ts
from_is w.Signed ts = signed_is ts
from_is w.Unsigned ts = unsigned_is ts
from_is w.Text [] = refl
from_is w.Text (a ∷ ts) = plain_is w.Text (a ∷ ts)
from_is (w.Fixed t) [] = refl
from_is (w.Fixed t) (a ∷ ts) = plain_is (w.Fixed t) (a ∷ ts)
from_is k ts = plain_is k ts

pub type_is : (t : Token) (ts : List Token) → type_of_words (t ∷ ts) ≡ type_from (word_kind_of t.kind) ts
type_is t ts = from_is (word_kind_of t.kind) ts

-- by its first word
pub type_read : (words : List Token) (first : Token) → 1 ≤ length words → first ≡ get_or words 0 first → type_of_words words ≡ type_from (word_kind_of first.kind) (take (length words - 1) (drop 1 words))
type_read [] first l e = absurd (omega arith)
type_read (t ∷ ts) first l e = rw e (type_is t ts ∙ sym (ap (type_from (word_kind_of t.kind)) (take_rest (t ∷ ts) 1)))

-- ---- words alone

abbrev stands : WordKind → Bool
stands w.Plain = false
stands k = true

-- each stands for something
abbrev AllStand : List WordKind → Type 0
AllStand [] = Unit {0}
AllStand (k ∷ ks) = (stands k ≡ true) × AllStand ks

width_stands : (ks : List WordKind) (x : IntegerType × IntegerType) → widths_of ks ≡ Some x → AllStand ks
width_stands [] x e = tt
width_stands (w.Char ∷ []) x e = (refl, tt)
width_stands (w.Short ∷ []) x e = (refl, tt)
width_stands (w.Short ∷ (w.Int ∷ [])) x e = (refl, (refl, tt))
width_stands (w.Int ∷ []) x e = (refl, tt)
width_stands (w.Long ∷ []) x e = (refl, tt)
width_stands (w.Long ∷ (w.Int ∷ [])) x e = (refl, (refl, tt))
width_stands (w.Long ∷ (w.Long ∷ [])) x e = (refl, (refl, tt))
width_stands (w.Long ∷ (w.Long ∷ (w.Int ∷ []))) x e = (refl, (refl, (refl, tt)))
width_stands ks x e = absurd cc

mapped_stands : (f : IntegerType × IntegerType → DeclaredType) (ks : List WordKind) (o : Option (IntegerType × IntegerType)) (t : DeclaredType) → widths_of ks ≡ o → option_map f o ≡ Some t → AllStand ks
mapped_stands f ks None t e h = absurd cc
mapped_stands f ks (Some x) t e h = width_stands ks x e

signed_stands : (ks : List WordKind) (t : DeclaredType) → option_map (λ (both : IntegerType × IntegerType). d.Integer both.0) (widths_of ks) ≡ Some t → AllStand ks
signed_stands ks t h = mapped_stands (λ (both : IntegerType × IntegerType). d.Integer both.0) ks (widths_of ks) t refl h

type_stands : (ks : List WordKind) (t : DeclaredType) → type_of ks ≡ Some t → AllStand ks
type_stands [] t h = tt
type_stands (w.Signed ∷ ks) t h = (refl, signed_stands ks t h)
type_stands (w.Unsigned ∷ ks) t h = (refl, mapped_stands (λ (both : IntegerType × IntegerType). d.Integer both.1) ks (widths_of ks) t refl h)
type_stands (w.Text ∷ []) t h = (refl, tt)
type_stands (w.Text ∷ (k ∷ ks)) t h = signed_stands (w.Text ∷ (k ∷ ks)) t h
type_stands (w.Fixed n ∷ []) t h = (refl, tt)
type_stands (w.Fixed n ∷ (k ∷ ks)) t h = signed_stands (w.Fixed n ∷ (k ∷ ks)) t h
type_stands (k ∷ ks) t h = signed_stands (k ∷ ks) t h

stands_word : (k : TokenKind) → stands (word_kind_of k) ≡ true → is_word k ≡ true
stands_word (kind.Word name) h = refl
stands_word k h = absurd cc

all_words : (ts : List Token) → AllStand (kinds ts) → AreWords ts
all_words [] h = tt
all_words (t ∷ ts) h = (stands_word t.kind h.0, all_words ts h.1)

pub type_words : (ts : List Token) (t : DeclaredType) → type_of_words ts ≡ Some t → AreWords ts
type_words ts t h = all_words ts (type_stands (kinds ts) t h)
