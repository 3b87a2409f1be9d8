-- What spells a tree has a token for each place of a variable, and one at least.
use Rattle.std.proofs.Common.{◌≡◌, ℕ, zero, suc, ◌+◌, ◌<◌, ◌≤◌, max, List, [], ◌∷◌, ◌++◌, length}
use Rattle.std.proofs.Common.{length-append, ap, arith}
use Rattle.d_lexer.specs.declared.token.Mark.{Mark}
use Rattle.d_lexer.specs.declared.token.Mark.TheVariants as m
use Rattle.d_lexer.specs.declared.token.Token.{Token}
use Rattle.d_lexer.specs.declared.token.TokenKind.{TokenKind}
use Rattle.d_lexer.specs.declared.token.TokenKind.TheVariants as kind
use Rattle.d_parser.specs.declared.tree.Variable.{Variable}
use Rattle.d_parser.specs.declared.tree.Variable.TheVariants as v
use Rattle.d_parser.specs.Tree.{Tree, Known, Read, Call, Unary, Cast, Before, After, Binary, Choice}
use Rattle.d_parser.specs.Tree.{Assign, Trees, end, more}
use Rattle.d_parser.specs.Marks.{assign_mark, step_mark}
use Rattle.d_parser.specs.{Symbols.binary_mark, Steps.Marks.level_of}
use Rattle.d_parser.specs.Sizes.{places, places_in}
use Rattle.d_parser.specs.declared.tree.DeclaredType.{DeclaredType}
use Rattle.d_parser.specs.declared.tree.DeclaredType.TheVariants as d
use Rattle.d_parser.specs.declared.words.WordKind.{WordKind}
use Rattle.d_parser.specs.declared.words.WordKind.TheVariants as w
use Rattle.d_parser.specs.Grammar.{Part, IsToken, IsMark, Within, IsOfLevel, level, IsWord, IsMember}
use Rattle.d_parser.specs.Grammar.{IsTarget, IsType, Spells, SpellsKeys, SpellsList, SpellsMore}
use Rattle.d_parser.specs.Script.{EachAfter, SeparatedBy}

pub begins_one : (k : TokenKind) (line : ℕ) (ts rest : List Token) → IsToken k line ts rest → length ts ≡ suc (length rest)
begins_one k line ts rest h = ap length h.is

pub sign_one : (mark : Mark) (ts rest : List Token) → IsMark mark ts rest → length ts ≡ suc (length rest)
sign_one mark ts rest h = begins_one (kind.Mark mark) h.line ts rest h.begins

abbrev pub Takes : Part → Type 0
Takes P = (ts rest : List Token) → P ts rest → length rest < length ts

pub word_one : (which : WordKind) (word : List ℕ) (line : ℕ) (ts rest : List Token) → IsWord which word line ts rest → length ts ≡ suc (length rest)
word_one which word line ts rest h = begins_one (kind.Word word) line ts rest h.1

pub member_takes : (which : WordKind) (word : List ℕ) (line : ℕ) → Takes (IsMember which word line)
member_takes which word line ts rest h =
    let one = word_one which h.0 line ts h.2.0 h.2.1 in
    let two = sign_one m.Arrow h.2.0 h.2.2.0 h.2.2.1 in
    let three = word_one w.Plain word h.1 h.2.2.0 rest h.2.2.2 in
    omega arith

abbrev pub TakesAny : Part → Type 0
TakesAny P = (ts rest : List Token) → P ts rest → length rest ≤ length ts

pub type_takes : (t : DeclaredType) → TakesAny (IsType t)
type_takes t ts rest h = let one : length ts ≡ length (h.0 ++ rest) = ap length h.1 in let two = length-append h.0 rest in omega arith

pub same_length : (ts rest : List Token) → ts ≡ rest → length rest ≤ length ts
same_length ts rest e = let l : length ts ≡ length rest = ap length e in omega arith

-- ---- a token for each place of a variable, and one at least

-- what is spelled so takes n tokens at least
abbrev pub Uses : ℕ → Part → Type 0
Uses n P = (ts rest : List Token) → P ts rest → n + length rest ≤ length ts

within_uses : (k n : ℕ) (P : Part) → Uses k P → Uses k (Within n P)
within_uses k zero P f ts rest h = f ts rest h
within_uses k (suc n) P f ts rest h =
    let one = sign_one m.OpenParenthesis ts h.0 h.1 in
    let two = within_uses k n P f h.0 h.2.0 h.2.1 in
    let three = sign_one m.CloseParenthesis h.2.0 rest h.2.2 in
    omega arith

-- the tokens that a tree has at least
abbrev pub least : Tree → ℕ
least t = max 1 (places t)

expr_by : (t : Tree) (k : ℕ) → Uses (least t) (Spells t) → Uses (least t) (IsOfLevel (Spells t) (level t) k)
expr_by t k f ts rest h = within_uses (least t) h.pairs (Spells t) f ts rest h.within

target_uses : (x : Variable) (all : Trees) → Uses (places_in all) (SpellsKeys all) → Uses (suc (places_in all)) (IsTarget x all (SpellsKeys all))
target_uses (v.Plain line name) all f ts rest h =
    let one = word_one w.Plain name line ts h.0 h.1 in
    let two = f h.0 rest h.2 in
    omega arith
target_uses (v.Thread line name) all f ts rest h =
    let one = member_takes w.Thread name line ts h.0 h.1 in
    let two = f h.0 rest h.2 in
    omega arith
target_uses (v.Clause line name) all f ts rest h =
    let one = member_takes w.Clause name line ts rest h.1 in
    let none : places_in all ≡ 0 = ap places_in h.0 in
    omega arith

mutual
  uses : (t : Tree) → Uses (least t) (Spells t)
  uses (Known line constant) ts rest h = let one : length ts ≡ suc (length rest) = ap length h.is in omega arith
  uses (Read x keys) ts rest h = let one = target_uses x keys (keys_use keys) ts rest h in omega arith
  uses (Call line name arguments) ts rest h =
      let one = word_one w.Plain name line ts h.0 h.1 in
      let two = sign_one m.OpenParenthesis h.0 h.2.0 h.2.1 in
      let three = list_uses arguments h.2.0 h.2.2.0 h.2.2.1 in
      let four = sign_one m.CloseParenthesis h.2.2.0 rest h.2.2.2 in
      omega arith
  uses (Unary line op a) ts rest h =
      let one : length ts ≡ suc (length h.0) = ap length h.1.is in
      let two = expr_by a 14 (uses a) h.0 rest h.2 in
      omega arith
  uses (Cast line to a) ts rest h =
      let one : length ts ≡ suc (length h.0) = ap length h.1.is in
      let two = type_takes (d.Integer to) h.0 h.2.0 h.2.1 in
      let three = sign_one m.CloseParenthesis h.2.0 h.2.2.0 h.2.2.1 in
      let four = expr_by a 14 (uses a) h.2.2.0 rest h.2.2.2 in
      omega arith
  uses (Before line step x keys) ts rest h =
      let one : length ts ≡ suc (length h.0) = ap length h.1.is in
      let two = target_uses x keys (keys_use keys) h.0 rest h.2 in
      omega arith
  uses (After x keys step) ts rest h =
      let one = target_uses x keys (keys_use keys) ts h.0 h.1 in
      let two = sign_one (step_mark step) h.0 rest h.2 in
      omega arith
  uses (Binary op a b) ts rest h =
      let one = expr_by a (level_of op) (uses a) ts h.0 h.1 in
      let two = sign_one (binary_mark op) h.0 h.2.0 h.2.1 in
      let three = expr_by b (suc (level_of op)) (uses b) h.2.0 rest h.2.2 in
      omega arith
  uses (Choice test a b) ts rest h =
      let one = expr_by test 3 (uses test) ts h.0 h.1 in
      let two = sign_one m.Question h.0 h.2.0 h.2.1 in
      let three = expr_by a 1 (uses a) h.2.0 h.2.2.0 h.2.2.1 in
      let four = sign_one m.Colon h.2.2.0 h.2.2.2.0 h.2.2.2.1 in
      let five = expr_by b 2 (uses b) h.2.2.2.0 rest h.2.2.2.2 in
      omega arith
  uses (Assign op x keys a) ts rest h =
      let one = target_uses x keys (keys_use keys) ts h.0 h.1 in
      let two = sign_one (assign_mark op) h.0 h.2.0 h.2.1 in
      let three = expr_by a 1 (uses a) h.2.0 rest h.2.2 in
      omega arith

  pub keys_use : (l : Trees) → Uses (places_in l) (SpellsKeys l)
  keys_use end ts rest h = let e = same_length ts rest h in omega arith
  keys_use (more a l) ts rest h =
      let one = sign_one m.OpenBracket ts h.0 h.1 in
      let two = expr_by a 1 (uses a) h.0 h.2.1.0 h.2.1.1 in
      let three = more_uses l h.2.1.0 h.2.0 h.2.1.2 in
      let four = sign_one m.CloseBracket h.2.0 rest h.2.2 in
      omega arith

  pub list_uses : (l : Trees) → Uses (places_in l) (SpellsList l)
  list_uses end ts rest h = let e = same_length ts rest h in omega arith
  list_uses (more a l) ts rest h =
      let two = expr_by a 1 (uses a) ts h.0 h.1 in
      let three = more_uses l h.0 rest h.2 in
      omega arith

  more_uses : (l : Trees) → Uses (places_in l) (SpellsMore l)
  more_uses end ts rest h = let e = same_length ts rest h in omega arith
  more_uses (more a l) ts rest h =
      let one = sign_one m.Comma ts h.0 h.1 in
      let two = expr_by a 1 (uses a) h.0 h.2.0 h.2.1 in
      let three = more_uses l h.2.0 rest h.2.2 in
      omega arith

pub expr_uses : (t : Tree) (k : ℕ) → Uses (least t) (IsOfLevel (Spells t) (level t) k)
expr_uses t k = expr_by t k (uses t)

pub takes : (t : Tree) → Takes (Spells t)
takes t ts rest h = let used = uses t ts rest h in omega arith

pub expr_takes : (t : Tree) (k : ℕ) → Takes (IsOfLevel (Spells t) (level t) k)
expr_takes t k ts rest h = let used = expr_uses t k ts rest h in omega arith

pub target_takes : (x : Variable) (all : Trees) → Takes (IsTarget x all (SpellsKeys all))
target_takes x all ts rest h = let used = target_uses x all (keys_use all) ts rest h in omega arith

pub keys_take : (l : Trees) → TakesAny (SpellsKeys l)
keys_take l ts rest h = let used = keys_use l ts rest h in omega arith

-- ---- lists

pub each_takes : {A : Type 0} (mark : Mark) (Is : A → Part) → ((x : A) → TakesAny (Is x)) → (xs : List A) → TakesAny (EachAfter mark Is xs)
each_takes mark Is f [] ts rest h = same_length ts rest h
each_takes mark Is f (x ∷ xs) ts rest h =
    let one = sign_one mark ts h.0 h.1 in
    let two = f x h.0 h.2.0 h.2.1 in
    let three = each_takes mark Is f xs h.2.0 rest h.2.2 in
    omega arith

pub between_takes : {A : Type 0} (mark : Mark) (Is : A → Part) → ((x : A) → TakesAny (Is x)) → (xs : List A) → TakesAny (SeparatedBy mark Is xs)
between_takes mark Is f [] ts rest h = absurd h
between_takes mark Is f (x ∷ xs) ts rest h =
    let one = f x ts h.0 h.1 in
    let two = each_takes mark Is f xs h.0 rest h.2 in
    omega arith
