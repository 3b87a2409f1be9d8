-- Lists cut in two, and tests.
use Rattle.std.proofs.Common.{◌≡◌, ◌&&◌, ℕ, suc, Bool, true, false, cond, List, [], ◌∷◌, ◌++◌}
use Rattle.std.proofs.Common.{length, take, take_while, refl, sym, ap, subst, ◌∙◌}
use Rattle.std.proofs.lemmas.List.Sums.{take_while-cons}
use Rattle.std.specs.{Char.is_ascii_digit, List.AllZip, List.concat}
use Rattle.d_lexer.specs.declared.token.TokenKind.{TokenKind}
use Rattle.d_lexer.specs.declared.token.TokenKind.TheVariants as kind
use Rattle.d_lexer.specs.declared.place.Place.{Place}
use Rattle.d_lexer.specs.declared.place.Place.TheVariants.{Head, Declaration, Predicate, Body}
use Rattle.d_lexer.specs.declared.position.Position.{Position}
use Rattle.d_lexer.specs.Bytes.{is_word_start, is_word_byte}
use Rattle.d_lexer.specs.Numbers.{IsIntegerConstant}
use Rattle.d_lexer.specs.Places.{position_after, after_byte, is_head}
use Rattle.d_lexer.specs.Tokens.{Fills, IsLongestRun, SpellsAggregation, SpellsByte, SpellsText}
use Rattle.d_lexer.specs.Tokens.{IsMark}
use Rattle.d_lexer.specs.Tokens.{SpellsToken}
use Rattle.d_lexer.specs.{Faults.IsFault}
use Rattle.d_lexer.specs.Steps.Scan.{run_len, front_run, scan, TokensEnd, Clean, Bad}

-- z is own and rest, own has n bytes, and P holds of them
pub record Split (P : List ℕ → List ℕ → Type 0) (n : ℕ) (z : List ℕ) : Type 0 where
  pub own : List ℕ
  pub rest : List ℕ
  pub is : z ≡ own ++ rest
  pub size : n ≡ length own
  pub holds : P own rest

-- what is left where the tokens end
abbrev pub EndsAs : TokensEnd → Place → Position → List ℕ → Type 0
EndsAs Clean = λ p pos rest. rest ≡ []
EndsAs (Bad fault) = IsFault fault

pub cond_is : {A : Type 0} (P : A → Type 0) (c : Bool) (x y : A) → (c ≡ true → P x) → (c ≡ false → P y) → P (cond c x y)
cond_is P true x y f g = f refl
cond_is P false x y f g = g refl

pub both_true : (a b : Bool) → (a && b) ≡ true → (a ≡ true) × (b ≡ true)
both_true true b e = (refl, e)
both_true false b e = absurd cc

pub take_own : (own rest : List ℕ) → take (length own) (own ++ rest) ≡ own
take_own [] rest = refl
take_own (b ∷ own) rest = ap (λ (xs : List ℕ). b ∷ xs) (take_own own rest)

run_cons : (test : ℕ → Bool) (b : ℕ) (z : List ℕ) → run_len test (b ∷ z) ≡ cond (test b) (suc (run_len test z)) 0
run_cons test b z = ap (λ (xs : List ℕ). length xs) (take_while-cons test b z) ∙ by (test b) where
  by : (c : Bool) → length (cond c (b ∷ take_while test z) []) ≡ cond c (suc (run_len test z)) 0
  by true = refl
  by false = refl

pub run_fills : (test : ℕ → Bool) (own rest : List ℕ) → Fills test own rest → run_len test (own ++ rest) ≡ length own
run_fills test [] [] h = refl
run_fills test [] (b ∷ rest) h = let s = h.stops in run_cons test b rest ∙ rw s refl
run_fills test (b ∷ own) rest h = let s = h.all.0 in run_cons test b (own ++ rest) ∙ rw s (ap suc (run_fills test own rest (record { all = h.all.1; stops = h.stops })))

pub run_is : (test : ℕ → Bool) (own rest : List ℕ) → Fills test own rest → front_run test (own ++ rest) ≡ own
run_is test own rest h = rw (run_fills test own rest h) (take_own own rest)

run_more : (test : ℕ → Bool) (b : ℕ) (z : List ℕ) → test b ≡ true → Split (Fills test) (run_len test z) z → Split (Fills test) (suc (run_len test z)) (b ∷ z)
run_more test b z e s = record { own = b ∷ s.own; rest = s.rest; is = ap (λ (xs : List ℕ). b ∷ xs) s.is; size = ap suc s.size; holds = record { all = (e, s.holds.all); stops = s.holds.stops } }

pub run_splits : (test : ℕ → Bool) (z : List ℕ) → Split (Fills test) (run_len test z) z
run_splits test [] = record { own = []; rest = []; is = refl; size = refl; holds = record { all = tt; stops = tt } }
run_splits test (b ∷ z) =
    subst (λ (n : ℕ). Split (Fills test) n (b ∷ z)) (sym (run_cons test b z))
    (cond_is (λ (n : ℕ). Split (Fills test) n (b ∷ z)) (test b) (suc (run_len test z)) 0
    (λ e. run_more test b z e (run_splits test z))
    (λ e. record { own = []; rest = b ∷ z; is = refl; size = refl; holds = record { all = tt; stops = e } }))

-- ---- text constants

-- the bytes of a text constant in turn, each before what is written of those after it
abbrev pub SpellInTurn : List ℕ → List ℕ → Type 0
SpellInTurn own [] = own ≡ []
SpellInTurn own (x ∷ xs) =
    (first : List ℕ) × (others : List ℕ) × (own ≡ first ++ others) × SpellsByte x first × SpellInTurn others xs

turns : (xs : List ℕ) (parts : List (List ℕ)) (own : List ℕ) → AllZip SpellsByte xs parts → own ≡ concat parts → SpellInTurn own xs
turns [] [] own h is = is
turns [] (part ∷ parts) own h is = absurd h
turns (x ∷ xs) [] own h is = absurd h
turns (x ∷ xs) (part ∷ parts) own h is = (part, concat parts, is, h.0, turns xs parts (concat parts) h.1 refl)

pub in_turn : (own xs : List ℕ) → SpellsText own xs → SpellInTurn own xs
in_turn own xs h = turns xs h.0 own h.1 h.2

pub spell_text : (own xs : List ℕ) → SpellInTurn own xs → SpellsText own xs
spell_text own [] h = ([], tt, h)
spell_text own (x ∷ xs) h =
    let later = spell_text h.1 xs h.4 in
    (h.0 ∷ later.0, (h.3, later.1), h.2 ∙ ap (λ (zs : List ℕ). h.0 ++ zs) later.2)

-- ---- tokens outside the head, by their kinds

abbrev pub SpellsInside : Place → (own rest : List ℕ) → TokenKind → Type 0
SpellsInside p own rest (kind.DescriptionRun w) = ⊥
SpellsInside p own rest (kind.Word w) = (w ≡ own) × IsLongestRun is_word_start is_word_byte own rest
SpellsInside p own rest (kind.AggregationName w) = SpellsAggregation own rest w
SpellsInside p own rest (kind.Number n s) = IsIntegerConstant own n s × IsLongestRun is_ascii_digit is_word_byte own rest
SpellsInside p own rest (kind.TextConstant w) = (body : List ℕ) × (own ≡ 34 ∷ (body ++ 34 ∷ [])) × SpellsText body w
SpellsInside p own rest (kind.Mark k) = IsMark p own rest k

-- both say the same outside the head
record IsSame (A B : Type 0) : Type 0 where
  to : A → B
  from : B → A

same : {A : Type 0} → IsSame A A
same = record { to = λ h. h; from = λ h. h }

inside_is : (p : Place) (own rest : List ℕ) (t : TokenKind) → is_head p ≡ false → IsSame (SpellsInside p own rest t) (SpellsToken p own rest t)
inside_is Head own rest t e = absurd cc
inside_is Declaration own rest (kind.DescriptionRun w) e = same
inside_is Declaration own rest (kind.Word w) e = same
inside_is Declaration own rest (kind.AggregationName w) e = same
inside_is Declaration own rest (kind.Number n s) e = same
inside_is Declaration own rest (kind.TextConstant w) e = same
inside_is Declaration own rest (kind.Mark k) e = same
inside_is Predicate own rest (kind.DescriptionRun w) e = same
inside_is Predicate own rest (kind.Word w) e = same
inside_is Predicate own rest (kind.AggregationName w) e = same
inside_is Predicate own rest (kind.Number n s) e = same
inside_is Predicate own rest (kind.TextConstant w) e = same
inside_is Predicate own rest (kind.Mark k) e = same
inside_is Body own rest (kind.DescriptionRun w) e = same
inside_is Body own rest (kind.Word w) e = same
inside_is Body own rest (kind.AggregationName w) e = same
inside_is Body own rest (kind.Number n s) e = same
inside_is Body own rest (kind.TextConstant w) e = same
inside_is Body own rest (kind.Mark k) e = same

pub inside_spells : (p : Place) (own rest : List ℕ) (t : TokenKind) → is_head p ≡ false → SpellsInside p own rest t → SpellsToken p own rest t
inside_spells p own rest t e = (inside_is p own rest t e).to

pub spelled_inside : (p : Place) (own rest : List ℕ) (t : TokenKind) → is_head p ≡ false → SpellsToken p own rest t → SpellsInside p own rest t
spelled_inside p own rest t e = (inside_is p own rest t e).from

-- ---- passing bytes

pub scan_skip : (p : Place) (pos : Position) (own rest : List ℕ) → scan (length own) p pos (own ++ rest) ≡ scan 0 p (position_after pos own) rest
unfolding scan
scan_skip p pos [] rest = refl
scan_skip p pos (b ∷ own) rest = scan_skip p (after_byte pos b) own rest
