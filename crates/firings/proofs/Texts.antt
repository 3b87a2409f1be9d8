-- When bytes are a text.
use Rattle.std.proofs.Common.{◌≡◌, ◌≤◌, ℕ, Bool, true, false, cond, List, [], length, arith}
use Rattle.std.proofs.Common.{Some, None, refl, sym, inl, inr, leb, ◌∙◌}
use Rattle.std.specs.Prelude.{◌&&◌, ◌==◌, not, Contains, IsUtf8, MatchResult, is_ok, is_some, Result}
use Rattle.std.specs.Prelude.{Ok, Err}
use Rattle.std.specs.List.{list_any}
use Rattle.std.specs.Str.{is_utf8}
use Rattle.std.proofs.lemmas.Bool.{and_parts, cases_Bool, eq-eqb, false≢true, le-leb, leb-true, not-true}
use Rattle.std.proofs.lemmas.List.Folds.{list_any_at}
use Rattle.std.proofs.lemmas.Str.{is_utf8-from_IsUtf8, IsUtf8-from_is_utf8}
use Rattle.firings.specs.Firings.{IsText}
use Rattle.firings.specs.Texts.{text_of}

pub some_text : (bytes : List ℕ) → length bytes ≤ 255 → false ≡ list_any (λ b. b == 0) bytes → IsUtf8 bytes → text_of bytes ≡ Some bytes
some_text bytes short no_zero utf8 = rw (le-leb _ _ short, sym no_zero, is_utf8-from_IsUtf8 bytes utf8) refl

pub empty_text : text_of [] ≡ Some []
empty_text = some_text [] (omega arith) refl ([], (refl, refl))

pub no_text : (bytes : List ℕ) → ¬ (IsUtf8 bytes) → text_of bytes ≡ None
no_text bytes none = elim (cases_Bool (is_utf8 bytes)) [
  | inl text ↦ absurd (none (IsUtf8-from_is_utf8 bytes text))
  | inr other ↦ rw other (both (leb (length bytes) 255 && not (list_any (λ b. b == 0) bytes)))
]
  where
    both : (b : Bool) → cond (b && false) (Some bytes) None ≡ None
    both true = refl
    both false = refl

-- what is left to ask of bytes that are short and have no zero
pub asks_utf8 : {T E : Type 0} (P : T → Type 0) (Q : E → Type 0) (bytes : List ℕ) (read : Result T E) → length bytes ≤ 255 → false ≡ list_any (λ b. b == 0) bytes
    → MatchResult read (λ t. P t × IsUtf8 bytes) (λ e. ¬ (IsUtf8 bytes) × Q e) → is_ok read ≡ is_some (text_of bytes)
asks_utf8 P Q bytes (Ok t) short no_zero told = rw (some_text bytes short no_zero told.1) refl
asks_utf8 P Q bytes (Err e) short no_zero told = rw (no_text bytes told.0) refl

-- bytes that are a text are that text
pub own_text : (bytes : List ℕ) → is_some (text_of bytes) ≡ true → text_of bytes ≡ Some bytes
own_text bytes = by (leb (length bytes) 255 && not (list_any (λ b. b == 0) bytes) && is_utf8 bytes)
  where
    by : (b : Bool) → is_some (cond b (Some bytes) None) ≡ true → cond b (Some bytes) None ≡ Some bytes
    by true e = refl
    by false e = absurd cc

pub some_is : {A : Type 0} (x y : A) → Some x ≡ Some y → x ≡ y
some_is x y e = cc

-- what was chosen, where there is something
pub chosen : {A : Type 0} (b : Bool) (x y : A) → cond b (Some x) None ≡ Some y → (b ≡ true) × (x ≡ y)
chosen true x y e = (refl, some_is x y e)
chosen false x y e = absurd cc

no_zero : (bytes : List ℕ) → list_any (λ b. b == 0) bytes ≡ false → ¬ (Contains bytes 0)
no_zero bytes none found = false≢true (sym none ∙ list_any_at (λ b. b == 0) bytes found.0 0 found.1 (eq-eqb _ 0 found.2))

pub text_is : (bytes text : List ℕ) → text_of bytes ≡ Some text → (text ≡ bytes) × IsText text
text_is bytes text e =
    let c = chosen _ bytes text e in
    let parts = and_parts (leb (length bytes) 255 && not (list_any (λ b. b == 0) bytes)) (is_utf8 bytes) c.0 in
    let both = and_parts (leb (length bytes) 255) (not (list_any (λ b. b == 0) bytes)) parts.0 in
    (sym c.1, rw (← c.1) (record { short = leb-true (length bytes) 255 both.0; no_zero = no_zero bytes (not-true _ both.1); utf8 = IsUtf8-from_is_utf8 bytes parts.1 }))
