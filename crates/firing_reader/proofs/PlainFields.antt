-- What the digits at the front of bytes write.
use Rattle.std.proofs.Common.{get_or, ◌≡◌, ◌<◌, ◌≤◌, ◌+◌, ◌^◌, ℕ, ℤ, pos, neg_ℤ}
use Rattle.std.proofs.Common.{◌-◌, List, [], ◌∷◌, length, Option, None, Some}
use Rattle.std.proofs.Common.{refl, ap, ◌∙◌, arith, All, Bor}
use Rattle.std.specs.Prelude.{IfSome}
use Rattle.std.specs.Str.Parse.{digits_value, AllDigits}
use Rattle.std.proofs.lemmas.Bool.{ne_eqb}
use Rattle.std.proofs.lemmas.Str.Parse.{digit_at, digits_value_short}
use Rattle.std.proofs.lemmas.Str.{digit_value_digit}
use Rattle.std.proofs.lemmas.List.Elements.{All-cons, All-from_get_or, All-nil}
use Rattle.firing_reader.proofs.Numerals.{all_read}
use Rattle.firing_reader.specs.Column.{number_from, signed_of}
use Rattle.firing_reader.specs.Steps.Plain.{BeginsWith, IsWordByte, JoinsField}

-- a byte from the minus on
word_joins : (b : ℕ) → 45 ≤ b → JoinsField b
word_joins b le = (λ e. absurd (omega arith), λ e. absurd (omega arith), λ e. absurd (omega arith), λ e. absurd (omega arith))

pub digits_join : (xs : List ℕ) → AllDigits 10 xs → All JoinsField xs
digits_join xs all = All-from_get_or JoinsField xs 0 (λ i within. word_joins (get_or xs i 0) (omega (arith, (digit_at xs i all within).0)))

pub words_join : (xs : List ℕ) → All IsWordByte xs → All JoinsField xs
words_join xs all = λ i d within. word_joins (get_or xs i d) (all i d within).0

pub negative_read : (xs : List ℕ) (n : ℕ) → 0 < length xs → AllDigits 10 xs → n ≡ digits_value 10 xs → n ≤ 2 ^ 63 → signed_of (45 ∷ xs) ≡ Some (neg_ℤ (pos n))
negative_read xs n some all value fits = rw (all_read xs n 0 (2 ^ 63) some all value (omega arith) fits) refl

pub positive_read : (xs : List ℕ) (n : ℕ) → AllDigits 10 xs → n ≡ digits_value 10 xs → n ≤ 2 ^ 63 - 1 → signed_of xs ≡ Some (pos n)
positive_read [] n all value fits = rw value refl
positive_read (b ∷ rest) n all value fits =
    let d = digit_at (b ∷ rest) 0 all (omega arith) in
    rw (ne_eqb b 45 (λ e. absurd (omega (arith, d.0, d.1, e))), all_read (b ∷ rest) n 0 (2 ^ 63 - 1) (omega arith) all value (omega arith) fits) refl

-- digits that 64 bits hold
pub digits_fit : (xs : List ℕ) → AllDigits 10 xs → length xs ≤ 19 → digits_value 10 xs < 10 ^ 19
digits_fit xs all few = digits_value_short (record { to = λ ds p. p; from = λ ds p. p; same = λ ds p. refl }) xs 19 all few

-- one digit and what it writes
pub one_joins : (d : ℕ) → d < 10 → All JoinsField ((48 + d) ∷ [])
one_joins d lt = All-cons JoinsField (48 + d) [] (word_joins (48 + d) (omega arith)) (All-nil JoinsField)

one_digits : (d : ℕ) → d < 10 → AllDigits 10 ((48 + d) ∷ [])
one_digits d lt =
    let is = digit_value_digit (48 + d) (omega arith, omega arith) in
    (omega (arith, is), tt)

one_value : (d : ℕ) → d < 10 → d ≡ digits_value 10 ((48 + d) ∷ [])
one_value d lt =
    let is = digit_value_digit (48 + d) (omega arith, omega arith) in
    omega (arith, is)

pub one_signed : (d : ℕ) → d < 10 → signed_of ((48 + d) ∷ []) ≡ Some (pos d)
one_signed d lt = positive_read ((48 + d) ∷ []) d (one_digits d lt) (one_value d lt) (omega arith)

pub one_whole : (d most : ℕ) → d < 10 → d ≤ most → number_from 0 most ((48 + d) ∷ []) ≡ Some d
one_whole d most lt le = all_read ((48 + d) ∷ []) d 0 most (omega arith) (one_digits d lt) (one_value d lt) (omega arith) le

-- a minus before what writes a size
pub minus_more : (bytes rest : List ℕ) → bytes ≡ 45 ∷ rest → (o : Option (ℤ × Bor (List ℕ)))
    → IfSome o (λ p. (field : List ℕ) × BeginsWith rest field p.1.now × (signed_of (45 ∷ field) ≡ Some p.0))
    → IfSome o (λ p. (field : List ℕ) × BeginsWith bytes field p.1.now × (signed_of field ≡ Some p.0))
minus_more bytes rest is None h = h
minus_more bytes rest is (Some p) (field, fronts, read) = (45 ∷ field, record { split = is ∙ ap (λ (l : List ℕ). 45 ∷ l) fronts.split; plain = All-cons JoinsField 45 field (word_joins 45 (omega arith)) fronts.plain }, read)
