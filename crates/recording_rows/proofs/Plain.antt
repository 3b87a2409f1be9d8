-- Bytes that a field holds as they are.
use Rattle.std.proofs.Common.{◌≡◌, ◌≢◌, ◌<◌, ◌≤◌, ◌^◌, ℕ, true, false, List, [], ◌∷◌, length, get_or, refl, subst, arith}
use Rattle.std.specs.Prelude.{◌&&◌, ◌==◌, not, nat_le, Contains, EachIndex, slice_index}
use Rattle.std.specs.List.{list_all, list_any}
use Rattle.std.specs.Fmt.{decimal}
use Rattle.std.specs.Str.Parse.{AllDigits}
use Rattle.std.proofs.lemmas.Bool.{and_parts, leb-true, not-true, le-leb, ne_eqb}
use Rattle.std.proofs.lemmas.Fmt.{decimal_is_IsNumeral}
use Rattle.std.proofs.lemmas.List.{get_or_default}
use Rattle.std.proofs.lemmas.List.Sums.{AllPass-from_list_all, list_all-from_AllPass}
use Rattle.std.proofs.lemmas.Str.{IsUtf8-from_ascii}
use Rattle.std.proofs.lemmas.Str.Ascii.{IsAscii-from_all}
use Rattle.std.proofs.lemmas.Str.Parse.{digit_at}
use Rattle.csv.specs.Writing.{default_writer, needs_byte}
use Rattle.firings.specs.Firings.{IsText}
use Rattle.recording_rows.specs.Words.{is_plain_byte, is_word}

-- what a plain byte is
pub record IsPlain (b : ℕ) : Type 0 where
  pub low : 32 ≤ b
  pub high : b ≤ 126
  pub no_quote : (b == 34) ≡ false
  pub no_comma : (b == 44) ≡ false

pub plain_parts : (b : ℕ) → is_plain_byte b ≡ true → IsPlain b
plain_parts b e =
    let both = and_parts (nat_le 32 b && nat_le b 126 && not (b == 34)) (not (b == 44)) e in
    let three = and_parts (nat_le 32 b && nat_le b 126) (not (b == 34)) both.0 in
    let two = and_parts (nat_le 32 b) (nat_le b 126) three.0 in
    record { low = leb-true 32 b two.0; high = leb-true b 126 two.1; no_quote = not-true _ three.1; no_comma = not-true _ both.1 }

pub plain_byte : (b : ℕ) → 32 ≤ b → b ≤ 126 → b ≢ 34 → b ≢ 44 → is_plain_byte b ≡ true
plain_byte b low high quote comma = rw (le-leb 32 b low, le-leb b 126 high, ne_eqb b 34 quote, ne_eqb b 44 comma) refl

-- no mark of csv
no_marks : (b : ℕ) → is_plain_byte b ≡ true → needs_byte default_writer b ≡ false
no_marks b e =
    let p = plain_parts b e in
    rw (p.no_comma, p.no_quote, ne_eqb b 13 (λ is. absurd (omega (arith, p.low, is))), ne_eqb b 10 (λ is. absurd (omega (arith, p.low, is)))) refl

pub as_it_is : (x : List ℕ) → list_all is_plain_byte x ≡ true → list_any (needs_byte default_writer) x ≡ false
as_it_is [] e = refl
as_it_is (b ∷ x) e =
    let both = and_parts (is_plain_byte b) (list_all is_plain_byte x) e in
    rw (no_marks b both.0) (as_it_is x both.1)

-- digits
digits_plain : (xs : List ℕ) → AllDigits 10 xs → list_all is_plain_byte xs ≡ true
digits_plain [] all = refl
digits_plain (c ∷ cs) all =
    let d = digit_at (c ∷ cs) 0 all (omega arith) in
    rw (plain_byte c (omega (arith, d.0)) (omega (arith, d.1)) (λ is. absurd (omega (arith, d.0, is))) (λ is. absurd (omega (arith, d.0, is)))) (digits_plain cs all.1)

pub decimal_plain : (n : ℕ) → n < 2 ^ 64 → list_all is_plain_byte (decimal n) ≡ true
decimal_plain n fits = digits_plain (decimal n) (decimal_is_IsNumeral n fits).0.1

-- texts
pub word_plain : (bytes : List ℕ) → is_word bytes ≡ true → list_all is_plain_byte bytes ≡ true
word_plain bytes e = (and_parts (nat_le (length bytes) 255) (list_all is_plain_byte bytes) e).1

pub word_text : (bytes : List ℕ) → is_word bytes ≡ true → IsText bytes
word_text bytes e =
    let parts = and_parts (nat_le (length bytes) 255) (list_all is_plain_byte bytes) e in
    let all = AllPass-from_list_all is_plain_byte bytes parts.1 in
    record {
      short = leb-true (length bytes) 255 parts.0;
      no_zero = λ (found : Contains bytes 0). (let p = plain_parts (get_or bytes found.0 0) (all found.0 0 found.1) in omega (arith, p.low, found.2));
      utf8 = IsUtf8-from_ascii bytes (IsAscii-from_all bytes (λ k d lt. let p = plain_parts (get_or bytes k d) (all k d lt) in omega (arith, p.high)));
    }

pub word_of : (bytes : List ℕ) → length bytes ≤ 255 → EachIndex bytes (λ k. is_plain_byte (slice_index bytes k) ≡ true) → is_word bytes ≡ true
word_of bytes short each =
    rw (le-leb (length bytes) 255 short, list_all-from_AllPass is_plain_byte bytes (λ k d lt. subst (λ (b : ℕ). is_plain_byte b ≡ true) (get_or_default bytes k 0 d lt) (each k lt))) refl
