-- A run is read as a number exactly where it is one.
use Rattle.std.proofs.Common.{◌≡◌, ◌≢◌, eqb, ◌||◌, ◌&&◌, ℕ, suc, ◌+◌, ◌*◌, ◌-◌, ◌^◌, ◌<◌, ◌≤◌, Bool}
use Rattle.std.proofs.Common.{true, false, cond, List, [], ◌∷◌, ◌++◌, length, Option, Some, None}
use Rattle.std.proofs.Common.{refl, sym, ap, subst, ◌∙◌, arith, lit<, lit≤, nat_lt}
use Rattle.std.proofs.Math.Nat.{pow-zero, pow-suc, add-mul, mul_assoc, mul_comm, one-le-pow}
use Rattle.std.proofs.Math.Nat.{le-mul_of_pos_right}
use Rattle.std.proofs.lemmas.Bool.{eqb-true}
use Rattle.std.proofs.lemmas.Bool.Decides.{nat_tests}
use Rattle.std.specs.Prelude.{option_and_then}
use Rattle.std.specs.Char.{is_ascii_digit, is_digit, digit_value, to_ascii_lowercase}
use Rattle.std.specs.Char.{eq_ignore_ascii_case}
use Rattle.std.specs.Str.Parse.{AllDigits, digits_value, digits_value_after}
use Rattle.d_lexer.specs.declared.token.Suffix.{Suffix}
use Rattle.d_lexer.specs.declared.token.Suffix.TheVariants.{Absent, Unsigned, Long, UnsignedLong}
use Rattle.d_lexer.specs.Numbers.{suffix_of, IsBase}
use Rattle.d_lexer.specs.Numbers.{hexadecimal, octal, decimal, IsIntegerConstant}
use Rattle.d_lexer.specs.Steps.Numbers.{digit_of, is_u, is_l, is_x, suffix_by_letters, with_suffix}
use Rattle.d_lexer.specs.Steps.Numbers.{number_by, number_from, hex_by, zero_from, number_spelled}
use Rattle.d_lexer.proofs.Base.{cond_is}

-- ---- letters and digits by the tables

lower_is : (c low up : ℕ) → 97 ≤ low → low ≤ 122 → up + 32 ≡ low → eqb (to_ascii_lowercase c) low ≡ (eqb c low || eqb c up)
lower_is c low up from to e = by (nat_lt c 65) (nat_lt c 91) refl refl where
  by : (a b : Bool) → nat_lt c 65 ≡ a → nat_lt c 91 ≡ b → eqb (cond a c (cond b (c + 32) c)) low ≡ (eqb c low || eqb c up)
  by true b ea eb = grind (arith, nat_tests)
  by false true ea eb = grind (arith, nat_tests)
  by false false ea eb = grind (arith, nat_tests)

u_is : (c : ℕ) → eqb (to_ascii_lowercase c) 117 ≡ is_u c
u_is c = lower_is c 117 85 (lit≤ tt) (lit≤ tt) refl

l_is : (c : ℕ) → eqb (to_ascii_lowercase c) 108 ≡ is_l c
l_is c = lower_is c 108 76 (lit≤ tt) (lit≤ tt) refl

x_is : (c : ℕ) → eq_ignore_ascii_case c 120 ≡ is_x c
x_is c = lower_is c 120 88 (lit≤ tt) (lit≤ tt) refl

suffix_is : (z : List ℕ) → suffix_of z ≡ suffix_by_letters z
unfolding suffix_of suffix_by_letters
suffix_is [] = refl
suffix_is (a ∷ []) = by (eqb (to_ascii_lowercase a) 117) (eqb (to_ascii_lowercase a) 108) (is_u a) (is_l a) (u_is a) (l_is a) where
  same : (u l : Bool) → cond (u && true) (Some Unsigned) (cond (l && true) (Some Long) (cond (u && false) (Some UnsignedLong) (cond (l && false) (Some Long) (cond (u && false) (Some UnsignedLong) None)))) ≡ cond u (Some Unsigned) (cond l (Some Long) None)
  same true l = refl
  same false true = refl
  same false false = refl

  by : (x y u l : Bool) → x ≡ u → y ≡ l → cond (x && true) (Some Unsigned) (cond (y && true) (Some Long) (cond (x && false) (Some UnsignedLong) (cond (y && false) (Some Long) (cond (x && false) (Some UnsignedLong) None)))) ≡ cond u (Some Unsigned) (cond l (Some Long) None)
  by x y u l e f = rw (e, f) (same u l)
suffix_is (a ∷ b ∷ []) = by (eqb (to_ascii_lowercase a) 117) (eqb (to_ascii_lowercase a) 108) (eqb (to_ascii_lowercase b) 108) (is_u a) (is_l a) (is_l b) (u_is a) (l_is a) (l_is b) where
  same : (u l k : Bool) → cond (u && false) (Some Unsigned) (cond (l && false) (Some Long) (cond (u && (k && true)) (Some UnsignedLong) (cond (l && (k && true)) (Some Long) (cond (u && (k && false)) (Some UnsignedLong) None)))) ≡ cond (u && k) (Some UnsignedLong) (cond (l && k) (Some Long) None)
  same true true true = refl
  same true true false = refl
  same true false true = refl
  same true false false = refl
  same false true true = refl
  same false true false = refl
  same false false k = refl

  by : (x y z u l k : Bool) → x ≡ u → y ≡ l → z ≡ k
      → cond (x && false) (Some Unsigned) (cond (y && false) (Some Long) (cond (x && (z && true)) (Some UnsignedLong) (cond (y && (z && true)) (Some Long) (cond (x && (z && false)) (Some UnsignedLong) None)))) ≡ cond (u && k) (Some UnsignedLong) (cond (l && k) (Some Long) None)
  by x y z u l k e f g = rw (e, f, g) (same u l k)
suffix_is (a ∷ b ∷ c ∷ []) = by (eqb (to_ascii_lowercase a) 117) (eqb (to_ascii_lowercase a) 108) (eqb (to_ascii_lowercase b) 108) (eqb (to_ascii_lowercase c) 108) (is_u a) (is_l b) (is_l c) (u_is a) (l_is b) (l_is c) where
  same : (u y k j : Bool) → cond (u && false) (Some Unsigned) (cond (y && false) (Some Long) (cond (u && (k && false)) (Some UnsignedLong) (cond (y && (k && false)) (Some Long) (cond (u && (k && (j && true))) (Some UnsignedLong) None)))) ≡ cond (u && k && j) (Some UnsignedLong) None
  same true true true true = refl
  same true true true false = refl
  same true true false j = refl
  same true false true true = refl
  same true false true false = refl
  same true false false j = refl
  same false true true j = refl
  same false true false j = refl
  same false false k j = refl

  by : (x y z w u k j : Bool) → x ≡ u → z ≡ k → w ≡ j
      → cond (x && false) (Some Unsigned) (cond (y && false) (Some Long) (cond (x && (z && false)) (Some UnsignedLong) (cond (y && (z && false)) (Some Long) (cond (x && (z && (w && true))) (Some UnsignedLong) None)))) ≡ cond (u && k && j) (Some UnsignedLong) None
  by x y z w u k j e f g = rw (e, f, g) (same u y k j)
suffix_is (a ∷ b ∷ c ∷ d ∷ z) = by (eqb (to_ascii_lowercase a) 117) (eqb (to_ascii_lowercase a) 108) (eqb (to_ascii_lowercase b) 108) (eqb (to_ascii_lowercase c) 108) where
  by : (x y k j : Bool) → cond (x && false) (Some Unsigned) (cond (y && false) (Some Long) (cond (x && (k && false)) (Some UnsignedLong) (cond (y && (k && false)) (Some Long) (cond (x && (k && (j && false))) (Some UnsignedLong) None)))) ≡ None
  by true true true true = refl
  by true true true false = refl
  by true true false j = refl
  by true false true true = refl
  by true false true false = refl
  by true false false j = refl
  by false true true j = refl
  by false true false j = refl
  by false false k j = refl

digit_is : (base d k : ℕ) → digit_of base d ≡ Some k → (is_digit d base ≡ true) × (k ≡ digit_value d)
digit_is base d k e =
    cond_is (λ (o : Option ℕ). o ≡ Some k → (is_digit d base ≡ true) × (k ≡ digit_value d)) (is_digit d base) (Some (digit_value d)) None
    (λ is f. (is, cc))
    (λ _ f. absurd cc)
    e

digit_as : (base d : ℕ) → is_digit d base ≡ true → digit_of base d ≡ Some (digit_value d)
digit_as base d e = rw e refl

-- one digit more, after a first part
horner : (a base k p m : ℕ) → (a * base + k) * p + m ≡ a * (p * base) + (k * p + m)
horner a base k p m =
    let e : (a * base + k) * p ≡ a * base * p + k * p = add-mul (a * base) k p in
    let f : a * base * p ≡ a * (p * base) = mul_assoc a base p ∙ ap (λ (x : ℕ). a * x) (mul_comm base p) in
    omega (arith, e, f)

one_power : (base acc : ℕ) → acc ≡ acc * base ^ 0 + 0
one_power base acc = rw (pow-zero base) (omega arith)

no_first : (x y : ℕ) → 0 * x + y ≡ y
no_first x y = omega arith

-- ---- the value of digits, from the first on

-- the digits of the base stand for the number: each for its value times a power of the base
abbrev DigitsStandFor : ℕ → List ℕ → ℕ → Type 0
DigitsStandFor base [] n = n ≡ 0
DigitsStandFor base (d ∷ ds) n =
    (m : ℕ) × (is_digit d base ≡ true) × DigitsStandFor base ds m
    × (n ≡ digit_value d * base ^ length ds + m)

value_after : (base n : ℕ) (ds : List ℕ) → digits_value_after base n ds ≡ n * base ^ length ds + digits_value base ds
value_after base n [] = one_power base n
value_after base n (d ∷ ds) =
    let k = digit_value d in
    let p = base ^ length ds in
    let v = digits_value base ds in
    let e : base ^ suc (length ds) ≡ p * base = pow-suc base (length ds) in
    let own : digits_value_after base (0 * base + k) ds ≡ k * p + v = value_after base (0 * base + k) ds ∙ horner 0 base k p v ∙ no_first (p * base) (k * p + v) in
    value_after base (n * base + k) ds ∙ horner n base k p v ∙ (λ i. n * (sym e i) + (sym own i))

value_first : (base d : ℕ) (ds : List ℕ) → digits_value base (d ∷ ds) ≡ digit_value d * base ^ length ds + digits_value base ds
value_first base d ds =
    value_after base (0 * base + digit_value d) ds ∙ horner 0 base (digit_value d) (base ^ length ds) (digits_value base ds)
    ∙ no_first (base ^ length ds * base) (digit_value d * base ^ length ds + digits_value base ds)

passes : (v base : ℕ) → v < base → nat_lt v base ≡ true
passes v base h = grind (arith, nat_tests)

below : (v base : ℕ) → nat_lt v base ≡ true → v < base
below v base h = grind (arith, nat_tests)

stands_for : (base : ℕ) (ds : List ℕ) → AllDigits base ds → DigitsStandFor base ds (digits_value base ds)
stands_for base [] h = refl
stands_for base (d ∷ ds) h = (digits_value base ds, passes (digit_value d) base h.0, stands_for base ds h.1, value_first base d ds)

are_digits : (base : ℕ) (ds : List ℕ) (n : ℕ) → DigitsStandFor base ds n → AllDigits base ds
are_digits base [] n h = tt
are_digits base (d ∷ ds) n h = (below (digit_value d) base h.1, are_digits base ds h.0 h.2)

value_is : (base : ℕ) (ds : List ℕ) (n : ℕ) → DigitsStandFor base ds n → n ≡ digits_value base ds
value_is base [] n h = h
value_is base (d ∷ ds) n h = h.3 ∙ ap (λ (x : ℕ). digit_value d * base ^ length ds + x) (value_is base ds h.0 h.2) ∙ sym (value_first base d ds)

-- ---- what is read is a number

-- the digits after a first part acc, and the suffix
record ReadAs (base acc : ℕ) (z : List ℕ) (n : ℕ) (s : Suffix) : Type 0 where
  digits : List ℕ
  later : List ℕ
  own : ℕ
  is : z ≡ digits ++ later
  value : DigitsStandFor base digits own
  whole : n ≡ acc * base ^ length digits + own
  fits : n < 2 ^ 64
  suffix : suffix_by_letters later ≡ Some s

abbrev pair : ℕ → Suffix → ℕ × Suffix
pair n s = (n, s)

same_parts : (a b : ℕ) (t s : Suffix) → Some (pair a t) ≡ Some (pair b s) → (a ≡ b) × (t ≡ s)
same_parts a b t s e = let both : pair a t ≡ pair b s = cc in (ap (λ (x : ℕ × Suffix). x.0) both, ap (λ (x : ℕ × Suffix). x.1) both)

read_none : (base acc : ℕ) (z : List ℕ) (n : ℕ) (s : Suffix) → acc < 2 ^ 64 → with_suffix acc (suffix_by_letters z) ≡ Some (n, s) → ReadAs base acc z n s
read_none base acc z n s low e = by (suffix_by_letters z) refl e where
  by : (o : Option Suffix) → suffix_by_letters z ≡ o → with_suffix acc o ≡ Some (n, s) → ReadAs base acc z n s
  by None o_is e = absurd cc
  by (Some t) o_is e =
      let same = same_parts acc n t s e in
      let n_is : acc ≡ n = same.0 in
      record { digits = []; later = z; own = 0; is = refl; value = refl; whole = sym n_is ∙ one_power base acc; fits = rw (← n_is) low; suffix = o_is ∙ ap (λ (x : Suffix). Some x) same.1 }

read_more : (base acc d k : ℕ) (ds : List ℕ) (n : ℕ) (s : Suffix) → digit_of base d ≡ Some k → ReadAs base (acc * base + k) ds n s → ReadAs base acc (d ∷ ds) n s
read_more base acc d k ds n s dk r =
    let p = base ^ length r.digits in
    let e : base ^ suc (length r.digits) ≡ p * base = pow-suc base (length r.digits) in
    let digit = digit_is base d k dk in
    record {
      digits = d ∷ r.digits;
      later = r.later;
      own = k * p + r.own;
      is = ap (λ (xs : List ℕ). d ∷ xs) r.is;
      value = (r.own, digit.0, r.value, ap (λ (x : ℕ). x * p + r.own) digit.1);
      whole = r.whole ∙ horner acc base k p r.own ∙ ap (λ (x : ℕ). acc * x + (k * p + r.own)) (sym e);
      fits = r.fits;
      suffix = r.suffix;
    }

read_by : (base acc d : ℕ) (ds : List ℕ) (n : ℕ) (s : Suffix) → acc < 2 ^ 64 → ((k : ℕ) → k < 2 ^ 64 → number_from base k ds ≡ Some (n, s) → ReadAs base k ds n s) →
    (o : Option ℕ) → digit_of base d ≡ o → number_by (λ k. number_from base k ds) base acc (d ∷ ds) o ≡ Some (n, s) → ReadAs base acc (d ∷ ds) n s
read_by base acc d ds n s low go None dk e = read_none base acc (d ∷ ds) n s low e
read_by base acc d ds n s low go (Some k) dk e =
    cond_is (λ (o : Option ℕ). option_and_then (λ k. number_from base k ds) o ≡ Some (n, s) → ReadAs base acc (d ∷ ds) n s) (nat_lt (acc * base + k) (2 ^ 64)) (Some (acc * base + k)) None
    (λ below f. read_more base acc d k ds n s dk (go (acc * base + k) (grind (arith, nat_tests)) f))
    (λ _ f. absurd cc)
    e

read_is : (base acc : ℕ) (z : List ℕ) (n : ℕ) (s : Suffix) → acc < 2 ^ 64 → number_from base acc z ≡ Some (n, s) → ReadAs base acc z n s
unfolding number_from suffix_by_letters
read_is base acc [] n s low e = read_none base acc [] n s low e
read_is base acc (d ∷ ds) n s low e = read_by base acc d ds n s low (λ k h f. read_is base k ds n s h f) (digit_of base d) refl e

-- ---- no digit begins a suffix

suffix_letter : (a : ℕ) (z : List ℕ) (s : Suffix) → suffix_by_letters (a ∷ z) ≡ Some s → (is_u a || is_l a) ≡ true
unfolding suffix_by_letters
suffix_letter a [] s e = by (is_u a) (is_l a) e where
  by : (u l : Bool) → cond u (Some Unsigned) (cond l (Some Long) None) ≡ Some s → (u || l) ≡ true
  by true l e = refl
  by false true e = refl
  by false false e = absurd cc
suffix_letter a (b ∷ []) s e = by (is_u a) (is_l a) (is_l b) e where
  by : (u l k : Bool) → cond (u && k) (Some UnsignedLong) (cond (l && k) (Some Long) None) ≡ Some s → (u || l) ≡ true
  by true l k e = refl
  by false true k e = refl
  by false false k e = absurd cc
suffix_letter a (b ∷ c ∷ []) s e = by (is_u a) (is_l a) (is_l b) (is_l c) e where
  by : (u l k j : Bool) → cond (u && k && j) (Some UnsignedLong) None ≡ Some s → (u || l) ≡ true
  by true l k j e = refl
  by false l k j e = absurd cc
suffix_letter a (b ∷ c ∷ d ∷ z) s e = absurd cc

letter_high : (a : ℕ) → (is_u a || is_l a) ≡ true → 16 ≤ digit_value a
letter_high a h = by (eqb a 117) (eqb a 85) (eqb a 108) (eqb a 76) refl refl refl refl h where
  by : (p q r s : Bool) → eqb a 117 ≡ p → eqb a 85 ≡ q → eqb a 108 ≡ r → eqb a 76 ≡ s → ((p || q) || (r || s)) ≡ true → 16 ≤ digit_value a
  by true q r s ep eq er es e = let is : a ≡ 117 = eqb-true a 117 ep in rw is (lit≤ tt)
  by false true r s ep eq er es e = let is : a ≡ 85 = eqb-true a 85 eq in rw is (lit≤ tt)
  by false false true s ep eq er es e = let is : a ≡ 108 = eqb-true a 108 er in rw is (lit≤ tt)
  by false false false true ep eq er es e = let is : a ≡ 76 = eqb-true a 76 es in rw is (lit≤ tt)
  by false false false false ep eq er es e = absurd cc

not_below : (v base : ℕ) → base ≤ v → nat_lt v base ≡ false
not_below v base h = grind (arith, nat_tests)

no_digit : (base a : ℕ) → base ≤ 16 → (is_u a || is_l a) ≡ true → digit_of base a ≡ None
no_digit base a small h =
    let high = letter_high a h in
    let e : is_digit a base ≡ false = not_below (digit_value a) base (omega (arith, high)) in
    rw e refl

some_none : (o : Option ℕ) (k : ℕ) → o ≡ Some k → o ≡ None → ⊥
some_none o k e f = cc

-- ---- whole runs

hex_is : (x d k : ℕ) (z : List ℕ) (n : ℕ) (s : Suffix) → is_x x ≡ true → digit_of 16 d ≡ Some k → ReadAs 16 0 (d ∷ z) n s → IsIntegerConstant (48 ∷ (x ∷ (d ∷ z))) n s
hex_is x d k z n s is dk r = by r.digits r.is r.value r.whole where
  by : (digits : List ℕ) → (d ∷ z) ≡ digits ++ r.later → DigitsStandFor 16 digits r.own → n ≡ 0 * 16 ^ length digits + r.own → IsIntegerConstant (48 ∷ (x ∷ (d ∷ z))) n s
  by [] cut value whole = absurd (some_none (digit_of 16 d) k dk (no_digit 16 d (lit≤ tt) (suffix_letter d z s (ap suffix_by_letters cut ∙ r.suffix))))
  by (e ∷ digits) cut value whole =
      let n_is : n ≡ r.own = whole ∙ no_first (16 ^ length (e ∷ digits)) r.own in
      record {
        base = 16;
        before = 48 ∷ (x ∷ []);
        digits = e ∷ digits;
        later = r.later;
        is = ap (λ (xs : List ℕ). 48 ∷ (x ∷ xs)) cut;
        stated = hexadecimal x e digits refl refl (x_is x ∙ is) refl;
        are = are_digits 16 (e ∷ digits) r.own value;
        value = n_is ∙ value_is 16 (e ∷ digits) r.own value;
        fits = r.fits;
        suffix = suffix_is r.later ∙ r.suffix;
      }

octal_is : (z : List ℕ) (n : ℕ) (s : Suffix) → ReadAs 8 0 z n s → IsIntegerConstant (48 ∷ z) n s
octal_is z n s r =
    let stands : DigitsStandFor 8 (48 ∷ r.digits) n = (r.own, refl, r.value, r.whole) in
    record {
      base = 8;
      before = [];
      digits = 48 ∷ r.digits;
      later = r.later;
      is = ap (λ (xs : List ℕ). 48 ∷ xs) r.is;
      stated = octal r.digits refl refl refl;
      are = are_digits 8 (48 ∷ r.digits) n stands;
      value = value_is 8 (48 ∷ r.digits) n stands;
      fits = r.fits;
      suffix = suffix_is r.later ∙ r.suffix;
    }

decimal_is : (d : ℕ) (z : List ℕ) (n : ℕ) (s : Suffix) → d ≢ 48 → (is_digit d 10 ≡ true) × (digit_value d ≡ d - 48) → ReadAs 10 (d - 48) z n s → IsIntegerConstant (d ∷ z) n s
decimal_is d z n s other dk r =
    let stands : DigitsStandFor 10 (d ∷ r.digits) n = (r.own, dk.0, r.value, r.whole ∙ ap (λ (k : ℕ). k * 10 ^ length r.digits + r.own) (sym dk.1)) in
    record {
      base = 10;
      before = [];
      digits = d ∷ r.digits;
      later = r.later;
      is = ap (λ (xs : List ℕ). d ∷ xs) r.is;
      stated = decimal d r.digits refl refl refl other;
      are = are_digits 10 (d ∷ r.digits) n stands;
      value = value_is 10 (d ∷ r.digits) n stands;
      fits = r.fits;
      suffix = suffix_is r.later ∙ r.suffix;
    }

hex_by_is : (x d : ℕ) (z : List ℕ) (n : ℕ) (s : Suffix) → is_x x ≡ true → (o : Option ℕ) → digit_of 16 d ≡ o → hex_by (d ∷ z) o ≡ Some (n, s) → IsIntegerConstant (48 ∷ (x ∷ (d ∷ z))) n s
hex_by_is x d z n s is None dk e = absurd cc
hex_by_is x d z n s is (Some k) dk e = hex_is x d k z n s is dk (read_is 16 0 (d ∷ z) n s (lit< tt) e)

zero_is : (z : List ℕ) (n : ℕ) (s : Suffix) → zero_from z ≡ Some (n, s) → IsIntegerConstant (48 ∷ z) n s
unfolding number_from
zero_is [] n s e = octal_is [] n s (read_is 8 0 [] n s (lit< tt) e)
zero_is (c ∷ []) n s e =
    cond_is (λ (o : Option (ℕ × Suffix)). o ≡ Some (n, s) → IsIntegerConstant (48 ∷ (c ∷ [])) n s) (is_x c) None (number_from 8 0 (c ∷ []))
    (λ _ f. absurd cc)
    (λ _ f. octal_is (c ∷ []) n s (read_is 8 0 (c ∷ []) n s (lit< tt) f))
    e
zero_is (c ∷ d ∷ z) n s e =
    cond_is (λ (o : Option (ℕ × Suffix)). o ≡ Some (n, s) → IsIntegerConstant (48 ∷ (c ∷ (d ∷ z))) n s) (is_x c) (hex_by (d ∷ z) (digit_of 16 d)) (number_from 8 0 (c ∷ (d ∷ z)))
    (λ is f. hex_by_is c d z n s is (digit_of 16 d) refl f)
    (λ _ f. octal_is (c ∷ (d ∷ z)) n s (read_is 8 0 (c ∷ (d ∷ z)) n s (lit< tt) f))
    e

ten_digit : (b : ℕ) → is_ascii_digit b ≡ true → (is_digit b 10 ≡ true) × (digit_value b ≡ b - 48)
ten_digit b digit =
    let e1 : nat_lt b 48 ≡ false = grind (arith, nat_tests) in
    let e2 : nat_lt b 58 ≡ true = grind (arith, nat_tests) in
    let e3 : nat_lt (b - 48) 10 ≡ true = grind (arith, nat_tests) in
    (rw (e1, e2) e3, rw (e1, e2) refl)

-- what is read of a run that begins with a digit is its number
pub number_is : (b : ℕ) (z : List ℕ) (n : ℕ) (s : Suffix) → is_ascii_digit b ≡ true → number_spelled (b ∷ z) ≡ Some (n, s) → IsIntegerConstant (b ∷ z) n s
unfolding number_spelled
number_is b z n s digit e =
    cond_is (λ (o : Option (ℕ × Suffix)). o ≡ Some (n, s) → IsIntegerConstant (b ∷ z) n s) (eqb b 48) (zero_from z) (number_from 10 (b - 48) z)
    (λ same f. let b_is : b ≡ 48 = eqb-true b 48 same in rw b_is (zero_is z n s f))
    (λ other f.
    let low : b - 48 < 2 ^ 64 = grind (arith, nat_tests) in
    let not_zero : b ≢ 48 = λ (is : b ≡ 48). grind (arith, nat_tests) in
    decimal_is b z n s not_zero (ten_digit b digit) (read_is 10 (b - 48) z n s low f))
    e

-- ---- a number is read

-- the first part is no more than the whole
first_part : (base acc k p m n : ℕ) → 0 < p → n ≡ acc * (p * base) + (k * p + m) → n < 2 ^ 64 → acc * base + k < 2 ^ 64
first_part base acc k p m n positive n_is low =
    let whole = horner acc base k p m in
    let le : acc * base + k ≤ (acc * base + k) * p = le-mul_of_pos_right (acc * base + k) positive in
    omega (arith, le, whole)

stands_read : (base acc : ℕ) (digits later : List ℕ) (m n : ℕ) (s : Suffix) → 0 < base → base ≤ 16 → DigitsStandFor base digits m → suffix_by_letters later ≡ Some s → n ≡ acc * base ^ length digits + m → n < 2 ^ 64 →
    number_from base acc (digits ++ later) ≡ Some (n, s)
unfolding number_from suffix_by_letters
stands_read base acc [] [] m n s positive small value tail n_is low =
    let e : acc ≡ n = one_power base acc ∙ ap (λ (x : ℕ). acc * base ^ 0 + x) (sym value) ∙ sym n_is in
    let f : Absent ≡ s = cc in
    rw (e, f) refl
stands_read base acc [] (b ∷ z) m n s positive small value tail n_is low =
    let e : acc ≡ n = one_power base acc ∙ ap (λ (x : ℕ). acc * base ^ 0 + x) (sym value) ∙ sym n_is in
    let none : digit_of base b ≡ None = no_digit base b small (suffix_letter b z s tail) in
    rw none (rw (tail, e) refl)
stands_read base acc (d ∷ digits) later m n s positive small value tail n_is low =
    let k : ℕ = digit_value d in
    let p = base ^ length digits in
    let whole : n ≡ acc * (p * base) + (k * p + value.0) = n_is ∙ ap (λ (x : ℕ). acc * x + m) (pow-suc base (length digits)) ∙ ap (λ (x : ℕ). acc * (p * base) + x) value.3 in
    let part : acc * base + k < 2 ^ 64 = first_part base acc k p value.0 n (one-le-pow (length digits) base positive) whole low in
    let below : nat_lt (acc * base + k) (2 ^ 64) ≡ true = grind (arith, nat_tests) in
    let dk : digit_of base d ≡ Some k = digit_as base d value.1 in
    let more : number_from base (acc * base + k) (digits ++ later) ≡ Some (n, s) = stands_read base (acc * base + k) digits later value.0 n s positive small value.2 tail (whole ∙ sym (horner acc base k p value.0)) low in
    rw (dk, below) more

-- a digit of a base up to ten is an ASCII digit less 48
plain_digit : (base d : ℕ) → base ≤ 10 → is_digit d base ≡ true → (is_ascii_digit d ≡ true) × (digit_value d ≡ d - 48)
plain_digit base d small h = by (nat_lt d 48) (nat_lt d 58) (nat_lt d 65) (nat_lt d 91) (nat_lt d 97) (nat_lt d 123) refl refl refl refl refl refl h where
  high : (v : ℕ) → 10 ≤ v → nat_lt v base ≡ true → ⊥
  high v ten f = absurd (grind (arith, nat_tests))

  by : (a b c e f g : Bool) → nat_lt d 48 ≡ a → nat_lt d 58 ≡ b → nat_lt d 65 ≡ c → nat_lt d 91 ≡ e → nat_lt d 97 ≡ f → nat_lt d 123 ≡ g →
      nat_lt (cond a 36 (cond b (d - 48) (cond c 36 (cond e (d - 55) (cond f 36 (cond g (d - 87) 36)))))) base ≡ true → (is_ascii_digit d ≡ true) × (cond a 36 (cond b (d - 48) (cond c 36 (cond e (d - 55) (cond f 36 (cond g (d - 87) 36))))) ≡ d - 48)
  by true b c e f g ea eb ec ee ef eg t = absurd (high 36 (lit≤ tt) t)
  by false true c e f g ea eb ec ee ef eg t = (grind (arith, nat_tests), refl)
  by false false true e f g ea eb ec ee ef eg t = absurd (high 36 (lit≤ tt) t)
  by false false false true f g ea eb ec ee ef eg t = absurd (high (d - 55) (grind (arith, nat_tests)) t)
  by false false false false true g ea eb ec ee ef eg t = absurd (high 36 (lit≤ tt) t)
  by false false false false false true ea eb ec ee ef eg t = absurd (high (d - 87) (grind (arith, nat_tests)) t)
  by false false false false false false ea eb ec ee ef eg t = absurd (high 36 (lit≤ tt) t)

octal_first : (c : ℕ) (z : List ℕ) → is_x c ≡ false → zero_from (c ∷ z) ≡ number_from 8 0 (c ∷ z)
octal_first c z e = rw e refl

zero_octal : (ds later : List ℕ) (m : ℕ) (s : Suffix) → DigitsStandFor 8 ds m → suffix_by_letters later ≡ Some s → zero_from (ds ++ later) ≡ number_from 8 0 (ds ++ later)
unfolding number_from
zero_octal [] [] m s value tail = refl
zero_octal [] (b ∷ z) m s value tail = let letter = suffix_letter b z s tail in octal_first b z (grind (arith, nat_tests))
zero_octal (d ∷ ds) later m s value tail = let digit = (plain_digit 8 d (lit≤ tt) value.1).0 in octal_first d (ds ++ later) (grind (arith, nat_tests))

hex_first : (x d k : ℕ) (z : List ℕ) → is_x x ≡ true → digit_of 16 d ≡ Some k → number_spelled (48 ∷ (x ∷ (d ∷ z))) ≡ number_from 16 0 (d ∷ z)
unfolding number_spelled
hex_first x d k z is dk = rw (is, dk) refl

zero_first : (z : List ℕ) → number_spelled (48 ∷ z) ≡ zero_from z
unfolding number_spelled
zero_first z = refl

decimal_first : (d : ℕ) (z : List ℕ) → eqb d 48 ≡ false → number_spelled (d ∷ z) ≡ number_from 10 (d - 48) z
unfolding number_spelled
decimal_first d z e = rw e refl

later_zero : (x n : ℕ) → n ≡ 0 * x + n
later_zero x n = sym (no_first x n)

-- a number is what is read
pub number_reads : (own : List ℕ) (n : ℕ) (s : Suffix) → IsIntegerConstant own n s → number_spelled own ≡ Some (n, s)
number_reads own n s h = let tail : suffix_by_letters h.later ≡ Some s = sym (suffix_is h.later) ∙ h.suffix in by tail h.base h.before h.digits h.stated h.is (subst (DigitsStandFor h.base h.digits) (sym h.value) (stands_for h.base h.digits h.are)) where
  by : suffix_by_letters h.later ≡ Some s → (base : ℕ) (before digits : List ℕ) → IsBase base before digits → own ≡ before ++ (digits ++ h.later) → DigitsStandFor base digits n → number_spelled own ≡ Some (n, s)
  by tail base before digits (hexadecimal x d ds b_is before_is is_x_either digits_is) is value =
      let v : DigitsStandFor 16 (d ∷ ds) n = subst (λ (xs : List ℕ). DigitsStandFor 16 xs n) digits_is (subst (λ (b : ℕ). DigitsStandFor b digits n) b_is value) in
      let own_is : own ≡ 48 ∷ (x ∷ (d ∷ (ds ++ h.later))) = rw (digits_is, before_is) at is in
      let dk = digit_as 16 d v.1 in
      ap number_spelled own_is ∙ hex_first x d (digit_value d) (ds ++ h.later) (sym (x_is x) ∙ is_x_either) dk
      ∙ stands_read 16 0 (d ∷ ds) h.later n n s (lit< tt) (lit≤ tt) v tail (later_zero (16 ^ length (d ∷ ds)) n) h.fits
  by tail base before digits (octal ds b_is before_is digits_is) is value =
      let v : DigitsStandFor 8 (48 ∷ ds) n = subst (λ (xs : List ℕ). DigitsStandFor 8 xs n) digits_is (subst (λ (b : ℕ). DigitsStandFor b digits n) b_is value) in
      let own_is : own ≡ 48 ∷ (ds ++ h.later) = rw (digits_is, before_is) at is in
      ap number_spelled own_is ∙ zero_first (ds ++ h.later) ∙ zero_octal ds h.later v.0 s v.2 tail
      ∙ stands_read 8 0 ds h.later v.0 n s (lit< tt) (lit≤ tt) v.2 tail v.3 h.fits
  by tail base before digits (decimal d ds b_is before_is digits_is other) is value =
      let v : DigitsStandFor 10 (d ∷ ds) n = subst (λ (xs : List ℕ). DigitsStandFor 10 xs n) digits_is (subst (λ (b : ℕ). DigitsStandFor b digits n) b_is value) in
      let own_is : own ≡ d ∷ (ds ++ h.later) = rw (digits_is, before_is) at is in
      let digit = plain_digit 10 d (lit≤ tt) v.1 in
      let not_zero : eqb d 48 ≡ false = grind (arith, nat_tests) in
      ap number_spelled own_is ∙ decimal_first d (ds ++ h.later) not_zero
      ∙ stands_read 10 (d - 48) ds h.later v.0 n s (lit< tt) (lit≤ tt) v.2 tail (v.3 ∙ ap (λ (k : ℕ). k * 10 ^ length ds + v.0) digit.1) h.fits

-- the bytes stand for no number
abbrev pub IsNoNumber : List ℕ → Type 0
IsNoNumber own = (n : ℕ) (s : Suffix) → ¬ IsIntegerConstant own n s

-- a run that is no number is read as none
pub none_is : (b : ℕ) (z : List ℕ) → is_ascii_digit b ≡ true → number_spelled (b ∷ z) ≡ None → IsNoNumber (b ∷ z)
none_is b z digit e n s h = let f = number_reads (b ∷ z) n s h in cc

pub none_reads : (b : ℕ) (z : List ℕ) → is_ascii_digit b ≡ true → IsNoNumber (b ∷ z) → number_spelled (b ∷ z) ≡ None
none_reads b z digit none = by (number_spelled (b ∷ z)) refl where
  by : (o : Option (ℕ × Suffix)) → number_spelled (b ∷ z) ≡ o → o ≡ None
  by None e = refl
  by (Some x) e = absurd (none x.0 x.1 (number_is b z x.0 x.1 digit e))
