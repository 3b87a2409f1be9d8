-- The firing that a row is read as.
use Rattle.std.proofs.Common.{◌≡◌, ◌<◌, ◌≤◌, ◌^◌, ◌-◌, ℕ, suc, ℤ, pos, negsuc, neg_ℤ, true, List, [], ◌∷◌, length, Option, Some, None, refl, sym, ap, subst, ◌∙◌, arith, map, All}
use Rattle.std.specs.Prelude.{codes, unwrap_or, FitsSigned, option_map}
use Rattle.std.specs.Int.{w64}
use Rattle.std.specs.List.{list_all}
use Rattle.std.specs.Fmt.{decimal}
use Rattle.std.specs.Str.{all_ascii_digits}
use Rattle.std.specs.Str.Parse.{AllDigits, digits_value}
use Rattle.std.proofs.lemmas.Bool.{le-leb, lt-ltb, ne_eqb}
use Rattle.std.proofs.lemmas.Fmt.{decimal_is_IsNumeral}
use Rattle.std.proofs.lemmas.Int.{ints}
use Rattle.std.proofs.lemmas.List.{length-map}
use Rattle.std.proofs.lemmas.List.Elements.{All-head, All-tail, All-map}
use Rattle.std.proofs.lemmas.Str.Parse.{IsNumeralModel, digit_at, numerals_by_value, tells_all_ascii_digits}
use Rattle.csv.specs.Records.{field_at}
use Rattle.firing_reader.specs.Column.{field, is_decimal, number_from, signed_of}
use Rattle.firings.specs.Firings.{IsFiring}
use Rattle.firings.specs.declared.firing.Firing.{Firing}
use Rattle.firing_reader.specs.Written.{WritesFiring}
use Rattle.recording_rows.specs.declared.row.Row.{Row}
use Rattle.recording_rows.specs.declared.row.Side.{Side}
use Rattle.recording_rows.specs.declared.row.Side.TheVariants.{Entry, Return}
use Rattle.recording_rows.specs.Steps.Rows.{IsArgument, IsRow, argument_text, row_fields, side_word, value_of}
use Rattle.recording_rows.specs.Words.{is_plain_byte, is_word}
use Rattle.recording_rows.proofs.Plain.{decimal_plain, word_plain, word_text}

digits : IsNumeralModel (λ ds. all_ascii_digits ds ≡ true) (digits_value 10)
digits = numerals_by_value _ tells_all_ascii_digits

is_numeral : (xs : List ℕ) → 0 < length xs → AllDigits 10 xs → is_decimal xs ≡ true
is_numeral xs some all = rw (digits.from xs all, lt-ltb 0 (length xs) some) refl

-- a number's digits are read as it
number_read : (xs : List ℕ) (n most : ℕ) → 0 < length xs → AllDigits 10 xs → digits_value 10 xs ≡ n → n ≤ most → number_from 0 most xs ≡ Some n
number_read xs n most some all value fits = rw (is_numeral xs some all, value, le-leb 0 n (omega arith), le-leb n most fits) refl

decimal_read : (n : ℕ) → n < 2 ^ 64 → number_from 0 (2 ^ 64 - 1) (decimal n) ≡ Some n
decimal_read n fits =
    let d = decimal_is_IsNumeral n fits in
    number_read (decimal n) n (2 ^ 64 - 1) d.0.0 d.0.1 d.1 (omega arith)

positive_read : (xs : List ℕ) (n : ℕ) → 0 < length xs → AllDigits 10 xs → digits_value 10 xs ≡ n → n < 2 ^ 63 → signed_of xs ≡ Some (pos n)
positive_read [] n some all value fits = absurd (omega (arith, some))
positive_read (b ∷ rest) n some all value fits =
    let d = digit_at (b ∷ rest) 0 all (omega arith) in
    rw (ne_eqb b 45 (λ e. absurd (omega (arith, d.0, e))), number_read (b ∷ rest) n (2 ^ 63 - 1) some all value (omega arith)) refl

negative_read : (xs : List ℕ) (n : ℕ) → 0 < length xs → AllDigits 10 xs → digits_value 10 xs ≡ n → n ≤ 2 ^ 63 → signed_of (45 ∷ xs) ≡ Some (neg_ℤ (pos n))
negative_read xs n some all value fits = rw (number_read xs n (2 ^ 63) some all value fits) refl

argument_read : (a : Option ℤ) → FitsSigned w64 (unwrap_or a (pos 0)) → signed_of (argument_text a) ≡ Some (unwrap_or a (pos 0))
argument_read None fits = refl
argument_read (Some (pos n)) fits =
    let lt : n < 2 ^ 63 = omega (arith, fits.sfits) in
    let d = decimal_is_IsNumeral n (omega (arith, lt)) in
    positive_read (decimal n) n d.0.0 d.0.1 d.1 lt
argument_read (Some (negsuc n)) fits =
    let le : suc n ≤ 2 ^ 63 = omega (arith, fits.sfits) in
    let d = decimal_is_IsNumeral (suc n) (omega (arith, le)) in
    negative_read (decimal (suc n)) (suc n) d.0.0 d.0.1 d.1 le

argument_plain : (a : Option ℤ) → FitsSigned w64 (unwrap_or a (pos 0)) → list_all is_plain_byte (argument_text a) ≡ true
argument_plain None fits = refl
argument_plain (Some (pos n)) fits = decimal_plain n (omega (arith, fits.sfits))
argument_plain (Some (negsuc n)) fits = decimal_plain (suc n) (omega (arith, fits.sfits))

-- ---- ten arguments

cons_of : {X : Type 0} (xs : List X) (n : ℕ) → length xs ≡ suc n → (x : X) × (rest : List X) × (xs ≡ x ∷ rest) × (length rest ≡ n)
cons_of [] n e = absurd (omega (arith, e))
cons_of (x ∷ rest) n e = (x, rest, refl, omega (arith, e))

nil_of : {X : Type 0} (xs : List X) → length xs ≡ 0 → xs ≡ []
nil_of [] e = refl
nil_of (x ∷ rest) e = absurd (omega (arith, e))

-- what holds of all ten
ten_reads : (a0 a1 a2 a3 a4 a5 a6 a7 a8 a9 : Option ℤ) → All IsArgument (a0 ∷ a1 ∷ a2 ∷ a3 ∷ a4 ∷ a5 ∷ a6 ∷ a7 ∷ a8 ∷ a9 ∷ [])
    → map (λ (t : List ℕ). signed_of t) (map argument_text (a0 ∷ a1 ∷ a2 ∷ a3 ∷ a4 ∷ a5 ∷ a6 ∷ a7 ∷ a8 ∷ a9 ∷ []))
    ≡ map (λ (z : ℤ). Some z) (map value_of (a0 ∷ a1 ∷ a2 ∷ a3 ∷ a4 ∷ a5 ∷ a6 ∷ a7 ∷ a8 ∷ a9 ∷ []))
ten_reads a0 a1 a2 a3 a4 a5 a6 a7 a8 a9 all = all_read (a0 ∷ a1 ∷ a2 ∷ a3 ∷ a4 ∷ a5 ∷ a6 ∷ a7 ∷ a8 ∷ a9 ∷ []) all
  where
    all_read : (given : List (Option ℤ)) → All IsArgument given → map (λ (t : List ℕ). signed_of t) (map argument_text given) ≡ map (λ (z : ℤ). Some z) (map value_of given)
    all_read [] all = refl
    all_read (a ∷ given) all = rw (argument_read a (All-head IsArgument a given all), all_read given (All-tail IsArgument a given all)) refl

arguments_plain : (given : List (Option ℤ)) → All IsArgument given → list_all (list_all is_plain_byte) (map argument_text given) ≡ true
arguments_plain [] all = refl
arguments_plain (a ∷ given) all = rw (argument_plain a (All-head IsArgument a given all)) (arguments_plain given (All-tail IsArgument a given all))

args_at : (x1 x2 x3 x4 x5 x6 x7 x8 x9 x10 : List ℕ) (given : List (Option ℤ)) → length given ≡ 10 → All IsArgument given
    → map (λ column. signed_of (field (x1 ∷ x2 ∷ x3 ∷ x4 ∷ x5 ∷ x6 ∷ x7 ∷ x8 ∷ x9 ∷ x10 ∷ map argument_text given) column)) (11 ∷ 12 ∷ 13 ∷ 14 ∷ 15 ∷ 16 ∷ 17 ∷ 18 ∷ 19 ∷ 20 ∷ [])
    ≡ map (λ x. Some x) (map value_of given)
unfolding field_at
args_at x1 x2 x3 x4 x5 x6 x7 x8 x9 x10 given len all =
    let c0 = cons_of given 9 len in
    let c1 = cons_of c0.1 8 c0.3 in
    let c2 = cons_of c1.1 7 c1.3 in
    let c3 = cons_of c2.1 6 c2.3 in
    let c4 = cons_of c3.1 5 c3.3 in
    let c5 = cons_of c4.1 4 c4.3 in
    let c6 = cons_of c5.1 3 c5.3 in
    let c7 = cons_of c6.1 2 c6.3 in
    let c8 = cons_of c7.1 1 c7.3 in
    let c9 = cons_of c8.1 0 c8.3 in
    let is : given ≡ c0.0 ∷ c1.0 ∷ c2.0 ∷ c3.0 ∷ c4.0 ∷ c5.0 ∷ c6.0 ∷ c7.0 ∷ c8.0 ∷ c9.0 ∷ [] =
    c0.2 ∙ ap (λ (l : List (Option ℤ)). c0.0 ∷ l) (c1.2 ∙ ap (λ (l : List (Option ℤ)). c1.0 ∷ l) (c2.2 ∙ ap (λ (l : List (Option ℤ)). c2.0 ∷ l)
    (c3.2 ∙ ap (λ (l : List (Option ℤ)). c3.0 ∷ l) (c4.2 ∙ ap (λ (l : List (Option ℤ)). c4.0 ∷ l) (c5.2 ∙ ap (λ (l : List (Option ℤ)). c5.0 ∷ l)
    (c6.2 ∙ ap (λ (l : List (Option ℤ)). c6.0 ∷ l) (c7.2 ∙ ap (λ (l : List (Option ℤ)). c7.0 ∷ l) (c8.2 ∙ ap (λ (l : List (Option ℤ)). c8.0 ∷ l)
    (c9.2 ∙ ap (λ (l : List (Option ℤ)). c9.0 ∷ l) (nil_of c9.1 c9.3)))))))))) in
    subst (λ (l : List (Option ℤ)). map (λ column. signed_of (field (x1 ∷ x2 ∷ x3 ∷ x4 ∷ x5 ∷ x6 ∷ x7 ∷ x8 ∷ x9 ∷ x10 ∷ map argument_text l) column)) (11 ∷ 12 ∷ 13 ∷ 14 ∷ 15 ∷ 16 ∷ 17 ∷ 18 ∷ 19 ∷ 20 ∷ [])
    ≡ map (λ x. Some x) (map value_of l)) (sym is)
    (ten_reads c0.0 c1.0 c2.0 c3.0 c4.0 c5.0 c6.0 c7.0 c8.0 c9.0 (subst (All IsArgument) is all))

-- ---- the row

abbrev pub firing_of : ℕ → Row → Firing
firing_of number r = record {
  number = number;
  cpu = pos 0;
  thread = pos r.owner.thread.number;
  pid = pos r.owner.process.number;
  execname = r.owner.program.bytes.now;
  time = r.time;
  provider = codes "syscall";
  probemod = [];
  probefunc = r.call.bytes.now;
  name = side_word r.side;
  args = map value_of r.arguments;
}

side_is_word : (s : Side) → is_word (side_word s) ≡ true
side_is_word Entry = refl
side_is_word Return = refl

pub row_writes : (number : ℕ) (r : Row) → number ≤ 1_000_000 → IsRow r → WritesFiring (row_fields number r) (firing_of number r)
unfolding field_at
row_writes number r few g = record {
  columns = omega (arith, g.ten, length-map r.arguments argument_text);
  values = record {
    number = ap (option_map pos) (decimal_read number (omega arith));
    cpu = refl;
    thread = ap (option_map pos) (decimal_read r.owner.thread.number (omega (arith, r.owner.thread.small)));
    pid = ap (option_map pos) (decimal_read r.owner.process.number (omega (arith, r.owner.process.small)));
    execname = refl;
    time = ap (option_map pos) (decimal_read r.time g.time);
    provider = refl;
    probemod = refl;
    probefunc = refl;
    name = refl;
    args = args_at (decimal number) (codes "0") (decimal r.owner.thread.number) (decimal r.owner.process.number) r.owner.program.bytes.now (decimal r.time) (codes "syscall") [] r.call.bytes.now (side_word r.side) r.arguments g.ten g.fits;
  };
}

pub row_firing : (number : ℕ) (r : Row) → 1 ≤ number → number ≤ 1_000_000 → IsRow r → IsFiring (firing_of number r)
row_firing number r some few g = record {
  ranges = record {
    number = omega arith;
    cpu = (omega (arith, ints), omega (arith, ints));
    thread = (omega (arith, ints), omega (arith, ints, r.owner.thread.small));
    pid = (omega (arith, ints), omega (arith, ints, r.owner.process.small));
    execname = word_text r.owner.program.bytes.now r.owner.program.word;
    time = g.time;
    provider = word_text (codes "syscall") refl;
    probemod = word_text [] refl;
    probefunc = word_text r.call.bytes.now r.call.word;
    name = word_text (side_word r.side) (side_is_word r.side);
    ten = length-map r.arguments value_of ∙ g.ten;
    args = All-map (FitsSigned w64) value_of r.arguments g.fits;
  };
  number = (some, omega arith);
  thread = (omega (arith, ints, r.owner.thread.positive), omega (arith, ints, r.owner.thread.small));
  unreserved = λ e. absurd (omega (arith, ap length e));
}

pub row_plain : (number : ℕ) (r : Row) → number ≤ 1_000_000 → IsRow r → list_all (list_all is_plain_byte) (row_fields number r) ≡ true
row_plain number r few g =
    rw (
      decimal_plain number (omega arith),
      decimal_plain r.owner.thread.number (omega (arith, r.owner.thread.small)),
      decimal_plain r.owner.process.number (omega (arith, r.owner.process.small)),
      word_plain r.owner.program.bytes.now r.owner.program.word,
      decimal_plain r.time g.time,
      word_plain r.call.bytes.now r.call.word,
      word_plain (side_word r.side) (side_is_word r.side),
    ) (arguments_plain r.arguments g.fits)
