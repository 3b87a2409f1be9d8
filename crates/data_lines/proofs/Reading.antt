-- What lines say can be read back: different texts, keys and numbers have different bytes.
use Rattle.std.proofs.Common.{◌≡◌, ◌⊎◌, inl, inr, ⊎_elim, ℕ, zero, suc, ◌+◌, ◌-◌, ◌*◌, ◌/◌, ◌%◌, ◌<◌}
use Rattle.std.proofs.Common.{◌≤◌, ◌^◌, Bool, true, false, cond, eqb, ltb, List, [], ◌∷◌, ◌++◌, length}
use Rattle.std.proofs.Common.{refl, sym, ap, ◌∙◌, arith, append_assoc}
use Rattle.std.specs.Prelude.{ℤ, pos, negsuc, codes}
use Rattle.std.specs.Fmt.{decimal, digits, digits_onto, digit_glyph, signed_decimal}
use Rattle.std.specs.List.{AllByRecursion, flat_map}
use Rattle.std.specs.Str.{is_utf8}
use Rattle.std.proofs.lemmas.Bool.{eqb-true, eqb-false, cases_lt, lt-ltb, le-ltb, ltb-true, ltb-false}
use Rattle.std.proofs.lemmas.Fmt.{decimal_injective, decimal_nonempty}
use Rattle.std.proofs.lemmas.List.{append_cancel_left, append_cancel_right}
use Rattle.data_lines.specs.Vocabulary.{Entry, KeyPart, Name, Number}
use Rattle.data_lines.specs.Json.{array_of, comma_list}
use Rattle.data_lines.specs.Texts.{json_escape, hex_digits, in_hex, is_control, json_string, text_value}
use Rattle.data_lines.specs.Values.{Fits64, FitsPart, entry_value, key_value, part_value}
use Rattle.data_lines.specs.Lines.{entry_line}

-- ---- bytes one after the other

pub heads : {a b : ℕ} {xs ys : List ℕ} → a ∷ xs ≡ b ∷ ys → a ≡ b
heads e = cc

pub tails : {a b : ℕ} {xs ys : List ℕ} → a ∷ xs ≡ b ∷ ys → xs ≡ ys
tails e = cc

-- ---- escapes

-- what a hexadecimal digit is of
digit_of : ℕ → ℕ
digit_of glyph = cond (ltb glyph 58) (glyph - 48) (glyph - 87)

digit_back : (d : ℕ) → digit_of (digit_glyph false d) ≡ d
unfolding digit_of
digit_back d = at (ltb d 10) refl
  where
    of : (t : Bool) (glyph : ℕ) → ltb glyph 58 ≡ t → cond t (glyph - 48) (glyph - 87) ≡ digit_of glyph
    of t glyph is = ap (λ t. cond t (glyph - 48) (glyph - 87)) (sym is)

    at : (t : Bool) → ltb d 10 ≡ t → digit_of (cond t (48 + d) (87 + d)) ≡ d
    at true is = let small = ltb-true d 10 is in ⊎_elim
        (λ (lt : 48 + d < 58). ap (λ t. cond t (48 + d - 48) (48 + d - 87)) (lt-ltb (48 + d) 58 lt) ∙ omega arith)
        (λ (le : 58 ≤ 48 + d). absurd (omega arith)) (cases_lt (48 + d) 58)
    at false is = let big = ltb-false d 10 is in ⊎_elim
        (λ (lt : 87 + d < 58). absurd (omega arith))
        (λ (le : 58 ≤ 87 + d). ap (λ t. cond t (87 + d - 48) (87 + d - 87)) (le-ltb (87 + d) 58 le) ∙ omega arith) (cases_lt (87 + d) 58)

-- a byte from its two digits
hex_back : ℕ → ℕ → ℕ
hex_back high low = digit_of high * 16 + digit_of low

byte_back : (b : ℕ) → hex_back (digit_glyph false (b / 16)) (digit_glyph false (b % 16)) ≡ b
unfolding hex_back
byte_back b =
    ap (λ n. n * 16 + digit_of (digit_glyph false (b % 16))) (digit_back (b / 16))
    ∙ ap (λ n. b / 16 * 16 + n) (digit_back (b % 16)) ∙ omega arith

-- the byte of an escape after its backslash, and what follows
after_backslash : List ℕ → ℕ × List ℕ
after_backslash [] = (0, [])
after_backslash (c ∷ []) = (cond (eqb c 110) 10 (cond (eqb c 116) 9 c), [])
after_backslash (c ∷ x ∷ []) = (cond (eqb c 110) 10 (cond (eqb c 116) 9 c), x ∷ [])
after_backslash (c ∷ x ∷ y ∷ []) = (cond (eqb c 110) 10 (cond (eqb c 116) 9 c), x ∷ y ∷ [])
after_backslash (c ∷ x ∷ y ∷ high ∷ []) = (cond (eqb c 110) 10 (cond (eqb c 116) 9 c), x ∷ y ∷ high ∷ [])
after_backslash (c ∷ x ∷ y ∷ high ∷ low ∷ rest) =
    cond (eqb c 117) (hex_back high low, rest) (cond (eqb c 110) 10 (cond (eqb c 116) 9 c), x ∷ y ∷ high ∷ low ∷ rest)

-- the first byte of what is escaped, and what follows
first_byte : List ℕ → ℕ × List ℕ
first_byte [] = (0, [])
first_byte (c ∷ rest) = cond (eqb c 92) (after_backslash rest) (c, rest)

letter : (c : ℕ) (rest : List ℕ) → eqb c 117 ≡ false → after_backslash (c ∷ rest) ≡ (cond (eqb c 110) 10 (cond (eqb c 116) 9 c), rest)
unfolding after_backslash
letter c [] other = refl
letter c (x ∷ []) other = refl
letter c (x ∷ y ∷ []) other = refl
letter c (x ∷ y ∷ high ∷ []) other = refl
letter c (x ∷ y ∷ high ∷ low ∷ rest) other =
    ap (λ t. cond t (hex_back high low, rest) (cond (eqb c 110) 10 (cond (eqb c 116) 9 c), x ∷ y ∷ high ∷ low ∷ rest)) other

escape_back : (b : ℕ) (rest : List ℕ) → first_byte (json_escape b ++ rest) ≡ (b, rest)
unfolding first_byte after_backslash
escape_back b rest = at (eqb b 34) refl (eqb b 92) refl (eqb b 10) refl (eqb b 9) refl (is_control b)
  where
    at : (quote : Bool) → eqb b 34 ≡ quote → (backslash : Bool) → eqb b 92 ≡ backslash → (feed : Bool) → eqb b 10 ≡ feed
        → (tab : Bool) → eqb b 9 ≡ tab → (control : Bool)
        → first_byte (cond quote (codes "\\\"") (cond backslash (codes "\\\\") (cond feed (codes "\\n") (cond tab (codes "\\t")
        (cond control (codes "\\u00" ++ hex_digits b) (b ∷ []))))) ++ rest) ≡ (b, rest)
    at true q backslash s feed f tab t control = letter 34 rest refl ∙ ap (λ n. (n, rest)) (sym (eqb-true b 34 q))
    at false q true s feed f tab t control = letter 92 rest refl ∙ ap (λ n. (n, rest)) (sym (eqb-true b 92 s))
    at false q false s true f tab t control = letter 110 rest refl ∙ ap (λ n. (n, rest)) (sym (eqb-true b 10 f))
    at false q false s false f true t control = letter 116 rest refl ∙ ap (λ n. (n, rest)) (sym (eqb-true b 9 t))
    at false q false s false f false t true = ap (λ n. (n, rest)) (byte_back b)
    at false q false s false f false t false = ap (λ t. cond t (after_backslash rest) (b, rest)) s

-- equal beginnings are of equal bytes
escapes_back : (a b : ℕ) (xs ys : List ℕ) → json_escape a ++ xs ≡ json_escape b ++ ys → (a ≡ b) × (xs ≡ ys)
escapes_back a b xs ys e =
    let both : (a, xs) ≡ (b, ys) = sym (escape_back a xs) ∙ ap first_byte e ∙ escape_back b ys in
    (ap (λ p. p.0) both, ap (λ p. p.1) both)

-- no escape begins as a string ends
no_end : (b : ℕ) (xs ys : List ℕ) → 34 ∷ xs ≡ json_escape b ++ ys → ⊥
unfolding first_byte
no_end b xs ys e =
    let both : (34, xs) ≡ (b, ys) = ap first_byte e ∙ escape_back b ys in
    let is : 34 ≡ b = ap (λ p. p.0) both in
    let begins : 34 ∷ xs ≡ json_escape 34 ++ ys = e ∙ ap (λ n. json_escape n ++ ys) (sym is) in
    eqb-false 34 92 refl (heads begins)

-- ---- texts

quoted_back : (x y r s : List ℕ) → flat_map json_escape x ++ 34 ∷ r ≡ flat_map json_escape y ++ 34 ∷ s → (x ≡ y) × (r ≡ s)
quoted_back [] [] r s e = (refl, tails e)
quoted_back [] (b ∷ y) r s e = absurd (no_end b r (flat_map json_escape y ++ 34 ∷ s) (e ∙ append_assoc (json_escape b) (flat_map json_escape y) (34 ∷ s)))
quoted_back (a ∷ x) [] r s e = absurd (no_end a s (flat_map json_escape x ++ 34 ∷ r) (sym e ∙ append_assoc (json_escape a) (flat_map json_escape x) (34 ∷ r)))
quoted_back (a ∷ x) (b ∷ y) r s e =
    let first = escapes_back a b (flat_map json_escape x ++ 34 ∷ r) (flat_map json_escape y ++ 34 ∷ s)
    (sym (append_assoc (json_escape a) (flat_map json_escape x) (34 ∷ r)) ∙ e ∙ append_assoc (json_escape b) (flat_map json_escape y) (34 ∷ s)) in
    let rest = quoted_back x y r s first.1 in
    (ap (λ n. n ∷ x) first.0 ∙ ap (λ l. b ∷ l) rest.0, rest.1)

glyph_large : (d : ℕ) → 48 ≤ digit_glyph false d
glyph_large d = at (ltb d 10)
  where
    at : (t : Bool) → 48 ≤ cond t (48 + d) (87 + d)
    at true = omega arith
    at false = omega arith

in_hex_back : (x y r s : List ℕ) → flat_map hex_digits x ++ 34 ∷ r ≡ flat_map hex_digits y ++ 34 ∷ s → (x ≡ y) × (r ≡ s)
in_hex_back [] [] r s e = (refl, tails e)
in_hex_back [] (b ∷ y) r s e = let is : 34 ≡ digit_glyph false (b / 16) = heads e in let large = glyph_large (b / 16) in absurd (omega arith)
in_hex_back (a ∷ x) [] r s e = let is : digit_glyph false (a / 16) ≡ 34 = heads e in let large = glyph_large (a / 16) in absurd (omega arith)
in_hex_back (a ∷ x) (b ∷ y) r s e =
    let high : digit_glyph false (a / 16) ≡ digit_glyph false (b / 16) = heads e in
    let low : digit_glyph false (a % 16) ≡ digit_glyph false (b % 16) = heads (tails e) in
    let first : a ≡ b = sym (byte_back a) ∙ ap (λ n. hex_back n (digit_glyph false (a % 16))) high ∙ ap (hex_back (digit_glyph false (b / 16))) low ∙ byte_back b in
    let rest = in_hex_back x y r s (tails (tails e)) in
    (ap (λ n. n ∷ x) first ∙ ap (λ l. b ∷ l) rest.0, rest.1)

pub text_back : (x y r s : List ℕ) → text_value x ++ r ≡ text_value y ++ s → (x ≡ y) × (r ≡ s)
text_back x y r s e = at (is_utf8 x) (is_utf8 y) e
  where
    string : (z t : List ℕ) → json_string z ++ t ≡ 34 ∷ flat_map json_escape z ++ 34 ∷ t
    string z t = ap (λ l. 34 ∷ l) (append_assoc (flat_map json_escape z) (34 ∷ []) t)

    object : (z t : List ℕ) → in_hex z ++ t ≡ codes "{\"hex\":\"" ++ flat_map hex_digits z ++ 34 ∷ 125 ∷ t
    object z t = ap (λ l. codes "{\"hex\":\"" ++ l) (append_assoc (flat_map hex_digits z) (codes "\"}") t)

    at : (t u : Bool) → cond t (json_string x) (in_hex x) ++ r ≡ cond u (json_string y) (in_hex y) ++ s → (x ≡ y) × (r ≡ s)
    at true true e = quoted_back x y r s (tails (sym (string x r) ∙ e ∙ string y s))
    at true false e = absurd (eqb-false 34 123 refl (heads e))
    at false true e = absurd (eqb-false 123 34 refl (heads e))
    at false false e =
        let both = in_hex_back x y (125 ∷ r) (125 ∷ s) (append_cancel_left (codes "{\"hex\":\"") _ _ (sym (object x r) ∙ e ∙ object y s)) in
        (both.0, tails both.1)

-- ---- numbers

-- no digit
abbrev pub Other : ℕ → Type 0
Other c = (c < 48) ⊎ (57 < c)

-- bytes that don't go on with a digit
pub record Stops (bytes : List ℕ) : Type 0 where
  pub byte : ℕ
  pub rest : List ℕ
  pub begins : bytes ≡ byte ∷ rest
  pub other : Other byte

abbrev Digits : List ℕ → Type 0
Digits xs = AllByRecursion (λ c. (48 ≤ c) × (c ≤ 57)) xs

glyph_digit : (n : ℕ) → (48 ≤ digit_glyph false (n % 10)) × (digit_glyph false (n % 10) ≤ 57)
glyph_digit n = at (ltb (n % 10) 10) refl
  where
    at : (t : Bool) → ltb (n % 10) 10 ≡ t → (48 ≤ cond t (48 + n % 10) (87 + n % 10)) × (cond t (48 + n % 10) (87 + n % 10) ≤ 57)
    at true is = let small = ltb-true (n % 10) 10 is in (omega arith, omega arith)
    at false is = let big = ltb-false (n % 10) 10 is in absurd (omega arith)

onto_digits : (k n : ℕ) (acc : List ℕ) → Digits acc → Digits (digits_onto k 10 false n acc)
onto_digits zero n acc all = all
onto_digits (suc k) n acc all =
    at (eqb (n / 10) 0) (onto_digits k (n / 10) (digit_glyph false (n % 10) ∷ acc) (glyph_digit n, all))
  where
    at : (t : Bool) → Digits (digits_onto k 10 false (n / 10) (digit_glyph false (n % 10) ∷ acc))
        → Digits (cond t (digit_glyph false (n % 10) ∷ acc) (digits_onto k 10 false (n / 10) (digit_glyph false (n % 10) ∷ acc)))
    at true rest = (glyph_digit n, all)
    at false rest = rest

decimal_digits : (n : ℕ) → Digits (decimal n)
unfolding digits
decimal_digits n = onto_digits 64 n [] tt

-- a digit is no other byte
clash : {c d : ℕ} → c ≡ d → (48 ≤ c) × (c ≤ 57) → Other d → ⊥
clash is digit (inl low) = let (le, ge) = digit in omega arith
clash is digit (inr high) = let (le, ge) = digit in omega arith

run_back : (xs ys r s : List ℕ) → Digits xs → Digits ys → Stops r → Stops s → xs ++ r ≡ ys ++ s → (xs ≡ ys) × (r ≡ s)
run_back [] [] r s x_all y_all r_stops s_stops e = (refl, e)
run_back [] (y ∷ ys) r s x_all y_all r_stops s_stops e = absurd (clash (heads (sym e ∙ r_stops.begins)) y_all.0 r_stops.other)
run_back (x ∷ xs) [] r s x_all y_all r_stops s_stops e = absurd (clash (heads (e ∙ s_stops.begins)) x_all.0 s_stops.other)
run_back (x ∷ xs) (y ∷ ys) r s x_all y_all r_stops s_stops e =
    let rest = run_back xs ys r s x_all.1 y_all.1 r_stops s_stops (tails e) in
    (ap (λ n. n ∷ xs) (heads e) ∙ ap (λ l. y ∷ l) rest.0, rest.1)

pub decimal_back : (m n : ℕ) (r s : List ℕ) → m < 2 ^ 64 → n < 2 ^ 64 → Stops r → Stops s → decimal m ++ r ≡ decimal n ++ s → (m ≡ n) × (r ≡ s)
decimal_back m n r s m_fits n_fits r_stops s_stops e =
    let both = run_back (decimal m) (decimal n) r s (decimal_digits m) (decimal_digits n) r_stops s_stops e in
    (decimal_injective m n m_fits n_fits both.0, both.1)

-- a number's first byte
pub record Begins (bytes : List ℕ) : Type 0 where
  byte : ℕ
  rest : List ℕ
  begins : bytes ≡ byte ∷ rest
  low : 48 ≤ byte
  high : byte ≤ 57

first_digit : (xs : List ℕ) → Digits xs → 0 < length xs → Begins xs
first_digit [] all some = absurd (omega arith)
first_digit (x ∷ xs) all some = record { byte = x; rest = xs; begins = refl; low = all.0.0; high = all.0.1 }

decimal_begins : (n : ℕ) → n < 2 ^ 64 → Begins (decimal n)
decimal_begins n fits = first_digit (decimal n) (decimal_digits n) (decimal_nonempty n fits)

-- an unsigned number has no sign
no_sign : (n : ℕ) (r s : List ℕ) → n < 2 ^ 64 → decimal n ++ r ≡ 45 ∷ s → ⊥
no_sign n r s fits e =
    let first = decimal_begins n fits in
    let is : first.byte ≡ 45 = heads (sym (ap (λ l. l ++ r) first.begins) ∙ e) in
    let low = first.low in omega arith

pub signed_back : (y z : ℤ) (r s : List ℕ) → Fits64 y → Fits64 z → Stops r → Stops s → signed_decimal y ++ r ≡ signed_decimal z ++ s → (y ≡ z) × (r ≡ s)
signed_back (pos m) (pos n) r s y_fits z_fits r_stops s_stops e =
    let both = decimal_back m n r s (omega arith) (omega arith) r_stops s_stops e in
    (ap pos both.0, both.1)
signed_back (pos m) (negsuc n) r s y_fits z_fits r_stops s_stops e = absurd (no_sign m r (decimal (suc n) ++ s) (omega arith) e)
signed_back (negsuc m) (pos n) r s y_fits z_fits r_stops s_stops e = absurd (no_sign n s (decimal (suc m) ++ r) (omega arith) (sym e))
signed_back (negsuc m) (negsuc n) r s y_fits z_fits r_stops s_stops e =
    let both = decimal_back (suc m) (suc n) r s (omega arith) (omega arith) r_stops s_stops (tails e) in
    let same : m ≡ n = (let is = both.0 in omega arith) in
    (ap negsuc same, both.1)

-- ---- keys

text_begins : (text : List ℕ) → (rest : List ℕ) × ((text_value text ≡ 34 ∷ rest) ⊎ (text_value text ≡ 123 ∷ rest))
text_begins text = at (is_utf8 text)
  where
    at : (t : Bool) → (rest : List ℕ) × ((cond t (json_string text) (in_hex text) ≡ 34 ∷ rest) ⊎ (cond t (json_string text) (in_hex text) ≡ 123 ∷ rest))
    at true = (_, inl refl)
    at false = (_, inr refl)

-- a number doesn't begin as a text does
number_begins : (z : ℤ) → Fits64 z → (byte : ℕ) × (rest : List ℕ) × (signed_decimal z ≡ byte ∷ rest) × (44 < byte) × (byte ≤ 57)
number_begins (pos n) fits = let first = decimal_begins n (omega arith) in (first.byte, first.rest, first.begins, (let low = first.low in omega arith), first.high)
number_begins (negsuc n) fits = (45, decimal (suc n), refl, omega arith, omega arith)

no_text : (z : ℤ) (text r s : List ℕ) → Fits64 z → signed_decimal z ++ r ≡ text_value text ++ s → ⊥
no_text z text r s fits e =
    let number = number_begins z fits in
    let (rest, begins) = text_begins text in
    let (byte, after, is, low, high) = number in
    ⊎_elim (λ (quote : text_value text ≡ 34 ∷ rest).
    let same : byte ≡ 34 = heads (sym (ap (λ l. l ++ r) is) ∙ e ∙ ap (λ l. l ++ s) quote) in omega arith)
    (λ (brace : text_value text ≡ 123 ∷ rest).
    let same : byte ≡ 123 = heads (sym (ap (λ l. l ++ r) is) ∙ e ∙ ap (λ l. l ++ s) brace) in omega arith) begins

pub part_back : (p q : KeyPart) (r s : List ℕ) → FitsPart p → FitsPart q → Stops r → Stops s → part_value p ++ r ≡ part_value q ++ s → (p ≡ q) × (r ≡ s)
part_back (Number y) (Number z) r s p_fits q_fits r_stops s_stops e =
    let both = signed_back y z r s p_fits q_fits r_stops s_stops e in (ap Number both.0, both.1)
part_back (Number y) (Name z) r s p_fits q_fits r_stops s_stops e = absurd (no_text y z r s p_fits e)
part_back (Name y) (Number z) r s p_fits q_fits r_stops s_stops e = absurd (no_text z y s r q_fits (sym e))
part_back (Name y) (Name z) r s p_fits q_fits r_stops s_stops e =
    let both = text_back y z r s e in (ap Name both.0, both.1)

-- a part doesn't begin as a key ends
no_bracket : (p : KeyPart) (r s : List ℕ) → FitsPart p → part_value p ++ r ≡ 93 ∷ s → ⊥
no_bracket (Number z) r s fits e =
    let (byte, after, is, low, high) = number_begins z fits in
    let same : byte ≡ 93 = heads (sym (ap (λ l. l ++ r) is) ∙ e) in omega arith
no_bracket (Name text) r s fits e =
    let (rest, begins) = text_begins text in
    ⊎_elim (λ (quote : text_value text ≡ 34 ∷ rest). eqb-false 34 93 refl (heads (sym (ap (λ l. l ++ r) quote) ∙ e)))
    (λ (brace : text_value text ≡ 123 ∷ rest). eqb-false 123 93 refl (heads (sym (ap (λ l. l ++ r) brace) ∙ e))) begins

-- ---- arrays

-- what f writes of each can be read back where f of one can, before a comma or a bracket
module _ {A : Type 0} (f : A → List ℕ) (Fits : A → Type 0)
    (back : (p q : A) (r s : List ℕ) → Fits p → Fits q → Stops r → Stops s → f p ++ r ≡ f q ++ s → (p ≡ q) × (r ≡ s))
    (no_end : (p : A) (r s : List ℕ) → Fits p → f p ++ r ≡ 93 ∷ s → ⊥) where
  -- those after the first
  abbrev later : List A → List ℕ
  later xs = flat_map (λ y. 44 ∷ f y) xs

  later_stops : (xs : List A) (r : List ℕ) → Stops (later xs ++ 93 ∷ r)
  later_stops [] r = record { byte = 93; rest = r; begins = refl; other = inr (omega arith) }
  later_stops (x ∷ xs) r = record { byte = 44; rest = _; begins = refl; other = inl (omega arith) }

  later_back : (xs ys : List A) (r s : List ℕ) → AllByRecursion Fits xs → AllByRecursion Fits ys → later xs ++ 93 ∷ r ≡ later ys ++ 93 ∷ s → (xs ≡ ys) × (r ≡ s)
  later_back [] [] r s x_fits y_fits e = (refl, tails e)
  later_back [] (y ∷ ys) r s x_fits y_fits e = absurd (eqb-false 93 44 refl (heads e))
  later_back (x ∷ xs) [] r s x_fits y_fits e = absurd (eqb-false 44 93 refl (heads e))
  later_back (x ∷ xs) (y ∷ ys) r s x_fits y_fits e =
      let first = back x y (later xs ++ 93 ∷ r) (later ys ++ 93 ∷ s) x_fits.0 y_fits.0 (later_stops xs r) (later_stops ys s)
      (sym (append_assoc (f x) (later xs) (93 ∷ r)) ∙ tails e ∙ append_assoc (f y) (later ys) (93 ∷ s)) in
      let rest = later_back xs ys r s x_fits.1 y_fits.1 first.1 in
      (ap (λ n. n ∷ xs) first.0 ∙ ap (λ l. y ∷ l) rest.0, rest.1)

  separated_back : (xs ys : List A) (r s : List ℕ) → AllByRecursion Fits xs → AllByRecursion Fits ys
      → comma_list f xs ++ 93 ∷ r ≡ comma_list f ys ++ 93 ∷ s → (xs ≡ ys) × (r ≡ s)
  separated_back [] [] r s x_fits y_fits e = (refl, tails e)
  separated_back [] (y ∷ ys) r s x_fits y_fits e =
      absurd (no_end y (later ys ++ 93 ∷ s) r y_fits.0 (sym (append_assoc (f y) (later ys) (93 ∷ s)) ∙ sym e))
  separated_back (x ∷ xs) [] r s x_fits y_fits e =
      absurd (no_end x (later xs ++ 93 ∷ r) s x_fits.0 (sym (append_assoc (f x) (later xs) (93 ∷ r)) ∙ e))
  separated_back (x ∷ xs) (y ∷ ys) r s x_fits y_fits e =
      let first = back x y (later xs ++ 93 ∷ r) (later ys ++ 93 ∷ s) x_fits.0 y_fits.0 (later_stops xs r) (later_stops ys s)
      (sym (append_assoc (f x) (later xs) (93 ∷ r)) ∙ e ∙ append_assoc (f y) (later ys) (93 ∷ s)) in
      let rest = later_back xs ys r s x_fits.1 y_fits.1 first.1 in
      (ap (λ n. n ∷ xs) first.0 ∙ ap (λ l. y ∷ l) rest.0, rest.1)

  pub array_back : (xs ys : List A) (r s : List ℕ) → AllByRecursion Fits xs → AllByRecursion Fits ys → array_of f xs ++ r ≡ array_of f ys ++ s → (xs ≡ ys) × (r ≡ s)
  array_back xs ys r s x_fits y_fits e =
      separated_back xs ys r s x_fits y_fits
      (sym (append_assoc (comma_list f xs) (93 ∷ []) r) ∙ tails e ∙ append_assoc (comma_list f ys) (93 ∷ []) s)

pub key_back : (x y : List KeyPart) (r s : List ℕ) → AllByRecursion FitsPart x → AllByRecursion FitsPart y → key_value x ++ r ≡ key_value y ++ s → (x ≡ y) × (r ≡ s)
key_back = array_back part_value FitsPart part_back no_bracket

-- ---- entries

-- four pieces one after the other
pub regroup : (a b c d : List ℕ) → a ++ b ++ c ++ d ≡ a ++ (b ++ (c ++ d))
regroup a b c d = append_assoc (a ++ b) c d ∙ append_assoc a b (c ++ d)

pub line_back : (head : List ℕ) (x y : Entry) → AllByRecursion FitsPart x.0 → AllByRecursion FitsPart y.0 → entry_line head x ≡ entry_line head y
    → (x.0 ≡ y.0) × (entry_value x.1 ≡ entry_value y.1)
line_back head x y x_fits y_fits e =
    let member = codes ",\"value\":" in
    let close = codes "}\n" in
    let pieces = λ (z : Entry). append_assoc (head ++ key_value z.0 ++ member) (entry_value z.1) close ∙ regroup head (key_value z.0) member (entry_value z.1 ++ close) in
    let keys = key_back x.0 y.0 (member ++ (entry_value x.1 ++ close)) (member ++ (entry_value y.1 ++ close)) x_fits y_fits
    (append_cancel_left head (key_value x.0 ++ (member ++ (entry_value x.1 ++ close))) (key_value y.0 ++ (member ++ (entry_value y.1 ++ close))) (sym (pieces x) ∙ e ∙ pieces y)) in (
      keys.0,
      append_cancel_right (entry_value x.1) (entry_value y.1) close
          (append_cancel_left member (entry_value x.1 ++ close) (entry_value y.1 ++ close) keys.1),
    )
