-- What an entry holds can be read back from its line.
use Rattle.std.proofs.Common.{◌≡◌, ◌⊎◌, inl, inr, ℕ, zero, suc, ◌+◌, ◌^◌, ◌<◌, ◌≤◌, Bool, true, false}
use Rattle.std.proofs.Common.{cond, ltb, List, [], ◌∷◌, ◌++◌, length, map, All, refl, sym}
use Rattle.std.proofs.Common.{ap, ◌∙◌, arith, append_assoc}
use Rattle.std.specs.Prelude.{ℤ, pos, negsuc, codes, unsigned_abs, slice_index}
use Rattle.std.specs.Fmt.{decimal, signed_decimal}
use Rattle.std.specs.List.{AllByRecursion, flat_map}
use Rattle.std.proofs.lemmas.Bool.{cases_lt, eqb-false}
use Rattle.std.proofs.lemmas.Int.{ints}
use Rattle.std.proofs.lemmas.List.{append_cancel_left, append_cancel_right, ext_get_or}
use Rattle.std.proofs.lemmas.List.{get_or_past}
use Rattle.std.proofs.lemmas.List.Elements.{All-get_or}
use Rattle.std.proofs.lemmas.List.Folds.{flat_map-map}
use Rattle.aggregations.proofs.RankLemmas.{label_small}
use Rattle.data_lines.specs.Vocabulary.{AggFn, Count, Sum, Min, Max, Avg, Quantize, Lquantize, Histogram}
use Rattle.data_lines.specs.Vocabulary.{Counted, Summed, Least, Greatest, Mean, Counts, Entry, Held}
use Rattle.data_lines.specs.Vocabulary.{LinearRange, Scale, Powers, Steps, buckets, label}
use Rattle.data_lines.specs.Json.{array_of}
use Rattle.data_lines.specs.Values.{Fits64, FitsCounts, FitsHeld, FitsPart, bucket_value, entry_value}
use Rattle.data_lines.specs.Values.{histogram_value, mean_value, pair_value, range_members}
use Rattle.data_lines.specs.Values.{used_buckets}
use Rattle.data_lines.specs.Lines.{entry_line}
use Rattle.data_lines.proofs.Labels.{counted, counts_back, used}
use Rattle.data_lines.proofs.Reading.{Stops, array_back, decimal_back, heads, line_back, regroup}
use Rattle.data_lines.proofs.Reading.{signed_back, tails}

-- ---- numbers with nothing after them

-- bytes that something stops
closed : (xs ys : List ℕ) → xs ≡ ys → xs ++ codes "}" ≡ ys ++ codes "}"
closed xs ys e = ap (λ l. l ++ codes "}") e

brace : Stops (codes "}")
brace = record { byte = 125; rest = []; begins = refl; other = inr (omega arith) }

unsigned_is : (m n : ℕ) → m < 2 ^ 64 → n < 2 ^ 64 → decimal m ≡ decimal n → m ≡ n
unsigned_is m n m_fits n_fits e = (decimal_back m n (codes "}") (codes "}") m_fits n_fits brace brace (closed (decimal m) (decimal n) e)).0

signed_is : (y z : ℤ) → Fits64 y → Fits64 z → signed_decimal y ≡ signed_decimal z → y ≡ z
signed_is y z y_fits z_fits e = (signed_back y z (codes "}") (codes "}") y_fits z_fits brace brace (closed (signed_decimal y) (signed_decimal z) e)).0

mean_back : (y z : ℤ) (m n : ℕ) → Fits64 y → Fits64 z → m < 2 ^ 64 → n < 2 ^ 64 → mean_value y m ≡ mean_value z n → (y ≡ z) × (m ≡ n)
mean_back y z m n y_fits z_fits m_fits n_fits e =
    let member = codes ",\"count\":" in
    let start = codes "{\"sum\":" in
    let pieces = λ (x : ℤ) (k : ℕ). append_assoc (start ++ signed_decimal x ++ member) (decimal k) (codes "}") ∙ regroup start (signed_decimal x) member (decimal k ++ codes "}") in
    let rest = λ (k : ℕ). member ++ (decimal k ++ codes "}") in
    let first = signed_back y z (rest m) (rest n) y_fits z_fits (comma (decimal m)) (comma (decimal n))
    (append_cancel_left start (signed_decimal y ++ rest m) (signed_decimal z ++ rest n) (sym (pieces y m) ∙ e ∙ pieces z n)) in
    let second = append_cancel_left member (decimal m ++ codes "}") (decimal n ++ codes "}") first.1 in
    (first.0, unsigned_is m n m_fits n_fits (append_cancel_right (decimal m) (decimal n) (codes "}") second))
  where
    comma : (xs : List ℕ) → Stops (codes ",\"count\":" ++ (xs ++ codes "}"))
    comma xs = record { byte = 44; rest = codes "\"count\":" ++ (xs ++ codes "}"); begins = refl; other = inl (omega arith) }

-- ---- buckets

abbrev pair : ℤ × ℕ → List ℕ
pair p = pair_value p.0 p.1

abbrev FitsPair : ℤ × ℕ → Type 0
FitsPair p = Fits64 p.0 × (p.1 < 2 ^ 64)

pair_parts : (p : ℤ × ℕ) (r : List ℕ) → pair p ++ r ≡ 91 ∷ (signed_decimal p.0 ++ (44 ∷ (decimal p.1 ++ (93 ∷ r))))
pair_parts p r =
    ap (λ l. 91 ∷ l) (append_assoc (signed_decimal p.0 ++ (44 ∷ decimal p.1)) (93 ∷ []) r ∙ append_assoc (signed_decimal p.0) (44 ∷ decimal p.1) (93 ∷ r))

pair_back : (p q : ℤ × ℕ) (r s : List ℕ) → FitsPair p → FitsPair q → Stops r → Stops s → pair p ++ r ≡ pair q ++ s → (p ≡ q) × (r ≡ s)
pair_back p q r s p_fits q_fits r_stops s_stops e =
    let first = signed_back p.0 q.0 (44 ∷ (decimal p.1 ++ (93 ∷ r))) (44 ∷ (decimal q.1 ++ (93 ∷ s))) p_fits.0 q_fits.0 (comma (decimal p.1 ++ (93 ∷ r))) (comma (decimal q.1 ++ (93 ∷ s)))
    (tails (sym (pair_parts p r) ∙ e ∙ pair_parts q s)) in
    let second = decimal_back p.1 q.1 (93 ∷ r) (93 ∷ s) p_fits.1 q_fits.1 (bracket r) (bracket s) (tails first.1) in
    (ap (λ y. (y, p.1)) first.0 ∙ ap (λ n. (q.0, n)) second.0, tails second.1)
  where
    comma : (xs : List ℕ) → Stops (44 ∷ xs)
    comma xs = record { byte = 44; rest = xs; begins = refl; other = inl (omega arith) }

    bracket : (xs : List ℕ) → Stops (93 ∷ xs)
    bracket xs = record { byte = 93; rest = xs; begins = refl; other = inr (omega arith) }

no_bracket : (p : ℤ × ℕ) (r s : List ℕ) → FitsPair p → pair p ++ r ≡ 93 ∷ s → ⊥
no_bracket p r s fits e = eqb-false 91 93 refl (heads (sym (pair_parts p r) ∙ e))

small_fits : (z : ℤ) → unsigned_abs z ≤ 2 ^ 62 → Fits64 z
small_fits (pos n) small = omega (arith, ints)
small_fits (negsuc n) small = omega (arith, ints)

pairs_fit : (scale : Scale) (count : ℕ → ℕ) → ((b : ℕ) → count b < 2 ^ 64) → (a n : ℕ) → a + n ≤ buckets scale → AllByRecursion FitsPair (map (counted scale count) (used count a n))
pairs_fit scale count fits a zero within = tt
pairs_fit scale count fits a (suc n) within = at (ltb 0 (count a)) (pairs_fit scale count fits (a + 1) n (omega arith))
  where
    at : (t : Bool) → AllByRecursion FitsPair (map (counted scale count) (used count (a + 1) n))
        → AllByRecursion FitsPair (map (counted scale count) (cond t (a ∷ used count (a + 1) n) (used count (a + 1) n)))
    at true rest = ((small_fits (label scale a) (label_small scale a (omega arith)), fits a), rest)
    at false rest = rest

-- a histogram's buckets as pairs
as_pairs : (scale : Scale) (h : Histogram) (bs : List ℕ) → h.scale ≡ scale
    → array_of (bucket_value h) bs ≡ array_of pair (map (counted scale (slice_index h.counts)) bs)
as_pairs scale h [] is = refl
as_pairs scale h (b ∷ bs) is =
    let g = counted scale (slice_index h.counts) in
    let here : bucket_value h b ≡ pair (g b) = one b in
    let later : flat_map (λ b. 44 ∷ bucket_value h b) bs ≡ flat_map (λ p. 44 ∷ pair p) (map g bs) =
    each bs ∙ sym (flat_map-map (λ p. 44 ∷ pair p) g bs) in
    ap (λ l. 91 ∷ (l ++ flat_map (λ b. 44 ∷ bucket_value h b) bs) ++ 93 ∷ []) here ∙ ap (λ l. 91 ∷ (pair (g b) ++ l) ++ 93 ∷ []) later
  where
    one : (b : ℕ) → bucket_value h b ≡ pair (counted scale (slice_index h.counts) b)
    one b = ap (λ s. 91 ∷ signed_decimal (label s b) ++ 44 ∷ decimal (slice_index h.counts b) ++ 93 ∷ []) is

    each : (bs : List ℕ) → flat_map (λ b. 44 ∷ bucket_value h b) bs ≡ flat_map (λ b. 44 ∷ pair (counted scale (slice_index h.counts) b)) bs
    each [] = refl
    each (b ∷ bs) = ap (λ l. 44 ∷ l ++ flat_map (λ b. 44 ∷ bucket_value h b) bs) (one b)
        ∙ ap (λ l. 44 ∷ pair (counted scale (slice_index h.counts) b) ++ l) (each bs)

-- each count is small, past the last one too
count_small : (counts : List ℕ) → All (λ n. n < 2 ^ 64) counts → (b : ℕ) → slice_index counts b < 2 ^ 64
count_small counts small b = at (cases_lt b (length counts))
  where
    at : ((b < length counts) ⊎ (length counts ≤ b)) → slice_index counts b < 2 ^ 64
    at (inl within) = All-get_or (λ n. n < 2 ^ 64) counts b 0 within small
    at (inr past) = let none = get_or_past counts b 0 past in omega arith

histogram_back : (scale : Scale) (h g : Histogram) → FitsCounts scale h → FitsCounts scale g → histogram_value h ≡ histogram_value g → h ≡ g
histogram_back scale h g h_fits g_fits e =
    let close = codes "}" in
    let member = codes "\"counts\":" in
    let array = λ (x : Histogram). array_of (bucket_value x) (used_buckets x.counts) in
    let pieces = λ (x : Histogram). append_assoc (codes "{" ++ range_members x.scale ++ member) (array x) close ∙ regroup (codes "{") (range_members x.scale) member (array x ++ close) in
    let same : h.scale ≡ g.scale = h_fits.same ∙ sym g_fits.same in
    let ranges : range_members g.scale ++ (member ++ (array h ++ close)) ≡ range_members g.scale ++ (member ++ (array g ++ close)) =
    sym (ap (λ s. range_members s ++ (member ++ (array h ++ close))) same)
    ∙ append_cancel_left (codes "{") (range_members h.scale ++ (member ++ (array h ++ close))) (range_members g.scale ++ (member ++ (array g ++ close))) (sym (pieces h) ∙ e ∙ pieces g) in
    let arrays = append_cancel_left member (array h ++ close) (array g ++ close)
    (append_cancel_left (range_members g.scale) (member ++ (array h ++ close)) (member ++ (array g ++ close)) ranges) in
    let h_counts = slice_index h.counts in
    let g_counts = slice_index g.counts in
    let n = buckets scale in
    let h_used : used_buckets h.counts ≡ used h_counts 0 n = ap (used h_counts 0) h_fits.each in
    let g_used : used_buckets g.counts ≡ used g_counts 0 n = ap (used g_counts 0) g_fits.each in
    let h_is = as_pairs scale h (used_buckets h.counts) h_fits.same ∙ ap (λ bs. array_of pair (map (counted scale h_counts) bs)) h_used in
    let g_is = as_pairs scale g (used_buckets g.counts) g_fits.same ∙ ap (λ bs. array_of pair (map (counted scale g_counts) bs)) g_used in
    let pairs = array_back pair FitsPair pair_back no_bracket (map (counted scale h_counts) (used h_counts 0 n)) (map (counted scale g_counts) (used g_counts 0 n)) (codes "}") (codes "}")
    (pairs_fit scale h_counts (count_small h.counts h_fits.small) 0 n (omega arith)) (pairs_fit scale g_counts (count_small g.counts g_fits.small) 0 n (omega arith))
    (sym (ap (λ l. l ++ codes "}") h_is) ∙ arrays ∙ ap (λ l. l ++ codes "}") g_is) in
    let counts : h.counts ≡ g.counts = ext_get_or 0 h.counts g.counts (h_fits.each ∙ sym g_fits.each)
    (λ b within. counts_back scale h_counts g_counts 0 n (omega arith) pairs.0 b (omega arith) (let long = h_fits.each in omega arith)) in
    ap (λ s. record { scale = s; counts = h.counts }) same ∙ ap (λ l. record { scale = g.scale; counts = l }) counts

-- ---- what is held

as_count : (held : Held) → FitsHeld Count held → (n : ℕ) × (held ≡ Counted n) × (n < 2 ^ 64)
as_count (Counted n) fits = (n, refl, fits)
as_count held fits = absurd fits

as_sum : (held : Held) → FitsHeld Sum held → (s : ℤ) × (held ≡ Summed s) × Fits64 s
as_sum (Summed s) fits = (s, refl, fits)
as_sum held fits = absurd fits

as_least : (held : Held) → FitsHeld Min held → (m : ℤ) × (held ≡ Least m) × Fits64 m
as_least (Least m) fits = (m, refl, fits)
as_least held fits = absurd fits

as_greatest : (held : Held) → FitsHeld Max held → (m : ℤ) × (held ≡ Greatest m) × Fits64 m
as_greatest (Greatest m) fits = (m, refl, fits)
as_greatest held fits = absurd fits

as_mean : (held : Held) → FitsHeld Avg held → (s : ℤ) × (n : ℕ) × (held ≡ Mean (record { sum = s; count = n })) × Fits64 s × (n < 2 ^ 64)
as_mean (Mean m) fits = (m.sum, m.count, refl, fits.0, fits.1)
as_mean held fits = absurd fits

as_powers : (held : Held) → FitsHeld Quantize held → (h : Histogram) × (held ≡ Counts h) × FitsCounts Powers h
as_powers (Counts h) fits = (h, refl, fits)
as_powers held fits = absurd fits

as_levels : (r : LinearRange) (held : Held) → FitsHeld (Lquantize r) held → (h : Histogram) × (held ≡ Counts h) × FitsCounts (Steps r) h
as_levels r (Counts h) fits = (h, refl, fits)
as_levels r held fits = absurd fits

-- equal bytes of what is held, as it is known to be
between : (x y a b : Held) → x ≡ a → y ≡ b → entry_value x ≡ entry_value y → entry_value a ≡ entry_value b
between x y a b x_is y_is e = sym (ap entry_value x_is) ∙ e ∙ ap entry_value y_is

held_back : (f : AggFn) (x y : Held) → FitsHeld f x → FitsHeld f y → entry_value x ≡ entry_value y → x ≡ y
held_back Count x y x_fits y_fits e =
    let (m, x_is, m_fits) = as_count x x_fits in
    let (n, y_is, n_fits) = as_count y y_fits in
    x_is ∙ ap Counted (unsigned_is m n m_fits n_fits (between x y (Counted m) (Counted n) x_is y_is e)) ∙ sym y_is
held_back Sum x y x_fits y_fits e =
    let (m, x_is, m_fits) = as_sum x x_fits in
    let (n, y_is, n_fits) = as_sum y y_fits in
    x_is ∙ ap Summed (signed_is m n m_fits n_fits (between x y (Summed m) (Summed n) x_is y_is e)) ∙ sym y_is
held_back Min x y x_fits y_fits e =
    let (m, x_is, m_fits) = as_least x x_fits in
    let (n, y_is, n_fits) = as_least y y_fits in
    x_is ∙ ap Least (signed_is m n m_fits n_fits (between x y (Least m) (Least n) x_is y_is e)) ∙ sym y_is
held_back Max x y x_fits y_fits e =
    let (m, x_is, m_fits) = as_greatest x x_fits in
    let (n, y_is, n_fits) = as_greatest y y_fits in
    x_is ∙ ap Greatest (signed_is m n m_fits n_fits (between x y (Greatest m) (Greatest n) x_is y_is e)) ∙ sym y_is
held_back Avg x y x_fits y_fits e =
    let (s, m, x_is, s_fits, m_fits) = as_mean x x_fits in
    let (t, n, y_is, t_fits, n_fits) = as_mean y y_fits in
    let a : Held = Mean (record { sum = s; count = m }) in
    let b : Held = Mean (record { sum = t; count = n }) in
    let both = mean_back s t m n s_fits t_fits m_fits n_fits (between x y a b x_is y_is e) in
    x_is ∙ ap (λ s. Mean (record { sum = s; count = m })) both.0 ∙ ap (λ n. Mean (record { sum = t; count = n })) both.1 ∙ sym y_is
held_back Quantize x y x_fits y_fits e =
    let (h, x_is, h_fits) = as_powers x x_fits in
    let (g, y_is, g_fits) = as_powers y y_fits in
    x_is ∙ ap Counts (histogram_back Powers h g h_fits g_fits (between x y (Counts h) (Counts g) x_is y_is e)) ∙ sym y_is
held_back (Lquantize r) x y x_fits y_fits e =
    let (h, x_is, h_fits) = as_levels r x x_fits in
    let (g, y_is, g_fits) = as_levels r y y_fits in
    x_is ∙ ap Counts (histogram_back (Steps r) h g h_fits g_fits (between x y (Counts h) (Counts g) x_is y_is e)) ∙ sym y_is

pub entry_back : (head : List ℕ) (f : AggFn) (x y : Entry) → AllByRecursion FitsPart x.0 → AllByRecursion FitsPart y.0 → FitsHeld f x.1 → FitsHeld f y.1
    → entry_line head x ≡ entry_line head y → x ≡ y
entry_back head f x y x_key y_key x_fits y_fits e =
    let both = line_back head x y x_key y_key e in
    ap (λ key. (key, x.1)) both.0 ∙ ap (λ held. (y.0, held)) (held_back f x.1 y.1 x_fits y_fits both.1)
