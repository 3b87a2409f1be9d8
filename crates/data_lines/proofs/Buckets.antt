-- The buckets of a histogram that have arguments.
use Rattle.std.proofs.Common.{◌≡◌, ℕ, zero, suc, ◌+◌, ◌-◌, ◌<◌, ◌≤◌, Bool, true, false, cond, List}
use Rattle.std.proofs.Common.{[], ◌∷◌, ◌++◌, length, get_or, filter, sum, refl, sym, ap, ◌∙◌, arith}
use Rattle.std.proofs.Common.{ltb, append-nil, append_assoc}
use Rattle.std.specs.List.{flat_map, range_with_len}
use Rattle.std.proofs.lemmas.Bool.{lt-ltb, le-ltb}
use Rattle.std.proofs.lemmas.List.Concat.{flat_map-append}
use Rattle.std.proofs.lemmas.List.Elements.{filter-append}
use Rattle.aggregations.specs.Histograms.{IsSpan}
use Rattle.report.proofs.Rows.{share_le, ordered, last_within}
use Rattle.data_lines.specs.{Json.comma_list, Values.used_buckets}

-- a range in two parts
range_parts : (a m n k : ℕ) → m + n ≡ k → range_with_len a k ≡ range_with_len a m ++ range_with_len (a + m) n
range_parts a zero n k is =
    ap (range_with_len a) (let e : k ≡ n = omega arith in e) ∙ ap (λ s. range_with_len s n) (let e : a ≡ a + 0 = omega arith in e)
range_parts a (suc m) n zero is = absurd (omega arith)
range_parts a (suc m) n (suc k) is =
    ap (λ l. a ∷ l) (range_parts (a + 1) m n k (omega arith))
    ∙ ap (λ s. a ∷ range_with_len (a + 1) m ++ range_with_len s n) (let e : a + 1 + m ≡ a + suc m = omega arith in e)

none_pass : (p : ℕ → Bool) (a n : ℕ) → ((b : ℕ) → a ≤ b → b < a + n → p b ≡ false) → filter p (range_with_len a n) ≡ []
none_pass p a zero none = refl
none_pass p a (suc n) none =
    ap (λ t. cond t (a ∷ filter p (range_with_len (a + 1) n)) (filter p (range_with_len (a + 1) n))) (none a (omega arith) (omega arith))
    ∙ none_pass p (a + 1) n (λ b le lt. none b (omega arith) (omega arith))

-- whether the bucket has arguments
abbrev pub has_some : List ℕ → ℕ → Bool
has_some counts b = ltb 0 (get_or counts b 0)

-- those of a span: the first, and those among the later ones
pub used_of_span : (counts : List ℕ) (first last : ℕ) → IsSpan counts first last
    → used_buckets counts ≡ first ∷ filter (has_some counts) (range_with_len (first + 1) (last - first))
used_of_span counts first last span =
    let up = ordered counts first last span in
    let inside = last_within counts first last span in
    let all = length counts in
    let p = has_some counts in
    let before : filter p (range_with_len 0 first) ≡ [] = none_pass p 0 first (λ b le lt. ap (ltb 0) (span.before b (omega arith))) in
    let after : filter p (range_with_len (first + suc (last - first)) (all - suc last)) ≡ [] =
    none_pass p (first + suc (last - first)) (all - suc last) (λ b le lt. ap (ltb 0) (span.after b (omega arith))) in
    let here : p first ≡ true = lt-ltb 0 (get_or counts first 0) span.starts in
    let later = range_with_len (first + 1) (last - first) in
    ap (filter p) (range_parts 0 first (all - first) all (omega arith))
    ∙ filter-append p (range_with_len 0 first) (range_with_len (0 + first) (all - first))
    ∙ ap (λ l. l ++ filter p (range_with_len (0 + first) (all - first))) before
    ∙ ap (λ s. filter p (range_with_len s (all - first))) (let e : 0 + first ≡ first = omega arith in e)
    ∙ ap (filter p) (range_parts first (suc (last - first)) (all - suc last) (all - first) (omega arith))
    ∙ filter-append p (range_with_len first (suc (last - first))) (range_with_len (first + suc (last - first)) (all - suc last))
    ∙ ap (λ l. filter p (first ∷ later) ++ l) after
    ∙ append-nil (filter p (first ∷ later))
    ∙ ap (λ t. cond t (first ∷ filter p later) (filter p later)) here

-- without arguments there is none
pub used_of_none : (counts : List ℕ) → sum counts ≡ 0 → used_buckets counts ≡ []
used_of_none counts none =
    none_pass (has_some counts) 0 (length counts) (λ b le lt. let share = share_le counts b in le-ltb 0 (get_or counts b 0) (omega arith))

-- one more bucket
pub buckets_more : (f : ℕ → List ℕ) (p : ℕ → Bool) (start b : ℕ) → start ≤ b
    → flat_map f (filter p (range_with_len start (b + 1 - start))) ≡ flat_map f (filter p (range_with_len start (b - start))) ++ cond (p b) (f b) []
buckets_more f p start b le =
    ap (λ l. flat_map f (filter p l)) (range_parts start (b - start) 1 (b + 1 - start) (omega arith))
    ∙ ap (flat_map f) (filter-append p (range_with_len start (b - start)) (range_with_len (start + (b - start)) 1))
    ∙ flat_map-append f (filter p (range_with_len start (b - start))) (filter p (range_with_len (start + (b - start)) 1))
    ∙ ap (λ n. flat_map f (filter p (range_with_len start (b - start))) ++ flat_map f (filter p (n ∷ []))) (let e : start + (b - start) ≡ b = omega arith in e)
    ∙ ap (λ l. flat_map f (filter p (range_with_len start (b - start))) ++ l) (at (p b) refl)
  where
    at : (t : Bool) → p b ≡ t → flat_map f (filter p (b ∷ [])) ≡ cond (p b) (f b) []
    at true is = ap (λ t. flat_map f (cond t (b ∷ []) [])) is ∙ append-nil (f b) ∙ sym (ap (λ t. cond t (f b) []) is)
    at false is = ap (λ t. flat_map f (cond t (b ∷ []) [])) is ∙ sym (ap (λ t. cond t (f b) []) is)

-- a bucket is done
pub bucket_done : (f : ℕ → List ℕ) (p : ℕ → Bool) (start b : ℕ) (before now after : List ℕ) → start ≤ b
    → now ≡ before ++ flat_map f (filter p (range_with_len start (b - start))) → after ≡ now ++ cond (p b) (f b) []
    → after ≡ before ++ flat_map f (filter p (range_with_len start (b + 1 - start)))
bucket_done f p start b before now after le was more =
    more ∙ ap (λ l. l ++ cond (p b) (f b) []) was ∙ append_assoc before (flat_map f (filter p (range_with_len start (b - start)))) (cond (p b) (f b) [])
    ∙ ap (λ l. before ++ l) (sym (buckets_more f p start b le))

-- all from the first to the last, the first without a comma
pub buckets_all : (f : ℕ → List ℕ) (counts : List ℕ) (first last : ℕ) (old begun after : List ℕ) → IsSpan counts first last
    → begun ≡ old ++ f first → after ≡ begun ++ flat_map (λ b. 44 ∷ f b) (filter (has_some counts) (range_with_len (first + 1) (last + 1 - (first + 1))))
    → after ≡ old ++ comma_list f (used_buckets counts)
buckets_all f counts first last old begun after span start done =
    let rest = λ (n : ℕ). flat_map (λ b. 44 ∷ f b) (filter (has_some counts) (range_with_len (first + 1) n)) in
    done ∙ ap (λ n. begun ++ rest n) (let e : last + 1 - (first + 1) ≡ last - first = omega arith in e)
    ∙ ap (λ l. l ++ rest (last - first)) start ∙ append_assoc old (f first) (rest (last - first))
    ∙ ap (λ bs. old ++ comma_list f bs) (sym (used_of_span counts first last span))
