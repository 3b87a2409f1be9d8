-- Sorted entries with different keys are a listing.
use Rattle.std.proofs.Common.{◌≡◌, ◌≢◌, ℕ, ◌+◌, ◌<◌, Bool, true, false, true≢false, cond, List, []}
use Rattle.std.proofs.Common.{◌∷◌, ◌++◌, length, get_or, map, refl, sym, ap, ◌∙◌, arith}
use Rattle.std.proofs.Common.{append_assoc}
use Rattle.std.specs.Borrow.{Bor}
use Rattle.std.specs.Cmp.{IsTotalOrder, int_cmp_total, then_total, on_total}
use Rattle.std.specs.List.{AllByRecursion, IsDistinct, flat_map}
use Rattle.std.specs.List.Sorted.{IsSortedBy, IsStrictlySortedBy, IsPermutation}
use Rattle.std.specs.Map.{keys_of}
use Rattle.std.specs.Map.Iter.{deref_pair}
use Rattle.std.specs.Ordering.{int_cmp, is_lt, ordering_then, ordering_reverse}
use Rattle.std.specs.declared.cmp.Ordering.{Ordering}
use Rattle.std.specs.declared.cmp.Ordering.TheVariants.{Less, Equal, Greater}
use Rattle.std.proofs.lemmas.List.{get_or-map, length-map}
use Rattle.std.proofs.lemmas.List.Elements.{All-from_recursion, recursion_from_All}
use Rattle.std.proofs.lemmas.List.Sorted.{All-permutation, IsPermutation-map, IsPermutation-refl}
use Rattle.std.proofs.lemmas.List.Sorted.{IsPermutation-trans, IsPermutation-cons}
use Rattle.std.proofs.lemmas.List.Sorted.{IsPermutation-append_left, IsPermutation-append_comm}
use Rattle.std.proofs.lemmas.List.Folds.{flat_map-map}
use Rattle.std.proofs.lemmas.Map.Keys.{sorted_from_all_adjacent, apart_from_distinct}
use Rattle.d_values.specs.declared.key.KeyPart.{KeyPart}
use Rattle.d_values.specs.Keys.{key_cmp, same_key}
use Rattle.d_values.specs.KeyLaws.{key_cmp_total, same_key_decides}
use Rattle.d_values.proofs.Comparing.{key_cmp_equal}
use Rattle.aggregations.specs.declared.function.AggFn.{AggFn}
use Rattle.aggregations.specs.declared.held.Held.{Held}
use Rattle.aggregations.specs.Table.{Contribution, AreEntries}
use Rattle.aggregations.proofs.EntryLemmas.{AreEntries-IsPermutation, entries_exist}
use Rattle.report.specs.Entry.{Entry, entry_bytes}
use Rattle.report.specs.Listing.{entry_cmp, entry_rank, IsListing, listing_bytes}

pub entry_cmp_total : IsTotalOrder entry_cmp
entry_cmp_total = then_total (on_total entry_rank int_cmp_total) (on_total (λ e. e.0) key_cmp_total)

-- entries in order stay so where each is seen as something else
sorted_map : {X Y : Type 0} (f : X → Y) (lt : Y → Y → Bool) (xs : List X) → IsSortedBy (λ a b. lt (f a) (f b)) xs → IsSortedBy lt (map f xs)
sorted_map f lt [] sorted = λ k d low within. absurd (omega arith)
sorted_map f lt (x ∷ xs) sorted = λ k d low within.
    let size = length-map (x ∷ xs) f in
    let here = get_or-map f (x ∷ xs) k x d (omega arith) in
    let next = get_or-map f (x ∷ xs) (k + 1) x d (omega arith) in
    ap (λ b. lt b (get_or (map f (x ∷ xs)) k d)) next ∙ ap (λ a. lt (f (get_or (x ∷ xs) (k + 1) x)) a) here ∙ sorted k x low (omega arith)

equal_keys : (r s : Ordering) → ordering_then r s ≡ Equal → s ≡ Equal
equal_keys Less s e = cc
equal_keys Equal s e = e
equal_keys Greater s e = cc

-- of two entries with different keys, one that isn't after the other is before it
before : (a b : Entry) → is_lt (entry_cmp b a) ≡ false → a.0 ≢ b.0 → entry_cmp a b ≡ Less
before a b other apart = by (entry_cmp a b) refl
  where
    by : (r : Ordering) → entry_cmp a b ≡ r → r ≡ Less
    by Less e = refl
    by Equal e = absurd (apart ((key_cmp_equal a.0 b.0 (key_cmp a.0 b.0) refl).0 (equal_keys (int_cmp (entry_rank a) (entry_rank b)) (key_cmp a.0 b.0) e)))
    by Greater e =
        let turned : entry_cmp b a ≡ Less = entry_cmp_total.antisymm b a ∙ ap ordering_reverse e in
        let less : is_lt (entry_cmp b a) ≡ true = ap is_lt turned in
        absurd (cc)

rises_from_sorted : (es : List Entry) → IsDistinct same_key (keys_of es) → IsSortedBy (λ a b. is_lt (entry_cmp a b)) es → IsStrictlySortedBy entry_cmp es
unfolding IsStrictlySortedBy
rises_from_sorted [] once sorted = tt
rises_from_sorted (e ∷ es) once sorted = sorted_from_all_adjacent entry_cmp_total (e ∷ es) e (λ k within.
    let size = length-map (e ∷ es) (λ e. e.0) in
    let here = get_or-map (λ e. e.0) (e ∷ es) k e e.0 (omega arith) in
    let next = get_or-map (λ e. e.0) (e ∷ es) (k + 1) e e.0 (omega arith) in
    before (get_or (e ∷ es) k e) (get_or (e ∷ es) (k + 1) e) (sorted k e (omega arith) within)
    (λ same. let other = apart_from_distinct same_key (keys_of (e ∷ es)) k (k + 1) e.0 once (omega arith) (omega arith) in
    absurd (true≢false (sym ((same_key_decides (get_or (keys_of (e ∷ es)) k e.0) (get_or (keys_of (e ∷ es)) (k + 1) e.0)).1 (here ∙ same ∙ sym next)) ∙ other))))

-- the entries of a table, sorted
pub listed : (function : AggFn) (agg : ℕ) (contributions : List Contribution) (xs ys : List (Bor (List KeyPart) × Bor Held)) → IsPermutation xs ys
    → IsSortedBy (λ a b. is_lt (entry_cmp (deref_pair a) (deref_pair b))) ys → IsPermutation (map deref_pair xs) (map deref_pair ys)
    → AreEntries function agg contributions (map deref_pair xs) → IsListing function agg contributions (map deref_pair ys)
listed function agg contributions xs ys moved sorted seen are =
    let now = AreEntries-IsPermutation function agg contributions (map deref_pair xs) (map deref_pair ys) seen are in
    record { are = now; rises = rises_from_sorted (map deref_pair ys) now.once (sorted_map deref_pair (λ a b. is_lt (entry_cmp a b)) ys sorted) }

-- a line feed and the bytes of each entry
pub listing_of_some : (es : List (Bor (List KeyPart) × Bor Held)) (out : List ℕ) → 0 < length es
    → (out ++ 10 ∷ []) ++ flat_map (λ e. entry_bytes (deref_pair e)) es ≡ out ++ listing_bytes (map deref_pair es)
listing_of_some [] out some = absurd (omega arith)
listing_of_some (e ∷ es) out some =
    append_assoc out (10 ∷ []) (flat_map (λ e. entry_bytes (deref_pair e)) (e ∷ es))
    ∙ ap (λ l. out ++ 10 ∷ l) (sym (flat_map-map entry_bytes deref_pair (e ∷ es)))

-- ---- entries with different keys can be put in order

in_place : Entry → List Entry → List Entry
in_place e [] = e ∷ []
in_place e (x ∷ xs) = cond (is_lt (entry_cmp e x)) (e ∷ x ∷ xs) (x ∷ in_place e xs)

in_place_moves : (e : Entry) (xs : List Entry) → IsPermutation (e ∷ xs) (in_place e xs)
unfolding in_place
in_place_moves e [] = IsPermutation-refl (e ∷ [])
in_place_moves e (x ∷ xs) = at (is_lt (entry_cmp e x)) (in_place_moves e xs)
  where
    at : (b : Bool) → IsPermutation (e ∷ xs) (in_place e xs) → IsPermutation (e ∷ x ∷ xs) (cond b (e ∷ x ∷ xs) (x ∷ in_place e xs))
    at true rest = IsPermutation-refl (e ∷ x ∷ xs)
    at false rest = IsPermutation-trans (e ∷ x ∷ xs) (x ∷ e ∷ xs) (x ∷ in_place e xs)
        (IsPermutation-append_left xs (e ∷ x ∷ []) (x ∷ e ∷ []) (IsPermutation-append_comm (e ∷ []) (x ∷ [])))
        (IsPermutation-cons x (e ∷ xs) (in_place e xs) rest)

all_in_place : (P : Entry → Type 0) (e : Entry) (xs : List Entry) → P e → AllByRecursion P xs → AllByRecursion P (in_place e xs)
unfolding in_place
all_in_place P e [] here all = (here, tt)
all_in_place P e (x ∷ xs) here all = at (is_lt (entry_cmp e x)) (all_in_place P e xs here all.1)
  where
    at : (b : Bool) → AllByRecursion P (in_place e xs) → AllByRecursion P (cond b (e ∷ x ∷ xs) (x ∷ in_place e xs))
    at true rest = (here, all)
    at false rest = (all.0, rest)

all_after : (e x : Entry) (xs : List Entry) → entry_cmp e x ≡ Less → AllByRecursion (λ y. entry_cmp x y ≡ Less) xs → AllByRecursion (λ y. entry_cmp e y ≡ Less) xs
all_after e x [] less all = tt
all_after e x (y ∷ ys) less all = (entry_cmp_total.trans e x y less all.0, all_after e x ys less all.1)

rises_in_place : (e : Entry) (xs : List Entry) → AllByRecursion (λ k. same_key e.0 k ≡ false) (keys_of xs) → IsStrictlySortedBy entry_cmp xs
    → IsStrictlySortedBy entry_cmp (in_place e xs)
unfolding in_place IsStrictlySortedBy
rises_in_place e [] apart rises = (tt, tt)
rises_in_place e (x ∷ xs) apart rises = at (is_lt (entry_cmp e x)) refl (rises_in_place e xs apart.1 rises.1)
  where
    less : (r : Ordering) → is_lt r ≡ true → r ≡ Less
    less Less is = refl
    less Equal is = absurd cc
    less Greater is = absurd cc

    at : (b : Bool) → is_lt (entry_cmp e x) ≡ b → IsStrictlySortedBy entry_cmp (in_place e xs)
        → IsStrictlySortedBy entry_cmp (cond b (e ∷ x ∷ xs) (x ∷ in_place e xs))
    at true is rest = let first = less (entry_cmp e x) is in ((first, all_after e x xs first rises.0), rises)
    at false is rest = (
      all_in_place (λ y. entry_cmp x y ≡ Less) e xs
          (before x e is (λ same. true≢false (sym ((same_key_decides e.0 x.0).1 (sym same)) ∙ apart.0))) rises.0,
      rest,
    )

keys_apart : (e : Entry) (xs ys : List Entry) → IsPermutation xs ys → AllByRecursion (λ k. same_key e.0 k ≡ false) (keys_of xs) → AllByRecursion (λ k. same_key e.0 k ≡ false) (keys_of ys)
keys_apart e xs ys moved apart =
    recursion_from_All (λ k. same_key e.0 k ≡ false) (keys_of ys)
    (All-permutation (λ k. same_key e.0 k ≡ false) (keys_of xs) (keys_of ys) (IsPermutation-map (λ e. e.0) xs ys moved) (All-from_recursion (λ k. same_key e.0 k ≡ false) (keys_of xs) apart))

pub in_order : (es : List Entry) → IsDistinct same_key (keys_of es) → (xs : List Entry) × (IsPermutation es xs × IsStrictlySortedBy entry_cmp xs)
unfolding IsDistinct IsStrictlySortedBy
in_order [] once = ([], (IsPermutation-refl [], tt))
in_order (e ∷ es) once =
    let rest = in_order es once.1 in (
      in_place e rest.0,
      (
        IsPermutation-trans (e ∷ es) (e ∷ rest.0) (in_place e rest.0) (IsPermutation-cons e es rest.0 rest.1.0) (in_place_moves e rest.0),
        rises_in_place e rest.0 (keys_apart e es rest.0 rest.1.0 once.0) rest.1.1,
      ),
    )

-- contributions make a listing
pub listing_exists : (function : AggFn) (agg : ℕ) (contributions : List Contribution) → (entries : List Entry) × IsListing function agg contributions entries
listing_exists function agg contributions =
    let entries = entries_exist function agg contributions in
    let sorted = in_order entries.0 entries.1.once in
    (sorted.0, record { are = AreEntries-IsPermutation function agg contributions entries.0 sorted.0 sorted.1.0 entries.1; rises = sorted.1.1 })
