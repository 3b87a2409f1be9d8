-- Lists and sums over groups.
use Rattle.std.proofs.Common.{◌≡◌, ◌≢◌, ℕ, zero, suc, ◌+◌, ◌<◌, ◌≤◌, Bool, true, false, cond, List}
use Rattle.std.proofs.Common.{[], ◌∷◌, ◌++◌, Option, None, Some, All, filter, map, refl, sym, ap}
use Rattle.std.proofs.Common.{◌∙◌, subst, ⊎_elim, arith, append-nil, eq-eqb, ne_eqb, sum_by}
use Rattle.std.proofs.Common.{IsSomeAnd, flat_map}
use Rattle.std.specs.List.{range_with_len}
use Rattle.std.proofs.lemmas.Bool.{cases_eq}
use Rattle.std.proofs.lemmas.List.{get_or-map, length-map}
use Rattle.std.proofs.lemmas.List.Elements.{filter-append}
use Rattle.std.proofs.lemmas.List.Sums.{sum_by-append, sum_by-cons}
use Rattle.replay_core.specs.Groups.{is_group}

pub sum_by-flat : {A B : Type 0} (h : B → ℕ) (f : A → List B) (xs : List A) → sum_by h (flat_map f xs) ≡ sum_by (λ x. sum_by h (f x)) xs
sum_by-flat h f [] = refl
sum_by-flat h f (x ∷ xs) = sum_by-append h (f x) (flat_map f xs) ∙ ap (λ s. sum_by h (f x) + s) (sum_by-flat h f xs) ∙ sym (sum_by-cons (λ y. sum_by h (f y)) x xs)

pub filter-flat : {A B : Type 0} (p : B → Bool) (f : A → List B) (xs : List A) → filter p (flat_map f xs) ≡ flat_map (λ x. filter p (f x)) xs
filter-flat p f [] = refl
filter-flat p f (x ∷ xs) = filter-append p (f x) (flat_map f xs) ∙ ap (λ l. filter p (f x) ++ l) (filter-flat p f xs)

pub all_mapped : {A B : Type 0} (P : B → Type 0) (f : A → B) (xs : List A) → All P (map f xs) → All (λ x. P (f x)) xs
all_mapped P f xs all k d lt = subst P (get_or-map f xs k d (f d) lt) (all k (f d) (let long = length-map xs f in omega arith))

-- past the one term that has more
sum_past : (f g : ℕ → ℕ) (a n m : ℕ) → m < a → ((k : ℕ) → k ≢ m → f k ≡ g k) → sum_by f (range_with_len a n) ≡ sum_by g (range_with_len a n)
sum_past f g a zero m lt same = refl
sum_past f g a (suc n) m lt same =
    let here = same a (λ e. omega arith) in
    let more = sum_past f g (a + 1) n m (omega arith) same in
    let left = sum_by-cons f a (range_with_len (a + 1) n) in
    let right = sum_by-cons g a (range_with_len (a + 1) n) in
    omega arith

-- one term has more
pub sum_one : (f g : ℕ → ℕ) (a n m more : ℕ) → a ≤ m → m < a + n → f m ≡ more + g m → ((k : ℕ) → k ≢ m → f k ≡ g k)
    → sum_by f (range_with_len a n) ≡ more + sum_by g (range_with_len a n)
sum_one f g a zero m more le lt at same = absurd (omega arith)
sum_one f g a (suc n) m more le lt at same =
    let left = sum_by-cons f a (range_with_len (a + 1) n) in
    let right = sum_by-cons g a (range_with_len (a + 1) n) in
    ⊎_elim
    (λ (e : a ≡ m).
    let here : f a ≡ more + g a = subst (λ k. f k ≡ more + g k) (sym e) at in
    let rest = sum_past f g (a + 1) n m (omega arith) same in
    omega arith)
    (λ (ne : a ≢ m).
    let here = same a ne in
    let rest = sum_one f g (a + 1) n m more (omega arith) (omega arith) at same in
    omega arith)
    (cases_eq a m)

pub sum_none : (a n : ℕ) → sum_by (λ k. 0) (range_with_len a n) ≡ 0
sum_none a zero = refl
sum_none a (suc n) = sum_by-cons (λ k. 0) a (range_with_len (a + 1) n) ∙ ap (λ s. 0 + s) (sum_none (a + 1) n)

pub flat_same : {A B : Type 0} (f g : A → List B) (xs : List A) → ((x : A) → f x ≡ g x) → flat_map f xs ≡ flat_map g xs
flat_same {A} {B} f g xs same = ap (λ (h : A → List B). flat_map h xs) (λ i x. same x i)

pub flat_none : {A B : Type 0} (xs : List A) → flat_map {X = A} {A = B} (λ x. []) xs ≡ []
flat_none [] = refl
flat_none (x ∷ xs) = flat_none xs

flat_past : {A : Type 0} (f : ℕ → List A) (a n m : ℕ) → m < a → ((k : ℕ) → k ≢ m → f k ≡ []) → flat_map f (range_with_len a n) ≡ []
flat_past f a zero m lt none = refl
flat_past f a (suc n) m lt none = ap (λ l. l ++ flat_map f (range_with_len (a + 1) n)) (none a (λ e. omega arith)) ∙ flat_past f (a + 1) n m (omega arith) none

-- one list has all
pub flat_one : {A : Type 0} (f : ℕ → List A) (a n m : ℕ) → a ≤ m → m < a + n → ((k : ℕ) → k ≢ m → f k ≡ []) → flat_map f (range_with_len a n) ≡ f m
flat_one f a zero m le lt none = absurd (omega arith)
flat_one f a (suc n) m le lt none = ⊎_elim
    (λ (e : a ≡ m). ap (λ l. f a ++ l) (flat_past f (a + 1) n m (omega arith) none) ∙ append-nil (f a) ∙ ap f e)
    (λ (ne : a ≢ m). ap (λ l. l ++ flat_map f (range_with_len (a + 1) n)) (none a ne) ∙ flat_one f (a + 1) n m (omega arith) (omega arith) none)
    (cases_eq a m)

-- ---- a list and its parts

-- the one group of an item
pub own_group : (n : ℕ) (x : Option ℕ) → IsSomeAnd x (λ g. g < n) → (g : ℕ) × (g < n) × (is_group g x ≡ true) × ((k : ℕ) → k ≢ g → is_group k x ≡ false)
own_group n None h = absurd h
own_group n (Some g) h = (g, h, eq-eqb g g refl, λ k ne. ne_eqb g k (λ e. ne (sym e)))

module _ {A : Type 0} (group : A → Option ℕ) where
  abbrev pub part : ℕ → List A → List A
  part g xs = filter (λ x. is_group g (group x)) xs

  abbrev pub AllIn : ℕ → List A → Type 0
  AllIn n xs = All (λ x. IsSomeAnd (group x) (λ g. g < n)) xs

  pub taken : (g : ℕ) (x : A) (xs : List A) → is_group g (group x) ≡ true → part g (x ∷ xs) ≡ x ∷ part g xs
  taken g x xs e = ap (λ b. cond b (x ∷ part g xs) (part g xs)) e

  pub passed : (g : ℕ) (x : A) (xs : List A) → is_group g (group x) ≡ false → part g (x ∷ xs) ≡ part g xs
  passed g x xs e = ap (λ b. cond b (x ∷ part g xs) (part g xs)) e

  -- the parts weigh as much as the list
  pub parts_sum : (n : ℕ) (h : A → ℕ) (xs : List A) → AllIn n xs → sum_by (λ g. sum_by h (part g xs)) (range_with_len 0 n) ≡ sum_by h xs
  parts_sum n h [] each = sum_none 0 n
  parts_sum n h (x ∷ xs) each =
      let own = own_group n (group x) (each 0 x (omega arith)) in
      sum_one (λ g. sum_by h (part g (x ∷ xs))) (λ g. sum_by h (part g xs)) 0 n own.0 (h x) (omega arith) (let lt = own.1 in omega arith)
      (ap (sum_by h) (taken own.0 x xs own.2) ∙ sum_by-cons h x (part own.0 xs))
      (λ g ne. ap (sum_by h) (passed g x xs (own.3 g ne)))
      ∙ ap (λ s. h x + s) (parts_sum n h xs (λ k d lt. each (suc k) d (omega arith)))
      ∙ sym (sum_by-cons h x xs)

  -- so what is read off the parts is what is read off the list, in some order
  pub parts_read : {B : Type 0} (read : A → List B) (n : ℕ) (h : B → ℕ) (xs : List A) → AllIn n xs
      → sum_by h (flat_map (λ g. flat_map read (part g xs)) (range_with_len 0 n)) ≡ sum_by h (flat_map read xs)
  parts_read read n h xs each =
      sum_by-flat h (λ g. flat_map read (part g xs)) (range_with_len 0 n)
      ∙ ap (λ (f : ℕ → ℕ). sum_by f (range_with_len 0 n)) (λ i g. sum_by-flat h read (part g xs) i)
      ∙ parts_sum n (λ x. sum_by h (read x)) xs each
      ∙ sym (sum_by-flat h read xs)
