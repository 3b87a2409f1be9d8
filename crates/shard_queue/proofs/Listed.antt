-- Lists of threads, and the list that a thread is in.
use Rattle.std.proofs.Common.{◌≡◌, ℕ, zero, suc, ◌+◌, ◌<◌, ◌≤◌, Bool, true, false, cond, ◌||◌, List}
use Rattle.std.proofs.Common.{[], ◌∷◌, ◌++◌, Option, Some, None, map, length, set, drop, option_map}
use Rattle.std.proofs.Common.{unwrap_or, slice_get, is_some, refl, sym, ap, ◌∙◌, arith}
use Rattle.std.specs.Prelude.{ℤ, All}
use Rattle.std.specs.Option.{option_or}
use Rattle.std.specs.Ordering.{int_eq, int_cmp}
use Rattle.std.specs.Cmp.{signed_Decides}
use Rattle.std.specs.List.{position_from, zip}
use Rattle.std.specs.List.Sorted.{IsStrictlySortedBy}
use Rattle.std.specs.Map.{lookup}
use Rattle.std.proofs.lemmas.List.Folds.{list_any-append}
use Rattle.std.proofs.lemmas.Option.{slice_get-map}
use Rattle.shard_queue.specs.Threads.{has}
use Rattle.shard_queue.specs.Groupings.{list_of}
use Rattle.shard_queue.specs.Faults.{all_of}
use Rattle.shard_queue.proofs.Sought.{itself, map_noted}

-- the last of the lists counts where no list before it passes
position_snoc : (p : List ℤ → Bool) (i : ℕ) (lists : List (List ℤ)) (last : List ℤ)
    → position_from p i (lists ++ last ∷ []) ≡ option_or (position_from p i lists) (cond (p last) (Some (i + length lists)) None)
position_snoc p i [] last = ap (λ n. cond (p last) (Some n) None) (omega arith)
position_snoc p i (list ∷ lists) last = here (p list) (position_snoc p (i + 1) lists last)
  where
    here : (b : Bool) → position_from p (i + 1) (lists ++ last ∷ []) ≡ option_or (position_from p (i + 1) lists) (cond (p last) (Some (i + 1 + length lists)) None)
        → cond b (Some i) (position_from p (i + 1) (lists ++ last ∷ [])) ≡ option_or (cond b (Some i) (position_from p (i + 1) lists)) (cond (p last) (Some (i + suc (length lists))) None)
    here true more = refl
    here false more = more ∙ ap (λ n. option_or (position_from p (i + 1) lists) (cond (p last) (Some n) None)) (let same : i + 1 + length lists ≡ i + suc (length lists) = omega arith in same)

-- a thread is in one of the lists where all that they have has it
is_some-position : (t : ℤ) (i : ℕ) (lists : List (List ℤ)) → is_some (position_from (λ list. has list t) i lists) ≡ has (all_of lists) t
is_some-position t i [] = refl
is_some-position t i (list ∷ lists) = here (has list t) (is_some-position t (i + 1) lists) ∙ sym (list_any-append (int_eq t) list (all_of lists))
  where
    here : (b : Bool) → is_some (position_from (λ list. has list t) (i + 1) lists) ≡ has (all_of lists) t
        → is_some (cond b (Some i) (position_from (λ list. has list t) (i + 1) lists)) ≡ (b || has (all_of lists) t)
    here true more = refl
    here false more = more

pub is_some-list_of : (lists : List (List ℤ)) (t : ℤ) → is_some (list_of lists t) ≡ has (all_of lists) t
is_some-list_of lists t = is_some-position t 0 lists

position_below : (p : List ℤ → Bool) (i : ℕ) (lists : List (List ℤ)) (n : ℕ) → position_from p i lists ≡ Some n → n < i + length lists
position_below p i [] n e = absurd cc
position_below p i (list ∷ lists) n e = here (p list) e (λ later. position_below p (i + 1) lists n later)
  where
    here : (b : Bool) → cond b (Some i) (position_from p (i + 1) lists) ≡ Some n → (position_from p (i + 1) lists ≡ Some n → n < i + 1 + length lists) → n < i + suc (length lists)
    here true e more = let same : i ≡ n = ap (λ o. unwrap_or o i) e in omega arith
    here false e more = let lt = more e in omega arith

-- a list that has nothing yet
pub list_of-empty : (lists : List (List ℤ)) (t : ℤ) → list_of (lists ++ [] ∷ []) t ≡ list_of lists t
list_of-empty lists t = position_snoc (λ list. has list t) 0 lists [] ∙ as_it_is (list_of lists t)
  where
    as_it_is : (o : Option ℕ) → option_or o None ≡ o
    as_it_is None = refl
    as_it_is (Some n) = refl

or_false : (b : Bool) → (b || false) ≡ b
or_false true = refl
or_false false = refl

-- the last list gains a thread that no list had
noted_here : (lists : List (List ℤ)) (last : List ℤ) (t : ℤ) → list_of (lists ++ last ∷ []) t ≡ None → list_of (lists ++ (last ++ t ∷ []) ∷ []) t ≡ Some (length lists)
noted_here lists last t none =
    position_snoc (λ list. has list t) 0 lists (last ++ t ∷ [])
    ∙ first_none (list_of lists t) (has last t) (0 + length lists) (cond (has (last ++ t ∷ []) t) (Some (0 + length lists)) None) (sym (position_snoc (λ list. has list t) 0 lists last) ∙ none)
    ∙ ap (λ b. cond b (Some (0 + length lists)) None) (list_any-append (int_eq t) last (t ∷ []) ∙ with_it (has last t))
    ∙ ap (λ n. Some n) (let same : 0 + length lists ≡ length lists = omega arith in same)
  where
    first_none : (o : Option ℕ) (b : Bool) (n : ℕ) (p : Option ℕ) → option_or o (cond b (Some n) None) ≡ None → option_or o p ≡ p
    first_none None b n p e = refl
    first_none (Some x) b n p e = absurd cc

    with_it : (b : Bool) → (b || has (t ∷ []) t) ≡ true
    with_it true = refl
    with_it false = ap (λ c. c || false) (itself t)

noted_else : (lists : List (List ℤ)) (last : List ℤ) (t u : ℤ) → int_eq u t ≡ false → list_of (lists ++ (last ++ t ∷ []) ∷ []) u ≡ list_of (lists ++ last ∷ []) u
noted_else lists last t u ne =
    position_snoc (λ list. has list u) 0 lists (last ++ t ∷ [])
    ∙ ap (λ b. option_or (list_of lists u) (cond b (Some (0 + length lists)) None)) (list_any-append (int_eq u) last (t ∷ []) ∙ ap (λ b. has last u || (b || false)) ne ∙ or_false (has last u))
    ∙ sym (position_snoc (λ list. has list u) 0 lists last)

-- what is found at a thread's index
pub number_at : (threads : List ℤ) (lists : List (List ℤ)) (last : List ℤ) (index : ℕ) (t : ℤ) (old : List (Option ℕ)) (number : Option ℕ)
    → old ≡ map (list_of (lists ++ last ∷ [])) threads → slice_get threads index ≡ Some t → slice_get old index ≡ Some number → list_of (lists ++ last ∷ []) t ≡ number
number_at threads lists last index t old number was at is =
    let f = list_of (lists ++ last ∷ []) in
    ap (λ o. unwrap_or o (f t)) (sym (ap (option_map f) at) ∙ sym (slice_get-map f threads index) ∙ ap (λ l. slice_get l index) (sym was) ∙ is)

-- a thread is noted at its index
pub noted : (threads : List ℤ) (lists : List (List ℤ)) (last : List ℤ) (index : ℕ) (t : ℤ) (old new : List (Option ℕ)) → IsStrictlySortedBy int_cmp threads
    → old ≡ map (list_of (lists ++ last ∷ [])) threads → slice_get threads index ≡ Some t → slice_get old index ≡ Some None → new ≡ set old index (Some (length lists))
    → new ≡ map (list_of (lists ++ (last ++ t ∷ []) ∷ [])) threads
noted threads lists last index t old new sorted was at open_yet is =
    is ∙ ap (λ l. set l index (Some (length lists))) was
    ∙ map_noted (list_of (lists ++ last ∷ [])) (list_of (lists ++ (last ++ t ∷ []) ∷ [])) threads index t (Some (length lists)) sorted at
    (noted_here lists last t (number_at threads lists last index t old None was at open_yet)) (λ u ne. noted_else lists last t u ne)

-- who has a list has one of those there are
pub list_of-below : (lists : List (List ℤ)) (t : ℤ) (n : ℕ) → list_of lists t ≡ Some n → n < length lists
list_of-below lists t n e = let lt = position_below (λ list. has list t) 0 lists n e in omega arith

-- where each thread has a number, these are the numbers
pub lookup_numbers : (f : ℤ → Option ℕ) (threads : List ℤ) (numbers : List ℕ) (t : ℤ) → map Some numbers ≡ map f threads
    → lookup (int_eq t) (zip threads numbers) ≡ cond (has threads t) (f t) None
lookup_numbers f [] numbers t is = refl
lookup_numbers f (x ∷ threads) [] t is = absurd cc
lookup_numbers f (x ∷ threads) (n ∷ numbers) t is = here (int_eq t x) refl (lookup_numbers f threads numbers t (ap (drop 1) is))
  where
    number : Some n ≡ f x
    number = ap (λ l. unwrap_or (slice_get l 0) None) is

    here : (b : Bool) → int_eq t x ≡ b → lookup (int_eq t) (zip threads numbers) ≡ cond (has threads t) (f t) None
        → cond b (Some n) (lookup (int_eq t) (zip threads numbers)) ≡ cond (b || has threads t) (f t) None
    here true e more = number ∙ ap f (sym ((signed_Decides t x).0 e))
    here false e more = more

-- and each is a list's
pub numbers_below : (lists : List (List ℤ)) (threads : List ℤ) (numbers : List ℕ) (n : ℕ) → map Some numbers ≡ map (list_of lists) threads → length lists ≤ n → All (λ g. g < n) numbers
numbers_below lists threads [] n is le k d lt = absurd (omega arith)
numbers_below lists [] (g ∷ numbers) n is le k d lt = absurd cc
numbers_below lists (t ∷ threads) (g ∷ numbers) n is le zero d lt =
    let small = list_of-below lists t g (sym (ap (λ l. unwrap_or (slice_get l 0) None) is)) in omega arith
numbers_below lists (t ∷ threads) (g ∷ numbers) n is le (suc k) d lt = numbers_below lists threads numbers n (ap (drop 1) is) le k d (omega arith)
