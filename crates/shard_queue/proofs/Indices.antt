-- Indices of threads, and their numbers.
use Rattle.std.proofs.Common.{◌≡◌, ℕ, zero, suc, ◌+◌, ◌<◌, ◌≤◌, ◌%◌, ◌==◌, ◌||◌, Bool, true, false}
use Rattle.std.proofs.Common.{cond, List, [], ◌∷◌, ◌++◌, Some, IsSomeAnd, map, length, drop, set}
use Rattle.std.proofs.Common.{get_or, option_map, Option, Vec, Global, mod-lt, refl, sym, ap, ◌∙◌, ⊎_elim}
use Rattle.std.proofs.Common.{arith, add-one, append-nil, append_assoc, eq-eqb, ne_eqb}
use Rattle.std.specs.Prelude.{ℤ, slice_get, slice_index_or, Contains, All}
use Rattle.std.specs.Ordering.{int_eq}
use Rattle.std.specs.List.{position_from, range_with_len, zip}
use Rattle.std.specs.Map.{lookup}
use Rattle.std.proofs.lemmas.Bool.{cases_eq}
use Rattle.std.proofs.lemmas.List.{drop_all, get_or-set_other, get_or_default}
use Rattle.std.proofs.lemmas.List.Elements.{All-append}
use Rattle.std.proofs.lemmas.List.Folds.{list_any_at}
use Rattle.std.proofs.lemmas.Grind.{get_or-set_at}
use Rattle.std.proofs.lemmas.Option.{get_or_from_slice_get, slice_get-map}
use Rattle.firings.specs.declared.firing.Firing.{Firing}
use Rattle.firings.specs.Firings.{thread_of}
use Rattle.firings.specs.Stored.{AreIndices}
use Rattle.firings.proofs.Placed.{placed as at_indices}
use Rattle.shard_queue.specs.Threads.{thread_zero, run_threads, has}
use Rattle.shard_queue.specs.Groups.{indices_from}
use Rattle.shard_queue.proofs.Lists.{all_tail, drop_next}
use Rattle.shard_queue.proofs.Sought.{itself}

-- one index is added to the list of those so far, if the thread passes
pub indices_step : (b : Bool) (old new more : List ℕ) (index : ℕ) → new ≡ cond b (old ++ index ∷ []) old → new ++ more ≡ old ++ cond b (index ∷ more) more
indices_step true old new more index is = ap (λ l. l ++ more) is ∙ append_assoc old (index ∷ []) more
indices_step false old new more index is = ap (λ l. l ++ more) is

-- the first thread that is left is placed
pub placed : (test : ℤ → Bool) (old new : List ℕ) (index : ℕ) (ts : List ℤ) (i : ℕ) (t : ℤ) (all : List ℕ) → i < length ts → get_or ts i t ≡ t
    → new ≡ cond (test t) (old ++ index ∷ []) old
    → old ++ indices_from test index (drop i ts ++ thread_zero ∷ []) ≡ all
    → new ++ indices_from test (index + 1) (drop (i + 1) ts ++ thread_zero ∷ []) ≡ all
placed test old new index ts i t all lt item is so_far =
    let rest = drop (i + 1) ts ++ thread_zero ∷ [] in
    indices_step (test t) old new (indices_from test (index + 1) rest) index is
    ∙ ap (λ j. old ++ cond (test t) (index ∷ indices_from test j rest) (indices_from test j rest)) (add-one index)
    ∙ ap (λ (l : List ℤ). old ++ indices_from test index (l ++ thread_zero ∷ [])) (sym (drop_next ts i t lt item))
    ∙ so_far

-- END is placed last
pub placed_last : (test : ℤ → Bool) (old new : List ℕ) (index : ℕ) (ts : List ℤ) (i : ℕ) (all : List ℕ) → length ts ≤ i
    → new ≡ cond (test thread_zero) (old ++ index ∷ []) old
    → old ++ indices_from test index (drop i ts ++ thread_zero ∷ []) ≡ all → new ≡ all
placed_last test old new index ts i all le is so_far =
    sym (append-nil new) ∙ indices_step (test thread_zero) old new [] index is
    ∙ ap (λ (l : List ℤ). old ++ indices_from test index (l ++ thread_zero ∷ [])) (sym (drop_all i ts le)) ∙ so_far

-- the group at an owner's index is that of its firing's thread
pub group_at : (group : ℤ → Option ℕ) (threads : List ℤ) (indices : List ℕ) (ts : List ℤ) (i p : ℕ) (d : Option ℕ) → AreIndices threads indices ts → (lt : i < length ts)
    → slice_get indices i ≡ Some p → get_or (map group threads) p d ≡ group (get_or ts i thread_zero)
group_at group threads indices ts i p d are lt at =
    let there : slice_get threads p ≡ Some (get_or ts i thread_zero) = ap (slice_get threads) (sym (get_or_from_slice_get indices i p 0 at)) ∙ at_indices threads indices ts i thread_zero are lt in
    get_or_from_slice_get (map group threads) p _ d (slice_get-map group threads p ∙ ap (option_map group) there)

-- BEGIN is placed first
pub placed_first : (test : ℤ → Bool) (old new : List ℕ) (ts : List ℤ) → old ≡ [] → new ≡ cond (test thread_zero) (old ++ 0 ∷ []) old
    → new ++ indices_from test 1 ts ≡ indices_from test 0 (thread_zero ∷ ts)
placed_first test old new ts none is = indices_step (test thread_zero) old new (indices_from test 1 ts) 0 is ∙ ap (λ l. l ++ cond (test thread_zero) (0 ∷ indices_from test 1 ts) (indices_from test 1 ts)) none

-- lists without indices
pub none_pushed : (lists : List (List ℕ)) → ((g : ℕ) → slice_index_or lists g [] ≡ []) → (g : ℕ) → slice_index_or (lists ++ [] ∷ []) g [] ≡ []
none_pushed [] none zero = refl
none_pushed [] none (suc g) = refl
none_pushed (x ∷ xs) none zero = none 0
none_pushed (x ∷ xs) none (suc g) = none_pushed xs (λ j. none (suc j)) g

-- one list gains an index
pub gained : (lists : List (List ℕ)) (h index : ℕ) (list : List ℕ) → h < length lists → get_or lists h [] ≡ list
    → (g : ℕ) → slice_index_or (set lists h (list ++ index ∷ [])) g [] ≡ cond (h == g) (slice_index_or lists g [] ++ index ∷ []) (slice_index_or lists g [])
gained lists h index list lt is g = ⊎_elim
    (λ (e : h ≡ g). get_or-set_at lists h g (list ++ index ∷ []) [] (sym e) lt
    ∙ ap (λ l. l ++ index ∷ []) (sym is ∙ ap (λ j. get_or lists j []) e)
    ∙ sym (ap (λ b. cond b (get_or lists g [] ++ index ∷ []) (get_or lists g [])) (eq-eqb h g e)))
    (λ (ne : h ≡ g → ⊥). get_or-set_other lists h g (list ++ index ∷ []) [] (λ e. ne (sym e))
    ∙ sym (ap (λ b. cond b (get_or lists g [] ++ index ∷ []) (get_or lists g [])) (ne_eqb h g ne)))
    (cases_eq h g)

pub mapped_at : {X : Type 0} (vs : List (Vec X Global)) (h : ℕ) (v : Vec X Global) → h < length vs → get_or vs h v ≡ v → get_or (map (λ u. u.items) vs) h [] ≡ v.items
mapped_at [] h v lt is = absurd (omega arith)
mapped_at (x ∷ vs) zero v lt is = ap (λ u. u.items) is
mapped_at (x ∷ vs) (suc h) v lt is = mapped_at vs h v (omega arith) is

-- a thread that fired has a number
numbered : (threads : List ℤ) (numbers : List ℕ) (t : ℤ) (own : ℕ) → length numbers ≡ length threads → All (λ g. g < own) numbers → has threads t ≡ true
    → IsSomeAnd (lookup (int_eq t) (zip threads numbers)) (λ g. g < own + 1)
numbered [] numbers t own len small there = absurd cc
numbered (x ∷ threads) [] t own len small there = absurd (omega arith)
numbered (x ∷ threads) (n ∷ numbers) t own len small there =
    here (int_eq t x) there (λ e. numbered threads numbers t own (omega arith) (all_tail (λ g. g < own) (n ∷ numbers) n numbers small refl) e)
  where
    here : (b : Bool) → (b || has threads t) ≡ true → (has threads t ≡ true → IsSomeAnd (lookup (int_eq t) (zip threads numbers)) (λ g. g < own + 1))
        → IsSomeAnd (cond b (Some n) (lookup (int_eq t) (zip threads numbers))) (λ g. g < own + 1)
    here true e later = let lt : n < own = small 0 n (omega arith) in omega arith
    here false e later = later e

-- so each firing of the run has a group
pub all_grouped : (trace : List Firing) (threads : List ℤ) (numbers : List ℕ) (own : ℕ) → ((t : ℤ) → Contains (map thread_of trace) t → Contains threads t)
    → length numbers ≡ length threads → All (λ g. g < own) numbers
    → All (λ t. IsSomeAnd (cond (int_eq t thread_zero) (Some own) (lookup (int_eq t) (zip threads numbers))) (λ g. g < own + 1)) (run_threads trace)
all_grouped trace threads numbers own same len small =
    All-append Q (thread_zero ∷ []) (map thread_of trace ++ thread_zero ∷ []) zeroth (All-append Q (map thread_of trace) (thread_zero ∷ []) rows zeroth)
  where
    Q : ℤ → Type 0
    Q t = IsSomeAnd (cond (int_eq t thread_zero) (Some own) (lookup (int_eq t) (zip threads numbers))) (λ g. g < own + 1)

    last : own < own + 1
    last = omega arith

    zeroth : All Q (thread_zero ∷ [])
    zeroth zero d lt = last
    zeroth (suc k) d lt = absurd (omega arith)

    either_way : (t : ℤ) (b : Bool) → IsSomeAnd (lookup (int_eq t) (zip threads numbers)) (λ g. g < own + 1)
        → IsSomeAnd (cond b (Some own) (lookup (int_eq t) (zip threads numbers))) (λ g. g < own + 1)
    either_way t true there = last
    either_way t false there = there

    rows : All Q (map thread_of trace)
    rows k d lt =
        let t = slice_index_or (map thread_of trace) k d in
        let there = same t (k, lt, get_or_default (map thread_of trace) k t d lt) in
        either_way t (int_eq t thread_zero) (numbered threads numbers t own len small (list_any_at (int_eq t) threads there.0 t there.1 (ap (int_eq t) there.2 ∙ itself t)))

-- the numbers that are dealt
pub dealt_lookup : (n i : ℕ) (threads : List ℤ) (t : ℤ)
    → lookup (int_eq t) (zip threads (map (λ j. j % n) (range_with_len i (length threads)))) ≡ option_map (λ j. j % n) (position_from (int_eq t) i threads)
dealt_lookup n i [] t = refl
dealt_lookup n i (x ∷ threads) t = here (int_eq t x) (dealt_lookup n (i + 1) threads t)
  where
    here : (b : Bool) → lookup (int_eq t) (zip threads (map (λ j. j % n) (range_with_len (i + 1) (length threads)))) ≡ option_map (λ k. k % n) (position_from (int_eq t) (i + 1) threads)
        → cond b (Some (i % n)) (lookup (int_eq t) (zip threads (map (λ j. j % n) (range_with_len (i + 1) (length threads))))) ≡ option_map (λ j. j % n) (cond b (Some i) (position_from (int_eq t) (i + 1) threads))
    here true more = refl
    here false more = more

pub dealt_below : (n : ℕ) (xs : List ℕ) → 0 < n → All (λ g. g < n) (map (λ j. j % n) xs)
dealt_below n [] pos k d lt = absurd (omega arith)
dealt_below n (x ∷ xs) pos zero d lt = mod-lt x pos
dealt_below n (x ∷ xs) pos (suc k) d lt = dealt_below n xs pos k d (omega arith)
