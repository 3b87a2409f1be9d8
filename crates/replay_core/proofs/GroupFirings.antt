-- The firings of a group.
use Rattle.std.proofs.Common.{◌≡◌, ℕ, suc, ◌+◌, ◌<◌, ◌≤◌, Bool, true, false, cond, List, [], ◌∷◌}
use Rattle.std.proofs.Common.{◌++◌, All, map, filter, length, drop, take, refl, sym, ap, ◌∙◌, arith}
use Rattle.std.proofs.Common.{ℤ, add-one, drop-drop}
use Rattle.std.proofs.lemmas.Bool.{cond_both}
use Rattle.std.proofs.lemmas.List.Elements.{All-cons}
use Rattle.std.proofs.lemmas.List.{length-map}
use Rattle.firings.specs.Firings.{thread_of}
use Rattle.shard_queue.specs.Groupings.{indices_from}
use Rattle.replay_core.specs.Vocabulary.{Firing}
use Rattle.replay_core.specs.Steps.Working.{firings_at}

drop_more : {A : Type 0} (xs : List A) (i : ℕ) (y : A) (ys : List A) → drop i xs ≡ y ∷ ys → drop (suc i) xs ≡ ys
drop_more xs i y ys e = ap (λ n. drop n xs) (sym (add-one i)) ∙ sym (drop-drop 1 i xs) ∙ ap (drop 1) e

-- the firings at the indices of the threads that pass
pub chosen : (test : ℤ → Bool) (all : List Firing) (i : ℕ) (fs : List Firing) → drop i all ≡ fs → firings_at all (indices_from test i (map thread_of fs)) ≡ filter (λ f. test f.thread) fs
chosen test all i [] e = refl
chosen test all i (f ∷ fs) e = here (test f.thread) (chosen test all (suc i) fs (drop_more all i f fs e))
  where
    rest : List ℕ
    rest = indices_from test (suc i) (map thread_of fs)

    here : (b : Bool) → firings_at all rest ≡ filter (λ g. test g.thread) fs → firings_at all (cond b (i ∷ rest) rest) ≡ cond b (f ∷ filter (λ g. test g.thread) fs) (filter (λ g. test g.thread) fs)
    here true more = ap (λ l. take 1 l ++ firings_at all rest) e ∙ ap (λ l. f ∷ l) more
    here false more = more

-- the indices are below the number of the threads, and no more
below : (test : ℤ → Bool) (n i : ℕ) (ts : List ℤ) → i + length ts ≤ n → All (λ p. p < n) (indices_from test i ts)
below test n i [] le = λ k d lt. absurd (omega arith)
below test n i (t ∷ ts) le =
    let rest = indices_from test (suc i) ts in
    let more = below test n (suc i) ts (omega arith) in
    cond_both (test t) (i ∷ rest) rest (All (λ p. p < n)) (λ yes. All-cons (λ p. p < n) i rest (omega arith) more) (λ no. more)

pub all_below : (test : ℤ → Bool) (fs : List Firing) → All (λ p. p < length fs) (indices_from test 0 (map thread_of fs))
all_below test fs = below test (length fs) 0 (map thread_of fs) (let same = length-map fs thread_of in omega arith)

pub few_indices : (test : ℤ → Bool) (i : ℕ) (fs : List Firing) → length (indices_from test i (map thread_of fs)) ≤ length fs
few_indices test i [] = omega arith
few_indices test i (f ∷ fs) =
    let rest = indices_from test (suc i) (map thread_of fs) in
    let few = few_indices test (suc i) fs in
    cond_both (test f.thread) (i ∷ rest) rest (λ l. length l ≤ suc (length fs)) (λ yes. omega arith) (λ no. omega arith)

-- two tests may be made in either order
pub filter_swap : {A : Type 0} (p q : A → Bool) (xs : List A) → filter p (filter q xs) ≡ filter q (filter p xs)
filter_swap p q [] = refl
filter_swap p q (x ∷ xs) = let more = filter_swap p q xs in grind arith
