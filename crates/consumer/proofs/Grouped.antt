-- In the groups of a plan each firing of a run has a group.
use Rattle.std.proofs.Common.{◌≡◌, ◌⊎◌, ⊎_elim, inl, inr, ℕ, zero, suc, ◌+◌, ◌%◌, ◌<◌, ◌≤◌, Bool}
use Rattle.std.proofs.Common.{true, false, cond, not, ◌||◌, List, [], ◌∷◌, ◌++◌, Option, Some, None}
use Rattle.std.proofs.Common.{map, length, get_or, option_map, is_some, find, refl, sym, ap, ◌∙◌}
use Rattle.std.proofs.Common.{subst, arith}
use Rattle.std.specs.Prelude.{ℤ, All, Contains, IsSomeAnd}
use Rattle.std.specs.Cmp.{signed_Decides}
use Rattle.std.specs.List.{position_from}
use Rattle.std.specs.Option.{option_or}
use Rattle.std.specs.Ordering.{int_eq}
use Rattle.std.proofs.lemmas.List.Elements.{All-append}
use Rattle.std.proofs.lemmas.List.Folds.{list_any_at}
use Rattle.firings.specs.Ends.{begin_of, end_of, with_ends}
use Rattle.firings.specs.Firings.{thread_of}
use Rattle.replay_core.specs.Groups.{AreGrouped}
use Rattle.shard_queue.specs.Faults.{all_of, first_wrong}
use Rattle.shard_queue.specs.Groupings.{grouping_by_lists, list_of, with_own_group}
use Rattle.shard_queue.specs.Threads.{has, items_of, thread_zero}
use Rattle.shard_queue.proofs.Listed.{is_some-list_of}
use Rattle.shard_queue.specs.declared.fault.GroupFault.{GroupFault}
use Rattle.shard_queue.specs.declared.fault.GroupFault.TheVariants.{Missing}
use Rattle.consumer.specs.{Bounds.dealt, Plans.IsGroupedBy}
use Rattle.consumer.specs.Vocabulary.{Dealt, Firing, GroupPlan, Grouping, Lists, Plan}

-- a group of this number is there
abbrev IsBelow : ℕ → Option ℕ → Type 0
IsBelow count group = IsSomeAnd group (λ g. g < count)

abbrev IsGrouped : Grouping → ℤ → Type 0
IsGrouped g t = IsBelow g.count (g.group t)

-- thread 0 has the last group
own_below : (count : ℕ) (group : ℤ → Option ℕ) (t : ℤ) → IsBelow (count + 1) (group t) ⊎ (int_eq t thread_zero ≡ true) → IsGrouped (with_own_group count group) t
own_below count group t h = here (int_eq t thread_zero) refl h
  where
    here : (b : Bool) → int_eq t thread_zero ≡ b → IsBelow (count + 1) (group t) ⊎ (int_eq t thread_zero ≡ true) → IsBelow (count + 1) (cond b (Some count) (group t))
    here true e h = omega arith
    here false e h = ⊎_elim (λ (below : IsBelow (count + 1) (group t)). below) (λ (own : int_eq t thread_zero ≡ true). absurd cc) h

has_of : (ts : List ℤ) (t : ℤ) → Contains ts t → has ts t ≡ true
has_of ts t c = list_any_at (int_eq t) ts c.0 t c.1 (ap (int_eq t) c.2 ∙ (signed_Decides t t).1 refl)

-- ---- dealt

dealt_below : (n i : ℕ) (t : ℤ) (ts : List ℤ) → 1 ≤ n → has ts t ≡ true → IsBelow (n + 1) (option_map (λ k. k % n) (position_from (int_eq t) i ts))
dealt_below n i t [] some there = absurd cc
dealt_below n i t (x ∷ ts) some there = here (int_eq t x) there (λ later. dealt_below n (i + 1) t ts some later)
  where
    here : (b : Bool) → (b || has ts t) ≡ true → (has ts t ≡ true → IsBelow (n + 1) (option_map (λ k. k % n) (position_from (int_eq t) (i + 1) ts)))
        → IsBelow (n + 1) (option_map (λ k. k % n) (cond b (Some i) (position_from (int_eq t) (i + 1) ts)))
    here true there later = omega arith
    here false there later = later there

-- ---- listed

position_in : (t : ℤ) (i n : ℕ) (lists : List (List ℤ)) → i + length lists ≤ n → is_some (position_from (λ list. has list t) i lists) ≡ true
    → IsBelow n (position_from (λ list. has list t) i lists)
position_in t i n [] few there = absurd cc
position_in t i n (list ∷ lists) few there = here (has list t) there (λ later. position_in t (i + 1) n lists (omega arith) later)
  where
    here : (b : Bool) → is_some (cond b (Some i) (position_from (λ list. has list t) (i + 1) lists)) ≡ true
        → (is_some (position_from (λ list. has list t) (i + 1) lists) ≡ true → IsBelow n (position_from (λ list. has list t) (i + 1) lists))
        → IsBelow n (cond b (Some i) (position_from (λ list. has list t) (i + 1) lists))
    here true there later = omega arith
    here false there later = later there

listed_below : (list : List ℤ) (lists : List (List ℤ)) (t : ℤ) → has (all_of (list ∷ lists)) t ≡ true → IsBelow (length lists + 1 + 1) (list_of (list ∷ lists) t)
listed_below list lists t there =
    position_in t 0 (length lists + 1 + 1) (list ∷ lists) (omega arith) (is_some-list_of (list ∷ lists) t ∙ there)

each_listed : (lists : List (List ℤ)) (t : ℤ) → (has (all_of lists) t ≡ true) ⊎ (int_eq t thread_zero ≡ true) → IsGrouped (grouping_by_lists lists) t
each_listed [] t h = own_below 1 (list_of ([] ∷ [])) t (⊎_elim (λ (there : has [] t ≡ true). absurd cc) (λ (own : int_eq t thread_zero ≡ true). inr own) h)
each_listed (list ∷ lists) t h =
    own_below (length lists + 1) (list_of (list ∷ lists)) t
    (⊎_elim (λ (there : has (all_of (list ∷ lists)) t ≡ true). inl (listed_below list lists t there)) (λ (own : int_eq t thread_zero ≡ true). inr own) h)

none_or : (a b : Option GroupFault) → option_or a b ≡ None → b ≡ None
none_or None b e = e
none_or (Some x) b e = absurd cc

none_map : (o : Option ℤ) → option_map (λ t. Missing t) o ≡ None → o ≡ None
none_map None e = refl
none_map (Some t) e = absurd cc

-- where no thread is missing, each is in some list
all_listed : (listed ts : List ℤ) (t : ℤ) → find (λ u. not (has listed u)) ts ≡ None → has ts t ≡ true → has listed t ≡ true
all_listed listed [] t none there = absurd cc
all_listed listed (x ∷ ts) t none there = here (has listed x) refl none (int_eq t x) refl there (λ rest later. all_listed listed ts t rest later)
  where
    here : (b : Bool) → has listed x ≡ b → cond (not b) (Some x) (find (λ u. not (has listed u)) ts) ≡ None → (c : Bool) → int_eq t x ≡ c → (c || has ts t) ≡ true
        → (find (λ u. not (has listed u)) ts ≡ None → has ts t ≡ true → has listed t ≡ true) → has listed t ≡ true
    here false e none c same there later = absurd cc
    here true e none true same there later = ap (has listed) ((signed_Decides t x).0 same) ∙ e
    here true e none false same there later = later none there

-- ---- a plan's groups

threads_grouped : (p : GroupPlan) (trace : List Firing) (g : Grouping) → 1 ≤ dealt p → IsGroupedBy p trace g
    → (t : ℤ) → Contains (map thread_of trace) t ⊎ (int_eq t thread_zero ≡ true) → IsGrouped g t
threads_grouped (Dealt n) trace g bounds is t h =
    subst (λ (x : Grouping). IsGrouped x t) (sym is.2)
    (own_below n (λ u. option_map (λ i. i % n) (position_from (int_eq u) 0 is.0)) t
    (⊎_elim
    (λ (c : Contains (map thread_of trace) t). inl (dealt_below n 0 t is.0 bounds (has_of is.0 t ((is.1.same t).1 c))))
    (λ (own : int_eq t thread_zero ≡ true). inr own) h))
threads_grouped (Lists lists) trace g bounds is t h =
    let all = all_of (items_of lists.items) in
    let missing : find (λ u. not (has all u)) is.threads ≡ None = none_map _ (none_or (first_wrong is.threads [] all) _ is.faultless) in
    subst (λ (x : Grouping). IsGrouped x t) (sym is.is)
    (each_listed (items_of lists.items) t
    (⊎_elim
    (λ (c : Contains (map thread_of trace) t). inl (all_listed all is.threads t missing (has_of is.threads t ((is.fired.same t).1 c))))
    (λ (own : int_eq t thread_zero ≡ true). inr own) h))

contained : (fs : List Firing) (k : ℕ) (d : Firing) → k < length fs → Contains (map thread_of fs) (thread_of (get_or fs k d))
contained [] k d lt = absurd (omega arith)
contained (f ∷ fs) zero d lt = (0, omega arith, refl)
contained (f ∷ fs) (suc k) d lt = let c = contained fs k d (omega arith) in (suc c.0, omega (arith, c.1), c.2)

one_of : (P : Firing → Type 0) (f : Firing) → P f → All P (f ∷ [])
one_of P f here zero d lt = here
one_of P f here (suc k) d lt = absurd (omega arith)

before_all : (P : Firing → Type 0) (f : Firing) (fs : List Firing) → P f → All P fs → All P (f ∷ fs)
before_all P f fs here all zero d lt = here
before_all P f fs here all (suc k) d lt = all k d (omega arith)

pub are_grouped : (plan : Plan) (trace : List Firing) (g : Grouping) → IsGroupedBy plan.groups trace g → AreGrouped g (with_ends trace trace)
are_grouped plan trace g is =
    let P = λ (f : Firing). IsGrouped g f.thread in
    let grouped = threads_grouped plan.groups trace g plan.some_groups is in
    let own : IsGrouped g thread_zero = grouped thread_zero (inr ((signed_Decides thread_zero thread_zero).1 refl)) in
    before_all P (begin_of trace) (trace ++ end_of trace ∷ []) own
    (All-append P trace (end_of trace ∷ []) (λ k d lt. grouped (thread_of (get_or trace k d)) (inl (contained trace k d lt))) (one_of P (end_of trace) own))
