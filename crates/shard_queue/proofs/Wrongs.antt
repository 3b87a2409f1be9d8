-- The first wrong thread of lists, and the first that is missing.
use Rattle.std.proofs.Common.{◌≡◌, ◌⊎◌, ℕ, ◌+◌, ◌<◌, ◌≤◌, Bool, true, false, cond, not, ◌||◌, List}
use Rattle.std.proofs.Common.{[], ◌∷◌, ◌++◌, Option, Some, None, map, length, take, drop, get_or}
use Rattle.std.proofs.Common.{slice_get, option_map, is_some, find, max, refl, sym, ap, ◌∙◌, inl}
use Rattle.std.proofs.Common.{inr, arith, append_assoc, append-nil}
use Rattle.std.specs.Prelude.{ℤ, pos}
use Rattle.std.specs.Map.{lookup}
use Rattle.std.specs.List.{zip}
use Rattle.std.specs.Ordering.{int_eq}
use Rattle.std.specs.Cmp.{signed_Decides}
use Rattle.std.specs.Option.{option_or}
use Rattle.shard_queue.specs.declared.fault.GroupFault.{GroupFault}
use Rattle.shard_queue.specs.declared.fault.GroupFault.TheVariants.{Missing, Doubled, Stranger}
use Rattle.shard_queue.specs.Threads.{has}
use Rattle.shard_queue.specs.Groupings.{list_of, grouping_by_lists, with_own_group}
use Rattle.shard_queue.specs.Faults.{all_of, first_wrong}
use Rattle.shard_queue.specs.Steps.Faults.{first_missing, first_unfound}
use Rattle.shard_queue.specs.Faults.{thread_fault}
use Rattle.std.proofs.lemmas.List.{take_all, drop_all, get_or_default}
use Rattle.std.proofs.lemmas.List.Concat.{flat_map-append}
use Rattle.shard_queue.proofs.Lists.{drop_next, take_next, fun_ext}
use Rattle.shard_queue.proofs.Sought.{has_at}
use Rattle.shard_queue.proofs.Listed.{is_some-list_of, number_at, lookup_numbers}

-- what the first of some threads makes of the answer
abbrev pub step_of : Bool → Bool → ℤ → Option GroupFault → Option GroupFault
step_of known before t rest = cond (not known) (Some (Stranger t)) (cond before (Some (Doubled t)) rest)

pub wrong_stranger : (threads before : List ℤ) (t : ℤ) (rest : List ℤ) → has threads t ≡ false → first_wrong threads before (t ∷ rest) ≡ Some (Stranger t)
wrong_stranger threads before t rest none = ap (λ b. step_of b (has before t) t (first_wrong threads (before ++ t ∷ []) rest)) none

pub wrong_doubled : (threads before : List ℤ) (t : ℤ) (rest : List ℤ) → has threads t ≡ true → has before t ≡ true → first_wrong threads before (t ∷ rest) ≡ Some (Doubled t)
wrong_doubled threads before t rest there twice =
    ap (λ b. step_of b (has before t) t (first_wrong threads (before ++ t ∷ []) rest)) there
    ∙ ap (λ b. cond b (Some (Doubled t)) (first_wrong threads (before ++ t ∷ []) rest)) twice

pub right_so_far : (threads before : List ℤ) (t : ℤ) (rest : List ℤ) → has threads t ≡ true → has before t ≡ false
    → first_wrong threads before (t ∷ rest) ≡ first_wrong threads (before ++ t ∷ []) rest
right_so_far threads before t rest there once =
    ap (λ b. step_of b (has before t) t (first_wrong threads (before ++ t ∷ []) rest)) there
    ∙ ap (λ b. cond b (Some (Doubled t)) (first_wrong threads (before ++ t ∷ []) rest)) once

-- where no thread is wrong, all of them fired
pub no_stranger : (threads before listed : List ℤ) (t : ℤ) → first_wrong threads before listed ≡ None → has listed t ≡ true → has threads t ≡ true
no_stranger threads before [] t right there = absurd cc
no_stranger threads before (x ∷ listed) t right there =
    first (has threads x) (has before x) refl right (λ rest in_rest. no_stranger threads (before ++ x ∷ []) listed t rest in_rest)
  where
    either_way : (b : Bool) → int_eq t x ≡ b → (b || has listed t) ≡ true → has threads x ≡ true → (has listed t ≡ true → has threads t ≡ true) → has threads t ≡ true
    either_way true same in_rest fired later = ap (has threads) ((signed_Decides t x).0 same) ∙ fired
    either_way false same in_rest fired later = later in_rest

    first : (known twice : Bool) → has threads x ≡ known → step_of known twice x (first_wrong threads (before ++ x ∷ []) listed) ≡ None
        → (first_wrong threads (before ++ x ∷ []) listed ≡ None → has listed t ≡ true → has threads t ≡ true) → has threads t ≡ true
    first false twice is e later = absurd cc
    first true true is e later = absurd cc
    first true false is e later = either_way (int_eq t x) refl there is (later e)

-- a thread without a number is in no list
pub unfound_is : (lists : List (List ℤ)) (threads : List ℤ) → first_unfound threads (map (list_of lists) threads) ≡ first_missing threads (all_of lists)
unfound_is lists [] = refl
unfound_is lists (t ∷ threads) = here (list_of lists t) (sym (is_some-list_of lists t)) (unfound_is lists threads)
  where
    rest : Option ℤ
    rest = find (λ u. not (has (all_of lists) u)) threads

    here : (o : Option ℕ) → has (all_of lists) t ≡ is_some o → first_unfound threads (map (list_of lists) threads) ≡ option_map Missing rest
        → first_unfound (t ∷ threads) (o ∷ map (list_of lists) threads) ≡ option_map Missing (cond (not (has (all_of lists) t)) (Some t) rest)
    here None e more = sym (ap (λ b. option_map Missing (cond (not b) (Some t) rest)) e)
    here (Some n) e more = more ∙ sym (ap (λ b. option_map Missing (cond (not b) (Some t) rest)) e)

pub all_numbered : (threads : List ℤ) (numbers : List ℕ) → first_unfound threads (map Some numbers) ≡ None
all_numbered [] numbers = refl
all_numbered (t ∷ threads) [] = refl
all_numbered (t ∷ threads) (n ∷ numbers) = all_numbered threads numbers

all_of-snoc : (lists : List (List ℤ)) (last : List ℤ) → all_of (lists ++ last ∷ []) ≡ all_of lists ++ last
all_of-snoc lists last = flat_map-append (λ list. list) lists (last ∷ []) ∙ ap (λ l. all_of lists ++ l) (append-nil last)

in_lists : (lists : List (List ℤ)) (last : List ℤ) (t : ℤ) (o : Option ℕ) → list_of (lists ++ last ∷ []) t ≡ o → has (all_of lists ++ last) t ≡ is_some o
in_lists lists last t o is = ap (λ l. has l t) (sym (all_of-snoc lists last)) ∙ sym (is_some-list_of (lists ++ last ∷ []) t) ∙ ap is_some is

-- after a thread that was in none of the lists so far, and one that is wrong
pub fine : (threads : List ℤ) (lists : List (List ℤ)) (last : List ℤ) (t : ℤ) (rest : List ℤ) → has threads t ≡ true → list_of (lists ++ last ∷ []) t ≡ None
    → first_wrong threads (all_of lists ++ last) (t ∷ rest) ≡ first_wrong threads (all_of lists ++ (last ++ t ∷ [])) rest
fine threads lists last t rest there none =
    right_so_far threads (all_of lists ++ last) t rest there (in_lists lists last t None none)
    ∙ ap (λ b. first_wrong threads b rest) (append_assoc (all_of lists) last (t ∷ []))

-- what noting a thread refuses
abbrev pub Refused : (threads : List ℤ) (found : List (Option ℕ)) → ℤ → GroupFault → Type 0
Refused threads found t e = ((e ≡ Stranger t) × (has threads t ≡ false))
    ⊎ ((e ≡ Doubled t) × ((index n : ℕ) × (slice_get threads index ≡ Some t) × (slice_get found index ≡ Some (Some n))))

pub refused : (threads : List ℤ) (lists : List (List ℤ)) (last : List ℤ) (t : ℤ) (rest : List ℤ) (found : List (Option ℕ)) (e : GroupFault)
    → found ≡ map (list_of (lists ++ last ∷ [])) threads → Refused threads found t e → first_wrong threads (all_of lists ++ last) (t ∷ rest) ≡ Some e
refused threads lists last t rest found e are (inl stranger) = wrong_stranger threads (all_of lists ++ last) t rest stranger.1 ∙ ap (λ f. Some f) (sym stranger.0)
refused threads lists last t rest found e are (inr twice) =
    let there = twice.1 in
    wrong_doubled threads (all_of lists ++ last) t rest (has_at threads there.0 t there.2)
    (in_lists lists last t (Some there.1) (number_at threads lists last there.0 t found (Some there.1) are there.2 there.3))
    ∙ ap (λ f. Some f) (sym twice.0)

-- one thread of a list after another: what is wrong of the whole is what is wrong of the rest
abbrev pub RightUpTo : (threads : List ℤ) (lists : List (List ℤ)) (list : List ℤ) → ℕ → Type 0
RightUpTo threads lists list i = (rest : List ℤ) → first_wrong threads (all_of lists) (list ++ rest) ≡ first_wrong threads (all_of lists ++ take i list) (drop i list ++ rest)

pub right_next : (threads : List ℤ) (lists : List (List ℤ)) (list : List ℤ) (i : ℕ) (t : ℤ) → i < length list → get_or list i t ≡ t → has threads t ≡ true → list_of (lists ++ take i list ∷ []) t ≡ None
    → RightUpTo threads lists list i → RightUpTo threads lists list (i + 1)
right_next threads lists list i t lt item there none right rest =
    right rest
    ∙ ap (λ l. first_wrong threads (all_of lists ++ take i list) (l ++ rest)) (drop_next list i t lt item)
    ∙ fine threads lists (take i list) t (drop (i + 1) list ++ rest) there none
    ∙ ap (λ l. first_wrong threads (all_of lists ++ l) (drop (i + 1) list ++ rest)) (sym (take_next list i t lt item))

pub right_ended : (threads : List ℤ) (lists : List (List ℤ)) (list these : List ℤ) (i : ℕ) → length list ≤ i → these ≡ list → RightUpTo threads lists list i
    → (rest : List ℤ) → first_wrong threads (all_of lists) (these ++ rest) ≡ first_wrong threads (all_of lists ++ these) rest
right_ended threads lists list these i le same right rest =
    ap (λ l. first_wrong threads (all_of lists) (l ++ rest)) same ∙ right rest
    ∙ ap (λ l. first_wrong threads (all_of lists ++ take i list) (l ++ rest)) (drop_all i list le)
    ∙ ap (λ l. first_wrong threads (all_of lists ++ l) rest) (take_all i list le ∙ sym same)

pub wrong_at : (threads : List ℤ) (lists : List (List ℤ)) (list these : List ℤ) (i : ℕ) (t : ℤ) (found : List (Option ℕ)) (e : GroupFault) → i < length list → get_or list i t ≡ t
    → found ≡ map (list_of (lists ++ take i list ∷ [])) threads → Refused threads found t e → these ≡ list → RightUpTo threads lists list i
    → (rest : List ℤ) → first_wrong threads (all_of lists) (these ++ rest) ≡ Some e
wrong_at threads lists list these i t found e lt item are wrong same right rest =
    ap (λ l. first_wrong threads (all_of lists) (l ++ rest)) same ∙ right rest
    ∙ ap (λ l. first_wrong threads (all_of lists ++ take i list) (l ++ rest)) (drop_next list i t lt item)
    ∙ refused threads lists (take i list) t (drop (i + 1) list ++ rest) found e are wrong

-- after one list
pub right_list : (threads : List ℤ) (lists : List (List ℤ)) (k : ℕ) (these : List ℤ) → k < length lists → get_or lists k these ≡ these
    → first_wrong threads (all_of (take k lists)) (these ++ all_of (drop (k + 1) lists)) ≡ first_wrong threads (all_of (take k lists) ++ these) (all_of (drop (k + 1) lists))
    → first_wrong threads [] (all_of lists) ≡ first_wrong threads (all_of (take k lists)) (all_of (drop k lists))
    → first_wrong threads [] (all_of lists) ≡ first_wrong threads (all_of (take (k + 1) lists)) (all_of (drop (k + 1) lists))
right_list threads lists k these lt item right so_far =
    so_far ∙ ap (λ (l : List (List ℤ)). first_wrong threads (all_of (take k lists)) (all_of l)) (drop_next lists k these lt item) ∙ right
    ∙ ap (λ l. first_wrong threads l (all_of (drop (k + 1) lists))) (sym (ap all_of (take_next lists k these lt item) ∙ all_of-snoc (take k lists) these))

pub wrong_list : (threads : List ℤ) (lists : List (List ℤ)) (k : ℕ) (these : List ℤ) (e : GroupFault) → k < length lists → get_or lists k these ≡ these
    → first_wrong threads (all_of (take k lists)) (these ++ all_of (drop (k + 1) lists)) ≡ Some e
    → first_wrong threads [] (all_of lists) ≡ first_wrong threads (all_of (take k lists)) (all_of (drop k lists))
    → first_wrong threads [] (all_of lists) ≡ Some e
wrong_list threads lists k these e lt item wrong so_far =
    so_far ∙ ap (λ (l : List (List ℤ)). first_wrong threads (all_of (take k lists)) (all_of l)) (drop_next lists k these lt item) ∙ wrong

pub right_all : (threads : List ℤ) (lists : List (List ℤ)) (k : ℕ) → length lists ≤ k
    → first_wrong threads [] (all_of lists) ≡ first_wrong threads (all_of (take k lists)) (all_of (drop k lists)) → first_wrong threads [] (all_of lists) ≡ None
right_all threads lists k le so_far = so_far ∙ ap (λ (l : List (List ℤ)). first_wrong threads (all_of (take k lists)) (all_of l)) (drop_all k lists le)

-- the threads from an index on, where the first of them has a number, or none
pub unfound_next : (threads : List ℤ) (found : List (Option ℕ)) (k n : ℕ) → k < length threads → k < length found → get_or found k (Some n) ≡ Some n
    → first_unfound (drop k threads) (drop k found) ≡ first_unfound (drop (k + 1) threads) (drop (k + 1) found)
unfound_next threads found k n lt lt' item =
    let t = get_or threads k (pos 0) in
    ap (λ l. first_unfound l (drop k found)) (drop_next threads k t lt (get_or_default threads k t (pos 0) lt))
    ∙ ap (λ (l : List (Option ℕ)). first_unfound (t ∷ drop (k + 1) threads) l) (drop_next found k (Some n) lt' item)

pub unfound_here : (threads : List ℤ) (found : List (Option ℕ)) (k : ℕ) → k < length threads → k < length found → get_or found k None ≡ None
    → first_unfound (drop k threads) (drop k found) ≡ Some (Missing (get_or threads k (pos 0)))
unfound_here threads found k lt lt' item =
    let t = get_or threads k (pos 0) in
    ap (λ l. first_unfound l (drop k found)) (drop_next threads k t lt (get_or_default threads k t (pos 0) lt))
    ∙ ap (λ (l : List (Option ℕ)). first_unfound (t ∷ drop (k + 1) threads) l) (drop_next found k None lt' item)

-- lists are refused for their first wrong thread, or else the first that is missing
pub thread_fault-wrong : (threads : List ℤ) (lists : List (List ℤ)) (e : GroupFault) → first_wrong threads [] (all_of lists) ≡ Some e → thread_fault threads lists ≡ Some e
thread_fault-wrong threads lists e wrong = ap (λ p. option_or p (first_missing threads (all_of lists))) wrong

pub thread_fault-right : (threads : List ℤ) (lists : List (List ℤ)) (o : Option GroupFault) → first_wrong threads [] (all_of lists) ≡ None → first_missing threads (all_of lists) ≡ o → thread_fault threads lists ≡ o
thread_fault-right threads lists o right missing = ap (λ p. option_or p (first_missing threads (all_of lists))) right ∙ missing

-- the numbers of right lists are those of the grouping
pub listed_lookup : (threads : List ℤ) (lists : List (List ℤ)) (numbers : List ℕ) (t : ℤ) → first_wrong threads [] (all_of lists) ≡ None → map Some numbers ≡ map (list_of lists) threads
    → lookup (int_eq t) (zip threads numbers) ≡ list_of lists t
listed_lookup threads lists numbers t right is = lookup_numbers (list_of lists) threads numbers t is ∙ here (has threads t) refl
  where
    stranger : (o : Option ℕ) → list_of lists t ≡ o → has threads t ≡ false → None ≡ o
    stranger None e none = refl
    stranger (Some n) e none =
        let there = no_stranger threads [] (all_of lists) t right (sym (is_some-list_of lists t) ∙ ap is_some e) in
        absurd cc

    here : (b : Bool) → has threads t ≡ b → cond b (list_of lists t) None ≡ list_of lists t
    here true e = refl
    here false e = stranger (list_of lists t) refl e

-- no list at all is read as one empty list
pub listed_is : (lists : List (List ℤ)) (own : ℕ) (group : ℤ → Option ℕ) → own ≡ max (length lists) 1 → ((t : ℤ) → group t ≡ list_of lists t) → with_own_group own group ≡ grouping_by_lists lists
listed_is [] own group is same = ap (λ n. with_own_group n group) is ∙ ap (with_own_group 1) (fun_ext group (list_of ([] ∷ [])) same)
listed_is (list ∷ lists) own group is same =
    ap (λ n. with_own_group n group) (let more : own ≡ length lists + 1 = omega arith in more) ∙ ap (with_own_group (length lists + 1)) (fun_ext group (list_of (list ∷ lists)) same)
