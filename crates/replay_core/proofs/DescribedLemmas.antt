-- Descriptions, found by the names that they give.
use Rattle.std.proofs.Common.{◌≡◌, ℕ, suc, ◌+◌, ◌<◌, ◌≤◌, ◌==◌, ◌&&◌, ◌||◌, Bool, true, false, cond}
use Rattle.std.proofs.Common.{List, [], ◌∷◌, ◌++◌, All, Bor, Option, None, Some, filter, map}
use Rattle.std.proofs.Common.{length, drop, get_or, refl, sym, ap, ap₂, ◌∙◌, subst, arith, add-one}
use Rattle.std.proofs.Common.{append_assoc, eq-eqb, nat_lt, slice_get}
use Rattle.std.specs.List.{list_all}
use Rattle.std.proofs.Math.Seq.{drop-cons}
use Rattle.std.proofs.lemmas.Bool.{and_parts}
use Rattle.std.proofs.lemmas.Bool.Decides.{Decides-eqb, nat_tests}
use Rattle.std.proofs.lemmas.List.{get_or-map, length-map, map-append}
use Rattle.std.proofs.lemmas.List.Elements.{All-push, All-weaker, filter-append}
use Rattle.std.proofs.lemmas.Option.{slice_get_within}
use Rattle.keyed_hash.specs.declared.hash_key.HashKey.{HashKey}
use Rattle.firings.specs.declared.unit.Probe.{Probe}
use Rattle.firings.proofs.Stored.{named_more}
use Rattle.replay_core.specs.Vocabulary.{Description, Extends}
use Rattle.replay_core.specs.declared.selection.table.Described.{Described}
use Rattle.replay_core.specs.Steps.Described.{GiveSame, HasKind, IsOfKind, IsSameKind, given_from}
use Rattle.replay_core.specs.Steps.Described.{given_of, hash_of_description, hash_of_names}
use Rattle.replay_core.specs.Steps.Described.{hash_of_probe, hash_sought, is_exact, is_found}
use Rattle.replay_core.specs.Steps.Described.{is_given, where_given}
use Rattle.replay_core.specs.Patterns.{field_matches, selects}
use Rattle.replay_core.specs.Steps.Patterns.{is_plain}
use Rattle.replay_core.specs.Indices.{indices_for}
use Rattle.replay_core.specs.Steps.Indices.{merge}
use Rattle.replay_core.specs.Uniting.{AllFrom, InOrder, with_number}
use Rattle.replay_core.proofs.PatternTests.{literal, matches_there}
use Rattle.replay_core.proofs.IndicesMerged.{AreFrom, Rise, merges}

-- the indices of those that select the probe
abbrev pub clauses_selected : Probe → List (ℕ × Description) → List ℕ
clauses_selected p given = map (λ x. x.0) (filter (λ x. selects x.1 p) given)

-- ---- names

exact_field : (like d text : List ℕ) → is_given like ≡ is_given d → list_all is_plain d ≡ true → field_matches d text ≡ true → d ≡ where_given like text
exact_field [] [] text same plain m = refl
exact_field [] (b ∷ d) text same plain m = cc
exact_field (a ∷ like) [] text same plain m = cc
exact_field (a ∷ like) (b ∷ d) text same plain m = (literal (b ∷ d) text plain).1 (matches_there (b ∷ d) text m)

all_four : (a b c d : Bool) → (a && b && c && d) ≡ true → (a ≡ true) × (b ≡ true) × (c ≡ true) × (d ≡ true)
all_four a b c d e =
    let three = and_parts (a && b && c) d e in
    let two = and_parts (a && b) c three.0 in
    let one = and_parts a b two.0 in (one.0, one.1, two.1, three.1)

exact_hash : (key : HashKey) (like d : Description) (p : Probe) → is_exact d ≡ true → GiveSame like d → selects d p ≡ true → hash_of_description key d ≡ hash_of_probe key like p
exact_hash key like d p exact same sel =
    let plain = all_four (list_all is_plain d.provider) (list_all is_plain d.«module») (list_all is_plain d.function) (list_all is_plain d.name) exact in
    let match = all_four (field_matches d.provider p.provider) (field_matches d.«module» p.probemod) (field_matches d.function p.probefunc) (field_matches d.name p.name) sel in
    let a = exact_field like.provider d.provider p.provider same.provider plain.0 match.0 in
    let b = exact_field like.«module» d.«module» p.probemod same.probemod plain.1 match.1 in
    let c = exact_field like.function d.function p.probefunc same.probefunc plain.2 match.2 in
    let e = exact_field like.name d.name p.name same.name plain.3 match.3 in
    ap₂ (λ x y. hash_of_names key x y d.function d.name) a b
    ∙ ap₂ (λ x y. hash_of_names key (where_given like.provider p.provider) (where_given like.«module» p.probemod) x y) c e

-- one of a kind that selects the probe has the hash that is sought
kind_hash : (key : HashKey) (kind : Option (Bor Description)) (hash : ℕ) (d : Description) (p : Probe) → IsOfKind key kind hash d → selects d p ≡ true → hash ≡ hash_sought key kind p
kind_hash key None hash d p of sel = of
kind_hash key (Some like) hash d p of sel = of.2 ∙ exact_hash key like.now d p of.0 of.1 sel

-- ---- kinds

pub of_exact : (key : HashKey) (kind own : Option (Bor Description)) (hash : ℕ) (d : Bor Description) → IsSameKind kind own → own ≡ Some d → is_exact d.now ≡ true → hash ≡ hash_of_description key d.now
    → IsOfKind key kind hash d.now
of_exact key kind own hash d same is exact at = here kind (subst (IsSameKind kind) is same)
  where
    here : (kind : Option (Bor Description)) → IsSameKind kind (Some d) → IsOfKind key kind hash d.now
    here None none = absurd none
    here (Some like) give = (exact, give, at)

pub of_patterns : (key : HashKey) (kind own : Option (Bor Description)) (hash : ℕ) (d : Description) → IsSameKind kind own → own ≡ None → hash ≡ 0 → IsOfKind key kind hash d
of_patterns key kind own hash d same is at = here kind (subst (IsSameKind kind) is same)
  where
    here : (kind : Option (Bor Description)) → IsSameKind kind None → IsOfKind key kind hash d
    here None none = at
    here (Some like) some = absurd some

module _ (key : HashKey) where
  pub still_kind : (old new : List (Option (Bor Description))) (x : ℕ × Described) → Extends old new → HasKind key old x → HasKind key new x
  still_kind old new x more (kind, at, of) = (kind, named_more old new x.1.kind kind more at, of)

  pub kinds_more : (old new : List (Option (Bor Description))) (items more : List (ℕ × Described)) (x : ℕ × Described) → Extends old new → All (HasKind key old) items
      → HasKind key new x → more ≡ items ++ x ∷ [] → All (HasKind key new) more
  kinds_more old new items more x longer each one is = subst (All (HasKind key new)) (sym is)
      (All-push (HasKind key new) items x (All-weaker (HasKind key old) (HasKind key new) (λ y. still_kind old new y longer) items each) one)

  -- those of a kind that select the probe are found by the hash that is sought
  pub found_all : (kinds : List (Option (Bor Description))) (p : Probe) (k : ℕ) (kind : Option (Bor Description)) → slice_get kinds k ≡ Some kind → (xs : List (ℕ × Described)) → All (HasKind key kinds) xs
      → filter (is_found k p) (with_number (hash_sought key kind p) xs) ≡ filter (is_found k p) xs
  found_all kinds p k kind at [] each = refl
  found_all kinds p k kind at (x ∷ xs) each = step (found_all kinds p k kind at xs (λ j d lt. each (suc j) d (omega arith))) (x.0 == hash_sought key kind p) (is_found k p x) refl refl
    where
      here : is_found k p x ≡ true → x.0 ≡ hash_sought key kind p
      here is =
          let both = and_parts (x.1.kind == k) (selects x.1.description.now p) is in
          let (own, there, of) = each 0 x (omega arith) in
          let k_is : x.1.kind ≡ k = (Decides-eqb x.1.kind k).0 both.0 in
          let same : Some own ≡ Some kind = sym there ∙ ap (slice_get kinds) k_is ∙ at in
          let is_kind : own ≡ kind = cc in
          kind_hash key kind x.0 x.1.description.now p (subst (λ o. IsOfKind key o x.0 x.1.description.now) is_kind of) both.1

      step : filter (is_found k p) (with_number (hash_sought key kind p) xs) ≡ filter (is_found k p) xs → (b c : Bool) → (x.0 == hash_sought key kind p) ≡ b → is_found k p x ≡ c
          → filter (is_found k p) (cond b (x ∷ with_number (hash_sought key kind p) xs) (with_number (hash_sought key kind p) xs)) ≡ cond c (x ∷ filter (is_found k p) xs) (filter (is_found k p) xs)
      step rest true c e f =
          ap (λ t. cond t (x ∷ filter (is_found k p) (with_number (hash_sought key kind p) xs)) (filter (is_found k p) (with_number (hash_sought key kind p) xs))) f
          ∙ ap (λ l. cond c (x ∷ l) l) rest
      step rest false true e f = absurd (let yes = sym e ∙ eq-eqb x.0 (hash_sought key kind p) (here f) in cc)
      step rest false false e f = rest

-- ---- the kinds so far

pub so_far : ℕ → Probe → ℕ × Described → Bool
so_far k p x = nat_lt x.1.kind k && selects x.1.description.now p

or_at : (a k : ℕ) (s : Bool) → (nat_lt a (k + 1) && s) ≡ ((nat_lt a k && s) || ((a == k) && s))
or_at a k s = grind (arith, nat_tests)

apart_at : (a k : ℕ) (s : Bool) → (nat_lt a k && s) ≡ true → ((a == k) && s) ≡ false
apart_at a k s e = grind (arith, nat_tests)

from_of : (n : ℕ) (xs : List (ℕ × Described)) → AllFrom n (given_of xs) → AreFrom n (map (λ x. x.1.clause) xs)
from_of n [] h = tt
from_of n (x ∷ xs) h = (h.0, from_of n xs h.1)

rise_of : (xs : List (ℕ × Described)) → InOrder (given_of xs) → Rise (λ x. x.1.clause) xs
rise_of [] h = tt
rise_of (x ∷ xs) h = (from_of x.1.clause xs h.0, rise_of xs h.1)

-- one kind more
pub kind_more : (k : ℕ) (p : Probe) (xs : List (ℕ × Described)) → InOrder (given_of xs)
    → merge (map (λ x. x.1.clause) (filter (so_far k p) xs)) (map (λ x. x.1.clause) (filter (is_found k p) xs)) ≡ map (λ x. x.1.clause) (filter (so_far (k + 1) p) xs)
unfolding so_far
kind_more k p xs order = merges (λ x. x.1.clause) (so_far k p) (is_found k p) (so_far (k + 1) p) (λ x. or_at x.1.kind k (selects x.1.description.now p))
    (λ x e. apart_at x.1.kind k (selects x.1.description.now p) e) xs (rise_of xs order)

pub none_yet : (p : Probe) (xs : List (ℕ × Described)) → filter (so_far 0 p) xs ≡ []
unfolding so_far
none_yet p [] = refl
none_yet p (x ∷ xs) =
    let no : nat_lt x.1.kind 0 ≡ false = grind (arith, nat_tests) in
    ap (λ b. cond (b && selects x.1.description.now p) (x ∷ filter (so_far 0 p) xs) (filter (so_far 0 p) xs)) no ∙ none_yet p xs

pub all_kinds : (key : HashKey) (kinds : List (Option (Bor Description))) (k : ℕ) (p : Probe) (xs : List (ℕ × Described)) → length kinds ≤ k → All (HasKind key kinds) xs
    → map (λ x. x.1.clause) (filter (so_far k p) xs) ≡ clauses_selected p (given_of xs)
unfolding so_far
all_kinds key kinds k p [] le each = refl
all_kinds key kinds k p (x ∷ xs) le each =
    let (kind, at, of) = each 0 x (omega arith) in
    let within = slice_get_within kinds x.1.kind kind at in
    let yes : nat_lt x.1.kind k ≡ true = grind (arith, nat_tests) in
    ap (λ b. map (λ (y : ℕ × Described). y.1.clause) (cond (b && selects x.1.description.now p) (x ∷ filter (so_far k p) xs) (filter (so_far k p) xs))) yes
    ∙ step (all_kinds key kinds k p xs le (λ j d lt. each (suc j) d (omega arith))) (selects x.1.description.now p)
  where
    step : map (λ (y : ℕ × Described). y.1.clause) (filter (so_far k p) xs) ≡ clauses_selected p (given_of xs) → (b : Bool) → map (λ (y : ℕ × Described). y.1.clause) (cond b (x ∷ filter (so_far k p) xs) (filter (so_far k p) xs))
        ≡ map (λ (y : ℕ × Description). y.0) (cond b ((x.1.clause, x.1.description.now) ∷ filter (λ y. selects y.1 p) (given_of xs)) (filter (λ y. selects y.1 p) (given_of xs)))
    step rest true = ap (λ l. x.1.clause ∷ l) rest
    step rest false = rest

-- ---- the descriptions of clauses

-- those of one more clause
pub given_more : {A : Type 0} (now : A → List Description) (xs : List A) (i : ℕ) (x : A) (before after all : List (ℕ × Description)) → i < length xs → x ≡ get_or xs i x
    → after ≡ before ++ map (λ d. (i, d)) (now x)
    → before ++ given_from i (drop i (map now xs)) ≡ all → after ++ given_from (i + 1) (drop (i + 1) (map now xs)) ≡ all
given_more now xs i x before after all lt is pushed so_far =
    let inside : i < length (map now xs) = simp length-map lt in
    let here : get_or (map now xs) i (now x) ≡ now x = get_or-map now xs i x (now x) lt ∙ ap now (sym is) in
    let cut : drop i (map now xs) ≡ now x ∷ drop (i + 1) (map now xs) =
    drop-cons (map now xs) i (now x) inside ∙ ap (λ y. y ∷ drop (suc i) (map now xs)) here ∙ ap (λ n. now x ∷ drop n (map now xs)) (sym (add-one i)) in
    let own = map (λ (d : Description). (i, d)) (now x) in
    let rest = given_from (i + 1) (drop (i + 1) (map now xs)) in
    ap (λ l. l ++ rest) pushed ∙ append_assoc before own rest ∙ ap (λ l. before ++ given_from i l) (sym cut) ∙ so_far

from_less : (n m : ℕ) (xs : List (ℕ × Description)) → n ≤ m → AllFrom m xs → AllFrom n xs
from_less n m [] le h = tt
from_less n m (x ∷ xs) le h = (let ge = h.0 in omega arith, from_less n m xs le h.1)

one_index : (n : ℕ) (ds : List Description) (rest : List (ℕ × Description)) → AllFrom n rest → InOrder rest → AllFrom n (map (λ d. (n, d)) ds ++ rest) × InOrder (map (λ d. (n, d)) ds ++ rest)
one_index n [] rest all order = (all, order)
one_index n (d ∷ ds) rest all order = let more = one_index n ds rest all order in ((omega arith, more.0), (more.0, more.1))

given_rises : (n : ℕ) (ds : List (List Description)) → AllFrom n (given_from n ds) × InOrder (given_from n ds)
given_rises n [] = (tt, tt)
given_rises n (d ∷ ds) = let more = given_rises (n + 1) ds in one_index n d (given_from (n + 1) ds) (from_less n (n + 1) _ (omega arith) more.0) more.1

pub given_in_order : (ds : List (List Description)) → InOrder (given_from 0 ds)
given_in_order ds = (given_rises 0 ds).1

own_indices : (p : Probe) (n : ℕ) (ds : List Description) → clauses_selected p (map (λ d. (n, d)) ds) ≡ map (λ d. n) (filter (λ d. selects d p) ds)
own_indices p n [] = refl
own_indices p n (d ∷ ds) = step (own_indices p n ds) (selects d p)
  where
    step : clauses_selected p (map (λ d. (n, d)) ds) ≡ map (λ d. n) (filter (λ d. selects d p) ds) → (b : Bool) → map (λ (x : ℕ × Description). x.0) (cond b ((n, d) ∷ filter (λ x. selects x.1 p) (map (λ d. (n, d)) ds)) (filter (λ x. selects x.1 p) (map (λ d. (n, d)) ds)))
        ≡ map (λ (d : Description). n) (cond b (d ∷ filter (λ d. selects d p) ds) (filter (λ d. selects d p) ds))
    step rest true = ap (λ l. n ∷ l) rest
    step rest false = rest

pub indices_given : (p : Probe) (n : ℕ) (ds : List (List Description)) → clauses_selected p (given_from n ds) ≡ indices_for p n ds
indices_given p n [] = refl
indices_given p n (d ∷ ds) =
    ap (map (λ (x : ℕ × Description). x.0)) (filter-append (λ (x : ℕ × Description). selects x.1 p) (map (λ d. (n, d)) d) (given_from (n + 1) ds))
    ∙ map-append (λ (x : ℕ × Description). x.0) (filter (λ (x : ℕ × Description). selects x.1 p) (map (λ d. (n, d)) d)) (filter (λ (x : ℕ × Description). selects x.1 p) (given_from (n + 1) ds))
    ∙ ap₂ (λ a b. a ++ b) (own_indices p n d) (indices_given p (n + 1) ds)
