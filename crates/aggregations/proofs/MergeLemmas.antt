-- One aggregation takes the entries of another.
use Rattle.std.proofs.Common.{◌≡◌, ℕ, ◌+◌, ◌<◌, ◌≤◌, ◌⊎◌, inl, inr, Bool, true, false, length}
use Rattle.std.proofs.Common.{get_or, set, List, [], ◌∷◌, ◌++◌, Option, None, Some, refl, sym, ◌≢◌}
use Rattle.std.proofs.Common.{ap, ◌∙◌, subst, arith, sum_by}
use Rattle.std.specs.Prelude.{slice_get}
use Rattle.std.specs.Option.{option_map}
use Rattle.std.proofs.lemmas.Bool.{cases_eq}
use Rattle.std.proofs.lemmas.Grind.{common_steps}
use Rattle.std.proofs.lemmas.Option.{gets, same_Some, slice_get-get_or, slice_get-map, slice_get_within}
use Rattle.std.proofs.Math.Seq.{map-set_same}
use Rattle.std.proofs.lemmas.List.{append_assoc, append-nil, length-append, length-map}
use Rattle.aggregations.specs.Vocabulary.{IsDistinct, AggFn, KeyPart, same_key}
use Rattle.std.specs.Map.{lookup, keys_of, values_of}
use Rattle.std.proofs.lemmas.List.Sums.{sum_by-cons, sum_by_push, sum_by-set}
use Rattle.std.proofs.lemmas.Map.{lookup-none}
use Rattle.std.proofs.lemmas.Map.Entries.{lookup_head, lookup_tail, none_past_head}
use Rattle.std.proofs.lemmas.Map.Keys.{IsDistinct-tail}
use Rattle.d_values.specs.KeyLaws.{same_key_decides, same_key_equiv}
use Rattle.aggregations.specs.declared.held.Held.{Held}
use Rattle.aggregations.specs.Values.{count_in}
use Rattle.aggregations.specs.Table.{Aggregation, Contribution, functions_of, count_of, count_held}
use Rattle.aggregations.specs.Table.{arguments_of, entry_at, IsEntry, HasEntry, StandsFor}
use Rattle.aggregations.proofs.TableLemmas.{arguments_of-append, slice_get-set_same}
use Rattle.aggregations.proofs.TableLemmas.{slice_get-set_other}
use Rattle.aggregations.specs.Steps.Entries.{Joins, Puts, TakesAll}

-- `first` takes `all`, and is `now`, with the entries `rest` of `all` still to come
pub record Merging (first all : Aggregation) (rest : List (List KeyPart × Held)) (now : Aggregation) : Type 0 where
  pub function : now.function ≡ first.function
  pub apart : IsDistinct same_key (keys_of rest)
  pub todo : (k : List KeyPart) (p : Held) → lookup (same_key k) rest ≡ Some p → (entry_at k all ≡ Some p) × (entry_at k now ≡ entry_at k first)
  pub done : (k : List KeyPart) → lookup (same_key k) rest ≡ None → Joins first.function (entry_at k first) (entry_at k all) (entry_at k now)
  pub held : count_of now + sum_by count_in (values_of rest) ≤ count_of first + count_of all

pub joins_first : (f : AggFn) (p : Held) → Joins f None (Some p) (Some p)
joins_first f p xs ys none some = subst (λ l. IsEntry f (Some p) (l ++ ys)) (sym none) some

pub merging_more : (first all now next : Aggregation) (key : List KeyPart) (p : Held) (rest : List (List KeyPart × Held)) → Merging first all ((key, p) ∷ rest) now
    → next.function ≡ now.function → count_of next ≤ count_of now + count_in p
    → Puts now next key (Joins first.function (entry_at key now) (Some p)) → Merging first all rest next
merging_more first all now next key p rest m kept more puts = record {
  function = kept ∙ m.function;
  apart = IsDistinct-tail same_key key (keys_of rest) m.apart;
  todo = λ k q e. grind (arith, same_key_equiv.symm k key, gone k, puts.others k, m.todo k q);
  done = λ k e. done k e (same_key key k) refl;
  held = let sums = sum_by-cons count_in p (values_of rest) in let h = m.held in omega arith;
}
  where
    gone : (k : List KeyPart) → same_key key k ≡ true → lookup (same_key k) rest ≡ None
    gone k e = lookup-none (same_key k) rest (none_past_head same_key_equiv k (key, p) rest m.apart (same_key_equiv.symm k key ∙ e))

    passed : (k : List KeyPart) → same_key key k ≡ false → lookup (same_key k) ((key, p) ∷ rest) ≡ lookup (same_key k) rest
    passed k e = lookup_tail (same_key k) (key, p) rest (same_key_equiv.symm k key ∙ e)

    found : (k : List KeyPart) → same_key key k ≡ true → lookup (same_key k) ((key, p) ∷ rest) ≡ Some p
    found k e = lookup_head (same_key k) (key, p) rest (same_key_equiv.symm k key ∙ e)

    done : (k : List KeyPart) → lookup (same_key k) rest ≡ None → (b : Bool) → same_key key k ≡ b → Joins first.function (entry_at k first) (entry_at k all) (entry_at k next)
    done k e true t =
        let old = m.todo k p (found k t) in
        rw (old.0, ← old.1) (subst (λ q. Joins first.function (entry_at q now) (Some p) (entry_at q next)) ((same_key_decides key k).0 t) puts.here)
    done k e false t = subst (λ o. Joins first.function (entry_at k first) (entry_at k all) o) (sym (puts.others k t)) (m.done k (passed k t ∙ e))

-- ---- tables

-- `first` takes `all`, and is `now`, with the aggregations `rest` of `all` still to come, the last of them first
pub record MergingTables (first all rest now : List Aggregation) : Type 0 where
  pub gone : List Aggregation
  pub whole : all ≡ rest ++ gone
  pub functions : functions_of now ≡ functions_of first
  pub done : (i : ℕ) (a b c : Aggregation) → length rest ≤ i → slice_get first i ≡ Some a → slice_get all i ≡ Some b → slice_get now i ≡ Some c → TakesAll a b c
  pub todo : (i : ℕ) → i < length rest → slice_get now i ≡ slice_get first i
  pub held : count_held now + count_held rest ≤ count_held first + count_held all

pub tables_start : (first all : List Aggregation) → MergingTables first all all first
tables_start first all = record {
  gone = [];
  whole = sym (append-nil all);
  functions = refl;
  done = λ i a b c past x y. absurd (let within = slice_get_within all i b y in omega (arith, within, past));
  todo = λ i lt. refl;
  held = omega arith;
}

-- the last of those that are left goes, and the aggregation at its index takes it, or is refused memory for it
module _ (first all now rest left : List Aggregation) (more : Aggregation) (same : functions_of first ≡ functions_of all)
    (m : MergingTables first all rest now) (cut : rest ≡ left ++ more ∷ []) (index : ℕ) (at : index ≡ length left) where
  longer : length rest ≡ length left + 1
  longer = ap length cut ∙ length-append left (more ∷ [])

  whole : all ≡ left ++ more ∷ m.gone
  whole = m.whole ∙ ap (λ l. l ++ m.gone) cut ∙ append_assoc left (more ∷ []) m.gone

  within_all : index < length all
  within_all = let long = ap length whole ∙ length-append left (more ∷ m.gone) in omega (arith, long, at)

  within : index < length now
  within =
      let long = sym (length-map now (λ a. a.function)) ∙ ap length (m.functions ∙ same) ∙ length-map all (λ a. a.function) in
      omega (arith, long, within_all)

  more_there : slice_get all index ≡ Some more
  more_there = grind (arith, common_steps, gets, whole, within_all)

  less : count_held rest ≡ count_held left + count_of more
  less = ap (sum_by count_of) cut ∙ sum_by_push count_of left more

  module _ (old : Aggregation) (was : old ≡ get_or now index old) where
    old_there : slice_get now index ≡ Some old
    old_there = slice_get-get_or now index old within ∙ ap Some (sym was)

    pub tables_function : old.function ≡ more.function
    tables_function =
        same_Some _ _ (sym (ap (option_map (λ a. a.function)) old_there) ∙ sym (slice_get-map (λ a. a.function) now index)
        ∙ ap (λ fs. slice_get fs index) (m.functions ∙ same) ∙ slice_get-map (λ a. a.function) all index
        ∙ ap (option_map (λ a. a.function)) more_there)

    module _ (new : Aggregation) (kept : new.function ≡ old.function) where
      pub tables_functions : functions_of (set now index new) ≡ functions_of first
      tables_functions = map-set_same (λ a. a.function) now index new old (kept ∙ ap (λ a. a.function) was) ∙ m.functions

      pub tables_more : TakesAll old more new → count_of new ≤ count_of old + count_of more → MergingTables first all left (set now index new)
      tables_more takes count = record {
        gone = more ∷ m.gone;
        whole = whole;
        functions = tables_functions;
        done = λ i a b c past x y z. done i a b c past x y z (cases_eq i index);
        todo = λ i lt. slice_get-set_other now index new i (λ e. omega (arith, e, at, lt)) ∙ m.todo i (omega (arith, longer, lt));
        held =
            let sums = sum_by-set count_of now index new old within in
            let here : count_of old ≡ count_of (get_or now index old) = ap count_of was in
            let before = m.held in
            omega (arith, sums, here, before, less, count);
      }
        where
          done : (i : ℕ) (a b c : Aggregation) → length left ≤ i → slice_get first i ≡ Some a → slice_get all i ≡ Some b → slice_get (set now index new) i ≡ Some c
              → ((i ≡ index) ⊎ (i ≡ index → ⊥)) → TakesAll a b c
          done i a b c past x y z (inl e) =
              let from : old ≡ a = same_Some _ _ (sym old_there ∙ m.todo index (omega (arith, longer, at)) ∙ ap (slice_get first) (sym e) ∙ x) in
              let by : more ≡ b = same_Some _ _ (sym more_there ∙ ap (slice_get all) (sym e) ∙ y) in
              let to : new ≡ c = same_Some _ _ (sym (slice_get-set_same now index new within) ∙ ap (slice_get (set now index new)) (sym e) ∙ z) in
              subst (λ o. TakesAll o b c) from (subst (λ o. TakesAll old o c) by (subst (TakesAll old more) to takes))
          done i a b c past x y z (inr ne) =
              let apart : i ≢ length left = λ e. ne (e ∙ sym at) in
              m.done i a b c (omega (arith, longer, past, apart)) x y (sym (slice_get-set_other now index new i ne) ∙ z)

pub tables_all : (first all now : List Aggregation) (xs ys : List Contribution) → functions_of first ≡ functions_of all
    → MergingTables first all [] now → StandsFor first xs → StandsFor all ys → StandsFor now (xs ++ ys)
tables_all first all now xs ys same m stands stands_all agg key =
    subst (HasEntry (slice_get now agg) key) (sym (arguments_of-append agg key xs ys))
    (at (slice_get now agg) (slice_get first agg) (slice_get all agg) refl refl refl (by_function now first m.functions) (by_function first all same) (stands agg key) (stands_all agg key))
  where
    by_function : (s t : List Aggregation) → functions_of s ≡ functions_of t → option_map (λ a. a.function) (slice_get s agg) ≡ option_map (λ a. a.function) (slice_get t agg)
    by_function s t e = sym (slice_get-map (λ a. a.function) s agg) ∙ ap (λ l. slice_get l agg) e ∙ slice_get-map (λ a. a.function) t agg

    at : (oc oa ob : Option Aggregation) → slice_get now agg ≡ oc → slice_get first agg ≡ oa → slice_get all agg ≡ ob
        → option_map (λ a. a.function) oc ≡ option_map (λ a. a.function) oa → option_map (λ a. a.function) oa ≡ option_map (λ a. a.function) ob
        → HasEntry oa key (arguments_of agg key xs) → HasEntry ob key (arguments_of agg key ys)
        → HasEntry oc key (arguments_of agg key xs ++ arguments_of agg key ys)
    at None None None c a b e f hx hy = ap (λ l. l ++ arguments_of agg key ys) hx ∙ hy
    at (Some new) (Some old) (Some more) c a b e f hx hy =
        let kept : new.function ≡ old.function = same_Some _ _ e in
        let one : old.function ≡ more.function = same_Some _ _ f in
        let takes = m.done agg old more new (omega arith) a b c in
        subst (λ g. IsEntry g (entry_at key new) (arguments_of agg key xs ++ arguments_of agg key ys)) (sym kept)
        (takes key (arguments_of agg key xs) (arguments_of agg key ys) hx (subst (λ g. IsEntry g (entry_at key more) (arguments_of agg key ys)) (sym one) hy))
    at _ _ _ c a b e f hx hy = absurd cc
