-- An entry that is found by its index among the entries.
use Rattle.std.specs.Prelude.{◌≡◌, ◌<◌, ◌+◌, ◌≤◌, ℕ, zero, suc, ℤ, List, [], ◌∷◌, Option, Some}
use Rattle.std.specs.Prelude.{length, slice_get, sum_by, get_or, set, ⊤, Result, OnOk}
use Rattle.std.proofs.Common.{refl, sym, ap, ◌∙◌, subst, arith, cond}
use Rattle.std.specs.declared.alloc.AllocError.{AllocError}
use Rattle.std.specs.Map.{lookup, values_of}
use Rattle.std.specs.Option.{option_map}
use Rattle.std.proofs.lemmas.Option.{get_or_from_slice_get, slice_get-map, slice_get_within}
use Rattle.std.proofs.lemmas.Result.{on_err_weaker, on_ok_weaker}
use Rattle.d_values.specs.KeyLaws.{same_key_equiv}
use Rattle.std.proofs.lemmas.List.Sums.{get_or-le-sum_by, sum_by-set}
use Rattle.indexmap.proofs.CallerLemmas.{updates-with_value_at}
use Rattle.indexmap.specs.IndexMap.{IndexMap, IsUnique}
use Rattle.indexmap.specs.Layout.{set_value_at}
use Rattle.aggregations.specs.Vocabulary.{AggFn, KeyPart, AllOrNothing, IsAt, same_key}
use Rattle.aggregations.specs.declared.held.Held.{Held}
use Rattle.aggregations.specs.Values.{count_in}
use Rattle.aggregations.specs.Steps.Entries.{Adds, Joins, Notes, Puts, Takes}
use Rattle.aggregations.specs.Steps.Values.{TakesBoth, TakesOne}
use Rattle.aggregations.specs.Table.{Aggregation, count_of}
use Rattle.aggregations.proofs.TableLemmas.{empty_front, push_some}

-- the value that is there already
pub set_same : (es : List (List KeyPart × Held)) (i : ℕ) (key : List KeyPart) (held : Held) → slice_get es i ≡ Some (key, held) → set_value_at es i held ≡ es
set_same [] i key held at = refl
set_same (e ∷ es) zero key held at =
    let one : e ≡ (key, held) = cc in
    ap (λ p. (p.0, held) ∷ es) one ∙ ap (λ p. p ∷ es) (sym one)
set_same (e ∷ es) (suc i) key held at = ap (λ l. e ∷ l) (set_same es i key held at)

values_set : (es : List (List KeyPart × Held)) (i : ℕ) (now : Held) → values_of (set_value_at es i now) ≡ set (values_of es) i now
values_set [] i now = refl
values_set (e ∷ es) zero now = refl
values_set (e ∷ es) (suc i) now = ap (λ l. e.1 ∷ l) (values_set es i now)

value_there : (es : List (List KeyPart × Held)) (i : ℕ) (key : List KeyPart) (held : Held) → slice_get es i ≡ Some (key, held)
    → (i < length (values_of es)) × (get_or (values_of es) i held ≡ held)
value_there es i key held at =
    let value = slice_get-map (λ e. e.1) es i ∙ ap (option_map (λ e. e.1)) at in
    (slice_get_within (values_of es) i held value, get_or_from_slice_get (values_of es) i held held value)

-- what the entries count together, before and after
pub sum_set : (es : List (List KeyPart × Held)) (i : ℕ) (key : List KeyPart) (held now : Held) → slice_get es i ≡ Some (key, held)
    → sum_by count_in (values_of (set_value_at es i now)) + count_in held ≡ sum_by count_in (values_of es) + count_in now
sum_set es i key held now at =
    let there = value_there es i key held at in
    ap (λ l. sum_by count_in l + count_in held) (values_set es i now)
    ∙ ap (λ h. sum_by count_in (set (values_of es) i now) + count_in h) (sym there.1)
    ∙ sum_by-set count_in (values_of es) i now held there.0

-- an entry counts no more than all do
pub held_counted : (m now : Aggregation) (i : ℕ) (key : List KeyPart) (held : Held) → m ≡ now → slice_get m.entries i ≡ Some (key, held) → count_in held ≤ count_of now
held_counted m now i key held is at =
    let there = value_there m.entries i key held at in
    subst (λ (a : Aggregation). count_in held ≤ count_of a) is
    (subst (λ h. count_in h ≤ count_of m) there.1 (get_or-le-sum_by count_in (values_of m.entries) i held there.0))

pub at_view : (m now : Aggregation) (i : ℕ) (key : List KeyPart) → m ≡ now → IsAt same_key m.entries i key → IsAt same_key now.entries i key
at_view m now i key is at = subst (λ (a : Aggregation). IsAt same_key a.entries i key) is at

-- ---- one argument more, or those of another entry

-- where an aggregation's entries are in a map
module _ {S : Type 0} (m : IndexMap (List KeyPart) Held S) (f : AggFn) (old : Aggregation) (is : ◌≡◌ {A = Aggregation} (record { function = f; entries = m.entries }) old)
    (unique : IsUnique same_key m) (i : ℕ) (key k : List KeyPart) (held now : Held) (at : IsAt same_key old.entries i key) (there : slice_get m.entries i ≡ Some (k, held)) where
  abbrev es : List (List KeyPart × Held)
  es = m.entries

  abbrev seen : List (List KeyPart × Held) → Aggregation
  seen entries = record { function = f; entries = entries }

  place : IsAt same_key es i key
  place = at_view old (seen es) i key (sym is) at

  up : (q : List KeyPart) → lookup (same_key q) (set_value_at es i now) ≡ cond (same_key key q) (Some now) (lookup (same_key q) es)
  up = (updates-with_value_at m i now same_key_equiv unique key place.held place.entry).0

  puts : (P : Option Held → Option Held → Type 0) → P (Some held) (Some now) → Puts (seen es) (seen (set_value_at es i now)) key (P (lookup (same_key key) es))
  puts P p = record {
    here = subst (λ o. P o (lookup (same_key key) (set_value_at es i now))) (sym (place.found ∙ ap (option_map (λ e. e.1)) (sym place.entry ∙ there)))
        (subst (P (Some held)) (sym (up key ∙ ap (λ b. cond b (Some now) (lookup (same_key key) es)) (same_key_equiv.refl key))) p);
    others = λ q e. up q ∙ ap (λ b. cond b (Some now) (lookup (same_key q) es)) e;
  }

  pub adds_at : (arg : ℤ) (r : Result ⊤ AllocError) → AllOrNothing r held now (TakesOne held arg now) → count_in now ≤ count_in held + 1 → Adds old (seen (set_value_at es i now)) key arg r
  adds_at arg r noted more = subst (λ (a : Aggregation). Adds a (seen (set_value_at es i now)) key arg r) is (record {
    function = refl;
    ok = on_ok_weaker r (λ takes. puts (λ o n. Notes f o arg n) (λ args is. (push_some args arg, takes f args is.1))) noted.ok;
    count = omega (arith, sum_set es i k held now there, more);
    err = on_err_weaker r (λ same. ap (λ h. seen (set_value_at es i h)) same ∙ ap seen (set_same es i k held there)) noted.err;
  })

  pub takes_at : (more : Held) (r : Result ⊤ AllocError) → OnOk r (TakesBoth held more now) → count_in now ≤ count_in held + count_in more → Takes old (seen (set_value_at es i now)) key more r
  takes_at more r joined most = subst (λ (a : Aggregation). Takes a (seen (set_value_at es i now)) key more r) is (record {
    function = refl;
    ok = on_ok_weaker r (λ both. puts (λ o n. Joins f o (Some more) n) (λ xs ys a b. (λ e. a.0 (empty_front xs ys e), both f xs ys a.1 b.1))) joined;
    count = omega (arith, sum_set es i k held now there, most);
  })
