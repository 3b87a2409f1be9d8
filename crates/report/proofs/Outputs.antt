-- One more aggregation is shown.
use Rattle.std.proofs.Common.{◌≡◌, ℕ, suc, ◌+◌, ◌<◌, ◌≤◌, List, []}
use Rattle.std.proofs.Common.{◌∷◌, ◌++◌, length, get_or, take, Some, refl, sym, ap, ◌∙◌, subst}
use Rattle.std.proofs.Common.{arith, append-nil, append_assoc}
use Rattle.std.specs.List.{AllZip, enumerate_from, flat_map, slice_get}
use Rattle.std.proofs.lemmas.List.{flat_map_more, length-take-le, take_all, take_more}
use Rattle.std.proofs.lemmas.Option.{same_Some, slice_get-get_or}
use Rattle.aggregations.specs.declared.function.AggFn.{AggFn}
use Rattle.aggregations.specs.Table.{Contribution}
use Rattle.report.specs.Entry.{Entry}
use Rattle.report.specs.Listing.{IsListing, listing_bytes}
use Rattle.report.proofs.Listings.{listing_exists}
use Rattle.report.specs.Output.{IsOutput}
use Rattle.report.specs.Steps.Output.{AppendsTables}

-- the bytes after are those before, and then a listing of the aggregation
pub record AppendsListing (function : AggFn) (agg : ℕ) (contributions : List Contribution) (before after : List ℕ) : Type 0 where
  pub entries : List Entry
  pub listing : IsListing function agg contributions entries
  pub bytes : after ≡ before ++ listing_bytes entries

pub shows_none : (contributions : List Contribution) (bytes : List ℕ) → bytes ≡ [] → IsOutput [] [] contributions bytes
shows_none contributions bytes none = record { listings = []; listed = tt; joined = none }

-- one more listing
listed_push : (Is : ℕ × AggFn → List Entry → Type 0) (n : ℕ) (functions : List AggFn) (listings : List (List Entry)) (function : AggFn) (entries : List Entry)
    → AllZip Is (enumerate_from n functions) listings → Is (n + length functions, function) entries
    → AllZip Is (enumerate_from n (functions ++ function ∷ [])) (listings ++ entries ∷ [])
listed_push Is n [] [] function entries all own = let e : n + 0 ≡ n = omega arith in (subst (λ k. Is (k, function) entries) e own, tt)
listed_push Is n [] (l ∷ listings) function entries all own = absurd all
listed_push Is n (f ∷ functions) [] function entries all own = absurd all
listed_push Is n (f ∷ functions) (l ∷ listings) function entries all own =
    let e : n + suc (length functions) ≡ n + 1 + length functions = omega arith in
    (all.0, listed_push Is (n + 1) functions listings function entries all.1 (subst (λ k. Is (k, function) entries) e own))

module _ (contributions : List Contribution) where
  pub shows_push : (functions : List AggFn) (function : AggFn) (before after : List ℕ) → IsOutput functions [] contributions before
      → AppendsListing function (length functions) contributions before after → IsOutput (functions ++ function ∷ []) [] contributions after
  shows_push functions function before after shown more =
      let e : length functions ≡ 0 + length functions = omega arith in
      record {
        listings = shown.listings ++ more.entries ∷ [];
        listed = listed_push (λ agg entries. IsListing agg.1 agg.0 contributions entries) 0 functions shown.listings function more.entries shown.listed
            (subst (λ n. IsListing function n contributions more.entries) e more.listing);
        joined = more.bytes ∙ ap (λ l. l ++ listing_bytes more.entries) shown.joined ∙ flat_map_more listing_bytes [] shown.listings more.entries;
      }

  pub shows_more : (functions : List AggFn) (agg : ℕ) (before after : List ℕ) → agg < length functions
      → ((function : AggFn) → slice_get functions agg ≡ Some function → AppendsListing function agg contributions before after)
      → IsOutput (take agg functions) [] contributions before → IsOutput (take (agg + 1) functions) [] contributions after
  shows_more [] agg before after within more shown = absurd (omega arith)
  shows_more (f ∷ functions) agg before after within more shown =
      let here : AggFn = get_or (f ∷ functions) agg f in
      let size : length (take agg (f ∷ functions)) ≡ agg = length-take-le agg (f ∷ functions) (omega arith) in
      let own = more here (slice_get-get_or (f ∷ functions) agg f within) in
      subst (λ fs. IsOutput fs [] contributions after) (sym (take_more (f ∷ functions) agg f within))
      (shows_push (take agg (f ∷ functions)) here before after shown (subst (λ n. AppendsListing here n contributions before after) (sym size) own))

  -- bytes before the aggregations stay
  pub tables_none : (before : List ℕ) → AppendsTables [] contributions before before
  tables_none before = record { tables = []; shown = shows_none contributions [] refl; joined = sym (append-nil before) }

  pub tables_more : (functions : List AggFn) (agg : ℕ) (first before after : List ℕ) → agg < length functions
      → ((function : AggFn) → slice_get functions agg ≡ Some function → AppendsListing function agg contributions before after)
      → AppendsTables (take agg functions) contributions first before → AppendsTables (take (agg + 1) functions) contributions first after
  tables_more [] agg first before after within more shown = absurd (omega arith)
  tables_more (f ∷ functions) agg first before after within more shown =
      let here : AggFn = get_or (f ∷ functions) agg f in
      let own = more here (slice_get-get_or (f ∷ functions) agg f within) in
      record {
        tables = shown.tables ++ listing_bytes own.entries;
        shown = shows_more (f ∷ functions) agg shown.tables (shown.tables ++ listing_bytes own.entries) within
            (λ function at. let same = more function at in
            record { entries = own.entries; listing = subst (λ g. IsListing g agg contributions own.entries) (same_Some here function (sym (slice_get-get_or (f ∷ functions) agg f within) ∙ at)) own.listing; bytes = refl })
            shown.shown;
        joined = own.bytes ∙ ap (λ l. l ++ listing_bytes own.entries) shown.joined ∙ append_assoc first shown.tables (listing_bytes own.entries);
      }

  pub tables_all : (functions : List AggFn) (agg : ℕ) (first bytes : List ℕ) → length functions ≤ agg → AppendsTables (take agg functions) contributions first bytes
      → AppendsTables functions contributions first bytes
  tables_all functions agg first bytes past shown = subst (λ fs. AppendsTables fs contributions first bytes) (take_all agg functions past) shown

  -- ---- there is an output

  tables_from : (done rest : List AggFn) (before : List ℕ) → IsOutput done [] contributions before → (bytes : List ℕ) × IsOutput (done ++ rest) [] contributions bytes
  tables_from done [] before shown = (before, subst (λ fs. IsOutput fs [] contributions before) (sym (append-nil done)) shown)
  tables_from done (f ∷ rest) before shown =
      let listing = listing_exists f (length done) contributions in
      let more : AppendsListing f (length done) contributions before (before ++ listing_bytes listing.0) = record { entries = listing.0; listing = listing.1; bytes = refl } in
      let all = tables_from (done ++ f ∷ []) rest (before ++ listing_bytes listing.0) (shows_push done f before (before ++ listing_bytes listing.0) shown more) in
      (all.0, subst (λ fs. IsOutput fs [] contributions all.0) (append_assoc done (f ∷ []) rest) all.1)

  pub output_exists : (functions : List AggFn) (texts : List (ℕ × List ℕ)) → (bytes : List ℕ) × IsOutput functions texts contributions bytes
  output_exists functions texts =
      let all = tables_from [] functions [] (shows_none contributions [] refl) in
      (flat_map (λ text. text.1) texts ++ all.0, record { listings = all.1.listings; listed = all.1.listed; joined = ap (λ tables. flat_map (λ text. text.1) texts ++ tables) all.1.joined })

  pub output_after : (functions : List AggFn) (texts : List (ℕ × List ℕ)) (bytes : List ℕ) → AppendsTables functions contributions (flat_map (λ text. text.1) texts) bytes
      → IsOutput functions texts contributions bytes
  output_after functions texts bytes after =
      record { listings = after.shown.listings; listed = after.shown.listed; joined = after.joined ∙ ap (λ tables. flat_map (λ text. text.1) texts ++ tables) after.shown.joined }
