-- A run has one data, and has it.
use Rattle.std.proofs.Common.{◌≡◌, ℕ, List, [], ◌∷◌, ◌++◌, map, All, refl, sym, ap, ◌∙◌, subst}
use Rattle.std.specs.List.{enumerate_from, flat_map}
use Rattle.std.proofs.lemmas.List.Elements.{All-head, All-tail, All-nil, All-cons}
use Rattle.aggregations.specs.Table.{Contribution}
use Rattle.d_types.specs.Typed.{Agg, Aggs}
use Rattle.report.specs.Listing.{IsListing}
use Rattle.report.proofs.Listings.{listing_exists}
use Rattle.report.proofs.Unique.{one_listing}
use Rattle.data_lines.specs.Lines.{first_line, last_line, text_line}
use Rattle.data_lines.specs.Runs.{AreListed, IsData, HasItsEntries, Listed, WholeRun, listed_lines, index_and_aggregation}

-- the same aggregation at the same index has the same entries
same_one : (contributions : List Contribution) (x y : Listed) → index_and_aggregation x ≡ index_and_aggregation y → HasItsEntries contributions x → HasItsEntries contributions y → x ≡ y
same_one contributions x y same x_is y_is =
    let index : x.index ≡ y.index = ap (λ p. p.0) same in
    let aggregation : x.aggregation ≡ y.aggregation = ap (λ p. p.1) same in
    let x_there : IsListing y.aggregation.function y.index contributions x.entries =
    subst (λ p. IsListing p.1.function p.0 contributions x.entries) same x_is in
    let entries : x.entries ≡ y.entries = one_listing y.aggregation.function y.index contributions x.entries y.entries x_there y_is in
    ap (λ n. record { index = n; aggregation = x.aggregation; entries = x.entries }) index
    ∙ ap (λ a. record { index = y.index; aggregation = a; entries = x.entries }) aggregation
    ∙ ap (λ es. record { index = y.index; aggregation = y.aggregation; entries = es }) entries

same_all : (contributions : List Contribution) (xs ys : List Listed) → map index_and_aggregation xs ≡ map index_and_aggregation ys → All (HasItsEntries contributions) xs → All (HasItsEntries contributions) ys → xs ≡ ys
same_all contributions [] [] same x_are y_are = refl
same_all contributions [] (y ∷ ys) same x_are y_are = absurd cc
same_all contributions (x ∷ xs) [] same x_are y_are = absurd cc
same_all contributions (x ∷ xs) (y ∷ ys) same x_are y_are =
    let P = HasItsEntries contributions in
    let first : index_and_aggregation x ≡ index_and_aggregation y = cc in
    let rest : map index_and_aggregation xs ≡ map index_and_aggregation ys = cc in
    ap (λ l. l ∷ xs) (same_one contributions x y first (All-head P x xs x_are) (All-head P y ys y_are))
    ∙ ap (λ l. y ∷ l) (same_all contributions xs ys rest (All-tail P x xs x_are) (All-tail P y ys y_are))

pub one_data : (aggregations : Aggs) (run : WholeRun) (xs ys : List ℕ) → IsData aggregations run xs → IsData aggregations run ys → xs ≡ ys
one_data aggregations run xs ys x_is y_is =
    let same = same_all run.contributions x_is.listed y_is.listed (x_is.are.each ∙ sym y_is.are.each) x_is.are.entries y_is.are.entries in
    x_is.joined
    ∙ ap (λ l. first_line ++ flat_map text_line run.texts ++ flat_map listed_lines l ++ last_line run.exit run.firings) same
    ∙ sym y_is.joined

listed_exists : (contributions : List Contribution) (aggregations : List (ℕ × Agg)) → (listed : List Listed) × AreListed aggregations contributions listed
listed_exists contributions [] = ([], record { each = refl; entries = All-nil (HasItsEntries contributions) })
listed_exists contributions (a ∷ aggregations) =
    let here = listing_exists a.1.function a.0 contributions in
    let one : Listed = record { index = a.0; aggregation = a.1; entries = here.0 } in
    let rest = listed_exists contributions aggregations in (
      one ∷ rest.0,
      record {
        each = ap (λ l. a ∷ l) rest.1.each;
        entries = All-cons (HasItsEntries contributions) one rest.0 here.1 rest.1.entries;
      },
    )

pub data_exists : (aggregations : Aggs) (run : WholeRun) → (bytes : List ℕ) × IsData aggregations run bytes
data_exists aggregations run =
    let all = listed_exists run.contributions (enumerate_from 0 aggregations) in
    (_, record { listed = all.0; are = all.1; joined = refl })
