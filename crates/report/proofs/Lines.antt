-- How the entries of a listing ascend, and how long their lines are.
use Rattle.std.proofs.Common.{◌≡◌, inl, inr, ℕ, ◌+◌, ◌-◌, ◌<◌, ◌≤◌, List, [], ◌∷◌, ◌++◌, length}
use Rattle.std.proofs.Common.{get_or, replicate, Some, refl, sym, ap, ◌∙◌, arith, length-append, suc}
use Rattle.std.proofs.lemmas.List.{length-replicate}
use Rattle.std.specs.Prelude.{All, ℤ, sum_by, ◌<ℤ◌}
use Rattle.std.specs.Cmp.{int_ranks}
use Rattle.std.specs.Fmt.{signed_decimal}
use Rattle.std.specs.List.{flat_map, slice_get}
use Rattle.std.specs.Ordering.{int_cmp, ordering_then, MatchOrdering}
use Rattle.std.specs.declared.cmp.Ordering.{Ordering}
use Rattle.std.specs.declared.cmp.Ordering.TheVariants.{Less, Equal, Greater}
use Rattle.std.proofs.lemmas.List.Elements.{All-head, All-tail}
use Rattle.std.proofs.lemmas.List.Sums.{sum_by-cons}
use Rattle.std.proofs.lemmas.Map.Keys.{Less-from_sorted}
use Rattle.std.proofs.lemmas.Option.{get_or_from_slice_get, slice_get_within}
use Rattle.d_values.specs.declared.key.KeyPart.{KeyPart}
use Rattle.d_values.specs.declared.key.KeyPart.TheVariants.{Number, Name}
use Rattle.d_values.specs.Keys.{key_cmp}
use Rattle.aggregations.specs.Table.{Contribution}
use Rattle.aggregations.specs.declared.function.AggFn.{AggFn}
use Rattle.aggregations.specs.declared.held.Held.{Held}
use Rattle.aggregations.specs.Figures.{figure_of}
use Rattle.aggregations.specs.Figures.Figure.{Single}
use Rattle.report.specs.Columns.{FitsColumn, column_width}
use Rattle.report.specs.Entry.{Entry, number_bytes, part_bytes, value_bytes, entry_bytes}
use Rattle.report.specs.Listing.{ComesBefore, entry_cmp, IsListing, entry_rank}

in_words : (x y : Entry) → entry_cmp x y ≡ Less → ComesBefore x y
in_words x y less = by (int_cmp (entry_rank x) (entry_rank y)) (int_ranks (entry_rank x) (entry_rank y)) less
  where
    by : (r : Ordering) → MatchOrdering r (entry_rank x <ℤ entry_rank y) (entry_rank x ≡ entry_rank y) (entry_rank y <ℤ entry_rank x)
        → ordering_then r (key_cmp x.0 y.0) ≡ Less → ComesBefore x y
    by Less below e = inl below
    by Equal same e = inr (same, e)
    by Greater above e = cc

pub ascend : (function : AggFn) (agg : ℕ) (contributions : List Contribution) (entries : List Entry)
    → IsListing function agg contributions entries → (i j : ℕ) (x y : Entry) → i < j → slice_get entries i ≡ Some x → slice_get entries j ≡ Some y → ComesBefore x y
ascend function agg contributions entries listing i j x y below at there =
    let first = get_or_from_slice_get entries i x x at in
    let second = get_or_from_slice_get entries j y x there in
    in_words x y (ap (λ e. entry_cmp e y) (sym first) ∙ ap (entry_cmp (get_or entries i x)) (sym second)
    ∙ Less-from_sorted entry_cmp entries i j x listing.rises below (slice_get_within entries j y there))

blanks : (count : ℕ) → length (replicate {A = ℕ} count 32) ≡ count
blanks count = length-replicate {A = ℕ} count 32

number_width : (number : ℤ) → length (signed_decimal number) ≤ 16 → length (number_bytes number) ≡ 17
number_width number fits =
    let blank = blanks (16 - length (signed_decimal number)) in
    ap suc (length-append (replicate {A = ℕ} (16 - length (signed_decimal number)) 32) (signed_decimal number) ∙ omega arith)

part_width : (part : KeyPart) → FitsColumn part → length (part_bytes part) ≡ column_width part
part_width (Number number) fits = number_width number fits
part_width (Name text) fits =
    let blank = blanks (50 - length text) in
    ap (λ n. suc (suc n)) (length-append text (replicate {A = ℕ} (50 - length text) 32) ∙ omega arith)

key_width : (key : List KeyPart) → All FitsColumn key → length (flat_map part_bytes key) ≡ sum_by column_width key
key_width [] fit = refl
key_width (part ∷ key) fit =
    length-append (part_bytes part) (flat_map part_bytes key)
    ∙ ap (λ n. n + length (flat_map part_bytes key)) (part_width part (All-head FitsColumn part key fit))
    ∙ ap (λ n. column_width part + n) (key_width key (All-tail FitsColumn part key fit))
    ∙ sym (sum_by-cons column_width part key)

pub line_width : (key : List KeyPart) (held : Held) (number : ℤ) → All FitsColumn key → figure_of held ≡ Single number → length (signed_decimal number) ≤ 16
    → length (entry_bytes (key, held)) ≡ sum_by column_width key + 18
line_width key held number fit is fits =
    let parts = key_width key fit in
    let shown = number_width number fits in
    let value = length-append (number_bytes number) (10 ∷ []) in
    let whole = length-append (flat_map part_bytes key) (number_bytes number ++ 10 ∷ []) in
    ap (λ figure. length (flat_map part_bytes key ++ value_bytes figure)) is ∙ omega arith

pub number_whole : (number : ℤ) → (blank : ℕ) × (0 < blank) × (number_bytes number ≡ replicate {A = ℕ} blank 32 ++ signed_decimal number)
number_whole number = (suc (16 - length (signed_decimal number)), omega arith, refl)

pub name_whole : (text : List ℕ) → (blank : ℕ) × (part_bytes (Name text) ≡ (32 ∷ 32 ∷ []) ++ text ++ replicate {A = ℕ} blank 32)
name_whole text = (50 - length text, refl)
