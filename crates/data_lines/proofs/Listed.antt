-- The entries of aggregations, one aggregation after the other.
use Rattle.std.proofs.Common.{◌≡◌, ℕ, zero, suc, ◌+◌, ◌<◌, List, [], ◌∷◌, ◌++◌, length, get_or, take}
use Rattle.std.proofs.Common.{map, Some, refl, sym, ap, ◌∙◌, arith, append-nil, append_assoc}
use Rattle.std.specs.List.{enumerate_from, flat_map, slice_get}
use Rattle.std.proofs.lemmas.List.{get_or-map, length-map, map-append, take_more}
use Rattle.std.proofs.lemmas.List.Concat.{flat_map-append}
use Rattle.std.proofs.lemmas.List.Elements.{All-nil, All-append}
use Rattle.std.proofs.lemmas.List.FromFn.{length-enumerate_from, get_or-enumerate_from}
use Rattle.aggregations.specs.Table.{Contribution}
use Rattle.d_types.specs.declared.typed.TypedAggregation.{TypedAggregation}
use Rattle.d_types.specs.Typed.{Agg, Aggs, agg_of, aggs_of}
use Rattle.data_lines.specs.Lines.{first_line, last_line, text_line}
use Rattle.data_lines.specs.Runs.{IsData, HasItsEntries, WholeRun, listed_lines}
use Rattle.data_lines.specs.Runs.{index_and_aggregation}
use Rattle.data_lines.specs.Steps.Runs.{AppendsListed}

module _ (contributions : List Contribution) where
  pub listed_none : (before : List ℕ) → AppendsListed [] contributions before before
  listed_none before = record {
    listed = [];
    are = record { each = refl; entries = All-nil (HasItsEntries contributions) };
    joined = sym (append-nil before);
  }

  -- some, and then some more
  pub listed_more : (xs ys : List (ℕ × Agg)) (before between after : List ℕ) → AppendsListed xs contributions before between
      → AppendsListed ys contributions between after → AppendsListed (xs ++ ys) contributions before after
  listed_more xs ys before between after first second = record {
    listed = first.listed ++ second.listed;
    are = record {
      each = map-append index_and_aggregation first.listed second.listed
          ∙ ap (λ l. l ++ map index_and_aggregation second.listed) first.are.each ∙ ap (λ l. xs ++ l) second.are.each;
      entries = All-append (HasItsEntries contributions) first.listed second.listed first.are.entries second.are.entries;
    };
    joined = second.joined ∙ ap (λ l. l ++ flat_map listed_lines second.listed) first.joined
        ∙ append_assoc before (flat_map listed_lines first.listed) (flat_map listed_lines second.listed)
        ∙ ap (λ l. before ++ l) (sym (flat_map-append listed_lines first.listed second.listed));
  }

-- ---- an aggregation of the script

-- its function is that of the table's at its index
pub function_at : (all : List TypedAggregation) (index : ℕ) (a : TypedAggregation) → index < length all → a ≡ get_or all index a
    → slice_get (map (λ a. a.function) (aggs_of all)) index ≡ Some a.function
function_at [] index a within is = absurd (omega arith)
function_at (x ∷ all) zero a within is = ap (λ a. Some a.function) (sym is)
function_at (x ∷ all) (suc index) a within is = function_at all index a (omega arith) is

-- one more, with its index
pub take_numbered : (all : List TypedAggregation) (index : ℕ) (a : TypedAggregation) → index < length all → a ≡ get_or all index a
    → take (index + 1) (enumerate_from 0 (aggs_of all)) ≡ take index (enumerate_from 0 (aggs_of all)) ++ (index, agg_of a) ∷ []
take_numbered all index a within is =
    let long = length-map all agg_of in
    let numbers = length-enumerate_from 0 (aggs_of all) in
    take_more (enumerate_from 0 (aggs_of all)) index (index, agg_of a) (omega arith)
    ∙ ap (λ p. take index (enumerate_from 0 (aggs_of all)) ++ p ∷ []) (get_or-enumerate_from 0 (aggs_of all) index (index, agg_of a) (omega arith)
    ∙ ap (λ n. (n, get_or (aggs_of all) index (agg_of a))) (let e : 0 + index ≡ index = omega arith in e)
    ∙ ap (λ b. (index, b)) (get_or-map agg_of all index a (agg_of a) within ∙ ap agg_of (sym is)))

-- ---- all lines

pub data_of : (aggregations : Aggs) (run : WholeRun) (before between after : List ℕ) → before ≡ first_line ++ flat_map text_line run.texts
    → AppendsListed (enumerate_from 0 aggregations) run.contributions before between → after ≡ between ++ last_line run.exit run.firings
    → IsData aggregations run after
data_of aggregations run before between after front middle end = record {
  listed = middle.listed;
  are = middle.are;
  joined = end ∙ ap (λ l. l ++ last_line run.exit run.firings) (middle.joined ∙ ap (λ l. l ++ flat_map listed_lines middle.listed) front);
}
