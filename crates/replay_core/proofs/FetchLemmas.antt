-- Firings whose rows and lists of clauses are read before the first of them runs.
use Rattle.std.proofs.Common.{◌≡◌, ◌≤◌, ◌<◌, ◌-◌, ℕ, zero, suc, List, [], ◌∷◌, ◌++◌, Some, Option}
use Rattle.std.proofs.Common.{filter, length, map, option_map, slice_get, take, drop, arith, get_or}
use Rattle.std.proofs.Common.{ap, ◌∙◌, Bor}
use Rattle.std.proofs.lemmas.List.Concat.{flat_map-append}
use Rattle.std.proofs.lemmas.List.Elements.{filter-append}
use Rattle.std.proofs.lemmas.Option.{slice_get-get_or, slice_get-map}
use Rattle.replay_core.specs.Vocabulary.{Firing, row_before, with_ends}
use Rattle.replay_core.specs.declared.workers.span.Span.{Span}
use Rattle.replay_core.specs.Selecting.{lent}
use Rattle.replay_core.specs.Working.{is_in}
use Rattle.replay_core.specs.Steps.Working.{firings_at}
use Rattle.replay_core.proofs.TraceRuns.{at_row, few_kept}
use Rattle.replay_core.proofs.WorkSteps.{few_firings}

-- ---- rows

pub row_at : (trace : List Firing) (index : ℕ) (f : Firing) → row_before trace index ≡ Some f → slice_get (with_ends trace trace) index ≡ Some f
row_at trace zero f is = absurd cc
row_at trace (suc i) f is =
    let same : suc i - 1 ≡ i = omega arith in
    at_row trace (suc i) f (omega arith) (rw same is)

-- ---- lists

pub listed_at : (lists : List (Option (Bor (List ℕ)))) (selected : List (List ℕ)) (indices : List ℕ) (i : ℕ) (d : Option (Bor (List ℕ))) → i < length indices
    → map lent (take (length indices) lists) ≡ map (slice_get selected) indices → lent (get_or lists i d) ≡ slice_get selected (get_or indices i 0)
listed_at lists selected [] i d lt are = absurd (omega arith)
listed_at [] selected (p ∷ indices) i d lt are = absurd cc
listed_at (l ∷ lists) selected (p ∷ indices) zero d lt are = cc
listed_at (l ∷ lists) selected (p ∷ indices) (suc i) d lt are = listed_at lists selected indices i d (omega arith) cc

-- what is made of each index, at one of them
pub mapped_at : {A : Type 0} (f : ℕ → A) (made : List A) (indices : List ℕ) (i : ℕ) → i < length indices → made ≡ map f indices → slice_get made i ≡ Some (f (get_or indices i 0))
mapped_at f made indices i lt are = ap (λ l. slice_get l i) are ∙ slice_get-map f indices i ∙ ap (option_map f) (slice_get-get_or indices i 0 lt)

-- ---- blocks

pub few_counted : (span : Span) (fs : List Firing) (indices : List ℕ) → length (filter (is_in span) (firings_at fs indices)) ≤ length indices
few_counted span fs indices =
    let a = few_kept (is_in span) (firings_at fs indices) in
    let b = few_firings fs indices in
    omega arith

pub block_more : (span : Span) (fs : List Firing) (done block : List ℕ)
    → filter (is_in span) (firings_at fs (done ++ block)) ≡ filter (is_in span) (firings_at fs done) ++ filter (is_in span) (firings_at fs block)
block_more span fs done block =
    ap (filter (is_in span)) (flat_map-append (λ (p : ℕ). take 1 (drop p fs)) done block)
    ∙ filter-append (is_in span) (firings_at fs done) (firings_at fs block)
