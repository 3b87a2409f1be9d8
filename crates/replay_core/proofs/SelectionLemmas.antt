-- Clauses that are selected, by their indices.
use Rattle.std.proofs.Common.{◌≡◌, ℕ, zero, suc, ◌+◌, ◌<◌, ◌≤◌, List, [], ◌∷◌, ◌++◌, All, map}
use Rattle.std.proofs.Common.{length, slice_get, Bor, IfSome, None, Option, Some, refl, ap, ◌∙◌}
use Rattle.std.proofs.Common.{subst, sym, get_or, ⊎_elim, take}
use Rattle.std.proofs.lemmas.List.{get_or-map, length-map, map-append, take_more}
use Rattle.std.proofs.lemmas.Option.{get_or_from_slice_get, slice_get-map, slice_get_within}
use Rattle.firings.specs.declared.unit.Probe.{Probe}
use Rattle.firings.proofs.Placed.{index_more, placed}
use Rattle.firings.proofs.Stored.{named_at, named_in}
use Rattle.replay_core.specs.Vocabulary.{begin_of, end_of, with_ends, AreIndices, Extends, Firing}
use Rattle.replay_core.specs.Vocabulary.{ScriptMeant}
use Rattle.replay_core.specs.Patterns.{probe_of}
use Rattle.replay_core.specs.Selecting.{AreFor, lent, list_at, selected_for, selected_in}

-- ---- lists by index

-- an element of the first of two lists
pub slice_get_left : {A : Type 0} (xs ys : List A) (i : ℕ) (x : A) → slice_get xs i ≡ Some x → slice_get (xs ++ ys) i ≡ Some x
slice_get_left [] ys i x there = absurd cc
slice_get_left (y ∷ xs) ys zero x there = there
slice_get_left (y ∷ xs) ys (suc i) x there = slice_get_left xs ys i x there

pub at_listed : (lists : List (List ℕ)) (by_probe : List ℕ) (wanted : List (List ℕ)) (i : ℕ) (d : List ℕ) → AreIndices lists by_probe wanted → i < length wanted
    → list_at lists (get_or by_probe i 0) ≡ get_or wanted i d
at_listed lists by_probe wanted i d are lt = named_at lists (get_or by_probe i 0) (get_or wanted i d) [] (placed lists by_probe wanted i d are lt)

module _ (lists : List (List ℕ)) (by_probe : List ℕ) (probes : List Probe) (h : Probe → List ℕ) where
  -- the list of each firing's probe
  pub rows_listed : (indices : List ℕ) (fs : List Firing) → AreIndices lists by_probe (map h probes) → AreIndices probes indices (map probe_of fs)
      → map (list_at lists) (map (λ p. get_or by_probe p 0) indices) ≡ map (λ f. h (probe_of f)) fs
  rows_listed [] [] are of = refl
  rows_listed [] (f ∷ fs) are of = absurd cc
  rows_listed (p ∷ indices) [] are of = absurd cc
  rows_listed (p ∷ indices) (f ∷ fs) are of =
      let there : slice_get probes p ≡ Some (probe_of f) = cc in
      let rest : AreIndices probes indices (map probe_of fs) = cc in
      let within : p < length probes = named_in probes p (probe_of f) there in
      let inside : p < length (map h probes) = rw length-map within in
      let is : get_or (map h probes) p (h (probe_of f)) ≡ h (probe_of f) = get_or-map h probes p (probe_of f) (h (probe_of f)) within ∙ ap h (named_at probes p (probe_of f) (probe_of f) there) in
      let here : list_at lists (get_or by_probe p 0) ≡ h (probe_of f) = at_listed lists by_probe (map h probes) p (h (probe_of f)) are inside ∙ is in
      rw (here, rows_listed indices fs are rest) refl

  -- those of all firings of a run
  pub run_listed : (begin end : ℕ) (indices : List ℕ) (trace : List Firing) → AreIndices lists by_probe (map h probes) → AreIndices probes indices (map probe_of trace)
      → slice_get lists begin ≡ Some (h (probe_of (begin_of trace))) → slice_get lists end ≡ Some (h (probe_of (end_of trace)))
      → selected_in lists begin (map (λ p. get_or by_probe p 0) indices) end ≡ map (λ f. h (probe_of f)) (with_ends trace trace)
  run_listed begin end indices trace are of first last =
      let own : (f : Firing) → List ℕ = λ f. h (probe_of f) in
      rw (
        named_at lists begin (h (probe_of (begin_of trace))) [] first,
        named_at lists end (h (probe_of (end_of trace))) [] last,
        rows_listed indices trace are of,
        map-append own trace (end_of trace ∷ []),
      ) refl

-- the list of a row's probe
pub row_selected : (lists : List (List ℕ)) (begin end : ℕ) (f : ℕ → ℕ) (indices : List ℕ) (i p : ℕ) → slice_get indices i ≡ Some p
    → slice_get (selected_in lists begin (map f indices) end) (suc i) ≡ Some (list_at lists (f p))
row_selected lists begin end f indices i p there =
    let rows = map (list_at lists) (map f indices) in
    let tail = list_at lists end ∷ [] in
    let same : slice_get rows i ≡ Some (list_at lists (f p)) = slice_get-map (list_at lists) (map f indices) i ∙ rw (slice_get-map f indices i, there) refl in
    slice_get_left rows tail i (list_at lists (f p)) same

-- the list of one more probe
pub lists_more : (h : Probe → List ℕ) (t u : List (List ℕ)) (indices : List ℕ) (probes : List Probe) (i index : ℕ) (p : Probe) → Extends t u → AreIndices t indices (take i (map h probes))
    → slice_get probes i ≡ Some p → slice_get u index ≡ Some (h p) → AreIndices u (indices ++ index ∷ []) (take (i + 1) (map h probes))
lists_more h t u indices probes i index p grows are there kept =
    let others = map h probes in
    let same : slice_get others i ≡ Some (h p) = slice_get-map h probes i ∙ rw there refl in
    rw (take_more others i (h p) (slice_get_within others i (h p) same), get_or_from_slice_get others i (h p) (h p) same) (index_more t u indices (take i others) index (h p) grows are kept)

-- ---- what a lane is given

module _ (m : ScriptMeant) (trace : List Firing) (selected : List (List ℕ)) (are : AreFor trace selected m) where
  -- the indices that are lent for a firing are those of its clauses
  pub selected_is : (i : ℕ) (f : Firing) (indices : Option (Bor (List ℕ))) → slice_get (with_ends trace trace) i ≡ Some f → lent indices ≡ slice_get selected i
      → IfSome indices (λ l. l.now ≡ selected_for m f)
  selected_is i f None firing list = tt
  selected_is i f (Some l) firing list = ⊎_elim
      (λ none. let nothing : Some l.now ≡ slice_get [] i = list ∙ ap (λ (s : List (List ℕ)). slice_get s i) none in absurd cc)
      (λ all.
      let same : slice_get selected i ≡ Some (selected_for m f) = rw all (slice_get-map (selected_for m) (with_ends trace trace) i ∙ rw firing refl) in
      let is : l.now ≡ selected_for m f = cc in
      is) are

pub selected_short : (selected : List (List ℕ)) → All (λ indices. length indices ≤ 65536) selected → (i : ℕ) (indices : Option (Bor (List ℕ))) → lent indices ≡ slice_get selected i
    → IfSome indices (λ l. length l.now ≤ 65536)
selected_short selected few i None list = tt
selected_short selected few i (Some l) list =
    let there : slice_get selected i ≡ Some l.now = sym list in
    subst (λ (l : List ℕ). length l ≤ 65536) (get_or_from_slice_get selected i l.now l.now there) (few i l.now (slice_get_within selected i l.now there))
