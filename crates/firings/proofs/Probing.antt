-- Which probe each firing is of.
use Rattle.std.proofs.Common.{◌≡◌, ◌<◌, ◌∙◌, ℕ, ℤ, List, [], ◌∷◌, Some, All, length, map, option_map}
use Rattle.std.proofs.Common.{ap, get_or, refl, subst, sym}
use Rattle.std.specs.Prelude.{slice_get}
use Rattle.std.proofs.lemmas.List.{length-map}
use Rattle.std.proofs.lemmas.List.Elements.{All-head, All-tail}
use Rattle.std.proofs.lemmas.Option.{get_or_from_slice_get, slice_get-get_or, slice_get-map, slice_get_within}
use Rattle.firings.specs.declared.stored_row.Row.{Row}
use Rattle.firings.specs.declared.unit.Owner.{Owner}
use Rattle.firings.specs.declared.unit.Probe.{Probe}
use Rattle.firings.specs.Firings.{thread_of}
use Rattle.firings.specs.Probing.{probe_of}
use Rattle.firings.specs.Stored.{AreIndices, IsRowIn, firing_in, no_owner, no_probe}
use Rattle.firings.proofs.{Placed.placed, Texts.some_is}

-- there is a probe for each row
pub rows_placed : (o : List Owner) (p : List Probe) (a : List ℤ) (rs : List Row) → All (IsRowIn o p a) rs → All (λ r. r.probe < length p) rs
rows_placed o p a rs all = λ k d within. (all k d within).probe

-- and it is that of the row's firing
pub are_indices : (o : List Owner) (p : List Probe) (a : List ℤ) (rs : List Row) → All (IsRowIn o p a) rs
    → AreIndices p (map (λ r. r.probe) rs) (map probe_of (map (firing_in o p a) rs))
are_indices o p a [] all = refl
are_indices o p a (r ∷ rs) all =
    let here : slice_get p r.probe ≡ Some (probe_of (firing_in o p a r)) = slice_get-get_or p r.probe no_probe (All-head (IsRowIn o p a) r rs all).probe in
    rw (here, are_indices o p a rs (All-tail (IsRowIn o p a) r rs all)) refl

-- the threads of owners, and those of the rows' firings
pub owners_are_indices : (o : List Owner) (p : List Probe) (a : List ℤ) (rs : List Row) → All (IsRowIn o p a) rs
    → AreIndices (map (λ w. w.thread) o) (map (λ r. r.owner) rs) (map thread_of (map (firing_in o p a) rs))
owners_are_indices o p a [] all = refl
owners_are_indices o p a (r ∷ rs) all =
    let here : slice_get (map (λ (w : Owner). w.thread) o) r.owner ≡ Some (thread_of (firing_in o p a r)) =
    slice_get-map (λ (w : Owner). w.thread) o r.owner ∙ ap (option_map (λ (w : Owner). w.thread)) (slice_get-get_or o r.owner no_owner (All-head (IsRowIn o p a) r rs all).owner) in
    rw (here, owners_are_indices o p a rs (All-tail (IsRowIn o p a) r rs all)) refl

-- what a row that is there has
pub field_at : (f : Row → ℕ) (rs : List Row) (i : ℕ) (r : Row) → slice_get rs i ≡ Some r → slice_get (map f rs) i ≡ Some (f r)
field_at f rs i r is = slice_get-map f rs i ∙ ap (option_map f) is

pub row_there : (f : Row → ℕ) (rs : List Row) (fields : List ℕ) (i : ℕ) → map f rs ≡ fields → i < length fields → i < length rs
row_there f rs fields i is lt = rw (← length-map rs f, is) lt

pub field_below : (f : Row → ℕ) (rs : List Row) (n i : ℕ) (r : Row) → All (λ r. f r < n) rs → slice_get rs i ≡ Some r → f r < n
field_below f rs n i r all is = subst (λ (l : Row). f l < n) (get_or_from_slice_get rs i r r is) (all i r (slice_get_within rs i r is))

-- what is at the index of one of these
pub at_index : {X : Type 0} (all : List X) (ps : List ℕ) (xs : List X) (i p : ℕ) (x : X) → AreIndices all ps xs → i < length xs → slice_get ps i ≡ Some p → slice_get all p ≡ Some x
    → get_or xs i x ≡ x
at_index all ps xs i p x are lt at is = some_is (get_or xs i x) x (sym (placed all ps xs i x are lt) ∙ ap (slice_get all) (get_or_from_slice_get ps i p 0 at) ∙ is)
