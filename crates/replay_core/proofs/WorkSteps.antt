-- Steps of a worker.
use Rattle.std.proofs.Common.{◌≡◌, ℕ, ◌+◌, ◌<◌, ◌≤◌, true, false, cond, List, [], ◌∷◌, ◌++◌, Some}
use Rattle.std.proofs.Common.{map, filter, length, take, drop, get_or, slice_get, sym, ap, ◌∙◌}
use Rattle.std.proofs.Common.{subst, arith, append-nil, length-take}
use Rattle.std.proofs.lemmas.List.{map-append}
use Rattle.std.proofs.lemmas.List.Concat.{flat_map-append, length-flat_map}
use Rattle.std.proofs.lemmas.List.Sums.{sum_by-le}
use Rattle.std.proofs.lemmas.Option.{get_or_from_slice_get, slice_get_within}
use Rattle.std.proofs.lemmas.List.Elements.{filter-append}
use Rattle.shard_queue.proofs.Lists.{drop_next, take_next}
use Rattle.replay_core.specs.Vocabulary.{ScriptMeant, Firing}
use Rattle.replay_core.specs.declared.lanes.piece.Piece.{Piece}
use Rattle.replay_core.specs.declared.workers.span.Span.{Span}
use Rattle.replay_core.specs.Lanes.{LaneSeen}
use Rattle.replay_core.specs.Running.{IsLaneOf}
use Rattle.replay_core.specs.Working.{is_in}
use Rattle.replay_core.specs.Steps.Working.{firings_at}

-- ---- indices

pub one_at : (fs : List Firing) (index : ℕ) (f : Firing) → slice_get fs index ≡ Some f → take 1 (drop index fs) ≡ f ∷ []
one_at fs index f is = ap (take 1) (drop_next fs index f (slice_get_within fs index f is) (get_or_from_slice_get fs index f f is))

-- one index more
pub at_more : (fs : List Firing) (indices : List ℕ) (i index : ℕ) (f : Firing) → i < length indices → get_or indices i index ≡ index → slice_get fs index ≡ Some f
    → firings_at fs (take (i + 1) indices) ≡ firings_at fs (take i indices) ++ f ∷ []
at_more fs indices i index f lt item is =
    ap (firings_at fs) (take_next indices i index lt item)
    ∙ flat_map-append (λ p. take 1 (drop p fs)) (take i indices) (index ∷ [])
    ∙ ap (λ l. firings_at fs (take i indices) ++ (l ++ [])) (one_at fs index f is)

pub kept_more : (span : Span) (fs : List Firing) (indices : List ℕ) (i index : ℕ) (f : Firing) → i < length indices → get_or indices i index ≡ index → slice_get fs index ≡ Some f
    → filter (is_in span) (firings_at fs (take (i + 1) indices)) ≡ filter (is_in span) (firings_at fs (take i indices)) ++ filter (is_in span) (f ∷ [])
kept_more span fs indices i index f lt item is =
    ap (filter (is_in span)) (at_more fs indices i index f lt item is)
    ∙ filter-append (is_in span) (firings_at fs (take i indices)) (f ∷ [])

pub few_firings : (fs : List Firing) (indices : List ℕ) → length (firings_at fs indices) ≤ length indices
few_firings fs indices =
    let most = sum_by-le (λ p. length (take 1 (drop p fs))) 1 indices (λ k d lt. let one = length-take 1 (drop (get_or indices k d) fs) in omega arith) in
    let size = length-flat_map (λ p. take 1 (drop p fs)) indices in
    omega arith

pub few_at : (fs : List Firing) (i : ℕ) (indices : List ℕ) → length (firings_at fs (take i indices)) ≤ i
few_at fs i indices = let few = few_firings fs (take i indices) in let most = length-take i indices in omega arith

-- ---- a firing that counts, and one that doesn't

pub counts : (m : ScriptMeant) (span : Span) (before : List Firing) (f : Firing) (lane : LaneSeen) → is_in span f ≡ true → IsLaneOf m (before ++ f ∷ []) lane
    → IsLaneOf m (before ++ filter (is_in span) (f ∷ [])) lane
counts m span before f lane e is = subst (λ l. IsLaneOf m (before ++ l) lane) (sym (ap (λ b. cond b (f ∷ []) []) e)) is

pub passes : (m : ScriptMeant) (span : Span) (before : List Firing) (f : Firing) (lane : LaneSeen) → is_in span f ≡ false → IsLaneOf m before lane
    → IsLaneOf m (before ++ filter (is_in span) (f ∷ [])) lane
passes m span before f lane e is = subst (λ l. IsLaneOf m l lane) (sym (append-nil before) ∙ ap (λ l. before ++ l) (sym (ap (λ b. cond b (f ∷ []) []) e))) is

-- ---- pieces

pub groups_more : (ps new : List (ℕ × Piece)) (p : ℕ × Piece) (list longer : List ℕ) → new ≡ ps ++ p ∷ [] → map (λ q. q.0) ps ≡ list → longer ≡ list ++ p.0 ∷ [] → map (λ q. q.0) new ≡ longer
groups_more ps new p list longer pushed are more = ap (map (λ q. q.0)) pushed ∙ map-append (λ q. q.0) ps (p ∷ []) ∙ ap (λ gs. gs ++ p.0 ∷ []) are ∙ sym more
