-- Firings as a trace stores them.
use Rattle.std.proofs.Common.{◌≡◌, ◌<◌, ◌≤◌, ◌+◌, ℕ, ℤ, pos, zero, suc, List, [], ◌∷◌, ◌++◌, length}
use Rattle.std.proofs.Common.{get_or, take, drop, map, All, Some, refl, sym, ap, ◌∙◌, arith}
use Rattle.std.proofs.Common.{length-append, length-drop, append_assoc}
use Rattle.std.specs.Prelude.{slice_get}
use Rattle.std.proofs.Math.ListN.{get_or-append}
use Rattle.std.proofs.Math.Seq.{drop-append_seam, take-length}
use Rattle.std.proofs.lemmas.List.{map-append, drop-append-le, take-append-le, append-nil}
use Rattle.std.proofs.lemmas.List.Elements.{All-head, All-tail}
use Rattle.std.proofs.lemmas.Option.{slice_get-map, slice_get_within, get_or_from_slice_get}
use Rattle.firings.specs.declared.firing.Firing.{Firing}
use Rattle.firings.specs.declared.stored_row.Row.{Row}
use Rattle.firings.specs.declared.unit.Owner.{Owner}
use Rattle.firings.specs.declared.unit.Probe.{Probe}
use Rattle.firings.specs.Stored.{Extends, IsRowIn, firing_in, no_owner, no_probe}
use Rattle.firings.specs.Arguments.{ten}

pub extends_same : {X : Type 0} (xs : List X) → Extends xs xs
extends_same xs = ([], sym (append-nil xs))

pub extends_more : {X : Type 0} (xs ys zs : List X) → Extends xs ys → Extends ys zs → Extends xs zs
extends_more xs ys zs (a, e) (b, f) = (a ++ b, f ∙ ap (λ (l : List _). l ++ b) e ∙ append_assoc xs a b)

pub within_more : {X : Type 0} (xs ys : List X) (i : ℕ) → Extends xs ys → i ≤ length xs → i ≤ length ys
within_more xs ys i (a, e) le =
    let size = length-append xs a in
    rw e (omega (arith, size))

pub found_more : {X : Type 0} (xs ys : List X) (i : ℕ) (d : X) → Extends xs ys → i < length xs → get_or ys i d ≡ get_or xs i d
found_more xs ys i d (a, e) lt = rw e (get_or-append xs a d i lt)

pub part_more : {X : Type 0} (xs ys : List X) (n m : ℕ) → Extends xs ys → n + m ≤ length xs → take m (drop n ys) ≡ take m (drop n xs)
part_more xs ys n m (a, e) le = rw (e, drop-append-le n xs a (omega arith)) (take-append-le m (drop n xs) a (omega (arith, length-drop n xs, le)))

-- what is kept after them changes no row
pub row_more : (o q : List Owner) (p u : List Probe) (a b : List ℤ) (r : Row) → Extends o q → Extends p u → Extends a b → IsRowIn o p a r → IsRowIn q u b r
row_more o q p u a b r eo ep ea h = record {
  owner = within_more o q (suc r.owner) eo h.owner;
  probe = within_more p u (suc r.probe) ep h.probe;
  inside = within_more a b (r.first + r.count) ea h.inside;
}

pub seen_same : (o q : List Owner) (p u : List Probe) (a b : List ℤ) (r : Row) → Extends o q → Extends p u → Extends a b → IsRowIn o p a r → firing_in q u b r ≡ firing_in o p a r
seen_same o q p u a b r eo ep ea h = rw (found_more o q r.owner no_owner eo h.owner, found_more p u r.probe no_probe ep h.probe, part_more a b r.first r.count ea h.inside) refl

pub rows_more : (o q : List Owner) (p u : List Probe) (a b : List ℤ) (rs : List Row) → Extends o q → Extends p u → Extends a b → All (IsRowIn o p a) rs → All (IsRowIn q u b) rs
rows_more o q p u a b rs eo ep ea all = λ k d within. row_more o q p u a b (get_or rs k d) eo ep ea (all k d within)

pub seen_all : (o q : List Owner) (p u : List Probe) (a b : List ℤ) (rs : List Row) → Extends o q → Extends p u → Extends a b → All (IsRowIn o p a) rs → map (firing_in q u b) rs ≡ map (firing_in o p a) rs
seen_all o q p u a b [] eo ep ea all = refl
seen_all o q p u a b (r ∷ rs) eo ep ea all = rw (seen_same o q p u a b r eo ep ea (All-head (IsRowIn o p a) r rs all), seen_all o q p u a b rs eo ep ea (All-tail (IsRowIn o p a) r rs all)) refl

-- what is at its index
pub named_at : {X : Type 0} (xs : List X) (p : ℕ) (x d : X) → slice_get xs p ≡ Some x → get_or xs p d ≡ x
named_at xs p x d is = get_or_from_slice_get xs p x d is

pub named_in : {X : Type 0} (xs : List X) (p : ℕ) (x : X) → slice_get xs p ≡ Some x → p < length xs
named_in xs p x is = slice_get_within xs p x is

pub named_more : {X : Type 0} (xs ys : List X) (p : ℕ) (x : X) → Extends xs ys → slice_get xs p ≡ Some x → slice_get ys p ≡ Some x
named_more [] ys p y e is = absurd cc
named_more (x ∷ xs) ys zero y (a, e) is = rw e is
named_more (x ∷ xs) ys (suc p) y (a, e) is = rw e (named_more xs (xs ++ a) p y (a, refl) is)

-- one firing more
pub stored : (o : List Owner) (p : List Probe) (a : List ℤ) (rs : List Row) (r : Row) (f : Firing) (old : List Firing) → map (firing_in o p a) rs ≡ old → firing_in o p a r ≡ f → map (firing_in o p a) (rs ++ r ∷ []) ≡ old ++ f ∷ []
stored o p a rs r f old is one = map-append (firing_in o p a) rs (r ∷ []) ∙ rw (is, one) refl

-- the arguments of one firing, after those of the others
pub part_kept : (a b xs : List ℤ) → b ≡ a ++ xs → take (length xs) (drop (length a) b) ≡ xs
part_kept a b xs is = rw (is, drop-append_seam a xs) (take-length xs)

-- lists of ten with the same elements
pub ten_same : (xs ys : List ℤ) → length ys ≡ 10 → ((i : ℕ) → get_or xs i (pos 0) ≡ get_or ys i (pos 0)) → ten xs ≡ ys
ten_same xs (a0 ∷ a1 ∷ a2 ∷ a3 ∷ a4 ∷ a5 ∷ a6 ∷ a7 ∷ a8 ∷ a9 ∷ []) is same = rw (same 0, same 1, same 2, same 3, same 4, same 5, same 6, same 7, same 8, same 9) refl
ten_same xs _ is same = absurd (omega arith)

-- what is seen of what is at an index
pub seen_at : {X Y : Type 0} (f : X → Y) (xs : List X) (i : ℕ) (x : X) → slice_get xs i ≡ Some x → slice_get (map f xs) i ≡ Some (f x)
seen_at f xs i x there = slice_get-map f xs i ∙ rw there refl
