-- Rows that another store takes over.
use Rattle.std.proofs.Common.{◌≡◌, ◌<◌, ◌+◌, ◌^◌, ℕ, ℤ, List, [], ◌∷◌, ◌++◌, length}
use Rattle.std.proofs.Common.{get_or, map, All, Some, refl, arith}
use Rattle.std.proofs.Common.{length-append}
use Rattle.std.specs.Prelude.{IfSome, MatchOption, None, Option}
use Rattle.std.proofs.Math.Seq.{drop-append-add}
use Rattle.std.proofs.lemmas.List.{map-append}
use Rattle.std.proofs.lemmas.List.Elements.{All-head, All-tail, All-cons, All-nil, All-append}
use Rattle.firings.specs.declared.stored_row.Row.{Row}
use Rattle.firings.specs.declared.unit.Owner.{Owner}
use Rattle.firings.specs.declared.unit.Probe.{Probe}
use Rattle.firings.specs.Stored.{AreIndices, Extends, IsRowIn, firing_in, no_owner, no_probe}
use Rattle.firing_reader.specs.Steps.Stored.{IsMovable, moved_row}
use Rattle.firings.proofs.Placed.{as_many, placed}
use Rattle.firings.proofs.Stored.{named_at, named_in, rows_more, seen_all}

pub all_movable : (q os : List Owner) (qs : List ℕ) (u ps : List Probe) (us : List ℕ) (a o : List ℤ) (rs : List Row) → AreIndices q qs os → AreIndices u us ps
    → length (a ++ o) < 2 ^ 32 → All (IsRowIn os ps o) rs → All (IsMovable qs us (length a)) rs
all_movable q os qs u ps us a o rs to tp few all = λ k d within. one (get_or rs k d) (all k d within)
  where
    one : (r : Row) → IsRowIn os ps o r → IsMovable qs us (length a) r
    one r h =
        let size = length-append a o in
        record {
          owner = rw (as_many q qs os to) h.owner;
          probe = rw (as_many u us ps tp) h.probe;
          first = omega (arith, size, few, h.inside);
        }

moved_in : (q os : List Owner) (qs : List ℕ) (u ps : List Probe) (us : List ℕ) (a o : List ℤ) (r : Row) → AreIndices q qs os → AreIndices u us ps → IsRowIn os ps o r
    → IsRowIn q u (a ++ o) (moved_row qs us (length a) r)
moved_in q os qs u ps us a o r to tp h =
    let size = length-append a o in
    record {
      owner = named_in q _ _ (placed q qs os r.owner no_owner to h.owner);
      probe = named_in u _ _ (placed u us ps r.probe no_probe tp h.probe);
      inside = omega (arith, size, h.inside);
    }

moved_same : (q os : List Owner) (qs : List ℕ) (u ps : List Probe) (us : List ℕ) (a o : List ℤ) (r : Row) → AreIndices q qs os → AreIndices u us ps → IsRowIn os ps o r
    → firing_in q u (a ++ o) (moved_row qs us (length a) r) ≡ firing_in os ps o r
moved_same q os qs u ps us a o r to tp h =
    let later : r.first + length a ≡ length a + r.first = omega arith in
    rw (
      named_at q _ _ no_owner (placed q qs os r.owner no_owner to h.owner),
      named_at u _ _ no_probe (placed u us ps r.probe no_probe tp h.probe),
      later,
      drop-append-add a o r.first,
    ) refl

all_moved_in : (q os : List Owner) (qs : List ℕ) (u ps : List Probe) (us : List ℕ) (a o : List ℤ) (rs : List Row) → AreIndices q qs os → AreIndices u us ps
    → All (IsRowIn os ps o) rs → All (IsRowIn q u (a ++ o)) (map (moved_row qs us (length a)) rs)
all_moved_in q os qs u ps us a o [] to tp all = All-nil (IsRowIn q u (a ++ o))
all_moved_in q os qs u ps us a o (r ∷ rs) to tp all =
    All-cons (IsRowIn q u (a ++ o)) _ _ (moved_in q os qs u ps us a o r to tp (All-head (IsRowIn os ps o) r rs all)) (all_moved_in q os qs u ps us a o rs to tp (All-tail (IsRowIn os ps o) r rs all))

all_moved_same : (q os : List Owner) (qs : List ℕ) (u ps : List Probe) (us : List ℕ) (a o : List ℤ) (rs : List Row) → AreIndices q qs os → AreIndices u us ps
    → All (IsRowIn os ps o) rs → map (firing_in q u (a ++ o)) (map (moved_row qs us (length a)) rs) ≡ map (firing_in os ps o) rs
all_moved_same q os qs u ps us a o [] to tp all = refl
all_moved_same q os qs u ps us a o (r ∷ rs) to tp all =
    rw (moved_same q os qs u ps us a o r to tp (All-head (IsRowIn os ps o) r rs all), all_moved_same q os qs u ps us a o rs to tp (All-tail (IsRowIn os ps o) r rs all)) refl

-- what stands after rows that were taken over
pub followed_in : (x q os : List Owner) (qs : List ℕ) (y u ps : List Probe) (us : List ℕ) (a o : List ℤ) (rs more : List Row) → Extends x q → Extends y u
    → AreIndices q qs os → AreIndices u us ps → All (IsRowIn x y a) rs → All (IsRowIn os ps o) more → All (IsRowIn q u (a ++ o)) (rs ++ map (moved_row qs us (length a)) more)
followed_in x q os qs y u ps us a o rs more ex ey to tp own others =
    All-append (IsRowIn q u (a ++ o)) rs (map (moved_row qs us (length a)) more) (rows_more x q y u a (a ++ o) rs ex ey (o, refl) own) (all_moved_in q os qs u ps us a o more to tp others)

pub followed_same : (x q os : List Owner) (qs : List ℕ) (y u ps : List Probe) (us : List ℕ) (a o : List ℤ) (rs more : List Row) → Extends x q → Extends y u
    → AreIndices q qs os → AreIndices u us ps → All (IsRowIn x y a) rs → All (IsRowIn os ps o) more
    → map (firing_in q u (a ++ o)) (rs ++ map (moved_row qs us (length a)) more) ≡ map (firing_in x y a) rs ++ map (firing_in os ps o) more
followed_same x q os qs y u ps us a o rs more ex ey to tp own others =
    rw (map-append (firing_in q u (a ++ o)) rs (map (moved_row qs us (length a)) more), seen_all x q y u a (a ++ o) rs ex ey (o, refl) own, all_moved_same q os qs u ps us a o more to tp others) refl

-- where memory was there for the rows of others, they stand after those of its own
pub appended_in : (r : Option (Unit {0})) (x q os : List Owner) (qs : List ℕ) (y u ps : List Probe) (us : List ℕ) (a o b : List ℤ) (rs more new : List Row) → Extends x q → Extends y u
    → AreIndices q qs os → AreIndices u us ps → b ≡ a ++ o → All (IsRowIn x y a) rs → All (IsRowIn os ps o) more
    → MatchOption r (new ≡ rs) (λ _. new ≡ rs ++ map (moved_row qs us (length a)) more) → All (IsRowIn q u b) new
appended_in None x q os qs y u ps us a o b rs more new ex ey to tp all own others is =
    rw (is, all) (rows_more x q y u a (a ++ o) rs ex ey (o, refl) own)
appended_in (Some t) x q os qs y u ps us a o b rs more new ex ey to tp all own others is =
    rw (is, all) (followed_in x q os qs y u ps us a o rs more ex ey to tp own others)

pub appended_same : (r : Option (Unit {0})) (x q os : List Owner) (qs : List ℕ) (y u ps : List Probe) (us : List ℕ) (a o b : List ℤ) (rs more new : List Row) → Extends x q → Extends y u
    → AreIndices q qs os → AreIndices u us ps → b ≡ a ++ o → All (IsRowIn x y a) rs → All (IsRowIn os ps o) more
    → MatchOption r (new ≡ rs) (λ _. new ≡ rs ++ map (moved_row qs us (length a)) more)
    → IfSome r (λ _. map (firing_in q u b) new ≡ map (firing_in x y a) rs ++ map (firing_in os ps o) more)
appended_same None x q os qs y u ps us a o b rs more new ex ey to tp all own others is = tt
appended_same (Some t) x q os qs y u ps us a o b rs more new ex ey to tp all own others is =
    rw (is, all) (followed_same x q os qs y u ps us a o rs more ex ey to tp own others)
