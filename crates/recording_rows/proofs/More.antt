-- One more row.
use Rattle.std.proofs.Common.{◌≡◌, ◌<◌, ◌≤◌, ◌+◌, ℕ, zero, suc, List, [], ◌∷◌, ◌++◌, sym, ap, ◌∙◌, arith, add-one, append_assoc, length-append, map, All}
use Rattle.std.specs.List.{AllZip}
use Rattle.std.specs.List.Sorted.{IsStrictlyIncreasing}
use Rattle.std.proofs.lemmas.List.{append-nil, map-append}
use Rattle.std.proofs.lemmas.List.Elements.{All-head, All-nil, All-push, All-tail}
use Rattle.csv.specs.Writing.{default_writer, row_text}
use Rattle.firings.specs.Firings.{IsFiring, number_of}
use Rattle.firings.specs.declared.firing.Firing.{Firing}
use Rattle.firing_reader.specs.Written.{WritesFiring}
use Rattle.recording_rows.specs.Steps.Blocks.{IsHeading, IsWritten, rows_text}

text_push : (rows : List (List (List ℕ))) (row : List (List ℕ)) → rows_text (rows ++ row ∷ []) ≡ rows_text rows ++ row_text default_writer row
text_push [] row = append-nil (row_text default_writer row)
text_push (first ∷ rows) row =
    ap (λ (l : List ℕ). row_text default_writer first ++ l) (text_push rows row) ∙ sym (append_assoc (row_text default_writer first) (rows_text rows) (row_text default_writer row))

zip_push : {A B : Type 0} (R : A → B → Type 0) (xs : List A) (ys : List B) (x : A) (y : B) → AllZip R xs ys → R x y → AllZip R (xs ++ x ∷ []) (ys ++ y ∷ [])
zip_push R [] [] x y each last = (last, tt)
zip_push R [] (b ∷ ys) x y each last = absurd each
zip_push R (a ∷ xs) [] x y each last = absurd each
zip_push R (a ∷ xs) (b ∷ ys) x y each last = (each.0, zip_push R xs ys x y each.1 last)

rises_more : (a b : ℕ) (xs : List ℕ) → a < b → IsStrictlyIncreasing (b ∷ xs) → IsStrictlyIncreasing (a ∷ b ∷ xs)
rises_more a b xs lt more zero within = lt
rises_more a b xs lt more (suc k) within = rw add-one (rw add-one at (more k (omega arith)))

rises_after : (a : ℕ) (xs : List ℕ) → IsStrictlyIncreasing (a ∷ xs) → IsStrictlyIncreasing xs
rises_after a xs all k within = rw add-one (rw add-one at (all (suc k) (omega arith)))

rises_push : (xs : List ℕ) (count n : ℕ) → IsStrictlyIncreasing xs → All (λ m. m ≤ count) xs → count < n → IsStrictlyIncreasing (xs ++ n ∷ [])
rises_push [] count n rises below lt = λ k within. absurd (omega (arith, within))
rises_push (x ∷ []) count n rises below lt = rises_more x n [] (let p = All-head (λ m. m ≤ count) x [] below in omega (arith, p)) (λ k within. absurd (omega (arith, within)))
rises_push (x ∷ y ∷ xs) count n rises below lt =
    rises_more x y (xs ++ n ∷ []) (rises 0 (omega arith))
    (rises_push (y ∷ xs) count n (rises_after x (y ∷ xs) rises) (All-tail (λ m. m ≤ count) x (y ∷ xs) below) lt)

-- a row of the next number
pub one_more : (bytes : List ℕ) (count : ℕ) (fields : List (List ℕ)) (f : Firing) → IsWritten bytes count → count + 1 ≤ 1_000_000 → f.number ≡ count + 1 → WritesFiring fields f → IsFiring f
    → IsWritten (bytes ++ row_text default_writer fields) (count + 1)
one_more bytes count fields f w few is writes firing = record {
  heading = w.heading;
  is_heading = w.is_heading;
  rows = w.rows ++ fields ∷ [];
  firings = w.firings ++ f ∷ [];
  text = ap (λ (l : List ℕ). l ++ row_text default_writer fields) w.text
      ∙ append_assoc w.heading (rows_text w.rows) (row_text default_writer fields)
      ∙ ap (λ (l : List ℕ). w.heading ++ l) (sym (text_push w.rows fields));
  each = zip_push WritesFiring w.rows w.firings fields f w.each writes;
  trace = record {
    rises = rw (map-append number_of w.firings (f ∷ [])) (rises_push (map number_of w.firings) count f.number w.trace.rises w.below (omega (arith, is)));
    few = omega (arith, w.few, length-append w.firings (f ∷ []));
    firings = All-push IsFiring w.firings f w.trace.firings firing;
  };
  below = rw (map-append number_of w.firings (f ∷ [])) (All-push (λ m. m ≤ count + 1) (map number_of w.firings) f.number (λ k d lt. let p = w.below k d lt in omega (arith, p)) (omega (arith, is)));
  few = omega (arith, w.few, length-append w.firings (f ∷ []));
}

pub none_yet : (bytes : List ℕ) → IsHeading bytes → IsWritten bytes 0
none_yet bytes heads = record {
  heading = bytes;
  is_heading = heads;
  rows = [];
  firings = [];
  text = sym (append-nil bytes);
  each = tt;
  trace = record { rises = λ k within. absurd (omega (arith, within)); few = omega arith; firings = All-nil IsFiring };
  below = All-nil (λ m. m ≤ 0);
  few = omega arith;
}
