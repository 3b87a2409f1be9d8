-- Plain rows that several workers read.
use Rattle.std.proofs.Common.{◌≡◌, ◌+◌, ◌-◌, ℕ, suc, List, ◌∷◌, ◌++◌, length}
use Rattle.std.proofs.Common.{drop, refl, sym, ap, ◌∙◌, append_assoc, arith, inl, length-append}
use Rattle.std.proofs.Math.Seq.{drop-append-add, drop-length}
use Rattle.firings.specs.declared.firing.Firing.{Firing}
use Rattle.firing_reader.specs.Pieces.{AreCut, GoesOn, PassesRows}
use Rattle.firing_reader.specs.Steps.Plain.{Leaves}
use Rattle.firing_reader.proofs.PlainRows.{goes_both, goes_end}

-- ---- where rows were read up to an index

-- what is left after `count` bytes, with a line feed for the next one
abbrev left_after : ℕ → List ℕ → List ℕ
left_after count bytes = 10 ∷ drop (count + 1) bytes

-- what is left of bytes begins at this index
left_at : (x rest : List ℕ) (h : Leaves x rest) → drop (length x - length rest + 1) x ≡ h.after
left_at x rest h =
    let size = ap length h.is_bytes in
    let both = length-append h.front h.after in
    let one = ap length h.is_rest in
    let next : length x - length rest + 1 ≡ suc (length h.front + 0) = omega (arith, size, both, one) in
    ap (λ (n : ℕ). drop n x) next ∙ ap (λ (l : List ℕ). drop (suc (length h.front + 0)) l) h.is_bytes ∙ drop-append-add h.front h.after 0

-- ---- a piece and what comes before it

-- more bytes at the end
pub goes_more : (old : List Firing) (x : List ℕ) (new : List Firing) (y t : List ℕ) → GoesOn old x new y → GoesOn old (x ++ t) new (y ++ t)
goes_more old x new y t g = record {
  rows = g.rows;
  read = g.read;
  taken = λ tail. rw (append_assoc x t tail, append_assoc y t tail) (g.taken (t ++ tail));
}

-- the bytes of the first of two pieces
cut_read : (old : List Firing) (bytes front after : List ℕ) (new : List Firing) (count : ℕ) → bytes ≡ front ++ after → PassesRows old front new count → GoesOn old bytes new (left_after count front ++ after)
cut_read old bytes front after new count is h = rw is (goes_more old front new (left_after count front) after h.read)

-- what is left of both is what is left of the second
last_left : (bytes front last : List ℕ) (count more : ℕ) → AreCut bytes front last → count + 1 ≡ length front → left_after (count + more) bytes ≡ left_after more last
last_left bytes front last count more c whole =
    let next : count + more + 1 ≡ length front + more = omega (arith, whole) in
    let own : more + 1 ≡ suc more = omega arith in
    ap (λ (l : List ℕ). 10 ∷ l) (ap (λ (n : ℕ). drop n bytes) next ∙ ap (drop (length front + more)) c.is_bytes ∙ drop-append-add front c.after more
    ∙ sym (ap (λ (n : ℕ). drop n last) own ∙ ap (drop (suc more)) c.is_last))

none_left : (front after : List ℕ) (count : ℕ) → count + 1 ≡ length front → left_after count front ++ after ≡ 10 ∷ after
none_left front after count whole =
    ap (λ (n : ℕ). 10 ∷ (drop n front ++ after)) whole ∙ ap (λ (l : List ℕ). 10 ∷ (l ++ after)) (drop-length front)

-- with all of the first read, the second is left
first_left : (old : List Firing) (bytes front last : List ℕ) (mid : List Firing) (count : ℕ) → AreCut bytes front last → PassesRows old front mid count → count + 1 ≡ length front → GoesOn old bytes mid last
first_left old bytes front last mid count c h whole =
    let feed : GoesOn old bytes mid (10 ∷ c.after) = rw (← none_left front c.after count whole) (cut_read old bytes front c.after mid count c.is_bytes h) in
    rw c.is_last (goes_end old bytes mid 10 c.end c.after (inl refl) c.ends feed)

-- ---- one worker

-- rows that come after those of a piece that was passed to its end
pub passes_on : (old : List Firing) (bytes front last : List ℕ) (mid new : List Firing) (count more : ℕ) → AreCut bytes front last → PassesRows old front mid count → count + 1 ≡ length front
    → PassesRows mid last new more → PassesRows old bytes new (count + more)
passes_on old bytes front last mid new count more c h whole p =
    let size = ap length c.is_bytes in
    let both = length-append front c.after in
    let own = ap length c.is_last in
    let first = first_left old bytes front last mid count c h whole in
    record {
      read = rw (last_left bytes front last count more c whole) (goes_both old bytes mid last new (left_after more last) first p.read);
      inside = omega (arith, size, both, own, whole, p.inside);
    }

pub passes_alone : (old : List Firing) (bytes : List ℕ) (new : List Firing) (rest : List ℕ) → Leaves bytes rest → GoesOn old bytes new rest → PassesRows old bytes new (length bytes - length rest)
passes_alone old bytes new rest h g = record {
  read = goes_end old bytes new h.end 10 (drop (length bytes - length rest + 1) bytes) h.ends (inl refl) (rw (left_at bytes rest h, ← h.is_rest) g);
  inside = omega (arith, ap length h.is_bytes, length-append h.front h.after, ap length h.is_rest);
}
