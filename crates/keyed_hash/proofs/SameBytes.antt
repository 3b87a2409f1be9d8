-- Bytes that are compared eight or four at a time.
use Rattle.std.proofs.Common.{◌≡◌, ◌<◌, ◌≤◌, ◌+◌, ℕ, zero, suc, List, [], ◌∷◌, length, get_or, take}
use Rattle.std.proofs.Common.{drop, refl, sym, ap, ◌∙◌, arith, inl, inr, length-take, length-drop}
use mir.Val.{Fits}
use mir.Syntax.{w8}
use Rattle.std.specs.Int.{from_le_bytes, w32, w64}
use Rattle.std.proofs.Math.Seq.{take-add}
use Rattle.std.proofs.lemmas.Bool.{cases_lt}
use Rattle.std.proofs.lemmas.List.{get_or-take, get_or-drop, get_or_past, take_all}
use Rattle.std.proofs.lemmas.Nat.{le_bytes_4, le_bytes_8}

abbrev pub AreBytes : List ℕ → Type 0
AreBytes xs = (k : ℕ) → Fits w8 (get_or xs k 0)

abbrev pub AreSmall : List ℕ → Type 0
AreSmall xs = (k : ℕ) → get_or xs k 0 < 256

take-take : (n m : ℕ) (xs : List ℕ) → n ≤ m → take n (take m xs) ≡ take n xs
take-take zero m xs le = refl
take-take (suc n) zero xs le = absurd (omega arith)
take-take (suc n) (suc m) [] le = refl
take-take (suc n) (suc m) (x ∷ xs) le = ap (λ (l : List ℕ). x ∷ l) (take-take n m xs (omega arith))

-- numbers that stand for so many bytes, each for one list of them
module _ (size : ℕ) (number : List ℕ → ℕ)
    (one : (xs ys : List ℕ) → length xs ≡ size → length ys ≡ size → AreSmall xs → AreSmall ys → number xs ≡ number ys → xs ≡ ys) where
  part_small : (xs : List ℕ) (n i : ℕ) → AreBytes xs → get_or (take size (drop n xs)) i 0 < 256
  part_small xs n i bytes = elim (cases_lt i size) [
    | inl lt ↦ rw (get_or-take size (drop n xs) i 0 lt, get_or-drop n xs i 0) (omega (arith, bytes (n + i)))
    | inr ge ↦
        let most = length-take size (drop n xs) in
        let none : get_or (take size (drop n xs)) i 0 ≡ 0 = get_or_past (take size (drop n xs)) i 0 (omega (arith, most)) in
        rw none (omega arith)
  ]

  part_long : (xs : List ℕ) (n : ℕ) → n + size ≤ length xs → length (take size (drop n xs)) ≡ size
  part_long xs n le = omega (arith, length-take size (drop n xs), length-drop n xs)

  -- equal numbers are of equal bytes
  same_part : (xs ys : List ℕ) (n : ℕ) → n + size ≤ length xs → n + size ≤ length ys → AreBytes xs → AreBytes ys
      → number (take size (drop n xs)) ≡ number (take size (drop n ys)) → take size (drop n xs) ≡ take size (drop n ys)
  same_part xs ys n lx ly bx by is =
      one _ _ (part_long xs n lx) (part_long ys n ly) (λ i. part_small xs n i bx) (λ i. part_small ys n i by) is

  -- one part more
  same_more : (xs ys : List ℕ) (n : ℕ) → n + size ≤ length xs → n + size ≤ length ys → AreBytes xs → AreBytes ys
      → number (take size (drop n xs)) ≡ number (take size (drop n ys)) → take n xs ≡ take n ys → take (n + size) xs ≡ take (n + size) ys
  same_more xs ys n lx ly bx by is so_far = rw (take-add n size xs, take-add n size ys, so_far, same_part xs ys n lx ly bx by is) refl

  -- the last part, which may overlap the one before
  same_end : (xs ys : List ℕ) (n last : ℕ) → length xs ≡ length ys → last + size ≡ length xs → last ≤ n → AreBytes xs → AreBytes ys
      → take n xs ≡ take n ys → number (take size (drop last xs)) ≡ number (take size (drop last ys)) → xs ≡ ys
  same_end xs ys n last many is_last le bx by so_far is =
      let front : take last xs ≡ take last ys = sym (take-take last n xs le) ∙ ap (take last) so_far ∙ take-take last n ys le in
      let all = same_more xs ys last (omega arith) (omega arith) bx by is front in
      sym (take_all (last + size) xs (omega arith)) ∙ all ∙ take_all (last + size) ys (omega arith)

-- ---- eight bytes

eight : (xs ys : List ℕ) → length xs ≡ 8 → length ys ≡ 8 → AreSmall xs → AreSmall ys → from_le_bytes w64 xs ≡ from_le_bytes w64 ys → xs ≡ ys
eight xs ys lx ly bx by is = sym (le_bytes_8 xs _ lx bx refl) ∙ le_bytes_8 ys _ ly by is

-- one word more
pub same_next : (xs ys : List ℕ) (n next : ℕ) → next ≡ n + 8 → next ≤ length xs → length xs ≡ length ys → AreBytes xs → AreBytes ys
    → from_le_bytes w64 (take 8 (drop n xs)) ≡ from_le_bytes w64 (take 8 (drop n ys)) → take n xs ≡ take n ys → take next xs ≡ take next ys
same_next xs ys n next far le many bx by is so_far = rw far (same_more 8 (from_le_bytes w64) eight xs ys n (omega arith) (omega arith) bx by is so_far)

-- the last word
pub same_last : (xs ys : List ℕ) (n last : ℕ) → length xs ≡ length ys → last + 8 ≡ length xs → last ≤ n → AreBytes xs → AreBytes ys
    → take n xs ≡ take n ys → from_le_bytes w64 (take 8 (drop last xs)) ≡ from_le_bytes w64 (take 8 (drop last ys)) → xs ≡ ys
same_last = same_end 8 (from_le_bytes w64) eight

-- ---- four bytes

four : (xs ys : List ℕ) → length xs ≡ 4 → length ys ≡ 4 → AreSmall xs → AreSmall ys → from_le_bytes w32 xs ≡ from_le_bytes w32 ys → xs ≡ ys
four xs ys lx ly bx by is = sym (le_bytes_4 xs _ lx bx refl) ∙ le_bytes_4 ys _ ly by is

-- the first half of a word, and the last
pub same_halves : (xs ys : List ℕ) (last : ℕ) → length xs ≡ length ys → last + 4 ≡ length xs → last ≤ 4 → AreBytes xs → AreBytes ys
    → from_le_bytes w32 (take 4 (drop 0 xs)) ≡ from_le_bytes w32 (take 4 (drop 0 ys)) → from_le_bytes w32 (take 4 (drop last xs)) ≡ from_le_bytes w32 (take 4 (drop last ys)) → xs ≡ ys
same_halves xs ys last many is_last le bx by first is =
    let front = same_more 4 (from_le_bytes w32) four xs ys 0 (omega arith) (omega arith) bx by first refl in
    same_end 4 (from_le_bytes w32) four xs ys 4 last many is_last le bx by front is
