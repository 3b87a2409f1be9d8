-- The number that says which words are texts.
use Rattle.std.specs.Prelude.{◌≡◌, ◌<◌, ◌≤◌, ◌+◌, ◌*◌, ◌^◌, ◌++◌, ◌∷◌, [], ℕ, suc, List, length, map}
use Rattle.std.proofs.Common.{refl, ap, subst, ◌∙◌, arith, get_or}
use Rattle.std.proofs.Math.Pow.{pow_mono}
use Rattle.std.proofs.lemmas.Grind.{pow_more}
use Rattle.numbered.specs.declared.word.Word.{Word}
use Rattle.numbered.specs.declared.word.Word.TheVariants.{Int, Text}
use Rattle.numbered.specs.Shapes.{digit_of, digits_after, shape_of}
use Rattle.numbered.specs.Words.{bits_of}

pub digits_more : (n : ℕ) (ws : List Word) (w : Word) → digits_after n (ws ++ w ∷ []) ≡ 2 * digits_after n ws + digit_of w
digits_more n [] w = refl
digits_more n (v ∷ ws) w = digits_more (2 * n + digit_of v) ws w

pub digit_small : (w : Word) → digit_of w < 2
digit_small (Int n) = omega arith
digit_small (Text n) = omega arith

-- below a power of 2 that each word doubles
digits_below : (n k : ℕ) (ws : List Word) → n < 2 ^ k → digits_after n ws < 2 ^ (k + length ws)
digits_below n k [] small =
    let same : k ≡ k + 0 = omega arith in
    subst (λ m. n < 2 ^ m) same small
digits_below n k (w ∷ ws) small =
    let more = pow_more 2 k in
    let digit = digit_small w in
    let same : k + 1 + length ws ≡ k + suc (length ws) = omega arith in
    subst (λ m. digits_after (2 * n + digit_of w) ws < 2 ^ m) same
    (digits_below (2 * n + digit_of w) (k + 1) ws (omega arith))

pub shape_below : (ws : List Word) (k : ℕ) → length ws ≤ k → shape_of ws < 2 ^ (1 + k)
shape_below ws k few =
    let below = digits_below 1 1 ws (omega arith) in
    let most : 2 ^ (1 + length ws) ≤ 2 ^ (1 + k) = pow_mono (omega arith) in
    omega arith

-- ---- words of one shape

abbrev pub tail_of : List ℕ → List ℕ
tail_of [] = []
tail_of (n ∷ ns) = ns

pub digits_same : (m n : ℕ) (vs ws : List Word) → map bits_of vs ≡ map bits_of ws → digits_after m vs ≡ digits_after n ws → (m ≡ n) × (vs ≡ ws)
digits_same m n [] [] bits e = (e, refl)
digits_same m n (Int a ∷ vs) (Int b ∷ ws) bits e =
    let rest = digits_same (2 * m + 0) (2 * n + 0) vs ws (ap tail_of bits) e in
    let first : a ≡ b = ap (λ l. get_or l 0 0) bits in
    (omega (arith, rest.0), ap (λ a. Int a ∷ vs) first ∙ ap (λ l. Int b ∷ l) rest.1)
digits_same m n (Text a ∷ vs) (Text b ∷ ws) bits e =
    let rest = digits_same (2 * m + 1) (2 * n + 1) vs ws (ap tail_of bits) e in
    let first : a ≡ b = ap (λ l. get_or l 0 0) bits in
    (omega (arith, rest.0), ap (λ a. Text a ∷ vs) first ∙ ap (λ l. Text b ∷ l) rest.1)
digits_same m n (Int a ∷ vs) (Text b ∷ ws) bits e =
    let rest = digits_same (2 * m + 0) (2 * n + 1) vs ws (ap tail_of bits) e in
    absurd (omega (arith, rest.0))
digits_same m n (Text a ∷ vs) (Int b ∷ ws) bits e =
    let rest = digits_same (2 * m + 1) (2 * n + 0) vs ws (ap tail_of bits) e in
    absurd (omega (arith, rest.0))
digits_same m n _ _ bits e = absurd (omega (arith, ap length bits))
