-- A bundle of which some whole lines are passed.
use Rattle.std.proofs.Common.{◌≡◌, suc, ◌+◌, ◌≤◌, ℕ, List, [], ◌∷◌, ◌++◌, length, take, drop, sym, ap}
use Rattle.std.proofs.Common.{◌∙◌, subst, append_assoc, append-nil, length-append, arith, drop_at}
use Rattle.std.proofs.lemmas.List.{take_at, length-take-le, take-append-drop}
use Rattle.consumer.specs.Steps.Beginnings.{ArePassed, IsDividedAt, IsUndivided}
use Rattle.consumer.specs.Bundle.{Divides, IsDivider, IsLine}

-- what is passed comes before the rest
pub record Passed (bundle : List ℕ) (passed : ℕ) (rest : List ℕ) : Type 0 where
  pub parts : bundle ≡ take passed bundle ++ rest
  pub size : passed + length rest ≡ length bundle
  pub onward : ArePassed (take passed bundle)

few : (bundle : List ℕ) (passed : ℕ) (rest : List ℕ) → Passed bundle passed rest → passed ≤ length bundle
few bundle passed rest p = let whole = p.size in omega arith

-- the rest begins with the line that divides
pub divided_here : (bundle : List ℕ) (passed : ℕ) (rest line after : List ℕ) → rest ≡ line ++ 10 ∷ after → IsDivider line → Passed bundle passed rest → IsDividedAt bundle passed after
divided_here bundle passed rest line after e is p = record {
  few = few bundle passed rest p;
  divides = λ tail.
      subst (λ b. Divides b front (after ++ tail)) (sym (whole tail))
      (subst (λ s. Divides (front ++ (line ++ 10 ∷ (after ++ tail))) s (after ++ tail)) (append-nil front)
      (p.onward (line ++ 10 ∷ (after ++ tail)) [] (after ++ tail) (Divides.divider line (after ++ tail) is)));
}
  where
    front : List ℕ
    front = take passed bundle

    whole : (tail : List ℕ) → bundle ++ tail ≡ front ++ (line ++ 10 ∷ (after ++ tail))
    whole tail =
        ap (λ b. b ++ tail) p.parts ∙ append_assoc front rest tail ∙ ap (λ r. front ++ (r ++ tail)) e ∙ ap (λ r. front ++ r) (append_assoc line (10 ∷ after) tail)

-- the rest is within a line
pub undivided : (bundle : List ℕ) (passed : ℕ) (rest : List ℕ) → IsLine rest → Passed bundle passed rest → IsUndivided bundle passed
undivided bundle passed rest own p = record {
  few = few bundle passed rest p;
  passed = p.onward;
  line = subst IsLine (sym (ap (drop passed) p.parts ∙ drop_at (take passed bundle) rest passed (length-take-le passed bundle (few bundle passed rest p)))) own;
}

-- one more line is passed
pub passed_line : (bundle : List ℕ) (passed : ℕ) (rest line after : List ℕ) → rest ≡ line ++ 10 ∷ after → IsLine line → ¬ IsDivider line → Passed bundle passed rest → Passed bundle (passed + (length line + 1)) after
passed_line bundle passed rest line after e own other p = record {
  parts = parts ∙ ap (λ f. f ++ after) (sym front_is);
  size = size;
  onward = subst ArePassed (sym front_is) onward;
}
  where
    front : List ℕ
    front = take passed bundle ++ (line ++ 10 ∷ [])

    joins : (xs : List ℕ) → front ++ xs ≡ take passed bundle ++ (line ++ 10 ∷ xs)
    joins xs = append_assoc (take passed bundle) (line ++ 10 ∷ []) xs ∙ ap (λ l. take passed bundle ++ l) (append_assoc line (10 ∷ []) xs)

    parts : bundle ≡ front ++ after
    parts = p.parts ∙ ap (λ r. take passed bundle ++ r) e ∙ sym (joins after)

    sizes : length rest ≡ length line + suc (length after)
    sizes = ap length e ∙ length-append line (10 ∷ after)

    size : passed + (length line + 1) + length after ≡ length bundle
    size = let whole = p.size in let one = sizes in omega arith

    front_len : length front ≡ passed + (length line + 1)
    front_len =
        length-append (take passed bundle) (line ++ 10 ∷ []) ∙ ap (λ n. n + length (line ++ 10 ∷ [])) (length-take-le passed bundle (few bundle passed rest p)) ∙ ap (λ n. passed + n) (length-append line (10 ∷ []))

    front_is : take (passed + (length line + 1)) bundle ≡ front
    front_is = ap (take (passed + (length line + 1))) parts ∙ take_at front after (passed + (length line + 1)) front_len

    onward : ArePassed front
    onward = λ xs script trace more.
        subst (λ b. Divides b (front ++ script) trace) (sym (joins xs))
        (subst (λ s. Divides (take passed bundle ++ (line ++ 10 ∷ xs)) s trace) (sym (joins script))
        (p.onward (line ++ 10 ∷ xs) (line ++ 10 ∷ script) trace (Divides.before line xs script trace own other more)))

-- ---- the whole bundle

-- nothing comes after it
pub divided_whole : (bundle : List ℕ) (count : ℕ) (trace : List ℕ) → IsDividedAt bundle count trace → Divides bundle (take count bundle) trace
divided_whole bundle count trace d =
    subst (λ b. Divides b (take count bundle) trace) (append-nil bundle)
    (subst (λ t. Divides (bundle ++ []) (take count bundle) t) (append-nil trace) (d.divides []))

-- its last line divides, without a line feed
pub last_divides : (bundle : List ℕ) (count : ℕ) (script last : List ℕ) → script ≡ take count bundle → last ≡ drop count bundle → IsUndivided bundle count → IsDivider last
    → Divides bundle script []
last_divides bundle count script last front rest u is =
    let whole : script ++ last ≡ bundle = ap (λ s. s ++ last) front ∙ ap (λ l. take count bundle ++ l) rest ∙ take-append-drop count bundle in
    let passed : Divides (script ++ last) (script ++ []) [] = rw front (u.passed last [] [] (Divides.last_divider last is)) in
    subst (λ b. Divides b script []) whole (subst (λ s. Divides (script ++ last) s []) (append-nil script) passed)

-- no line divides
pub none_divides : (bundle : List ℕ) (count : ℕ) (last : List ℕ) → last ≡ drop count bundle → IsUndivided bundle count → ¬ IsDivider last → Divides bundle bundle []
none_divides bundle count last rest u other =
    let whole : take count bundle ++ last ≡ bundle = ap (λ l. take count bundle ++ l) rest ∙ take-append-drop count bundle in
    subst (λ b. Divides b b []) whole (u.passed last last [] (Divides.last_line last (subst IsLine (sym rest) u.line) other))
