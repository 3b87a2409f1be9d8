-- Patterns: runs without stars, and where they fit.
use Rattle.std.proofs.Common.{◌≡◌, ◌≢◌, ℕ, suc, ◌+◌, ◌-◌, ◌≤◌, ◌<◌, ◌↔◌, Bool, List, [], ◌∷◌, ◌++◌}
use Rattle.std.proofs.Common.{length, take, drop, All, refl, sym, ap, ◌∙◌, subst, arith}
use Rattle.std.proofs.Common.{append_assoc, length-append, length-drop, take_all, take_at, drop_at}
use Rattle.std.proofs.Common.{take-append-drop, IsTrue}
use Rattle.std.proofs.lemmas.List.{take_rest, drop-append-le}
use Rattle.std.proofs.lemmas.List.Elements.{All-tail}
use Rattle.replay_core.specs.Patterns.{Takes, Matches}

-- ---- patterns in parts

pub match_join : (xs ys a b : List ℕ) → Matches xs a → Matches ys b → Matches (xs ++ ys) (a ++ b)
match_join [] ys a b x y = subst (λ l. Matches ys (l ++ b)) (sym x) y
match_join (p ∷ xs) ys a b x y =
    (x.0, x.1 ++ b, ap (λ l. l ++ b) x.2 ∙ append_assoc x.0 x.1 b, x.3, match_join xs ys x.1 b x.4 y)

pub match_parts : (xs ys text : List ℕ) → Matches (xs ++ ys) text → (a : List ℕ) × (b : List ℕ) × (text ≡ a ++ b) × Matches xs a × Matches ys b
match_parts [] ys text m = ([], text, refl, refl, m)
match_parts (p ∷ xs) ys text m =
    let (a, b, is, first, second) = match_parts xs ys m.1 m.4 in
    (m.0 ++ a, b, m.2 ∙ ap (λ l. m.0 ++ l) is ∙ sym (append_assoc m.0 a b), (m.0, a, refl, m.3, first), second)

-- ---- stars

pub star_takes : (p a b : List ℕ) → Matches p b → Matches (42 ∷ p) (a ++ b)
star_takes p a b m = (a, b, refl, Takes.any refl, m)

pub star_takes_more : (p a b : List ℕ) → Matches (42 ∷ p) b → Matches (42 ∷ p) (a ++ b)
star_takes_more p a b m = (a ++ m.0, m.1, ap (λ l. a ++ l) m.2 ∙ sym (append_assoc a m.0 m.1), Takes.any refl, m.4)

-- ---- runs without stars

one_long : (p : ℕ) (own : List ℕ) → p ≢ 42 → Takes p own → length own ≡ 1
one_long p own plain (Takes.any e) = absurd (plain e)
one_long p own plain (Takes.one b q e) = ap length e
one_long p own plain (Takes.itself e) = ap length e

pub run_long : (run own : List ℕ) → All (λ p. p ≢ 42) run → Matches run own → length own ≡ length run
run_long [] own plain m = ap length m
run_long (p ∷ run) own plain m =
    let first = one_long p m.0 (plain 0 p (omega arith)) m.3 in
    let others = run_long run m.1 (All-tail (λ p. p ≢ 42) p run plain) m.4 in
    let whole : length own ≡ length m.0 + length m.1 = ap length m.2 ∙ length-append m.0 m.1 in
    let sizes : length (p ∷ run) ≡ suc (length run) = refl in
    omega arith

-- the run fits at the front of the text
abbrev pub Fits : List ℕ → List ℕ → Type 0
Fits run text = (length run ≤ length text) × Matches run (take (length run) text)

-- what fits at the front, where the text has it there
fits_front : (run own rest text : List ℕ) → All (λ p. p ≢ 42) run → Matches run own → text ≡ own ++ rest → Fits run text
fits_front run own rest text plain m e =
    let long = run_long run own plain m in
    let whole : length text ≡ length own + length rest = ap length e ∙ length-append own rest in
    (omega arith, subst (λ l. Matches run l) (sym (ap (take (length run)) e ∙ take_at own rest (length run) long)) m)

-- a run that doesn't fit here begins after the byte, or not at all
pub star_passes : (run after : List ℕ) (b : ℕ) (text : List ℕ) → All (λ p. p ≢ 42) run → ¬ Fits run (b ∷ text) → Matches (42 ∷ (run ++ after)) (b ∷ text) → Matches (42 ∷ (run ++ after)) text
star_passes run after b text plain other m = by m.0 m.1 m.2 m.4
  where
    by : (own rest : List ℕ) → (b ∷ text) ≡ own ++ rest → Matches (run ++ after) rest → Matches (42 ∷ (run ++ after)) text
    by [] rest e more =
        let parts = match_parts run after rest more in
        absurd (other (fits_front run parts.0 parts.1 (b ∷ text) plain parts.3 (e ∙ parts.2)))
    by (c ∷ own) rest e more =
        let parts : text ≡ own ++ rest = cc in
        (own, rest, parts, Takes.any refl, more)

-- a run that doesn't fit the empty text isn't there
pub nowhere : (run after : List ℕ) → All (λ p. p ≢ 42) run → ¬ Fits run [] → ¬ Matches (42 ∷ (run ++ after)) []
nowhere run after plain other m = by m.0 m.1 m.2 m.4
  where
    by : (own rest : List ℕ) → [] ≡ own ++ rest → Matches (run ++ after) rest → ⊥
    by [] rest e more =
        let parts = match_parts run after rest more in
        other (fits_front run parts.0 parts.1 [] plain parts.3 (e ∙ parts.2))
    by (c ∷ own) rest e more = cc

-- where the run fits, the rest matches after that place
pub first_serves : (run after text : List ℕ) → All (λ p. p ≢ 42) run → Fits run text → Matches (42 ∷ (run ++ 42 ∷ after)) text ↔ Matches (42 ∷ after) (drop (length run) text)
first_serves run after text plain fits = (there, back)
  where
    there : Matches (42 ∷ (run ++ 42 ∷ after)) text → Matches (42 ∷ after) (drop (length run) text)
    there m =
        let parts = match_parts run (42 ∷ after) m.1 m.4 in
        let long = run_long run parts.0 plain parts.3 in
        let front : text ≡ (m.0 ++ parts.0) ++ parts.1 = m.2 ∙ ap (λ l. m.0 ++ l) parts.2 ∙ sym (append_assoc m.0 parts.0 parts.1) in
        let size = length-append m.0 parts.0 in
        let le : length run ≤ length (m.0 ++ parts.0) = omega arith in
        subst (λ l. Matches (42 ∷ after) l) (sym (ap (drop (length run)) front ∙ drop-append-le (length run) (m.0 ++ parts.0) parts.1 le))
        (star_takes_more after (drop (length run) (m.0 ++ parts.0)) parts.1 parts.4)

    back : Matches (42 ∷ after) (drop (length run) text) → Matches (42 ∷ (run ++ 42 ∷ after)) text
    back m =
        subst (λ l. Matches (42 ∷ (run ++ 42 ∷ after)) l) (take-append-drop (length run) text)
        (star_takes (run ++ 42 ∷ after) [] (take (length run) text ++ drop (length run) text) (match_join run (42 ∷ after) (take (length run) text) (drop (length run) text) fits.1 m))

-- a star and a run match where the run fits the end
pub last_fits : (run text : List ℕ) → All (λ p. p ≢ 42) run → Matches (42 ∷ run) text ↔ ((length run ≤ length text) × Matches run (drop (length text - length run) text))
last_fits run text plain = (there, back)
  where
    there : Matches (42 ∷ run) text → (length run ≤ length text) × Matches run (drop (length text - length run) text)
    there m =
        let long = run_long run m.1 plain m.4 in
        let whole : length text ≡ length m.0 + length m.1 = ap length m.2 ∙ length-append m.0 m.1 in
        let n : length text - length run ≡ length m.0 = omega arith in
        let end : drop (length text - length run) text ≡ m.1 = ap (λ k. drop k text) n ∙ ap (drop (length m.0)) m.2 ∙ drop_at m.0 m.1 (length m.0) refl in
        (omega arith, subst (λ l. Matches run l) (sym end) m.4)

    back : (length run ≤ length text) × Matches run (drop (length text - length run) text) → Matches (42 ∷ run) text
    back f =
        subst (λ l. Matches (42 ∷ run) l) (take-append-drop (length text - length run) text)
        (star_takes run (take (length text - length run) text) (drop (length text - length run) text) f.1)

-- a run that is as long as the text
pub fits_whole : (run text : List ℕ) (r : Bool) → length run ≡ length text → (IsTrue r ↔ Fits run text) → IsTrue r ↔ Matches run text
fits_whole run text r long fits =
    let all = take_all (length run) text (omega arith) in
    (λ t. subst (Matches run) all (fits.0 t).1, λ m. fits.1 (omega arith, subst (Matches run) (sym all) m))

-- ---- the pattern up to its first star

-- a run before a star has one place
pub front_fits : (run after text : List ℕ) → All (λ p. p ≢ 42) run → Matches (run ++ 42 ∷ after) text ↔ (Fits run text × Matches (42 ∷ after) (drop (length run) text))
front_fits run after text plain = (there, back)
  where
    there : Matches (run ++ 42 ∷ after) text → Fits run text × Matches (42 ∷ after) (drop (length run) text)
    there m =
        let parts = match_parts run (42 ∷ after) text m in
        let long = run_long run parts.0 plain parts.3 in (
          fits_front run parts.0 parts.1 text plain parts.3 parts.2,
          subst (λ l. Matches (42 ∷ after) l) (sym (ap (drop (length run)) parts.2 ∙ drop_at parts.0 parts.1 (length run) long)) parts.4,
        )

    back : Fits run text × Matches (42 ∷ after) (drop (length run) text) → Matches (run ++ 42 ∷ after) text
    back f =
        subst (λ l. Matches (run ++ 42 ∷ after) l) (take-append-drop (length run) text)
        (match_join run (42 ∷ after) (take (length run) text) (drop (length run) text) f.0.1 f.1)

-- ---- steps of the code

-- a run that is as long as the end of the text
pub fits_last : (run text : List ℕ) (r : Bool) → length run ≤ length text → (IsTrue r ↔ Fits run (take (length text - (length text - length run)) (drop (length text - length run) text)))
    → IsTrue r ↔ Matches run (drop (length text - length run) text)
fits_last run text r long fits =
    let rest = drop (length text - length run) text in
    let same = take_rest text (length text - length run) in
    let whole : length run ≡ length rest = let d = length-drop (length text - length run) text in omega arith in
    fits_whole run rest r whole (subst (λ l. IsTrue r ↔ Fits run l) same fits)

pub passed_more : (run text rest : List ℕ) → All (λ p. p ≢ 42) run → ¬ Fits run rest → 1 ≤ length rest
    → ((after : List ℕ) → Matches (42 ∷ (run ++ after)) text ↔ Matches (42 ∷ (run ++ after)) rest)
    → (after : List ℕ) → Matches (42 ∷ (run ++ after)) text ↔ Matches (42 ∷ (run ++ after)) (take (length rest - 1) (drop 1 rest))
passed_more run text [] plain other some own after = absurd (omega arith)
passed_more run text (b ∷ rest) plain other some own after =
    subst (λ l. Matches (42 ∷ (run ++ after)) text ↔ Matches (42 ∷ (run ++ after)) l) (sym (take_rest (b ∷ rest) 1))
    (λ m. star_passes run after b rest plain other ((own after).0 m), λ m. (own after).1 (star_takes_more (run ++ after) (b ∷ []) rest m))

pub passed_none : (run text rest : List ℕ) → All (λ p. p ≢ 42) run → ¬ Fits run rest → length rest < 1
    → ((after : List ℕ) → Matches (42 ∷ (run ++ after)) text ↔ Matches (42 ∷ (run ++ after)) rest)
    → (after : List ℕ) → ¬ Matches (42 ∷ (run ++ after)) text
passed_none run text [] plain other none own after m = nowhere run after plain other ((own after).0 m)
passed_none run text (b ∷ rest) plain other none own after m = absurd (omega arith)

pub found : (run text rest : List ℕ) → All (λ p. p ≢ 42) run → Fits run rest
    → ((after : List ℕ) → Matches (42 ∷ (run ++ after)) text ↔ Matches (42 ∷ (run ++ after)) rest)
    → (after : List ℕ) → Matches (42 ∷ (run ++ 42 ∷ after)) text ↔ Matches (42 ∷ after) (take (length rest - length run) (drop (length run) rest))
found run text rest plain fits own after =
    let serves = first_serves run after rest plain fits in
    subst (λ l. Matches (42 ∷ (run ++ 42 ∷ after)) text ↔ Matches (42 ∷ after) l) (sym (take_rest rest (length run)))
    (λ m. serves.0 ((own (42 ∷ after)).0 m), λ m. (own (42 ∷ after)).1 (serves.1 m))

-- the pattern up to the first star, and after it
pub wild_front : (pattern text run after : List ℕ) (r : Bool) → pattern ≡ run ++ 42 ∷ after → All (λ p. p ≢ 42) run
    → Fits run text → (IsTrue r ↔ Matches (42 ∷ after) (take (length text - length run) (drop (length run) text))) → IsTrue r ↔ Matches pattern text
wild_front pattern text run after r is plain fits after_is =
    let front = front_fits run after text plain in
    let same = take_rest text (length run) in (
      λ t. subst (λ p. Matches p text) (sym is) (front.1 (fits, subst (Matches (42 ∷ after)) same (after_is.0 t))),
      λ m. after_is.1 (subst (Matches (42 ∷ after)) (sym same) (front.0 (subst (λ p. Matches p text) is m)).1),
    )

pub no_front : (pattern text run after : List ℕ) → pattern ≡ run ++ 42 ∷ after → All (λ p. p ≢ 42) run → ¬ Fits run text → ¬ Matches pattern text
no_front pattern text run after is plain other m = other ((front_fits run after text plain).0 (subst (λ p. Matches p text) is m)).0
