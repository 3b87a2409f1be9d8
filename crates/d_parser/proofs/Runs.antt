-- The words at the front of a list.
use Rattle.std.proofs.Common.{◌≡◌, suc, ◌-◌, ◌≤◌, Bool, true, false, cond, List, [], ◌∷◌, ◌++◌}
use Rattle.std.proofs.Common.{length, take, drop, refl, ap, arith}
use Rattle.d_lexer.specs.declared.token.Token.{Token}
use Rattle.d_parser.specs.Steps.Words.{is_word, run, after_run}

abbrev pub AreWords : List Token → Type 0
AreWords [] = Unit {0}
AreWords (t ∷ ts) = (is_word t.kind ≡ true) × AreWords ts

short_by : (b : Bool) (t : Token) (ts later : List Token) → length later ≤ length ts → length (cond b later (t ∷ ts)) ≤ length (t ∷ ts)
short_by true t ts later h = omega arith
short_by false t ts later h = omega arith

pub later_short : (ts : List Token) → length (after_run ts) ≤ length ts
unfolding after_run
later_short [] = omega arith
later_short (t ∷ ts) = short_by (is_word t.kind) t ts (after_run ts) (later_short ts)

taken_by : (b : Bool) (t : Token) (ts own later : List Token) → length later ≤ length ts → take (length ts - length later) ts ≡ own → take (length (t ∷ ts) - length (cond b later (t ∷ ts))) (t ∷ ts) ≡ cond b (t ∷ own) []
taken_by true t ts own later short e =
    let n : length (t ∷ ts) - length later ≡ suc (length ts - length later) = omega arith in
    rw n (ap (λ (xs : List Token). t ∷ xs) e)
taken_by false t ts own later short e = let n : length (t ∷ ts) - length (t ∷ ts) ≡ 0 = omega arith in rw n refl

pub run_taken : (ts : List Token) → take (length ts - length (after_run ts)) ts ≡ run ts
unfolding run after_run
run_taken [] = refl
run_taken (t ∷ ts) = taken_by (is_word t.kind) t ts (run ts) (after_run ts) (later_short ts) (run_taken ts)

dropped_by : (b : Bool) (t : Token) (ts later : List Token) → length later ≤ length ts → drop (length ts - length later) ts ≡ later → drop (length (t ∷ ts) - length (cond b later (t ∷ ts))) (t ∷ ts) ≡ cond b later (t ∷ ts)
dropped_by true t ts later short e =
    let n : length (t ∷ ts) - length later ≡ suc (length ts - length later) = omega arith in
    rw n e
dropped_by false t ts later short e = let n : length (t ∷ ts) - length (t ∷ ts) ≡ 0 = omega arith in rw n refl

pub run_dropped : (ts : List Token) → drop (length ts - length (after_run ts)) ts ≡ after_run ts
unfolding run after_run
run_dropped [] = refl
run_dropped (t ∷ ts) = dropped_by (is_word t.kind) t ts (after_run ts) (later_short ts) (run_dropped ts)

pub run_is : (words rest : List Token) → AreWords words → run (words ++ rest) ≡ words ++ run rest
unfolding run
run_is [] rest h = refl
run_is (t ∷ words) rest h = rw h.0 (ap (λ (xs : List Token). t ∷ xs) (run_is words rest h.1))

pub later_is : (words rest : List Token) → AreWords words → after_run (words ++ rest) ≡ after_run rest
unfolding after_run
later_is [] rest h = refl
later_is (t ∷ words) rest h = rw h.0 (later_is words rest h.1)

are_by : (b : Bool) (t : Token) (own : List Token) → is_word t.kind ≡ b → AreWords own → AreWords (cond b (t ∷ own) [])
are_by true t own e h = (e, h)
are_by false t own e h = tt

pub are_words : (ts : List Token) → AreWords (run ts)
unfolding run
are_words [] = tt
are_words (t ∷ ts) = are_by (is_word t.kind) t (run ts) refl (are_words ts)

joined_by : (b : Bool) (t : Token) (ts own later : List Token) → ts ≡ own ++ later → t ∷ ts ≡ cond b (t ∷ own) [] ++ cond b later (t ∷ ts)
joined_by true t ts own later e = ap (λ (xs : List Token). t ∷ xs) e
joined_by false t ts own later e = refl

pub run_joined : (ts : List Token) → ts ≡ run ts ++ after_run ts
unfolding run after_run
run_joined [] = refl
run_joined (t ∷ ts) = joined_by (is_word t.kind) t ts (run ts) (after_run ts) (run_joined ts)
