-- What the loops keep.
use Rattle.std.proofs.Common.{◌≡◌, ℕ, suc, ◌+◌, List, [], ◌∷◌, ◌++◌, Option, Some, None, Result, Ok}
use Rattle.std.proofs.Common.{Err, refl, arith, append_assoc}
use Rattle.d_lexer.specs.Steps.Scan.{one_longer, with_byte, skip_one}
use Rattle.d_lexer.specs.declared.fault.Flaw.{Flaw}

-- n more, where there is a length
abbrev pub longer : ℕ → Option ℕ → Option ℕ
longer n None = None
longer n (Some m) = Some (n + m)

pub longer_one : (n : ℕ) (o : Option ℕ) → longer (n + 1) o ≡ longer n (one_longer o)
longer_one n None = refl
longer_one n (Some m) = let e : (n + 1) + m ≡ n + suc m = omega arith in rw e refl

-- the same after good bytes of a text constant
abbrev pub later_text : List ℕ → ℕ → Result (List ℕ × ℕ) Flaw → Result (List ℕ × ℕ) Flaw
later_text w n (Err g) = Err g
later_text w n (Ok t) = Ok (w ++ t.0, n + t.1)

pub later_none : (r : Result (List ℕ × ℕ) Flaw) → later_text [] 0 r ≡ r
later_none (Err g) = refl
later_none (Ok t) = let k : 0 + t.1 ≡ t.1 = omega arith in rw k refl

pub later_plain : (w : List ℕ) (n x : ℕ) (r : Result (List ℕ × ℕ) Flaw) → later_text (w ++ x ∷ []) (n + 1) r ≡ later_text w n (with_byte x r)
later_plain w n x (Err g) = refl
later_plain w n x (Ok t) = let k : (n + 1) + t.1 ≡ n + suc t.1 = omega arith in rw (append_assoc w (x ∷ []) t.0, k) refl

pub later_escape : (w : List ℕ) (n x : ℕ) (r : Result (List ℕ × ℕ) Flaw) → later_text (w ++ x ∷ []) (n + 2) r ≡ later_text w n (skip_one (with_byte x r))
later_escape w n x (Err g) = refl
later_escape w n x (Ok t) = let k : (n + 2) + t.1 ≡ n + suc (suc t.1) = omega arith in rw (append_assoc w (x ∷ []) t.0, k) refl

pub ruleset later = (later_none, later_plain, later_escape)
