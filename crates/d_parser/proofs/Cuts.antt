-- Bytes before and after a colon.
use Rattle.std.proofs.Common.{◌≡◌, ℕ, suc, ◌-◌, ◌<◌, Bool, true, false, cond, List, [], ◌∷◌, length}
use Rattle.std.proofs.Common.{take, Option, Some, None, refl, ap, arith}
use Rattle.std.specs.Prelude.{◌==◌}
use Rattle.d_parser.specs.Steps.Script.{colon, before_colon, after_colon}

whole_by : (b : Bool) (x : ℕ) (bytes before : List ℕ) (o : Option (List ℕ)) → (o ≡ None → before ≡ bytes) → cond b (Some bytes) o ≡ None → cond b [] (x ∷ before) ≡ x ∷ bytes
whole_by true x bytes before o f e = absurd cc
whole_by false x bytes before o f e = ap (λ (xs : List ℕ). x ∷ xs) (f e)

pub whole_field : (bytes : List ℕ) → after_colon bytes ≡ None → before_colon bytes ≡ bytes
unfolding before_colon after_colon
whole_field [] e = refl
whole_field (x ∷ bytes) e = whole_by (x == colon) x bytes (before_colon bytes) (after_colon bytes) (whole_field bytes) e

shorter_by : (b : Bool) (x : ℕ) (bytes rest : List ℕ) (o : Option (List ℕ)) → (o ≡ Some rest → length rest < length bytes) → cond b (Some bytes) o ≡ Some rest → length rest < length (x ∷ bytes)
shorter_by true x bytes rest o f e = let same : bytes ≡ rest = cc in let l : length bytes ≡ length rest = ap length same in omega arith
shorter_by false x bytes rest o f e = let less = f e in omega arith

pub shorter : (bytes rest : List ℕ) → after_colon bytes ≡ Some rest → length rest < length bytes
unfolding after_colon
shorter [] rest e = absurd cc
shorter (x ∷ bytes) rest e = shorter_by (x == colon) x bytes rest (after_colon bytes) (shorter bytes rest) e

field_by : (b : Bool) (x : ℕ) (bytes before rest : List ℕ) (o : Option (List ℕ)) → (o ≡ Some rest → length rest < length bytes) → (o ≡ Some rest → take (length bytes - length rest - 1) bytes ≡ before) → cond b (Some bytes) o ≡ Some rest → take (length (x ∷ bytes) - length rest - 1) (x ∷ bytes) ≡ cond b [] (x ∷ before)
field_by true x bytes before rest o f g e =
    let same : bytes ≡ rest = cc in
    let l : length bytes ≡ length rest = ap length same in
    let n : length (x ∷ bytes) - length rest - 1 ≡ 0 = omega arith in
    rw n refl
field_by false x bytes before rest o f g e =
    let less = f e in
    let n : length (x ∷ bytes) - length rest - 1 ≡ suc (length bytes - length rest - 1) = omega arith in
    rw n (ap (λ (xs : List ℕ). x ∷ xs) (g e))

pub first_field : (bytes rest : List ℕ) → after_colon bytes ≡ Some rest → take (length bytes - length rest - 1) bytes ≡ before_colon bytes
unfolding before_colon after_colon
first_field [] rest e = absurd cc
first_field (x ∷ bytes) rest e = field_by (x == colon) x bytes (before_colon bytes) rest (after_colon bytes) (shorter bytes rest) (first_field bytes rest) e

pub ruleset fields = (whole_field, first_field, shorter)
