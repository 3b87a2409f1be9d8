-- Bytes put one piece after the other.
use Rattle.std.proofs.Common.{◌≡◌, ℕ, List, ◌++◌, ap, ◌∙◌, append_assoc}
use Rattle.std.specs.Prelude.{Result, Ok, Err, OnOk, if◌then◌else◌, is_ok}

-- one more piece
pub put_more : (old now after piece more : List ℕ) → now ≡ old ++ piece → after ≡ now ++ more → after ≡ old ++ (piece ++ more)
put_more old now after piece more was is = is ∙ ap (λ l. l ++ more) was ∙ append_assoc old piece more

-- the last, where what the call gives is returned
pub put_last : {E : Type 0} (r : Result (Unit {0}) E) (old now after piece more : List ℕ) → now ≡ old ++ piece
    → after ≡ (if is_ok r then now ++ more else now) → OnOk r (after ≡ old ++ (piece ++ more))
put_last (Ok x) old now after piece more was is = put_more old now after piece more was is
put_last (Err e) old now after piece more was is = tt
