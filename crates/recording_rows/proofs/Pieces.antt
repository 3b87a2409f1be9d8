-- Bytes put one piece after the other.
use Rattle.std.proofs.Common.{◌≡◌, ℕ, List, [], ◌∷◌, ◌++◌, ap, refl, sym, ◌∙◌, append_assoc}
use Rattle.std.specs.Prelude.{Result, Ok, Err, OnOk, is_ok, if◌then◌else◌}
use Rattle.recording_rows.specs.Steps.Rows.{after_commas}

pub commas_more : (xs ys : List (List ℕ)) → after_commas (xs ++ ys) ≡ after_commas xs ++ after_commas ys
commas_more [] ys = refl
commas_more (x ∷ xs) ys = ap (λ (l : List ℕ). 44 ∷ l) (ap (λ (l : List ℕ). x ++ l) (commas_more xs ys) ∙ sym (append_assoc x (after_commas xs) (after_commas ys)))

-- more fields after those that were put
pub put_more : (old now after : List ℕ) (xs ys : List (List ℕ)) → now ≡ old ++ after_commas xs → after ≡ now ++ after_commas ys → after ≡ old ++ after_commas (xs ++ ys)
put_more old now after xs ys was is =
    is ∙ ap (λ (l : List ℕ). l ++ after_commas ys) was ∙ append_assoc old (after_commas xs) (after_commas ys) ∙ ap (λ (l : List ℕ). old ++ l) (sym (commas_more xs ys))

-- a number, its row's fields and the end of the line
pub put_line : {E : Type 0} (r : Result (Unit {0}) E) (old one two three four after n : List ℕ) (a b c : List (List ℕ))
    → one ≡ old ++ n → two ≡ one ++ after_commas a → three ≡ two ++ after_commas b → four ≡ three ++ after_commas c → after ≡ (if is_ok r then four ++ 10 ∷ [] else four)
    → OnOk r (after ≡ old ++ ((n ++ after_commas ((a ++ b) ++ c)) ++ 10 ∷ []))
put_line (Err e) old one two three four after n a b c was own probe given is = tt
put_line (Ok x) old one two three four after n a b c was own probe given is =
    let fields : List ℕ = after_commas ((a ++ b) ++ c) in
    let all : four ≡ one ++ fields = put_more one three four (a ++ b) c (put_more one two three a b own probe) given in
    is ∙ ap (λ (l : List ℕ). l ++ 10 ∷ []) (all ∙ ap (λ (l : List ℕ). l ++ fields) was ∙ append_assoc old n fields) ∙ append_assoc old (n ++ fields) (10 ∷ [])
