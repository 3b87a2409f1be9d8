-- Facts on lists.
use Rattle.std.proofs.Common.{◌≡◌, zero, suc, ℕ, ◌+◌, ◌<◌, List, [], ◌∷◌, ◌++◌, All, length, take}
use Rattle.std.proofs.Common.{drop, get_or, ap, ◌∙◌, add-one, subst, sym, arith}
use Rattle.std.proofs.Math.Seq.{drop-cons}
use Rattle.std.proofs.lemmas.List.{take_more}
use Rattle.std.proofs.lemmas.List.Elements.{All-append}

pub all_head : {X : Type 0} (P : X → Type 0) (xs : List X) (x : X) (ys : List X) → All P xs → xs ≡ x ∷ ys → P x
all_head P xs x ys all is = subst (λ (zs : List _). All P zs) is all 0 x (omega arith)

pub all_tail : {X : Type 0} (P : X → Type 0) (xs : List X) (x : X) (ys : List X) → All P xs → xs ≡ x ∷ ys → All P ys
all_tail P xs x ys all is k d lt = subst (λ (zs : List _). All P zs) is all (suc k) d (omega arith)

pub all_push : {X : Type 0} (P : X → Type 0) (xs ys : List X) (x : X) → All P xs → P x → ys ≡ xs ++ x ∷ [] → All P ys
all_push P xs ys x all here is = subst (λ (zs : List _). All P zs) (sym is) (All-append P xs (x ∷ []) all (one P x here))
  where
    one : {X : Type 0} (P : X → Type 0) (x : X) → P x → All P (x ∷ [])
    one P x here zero d lt = here
    one P x here (suc k) d lt = absurd (omega arith)

pub all_cons : {X : Type 0} (P : X → Type 0) (x : X) (xs : List X) → P x → All P xs → All P (x ∷ xs)
all_cons P x xs here all zero d lt = here
all_cons P x xs here all (suc k) d lt = all k d (omega arith)

pub drop_next : {A : Type 0} (xs : List A) (i : ℕ) (x : A) → i < length xs → get_or xs i x ≡ x → drop i xs ≡ x ∷ drop (i + 1) xs
drop_next xs i x lt item = drop-cons xs i x lt ∙ ap (λ j. get_or xs i x ∷ drop j xs) (sym (add-one i)) ∙ ap (λ y. y ∷ drop (i + 1) xs) item

pub take_next : {A : Type 0} (xs : List A) (i : ℕ) (x : A) → i < length xs → get_or xs i x ≡ x → take (i + 1) xs ≡ take i xs ++ x ∷ []
take_next xs i x lt item = take_more xs i x lt ∙ ap (λ y. take i xs ++ y ∷ []) item

-- functions that agree everywhere are the same
pub fun_ext : {A B : Type 0} (f g : A → B) → ((x : A) → f x ≡ g x) → f ≡ g
fun_ext f g same = λ i x. same x i
