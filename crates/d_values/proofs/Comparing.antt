-- What comparisons of keys return, by the laws of the tests and orders.
use Rattle.std.specs.Prelude.{◌≡◌, ◌≢◌, ◌↔◌, Bool, false, IsTrue, List, [], ◌∷◌, ◌++◌}
use Rattle.std.specs.Cmp.{tied_itself}
use Rattle.std.specs.Ordering.{ordering_then, is_eq}
use Rattle.std.proofs.Common.{refl, sym, ap, ◌∙◌, append-nil}
use Rattle.std.proofs.lemmas.Bool.{false_from_ne_true}
use Rattle.d_values.specs.Vocabulary.{Ordering, Less, Equal, Greater, KeyPart}
use Rattle.d_values.specs.Keys.{part_cmp, key_cmp, same_key, DecidesByFirstDifference}
use Rattle.d_values.specs.KeyLaws.{same_part_decides, same_key_decides, part_cmp_total}
use Rattle.d_values.specs.KeyLaws.{key_cmp_total, part_cmp_ties, key_cmp_ties}

pub same_key_true : (x y : List KeyPart) (same : Bool) → same ≡ same_key x y → IsTrue same ↔ (x ≡ y)
same_key_true x y same is =
    (λ e. (same_key_decides x y).0 (sym is ∙ e), λ e. is ∙ (same_key_decides x y).1 e)

pub not_same : (x y : List KeyPart) → x ≢ y → false ≡ same_key x y
not_same x y differ = sym (false_from_ne_true _ (λ e. differ ((same_key_decides x y).0 e)))

past_front : (front xs ys : List KeyPart) → key_cmp (front ++ xs) (front ++ ys) ≡ key_cmp xs ys
past_front [] xs ys = refl
past_front (p ∷ front) xs ys =
    ap (λ o. ordering_then o (key_cmp (front ++ xs) (front ++ ys))) (tied_itself part_cmp_total p)
    ∙ past_front front xs ys

-- where two parts differ, they decide
decides : (p q : KeyPart) (rest : Ordering) → p ≢ q
    → ordering_then (part_cmp p q) rest ≡ part_cmp p q
decides p q rest differ =
    elim (part_cmp p q) as (λ o. part_cmp p q ≡ o → ordering_then o rest ≡ o) [
      | Less ↦ λ e. refl
      | Equal ↦ λ e. absurd (differ ((same_part_decides p q).0 (part_cmp_ties p q ∙ ap is_eq e)))
      | Greater ↦ λ e. refl
    ] refl

pub key_cmp_decides : (a b : List KeyPart) (order : Ordering) → order ≡ key_cmp a b
    → DecidesByFirstDifference a b order
key_cmp_decides a b order is = record {
  beginning =
      λ p more e. is ∙ ap (key_cmp a) e ∙ ap (λ l. key_cmp l (a ++ p ∷ more)) (sym (append-nil a))
      ∙ past_front a [] (p ∷ more);
  longer =
      λ p more e. is ∙ ap (λ l. key_cmp l b) e
      ∙ ap (λ l. key_cmp (b ++ p ∷ more) l) (sym (append-nil b)) ∙ past_front b (p ∷ more) [];
  differs =
      λ front p q xs ys e f differ. is ∙ ap (λ l. key_cmp l b) e
      ∙ ap (λ l. key_cmp (front ++ p ∷ xs) l) f
      ∙ past_front front (p ∷ xs) (q ∷ ys) ∙ decides p q (key_cmp xs ys) differ;
}

pub key_cmp_equal : (a b : List KeyPart) (order : Ordering) → order ≡ key_cmp a b
    → (order ≡ Equal) ↔ (a ≡ b)
key_cmp_equal a b order is = (
  λ e. (same_key_decides a b).0 (key_cmp_ties a b ∙ ap is_eq (sym is ∙ e)),
  λ e. is ∙ ap (key_cmp a) (sym e) ∙ tied_itself key_cmp_total a,
)
