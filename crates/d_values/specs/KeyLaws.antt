-- The laws of the comparisons of parts and keys: each test decides `≡`, and each order is total and
-- ties nothing else.
use Rattle.std.specs.Prelude.{◌≡◌, ℕ, List, [], ℤ, pos}
use Rattle.std.specs.Cmp.{signed_Decides, nat_cmp_total, int_cmp_total, on_total, then_total}
use Rattle.std.specs.Cmp.Lexicographic.{pointwise_decides, lists_total, lists_ties}
use Rattle.std.specs.Ordering.{on, then_cmp, ordering_then}
use Rattle.std.proofs.Common.{refl, sym, ap, ◌∙◌, subst}
use Rattle.d_values.specs.Vocabulary.{Decides, IsEquivalence, IsTotalOrder, decided, nat_cmp}
use Rattle.d_values.specs.Vocabulary.{int_cmp, eq_by_cmp, Ordering, Less, Equal, Greater, KeyPart}
use Rattle.d_values.specs.declared.key.KeyPart.TheVariants.{Number, Name}
use Rattle.d_values.specs.Texts.{text_cmp, same_text_decides, text_cmp_total, text_cmp_ties}
use Rattle.d_values.specs.Keys.{part_cmp, key_cmp, same_part, same_key}

-- ---- the tests decide `≡`

pub same_part_decides : (x y : KeyPart) → Decides (same_part x y) (x ≡ y)
same_part_decides (Number x) (Number y) =
    (λ e. ap Number ((signed_Decides x y).0 e), λ e. (signed_Decides x y).1 cc)
same_part_decides (Number x) (Name y) = (λ e. cc, λ e. cc)
same_part_decides (Name x) (Number y) = (λ e. cc, λ e. cc)
same_part_decides (Name x) (Name y) =
    (λ e. ap Name ((same_text_decides x y).0 e), λ e. (same_text_decides x y).1 cc)

pub same_part_equiv : IsEquivalence same_part
same_part_equiv = decided same_part same_part_decides

-- ---- the orders are total

-- a part as kind, integer and text, which decide in turn
kind_of : KeyPart → ℕ
kind_of (Number x) = 0
kind_of (Name x) = 1

number_of : KeyPart → ℤ
number_of (Number x) = x
number_of (Name x) = pos 0

name_of : KeyPart → List ℕ
name_of (Number x) = []
name_of (Name x) = x

in_turn : KeyPart → KeyPart → Ordering
in_turn = then_cmp (on kind_of nat_cmp) (then_cmp (on number_of int_cmp) (on name_of text_cmp))

then_Equal : (r : Ordering) → ordering_then r Equal ≡ r
then_Equal Less = refl
then_Equal Equal = refl
then_Equal Greater = refl

in_turn-is : (x y : KeyPart) → in_turn x y ≡ part_cmp x y
unfolding in_turn kind_of number_of name_of
in_turn-is (Number x) (Number y) = then_Equal (int_cmp x y)
in_turn-is (Number x) (Name y) = refl
in_turn-is (Name x) (Number y) = refl
in_turn-is (Name x) (Name y) = refl

in_turn_total : IsTotalOrder in_turn
unfolding in_turn
in_turn_total =
    then_total (on_total kind_of nat_cmp_total)
    (then_total (on_total number_of int_cmp_total) (on_total name_of text_cmp_total))

pub part_cmp_total : IsTotalOrder part_cmp
part_cmp_total = subst IsTotalOrder (λ i x y. in_turn-is x y i) in_turn_total

pub key_cmp_total : IsTotalOrder key_cmp
key_cmp_total = lists_total part_cmp_total

-- ---- the orders tie what is the same, and nothing else

pub part_cmp_ties : (x y : KeyPart) → same_part x y ≡ eq_by_cmp part_cmp x y
part_cmp_ties (Number x) (Number y) = refl
part_cmp_ties (Number x) (Name y) = refl
part_cmp_ties (Name x) (Number y) = refl
part_cmp_ties (Name x) (Name y) = text_cmp_ties x y

ties_decide : (x y : KeyPart) → Decides (eq_by_cmp part_cmp x y) (x ≡ y)
ties_decide x y = (
  λ e. (same_part_decides x y).0 (part_cmp_ties x y ∙ e),
  λ e. sym (part_cmp_ties x y) ∙ (same_part_decides x y).1 e,
)

pub same_key_decides : (x y : List KeyPart) → Decides (same_key x y) (x ≡ y)
same_key_decides = pointwise_decides ties_decide

pub same_key_equiv : IsEquivalence same_key
same_key_equiv = decided same_key same_key_decides

pub key_cmp_ties : (x y : List KeyPart) → same_key x y ≡ eq_by_cmp key_cmp x y
key_cmp_ties = lists_ties part_cmp (λ x y. refl)
