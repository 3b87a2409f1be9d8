-- Texts: when they are the same, their order, and how long they are.
-- Source: Dynamic Tracing Guide, "Strings".
use Rattle.std.specs.Prelude.{◌≡◌, ℕ, Bool, List, ◌++◌, take, nat_eq}
use Rattle.std.specs.Bool.{Decides}
use Rattle.std.specs.Cmp.{IsEquivalence, IsTotalOrder}
use Rattle.std.specs.Cmp.Lexicographic.{pointwise, slice_cmp, bytes_decides, nat_list_eq_equiv}
use Rattle.std.specs.Cmp.Lexicographic.{nat_list_cmp_total, texts_ties}
use Rattle.std.specs.Ordering.{nat_cmp, eq_by_cmp}
use Rattle.std.specs.declared.cmp.Ordering.{Ordering}

-- the same bytes
abbrev pub same_text : List ℕ → List ℕ → Bool
same_text = pointwise nat_eq

-- texts by their bytes, from left to right: the first byte that differs decides, and a beginning
-- comes first
abbrev pub text_cmp : List ℕ → List ℕ → Ordering
text_cmp = slice_cmp nat_cmp

-- the test decides `≡`
pub same_text_decides : (x y : List ℕ) → Decides (same_text x y) (x ≡ y)
same_text_decides = bytes_decides

pub same_text_equiv : IsEquivalence same_text
same_text_equiv = nat_list_eq_equiv

pub text_cmp_total : IsTotalOrder text_cmp
text_cmp_total = nat_list_cmp_total

-- the order ties the same texts, and no others
pub text_cmp_ties : (x y : List ℕ) → same_text x y ≡ eq_by_cmp text_cmp x y
text_cmp_ties = texts_ties

-- how many bytes a text of the language has at most
abbrev pub longest : ℕ
longest = 255

-- both texts, one after the other, cut to the first of those bytes
abbrev pub joined_text : List ℕ → List ℕ → List ℕ
joined_text a b = take longest (a ++ b)
