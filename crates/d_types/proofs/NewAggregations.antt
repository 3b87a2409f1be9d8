-- A new aggregation, and when a known one has the function of a statement.
use Rattle.std.proofs.Common.{◌≡◌, ℕ, ◌<◌, ◌≤◌, List, length, nat_le, true, false, Option, Some, None}
use Rattle.std.proofs.Common.{refl, ap, subst, arith}
use Rattle.std.proofs.lemmas.Bool.Decides.{nat_tests, Decides-int_eq}
use Rattle.std.proofs.lemmas.Bool.{eqb-true}
use Rattle.aggregations.specs.declared.function.AggFn.{AggFn}
use Rattle.aggregations.specs.declared.function.AggFn.TheVariants as fn
use Rattle.aggregations.specs.declared.linear_range.LinearRange.{LinearRange}
use Rattle.aggregations.specs.Ranges.{are_in_range}
use Rattle.std.specs.Prelude.{ℤ, ◌==◌, ◌&&◌}
use Rattle.std.specs.Ordering.{int_eq}
use Rattle.std.proofs.Math.Bool.{Bool-set}
use Rattle.std.proofs.lemmas.Cmp.{int_eq_equiv, nat_eq_equiv}
use Rattle.d_types.proofs.Bounds.{both_true}
use Rattle.d_types.specs.declared.typed.TypedExpr.{TypedExpr}
use Rattle.d_types.specs.Steps.Faults.{◌>>=◌, refuse, unless, Keys, LquantizeBounds}
use Rattle.d_types.specs.Typed.{typeds_of, Aggs}
use Rattle.d_types.specs.Needs.{count}
use Rattle.d_types.specs.Steps.Aggregations.{index_for, new_aggregation, same, is_again}
use Rattle.d_types.proofs.Rows.{count_is}

module _ (line : ℕ) (name : List ℕ) (keys : List TypedExpr) (f : Option AggFn) (aggs : Aggs) where
  pub agg_refused : 8 < length keys → index_for line name (typeds_of keys) f aggs None ≡ refuse Keys line
  agg_refused h =
      let len = count_is keys in
      let over : nat_le (count (typeds_of keys)) 8 ≡ false = grind (arith, nat_tests) in
      rw over refl

  pub agg_within : length keys ≤ 8 → index_for line name (typeds_of keys) f aggs None ≡ (unless LquantizeBounds line f >>= new_aggregation name (typeds_of keys) aggs)
  agg_within h =
      let len = count_is keys in
      let within : nat_le (count (typeds_of keys)) 8 ≡ true = grind (arith, nat_tests) in
      rw within refl

same_range : (a b : LinearRange) → a.lower ≡ b.lower → a.upper ≡ b.upper → a.step ≡ b.step → a ≡ b
same_range a b lower upper step =
    subst (λ (s : ℕ). From b.lower b.upper s) step
    (subst (λ (u : ℤ). From b.lower u a.step) upper
    (subst (λ (l : ℤ). From l a.upper a.step) lower
    (λ is. ap (λ (p : are_in_range a.lower a.upper a.step ≡ true). range a.lower a.upper a.step p) (Bool-set _ _ a.in_range is))))
    b.in_range
  where
    range : (lower upper : ℤ) (step : ℕ) → are_in_range lower upper step ≡ true → LinearRange
    range lower upper step is = record { lower = lower; upper = upper; step = step; in_range = is }

    From : (lower upper : ℤ) (step : ℕ) → Type 0
    From lower upper step = (is : are_in_range lower upper step ≡ true) → a ≡ range lower upper step is

same_is : (f g : AggFn) → same f g ≡ true → f ≡ g
same_is fn.Count fn.Count e = refl
same_is fn.Count g e = cc
same_is fn.Sum fn.Sum e = refl
same_is fn.Sum g e = cc
same_is fn.Min fn.Min e = refl
same_is fn.Min g e = cc
same_is fn.Max fn.Max e = refl
same_is fn.Max g e = cc
same_is fn.Avg fn.Avg e = refl
same_is fn.Avg g e = cc
same_is fn.Quantize fn.Quantize e = refl
same_is fn.Quantize g e = cc
same_is (fn.Lquantize a) (fn.Lquantize b) e =
    let all = both_true (int_eq a.lower b.lower && int_eq a.upper b.upper) (a.step == b.step) e in
    let bounds = both_true (int_eq a.lower b.lower) (int_eq a.upper b.upper) all.0 in
    ap (λ (r : LinearRange). fn.Lquantize r) (same_range a b ((Decides-int_eq a.lower b.lower).0 bounds.0) ((Decides-int_eq a.upper b.upper).0 bounds.1) (eqb-true a.step b.step all.1))
same_is (fn.Lquantize a) g e = cc

own_same : (f : AggFn) → same f f ≡ true
own_same fn.Count = refl
own_same fn.Sum = refl
own_same fn.Min = refl
own_same fn.Max = refl
own_same fn.Avg = refl
own_same fn.Quantize = refl
own_same (fn.Lquantize a) = rw (int_eq_equiv.refl a.lower, int_eq_equiv.refl a.upper, nat_eq_equiv.refl a.step) refl

pub again_is : (o : Option AggFn) (g : AggFn) → is_again o g ≡ true → o ≡ Some g
again_is None g e = cc
again_is (Some f) g e = ap (λ (h : AggFn). Some h) (same_is f g e)

pub is_same : (o : Option AggFn) (g : AggFn) → o ≡ Some g → is_again o g ≡ true
is_same o g e = rw e (own_same g)
