-- Bounds and steps that the code's integers don't hold are in no range.
use Rattle.std.proofs.Common.{◌≡◌, ◌⊎◌, inl, inr, ℕ, ◌^◌, ◌<◌, ◌≤◌, Bool, true, false, ◌&&◌, Option}
use Rattle.std.proofs.Common.{Some, None, refl, ap, ◌∙◌, arith}
use Rattle.std.specs.Prelude.{ℤ, pos, neg_ℤ, ◌≤ℤ◌, ◌<ℤ◌, int_le, int_lt, nat_le, if◌then◌else◌}
use Rattle.std.specs.Option.{option_map}
use Rattle.std.proofs.lemmas.Bool.Decides.{nat_tests}
use Rattle.std.proofs.lemmas.Int.{ints}
use Rattle.d_parser.specs.Tree as tree
use Rattle.d_parser.specs.Tree.{Tree, Trees}
use Rattle.d_parser.specs.declared.operators.UnaryOperator.TheVariants as un
use Rattle.aggregations.specs.declared.function.AggFn.TheVariants.{Lquantize}
use Rattle.aggregations.specs.LinearRanges.{linear_range, range_if}
use Rattle.aggregations.specs.Ranges.{are_in_range}
use Rattle.d_types.specs.Aggregations.{natural, whole_number, buckets_between, lquantize}
use Rattle.d_types.specs.Steps.Aggregations.{positive, negative, bound, small, lquantize_by_bounds}

pub both_true : (a b : Bool) → a && b ≡ true → (a ≡ true) × (b ≡ true)
both_true true b e = (refl, e)
both_true false b e = absurd cc

record Fits (l u : ℤ) (s : ℕ) : Type 0 where
  pub low : neg_ℤ (pos (2 ^ 31)) ≤ℤ l
  pub between : l <ℤ u
  pub high : u <ℤ pos (2 ^ 31)
  pub step : s ≤ 65535

fits : (l u : ℤ) (s : ℕ) → are_in_range l u s ≡ true → Fits l u s
fits l u s e =
    let front = both_true _ _ (both_true _ _ e).0 in
    let bounds = both_true _ _ front.0 in
    let lower = both_true _ _ bounds.0 in
    record {
      low = at_least (neg_ℤ (pos (2 ^ 31))) l lower.0;
      between = below l u lower.1;
      high = below u (pos (2 ^ 31)) bounds.1;
      step = at_most (both_true _ _ front.1).1;
    }
  where
    at_least : (a b : ℤ) → int_le a b ≡ true → a ≤ℤ b
    at_least a b e = grind (arith, ints)

    below : (a b : ℤ) → int_lt a b ≡ true → a <ℤ b
    below a b e = grind (arith, ints)

    at_most : nat_le s 65535 ≡ true → s ≤ 65535
    at_most e = grind (arith, nat_tests, e)

no_range : (l u : ℤ) (s : ℕ) → (Fits l u s → ⊥) → None ≡ option_map Lquantize (linear_range l u s)
no_range l u s f = none (are_in_range l u s) refl
  where
    none : (b : Bool) (is : are_in_range l u s ≡ b) → None ≡ option_map Lquantize (range_if l u s b is)
    none true is = absurd (f (fits l u s is))
    none false is = refl

-- ---- bounds

abbrev IsPast : ℤ → Type 0
IsPast z = (z <ℤ neg_ℤ (pos (2 ^ 31))) ⊎ (pos (2 ^ 31) ≤ℤ z)

past_lower : (z u : ℤ) (s : ℕ) → IsPast z → Fits z u s → ⊥
past_lower z u s (inl less) f = let low = f.low in absurd (omega (arith, ints))
past_lower z u s (inr more) f = let between = f.between in let high = f.high in absurd (omega (arith, ints))

past_upper : (l z : ℤ) (s : ℕ) → IsPast z → Fits l z s → ⊥
past_upper l z s (inl less) f = let low = f.low in let between = f.between in absurd (omega (arith, ints))
past_upper l z s (inr more) f = let high = f.high in absurd (omega (arith, ints))

-- the same, or what is past the code's integers
abbrev IsCut : Option ℤ → Option ℤ → Type 0
IsCut x y = (x ≡ y) ⊎ ((z : ℤ) × (x ≡ None) × (y ≡ Some z) × IsPast z)

lower_kept : (x y upper : Option ℤ) (s : Option ℕ) → IsCut x y → buckets_between x upper s ≡ buckets_between y upper s
lower_kept x y upper s (inl same) = ap (λ o. buckets_between o upper s) same
lower_kept x y upper s (inr p) = rw (p.1, p.2) (none upper s)
  where
    none : (upper : Option ℤ) (s : Option ℕ) → None ≡ buckets_between (Some p.0) upper s
    none None s = refl
    none (Some u) None = refl
    none (Some u) (Some n) = no_range p.0 u n (past_lower p.0 u n p.3)

upper_kept : (lower x y : Option ℤ) (s : Option ℕ) → IsCut x y → buckets_between lower x s ≡ buckets_between lower y s
upper_kept lower x y s (inl same) = ap (λ o. buckets_between lower o s) same
upper_kept lower x y s (inr p) = rw (p.1, p.2) (none lower s)
  where
    none : (lower : Option ℤ) (s : Option ℕ) → buckets_between lower None s ≡ buckets_between lower (Some p.0) s
    none None s = refl
    none (Some l) None = refl
    none (Some l) (Some n) = no_range l p.0 n (past_upper l p.0 n p.3)

cut_by : (b : Bool) (z : ℤ) → (b ≡ false → IsPast z) → IsCut (if b then Some z else None) (Some z)
cut_by true z f = inl refl
cut_by false z f = inr (z, refl, refl, f refl)

positive_cut : (o : Option ℕ) → IsCut (positive o) (option_map pos o)
positive_cut None = inl refl
positive_cut (Some v) = cut_by (nat_le v 2147483647) (pos v) (λ e. inr (let more : 2147483647 < v = grind (arith, nat_tests, e) in omega (arith, ints)))

negative_cut : (o : Option ℕ) → IsCut (negative o) (option_map (λ v. neg_ℤ (pos v)) o)
negative_cut None = inl refl
negative_cut (Some v) = cut_by (nat_le v 2147483648) (neg_ℤ (pos v)) (λ e. inl (let more : 2147483648 < v = grind (arith, nat_tests, e) in omega (arith, ints)))

bound_cut : (t : Tree) → IsCut (bound t) (whole_number t)
bound_cut (tree.Unary line un.Negate a) = negative_cut (natural a)
bound_cut t = positive_cut (natural t)

-- ---- steps

step_by : (lower upper : Option ℤ) (b : Bool) (n : ℕ) → (b ≡ false → 65535 < n) → buckets_between lower upper (if b then Some n else None) ≡ buckets_between lower upper (Some n)
step_by lower upper true n f = refl
step_by None upper false n f = refl
step_by (Some l) None false n f = refl
step_by (Some l) (Some u) false n f = let more = f refl in no_range l u n (λ k. let few = k.step in absurd (omega arith))

step_kept : (lower upper : Option ℤ) (s : Option ℕ) → buckets_between lower upper (small s) ≡ buckets_between lower upper s
step_kept lower upper None = refl
step_kept lower upper (Some n) = step_by lower upper (nat_le n 65535) n (λ e. grind (arith, nat_tests, e))

-- ---- both

pub lquantize_kept : (args : Trees) → lquantize_by_bounds args ≡ lquantize args
lquantize_kept (tree.more e (tree.more l (tree.more u tree.end))) =
    lower_kept (bound l) (whole_number l) (bound u) (Some 1) (bound_cut l)
    ∙ upper_kept (whole_number l) (bound u) (whole_number u) (Some 1) (bound_cut u)
lquantize_kept (tree.more e (tree.more l (tree.more u (tree.more s tree.end)))) =
    step_kept (bound l) (bound u) (natural s)
    ∙ lower_kept (bound l) (whole_number l) (bound u) (natural s) (bound_cut l)
    ∙ upper_kept (whole_number l) (bound u) (whole_number u) (natural s) (bound_cut u)
lquantize_kept args = refl
