use Rattle.std.proofs.Common.{◌≡◌, ℕ, ℤ, Option, Some, rules, refl, ap, ◌∙◌, w32, to_z, of_z}
use Rattle.std.specs.Option.{option_map}
use Rattle.aggregations.specs.declared.function.AggFn.TheVariants.{Lquantize}
use Rattle.aggregations.specs.LinearRanges.{linear_range}
use Rattle.d_types.specs.Aggregations as spec
use Rattle.d_types.proofs.aggregation.buckets.Goals as goal

buckets_at : (lower upper : Option ℤ) (step : Option ℕ) (l u read_l read_u : ℤ) (s : ℕ) → lower ≡ Some l → upper ≡ Some u → step ≡ Some s
    → read_l ≡ l → read_u ≡ u → option_map Lquantize (linear_range read_l read_u s) ≡ spec.buckets_between lower upper step
buckets_at lower upper step l u read_l read_u s is_l is_u is_s l_read u_read = rw (is_l, is_u, is_s, l_read, u_read) refl

pub returns-in-Some-Some-Some : goal.returns-in-Some-Some-Some
returns-in-Some-Some-Some c =
    let some = c.in-Some-Some-Some in
    c.linear.ensures ∙ ap (option_map Lquantize) c.new.ensures
    ∙ buckets_at c.args.lower c.args.upper c.args.step some.lower some.upper (to_z w32 (of_z w32 some.lower)) (to_z w32 (of_z w32 some.upper)) some.step
    some.is-0 some.is-1 some.is-2 (search rules) (search rules)
