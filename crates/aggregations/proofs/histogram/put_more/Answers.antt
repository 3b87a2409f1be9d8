use Rattle.std.specs.Prelude.{◌≡◌, ◌+◌, ℕ, Option, Some, nat_eq}
use Rattle.std.specs.List.{IsDistinct}
use Rattle.std.specs.Option.{unwrap_or}
use Rattle.std.proofs.Common.{ap, sym, subst, ◌∙◌}
use Rattle.std.proofs.lemmas.Cmp.{nat_eq_equiv}
use Rattle.indexmap.specs.IndexMap.{Updates, with_value_at}
use Rattle.indexmap.proofs.CallerLemmas.{keys-with_value_at, updates-with_value_at}
use Rattle.aggregations.specs.Histograms.{used_at}
use Rattle.aggregations.proofs.histogram.put_more.Goals as goal

-- what is at the index is what a look-up finds
same_pair : (a c b d : ℕ) → ◌≡◌ {A = Option (ℕ × ℕ)} (Some (a, b)) (Some (c, d)) → b ≡ d
same_pair a c b d e = let pairs : ◌≡◌ {A = ℕ × ℕ} (a, b) (c, d) = cc in ap (λ p. p.1) pairs

pub returns-clause-ok : goal.returns-clause-ok
returns-clause-ok c =
    let at = c.in-Some.ensures in
    let used = c.args.used.now in
    let i = c.in-Some.index in
    let found = c.pair_mut-count in
    let now = found.result.1.now + c.args.more in
    let same = same_pair _ _ found.result.1.now at.held (sym found.ensures.value ∙ at.entry) in
    let is : used_at used.entries c.args.bucket ≡ at.held = ap (λ o. unwrap_or o 0) at.found in (
      subst (λ n. Updates nat_eq used (with_value_at used i now) c.args.bucket (Some (n + c.args.more))) (same ∙ sym is)
          (updates-with_value_at used i now nat_eq_equiv found.ensures.unique c.args.bucket at.held at.entry),
      subst (IsDistinct nat_eq) (sym (keys-with_value_at used i now)) found.ensures.unique,
    )
