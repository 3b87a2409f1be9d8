use Rattle.std.proofs.Common.{◌∷◌, arith, leb-true, sym, subst}
use Rattle.replay_core.specs.Patterns.{Matches}
use Rattle.replay_core.proofs.Stars.{last_fits, fits_last}
use Rattle.replay_core.proofs.selection.matching.is_match_anywhere.Goals as goal

pub returns-in_default-behind_first : goal.returns-in_default-behind_first
returns-in_default-behind_first c =
    let e = c.in-Some.ensures.1 in
    (λ t. cc, λ m. absurd (c.in_default-behind_first.ensures _ (subst (λ p. Matches (42 ∷ p) c.loop-run.text.now) e (c.loop-run.invariant.0 m))))

pub loop-run-preserved : goal.loop-run-preserved
loop-run-preserved c =
    let e = c.in-Some.ensures.1 in
    let serves = c.in-Some-behind_first.ensures c.in-Some.behind.now in (
      λ m. serves.0 (subst (λ p. Matches (42 ∷ p) c.loop-run.text.now) e (c.loop-run.invariant.0 m)),
      λ m. c.loop-run.invariant.1 (subst (λ p. Matches (42 ∷ p) c.loop-run.text.now) (sym e) (serves.1 m)),
    )

pub returns-then-pattern-text : goal.returns-then-pattern-text
returns-then-pattern-text c =
    let last = last_fits c.loop-run.pattern.now c.loop-run.text.now c.in_default.ensures in
    let whole = fits_last c.loop-run.pattern.now c.loop-run.text.now c.begins.result c.if-pattern-text.true c.begins.ensures in
    (λ t. c.loop-run.invariant.1 (last.1 (c.if-pattern-text.true, whole.0 t)), λ m. whole.1 (last.0 (c.loop-run.invariant.0 m)).1)

pub returns-else-pattern-text : goal.returns-else-pattern-text
returns-else-pattern-text c =
    let last = last_fits c.loop-run.pattern.now c.loop-run.text.now c.in_default.ensures in (
      λ t. absurd (let le = leb-true _ _ t in omega (arith, le)),
      λ m. absurd (let le = (last.0 (c.loop-run.invariant.0 m)).0 in omega (arith, le)),
    )
