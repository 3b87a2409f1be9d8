use Rattle.std.proofs.Common.{rules, sym, eqb-true}
use Rattle.replay_core.proofs.Stars.{wild_front, no_front, run_long, fits_whole}
use Rattle.replay_core.proofs.selection.matching.is_match.Goals as goal

pub returns-then-begins : goal.returns-then-begins
returns-then-begins c = wild_front _ _ c.in-Some.run'.now c.in-Some.behind.now _ c.in-Some.ensures.1 c.in-Some.ensures.0 (search rules) c.is_match_anywhere.ensures

pub returns-else-begins : goal.returns-else-begins
returns-else-begins c =
    let no = c.if-begins.false in
    (λ t. cc, λ m. absurd (no_front _ _ c.in-Some.run'.now c.in-Some.behind.now c.in-Some.ensures.1 c.in-Some.ensures.0 (λ fits. let yes = c.begins-in-Some.ensures.1 fits in cc) m))

pub returns-then-pattern-text : goal.returns-then-pattern-text
returns-then-pattern-text c = fits_whole _ _ _ c.if-pattern-text.true c.begins.ensures

pub returns-else-pattern-text : goal.returns-else-pattern-text
returns-else-pattern-text c = (λ t. absurd (c.if-pattern-text.false (eqb-true _ _ t)), λ m. absurd (c.if-pattern-text.false (sym (run_long _ _ c.in-None.ensures m))))
