use Rattle.std.proofs.Common.{◌≡◌, ◌<◌, length, get_or, true, rules, arith, sym, ap, subst, ◌∙◌}
use Rattle.std.proofs.lemmas.List.{get_or_default, take_all, take_more_same}
use Rattle.d_values.specs.Keys.{same_part}
use Rattle.d_values.specs.KeyLaws.{same_key_decides, same_part_decides}
use Rattle.d_values.proofs.Comparing.{not_same}
use Rattle.d_values.proofs.key.are_same.Goals as goal

pub returns-then-ne : goal.returns-then-ne
returns-then-ne c =
    let a = c.args.a.now in
    let b = c.args.b.now in
    let index = c.loop-index.index in
    let x = c.index-a-index.result in
    let y = c.index-b-index.result in
    let inside : index < length a = c.loop-index-test.true in
    not_same a b (λ same.
    let parts : x ≡ y = c.index-a-index.is ∙ get_or_default a index x y inside ∙ ap (λ l. get_or l index y) same ∙ sym c.index-b-index.is in
    let is : same_part x y ≡ true = (same_part_decides x y).1 parts in
    absurd (search rules))

pub loop-index-preserved : goal.loop-index-preserved
loop-index-preserved c =
    let a = c.args.a.now in
    let b = c.args.b.now in
    let index = c.loop-index.index in
    let x = c.index-a-index.result in
    let y = c.index-b-index.result in
    let inside : index < length a = c.loop-index-test.true in
    let long : length a ≡ length b = search rules in
    let is : same_part x y ≡ true = search rules in
    let parts : x ≡ y = (same_part_decides x y).0 is in
    take_more_same a b index x inside (omega (arith, inside, long)) c.loop-index.invariant
    (sym c.index-a-index.is ∙ subst (λ d. d ≡ get_or b index d) (sym parts) c.index-b-index.is)

pub returns : goal.returns
returns c =
    let a = c.args.a.now in
    let b = c.args.b.now in
    let index = c.loop-index.index in
    let end = c.loop-index-test.false in
    let long : length a ≡ length b = search rules in
    let same : a ≡ b = sym (take_all index a (omega (arith, end))) ∙ c.loop-index.invariant ∙ take_all index b (omega (arith, end, long)) in
    sym ((same_key_decides a b).1 same)
