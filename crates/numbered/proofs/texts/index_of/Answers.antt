use Rattle.std.specs.Prelude.{◌≡◌, IfSome, Some}
use Rattle.std.proofs.Common.{ap, sym, ◌∙◌, subst}
use Rattle.std.proofs.lemmas.Map.Made.{IfSome-find_same}
use Rattle.d_values.specs.Texts.{same_text_decides}
use Rattle.numbered.proofs.texts.index_of.Goals as goal

pub returns : goal.returns
returns c =
    let found = IfSome-find_same same_text_decides c.args.text.now c.args.texts.now.keys in
    let same = subst (λ o. IfSome o (λ k. k ≡ c.args.text.now)) (sym c.in_ok-index.ensures.key) found in
    c.in_ok-index.ensures.stored ∙ ap Some same
