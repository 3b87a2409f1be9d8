use Rattle.std.proofs.Common.{◌∙◌, sym, ap}
use Rattle.std.specs.List.{list_all}
use Rattle.replay_core.specs.Patterns.{is_same_or_question}
use Rattle.replay_core.proofs.PatternTests.{fits_there, fits_back, zip_front}
use Rattle.replay_core.proofs.selection.matching.begins.Goals as goal

pub returns-then-run-text : goal.returns-then-run-text
returns-then-run-text c =
    let same = ap (list_all is_same_or_question) (zip_front c.args.run.now c.args.text.now) in (
      λ t. (c.if-run-text.true, fits_there c.args.run.now c.args.text.now c.if-run-text.true (sym c.are_same.ensures ∙ t)),
      λ m. c.are_same.ensures ∙ sym same ∙ fits_back _ _ c.requires m.1,
    )
