use Rattle.std.proofs.Common.{arith, ◌∙◌}
use Rattle.firings.proofs.Texts.{asks_utf8}
use Rattle.firings.proofs.text.is_text.Goals as goal

pub returns : goal.returns
returns c =
    c.is_ok.ensures.value ∙ asks_utf8 _ _ c.args.bytes.now c.from_utf8.result (omega arith) (rw c.if-contains.false at c.contains.ensures.value) c.from_utf8.ensures.cases
