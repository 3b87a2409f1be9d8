use Rattle.std.proofs.Common.{sym, ◌∙◌}
use Rattle.firings.proofs.Texts.{own_text}
use Rattle.firings.proofs.text.Text.from_bytes.Goals as goal

pub invariant_of-result : goal.invariant_of-result
invariant_of-result c = own_text c.args.bytes.now (sym c.is_text.ensures ∙ c.if-not-is_text.false)
