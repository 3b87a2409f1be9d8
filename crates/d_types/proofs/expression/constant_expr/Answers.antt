use Rattle.std.proofs.Common.{ap, ◌∙◌, take, append-nil}
use Rattle.d_types.specs.Typed as typed
use Rattle.d_types.proofs.expression.constant_expr.Goals as goal

pub returns-in_ok-join_text-in-Text-clause-ok : goal.returns-in_ok-join_text-in-Text-clause-ok
returns-in_ok-join_text-in-Text-clause-ok c =
    rw c.in-Text.is (ap typed.Text (c.in_ok-join_text-in-Text.ensures ∙ ap (take 255) (append-nil c.as_slice.result.now ∙ c.as_slice.ensures)))
