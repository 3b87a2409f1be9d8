use Rattle.std.proofs.lemmas.Result.{on_ok_weaker}
use Rattle.recording_rows.proofs.rows.Rows.add.Goals as goal

pub returns : goal.returns
returns c = on_ok_weaker c.put-2.result (λ next before ends. next before (c.in_ok-put.ensures before ends)) c.put-2.ensures
