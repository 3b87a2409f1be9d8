use Rattle.std.proofs.Common.{◌≡◌, rules}
use Rattle.std.specs.Prelude.{IfOk}
use Rattle.std.proofs.lemmas.Result.{IfOk-weaker}
use Rattle.firings.proofs.trace.Trace.threads.Goals as goal

pub returns-clause-same : goal.returns-clause-same
returns-clause-same c =
    let keys : IfOk c.collect.result (λ v. v.items ≡ c.in_ok-seen.seen.keys) = search rules in
    IfOk-weaker c.collect.result _ _ (λ v is t. rw is (rw (← c.self.view_is) (c.in_ok-seen.ensures t))) keys
