use Rattle.std.proofs.Common.{◌≡◌, rules}
use Rattle.d_values.specs.Keys.{same_key}
use Rattle.d_values.proofs.Comparing.{same_key_true}
use Rattle.d_values.proofs.key.KeyPartialEq.eq.Goals as goal

pub returns-clause-meant : goal.returns-clause-meant
returns-clause-meant c =
    let is : c.are_same.result ≡ same_key c.args.self.now c.args.other.now = search rules in
    same_key_true c.args.self.now c.args.other.now c.are_same.result is
