use Rattle.std.proofs.Common.{◌≡◌, rules}
use Rattle.d_values.specs.Keys.{key_cmp}
use Rattle.d_values.proofs.Comparing.{key_cmp_equal, key_cmp_decides}
use Rattle.d_values.proofs.key.KeyOrd.cmp.Goals as goal

pub returns-clause-equal : goal.returns-clause-equal
returns-clause-equal c =
    let is : c.cmp.result ≡ key_cmp c.args.self.now c.args.other.now = search rules in
    key_cmp_equal c.args.self.now c.args.other.now c.cmp.result is

pub returns-clause-decided : goal.returns-clause-decided
returns-clause-decided c =
    let is : c.cmp.result ≡ key_cmp c.args.self.now c.args.other.now = search rules in
    key_cmp_decides c.args.self.now c.args.other.now c.cmp.result is
