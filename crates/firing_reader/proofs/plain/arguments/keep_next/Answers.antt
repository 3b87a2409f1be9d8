use Rattle.std.proofs.Common.{◌≡◌, ◌++◌, ◌∷◌, [], rules, arith, w64}
use Rattle.std.proofs.lemmas.Grind.{common_steps}
use Rattle.std.proofs.lemmas.Int.{to_z-of_z}
use Rattle.firing_reader.proofs.plain.arguments.keep_next.Goals as goal

pub returns : goal.returns
returns c =
    let (field, passes, read) = c.in_ok-value.ensures in
    let v = c.in_ok-value.value in
    let same = to_z-of_z w64 v (search rules) in
    let pushed : c.push.new.self.items ≡ c.args.all.now.items ++ v ∷ [] = grind (arith, common_steps) in
    (field, v, passes, read, pushed)
