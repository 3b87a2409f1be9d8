use Rattle.std.specs.Prelude.{take}
use Rattle.std.proofs.Common.{arith}
use Rattle.std.proofs.lemmas.List.{length-take}
use Rattle.numbered.proofs.Shaped.{shape_below}
use Rattle.numbered.proofs.tuple.Tuple.shape.Goals as goal

pub returns-clause-small : goal.returns-clause-small
returns-clause-small c =
    let i = c.self.inside in
    let count = length-take i.len i.words in
    let below = shape_below (take i.len i.words) 8 (omega arith) in
    omega arith
