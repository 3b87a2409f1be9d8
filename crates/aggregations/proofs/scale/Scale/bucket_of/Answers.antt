use Rattle.std.proofs.lemmas.Int.{to_z-of_z}
use Rattle.aggregations.proofs.scale.Scale.bucket_of.Goals as goal

pub returns-in-Powers-clause-only : goal.returns-in-Powers-clause-only
returns-in-Powers-clause-only c = let x = c.ranges.x in rw c.in-Powers.is (simp to_z-of_z at c.power_bucket.ensures.only)

pub returns-in-Steps-clause-only : goal.returns-in-Steps-clause-only
returns-in-Steps-clause-only c = let x = c.ranges.x in rw c.in-Steps.is (simp to_z-of_z at c.step_bucket.ensures.only)
