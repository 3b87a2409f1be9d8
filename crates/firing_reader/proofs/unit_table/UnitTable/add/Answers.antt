use Rattle.std.proofs.Common.{◌≡◌, ℕ, List, Option, None, Some, true}
use Rattle.std.specs.Prelude.{IfSome, slice_get}
use Rattle.firing_reader.specs.Steps.Stored.{IsUnitOf}
use Rattle.firing_reader.proofs.Shared.{push_gains}
use Rattle.firing_reader.proofs.unit_table.UnitTable.add.Goals as goal

read_there : {E : Type 0} (R : E → List ℕ → Type 0) (units : List (List ℕ × E)) (key : List ℕ) (found : Option ℕ) (e : E) → R e key → IfSome found (λ p. slice_get units p ≡ Some (key, e))
    → IfSome found (IsUnitOf R units key true)
read_there R units key None e reads there = tt
read_there R units key (Some p) e reads there = (e, there, λ plain. reads)

pub returns : goal.returns
returns g c =
    let both = push_gains _ _ (c.args.key.now, c.in_ok-entry.entry) _ c.push.ensures in
    (both.0, read_there g.E.PlainEntry.reads _ _ _ c.in_ok-entry.entry c.in_ok-entry.ensures.reads both.1)
