use Rattle.std.proofs.Common.{map, None, Some, ap, sym, ◌∙◌}
use Rattle.std.specs.Prelude.{Option}
use Rattle.firings.specs.declared.firing.Firing.{Firing}
use Rattle.firings.specs.Stored.{IsRowIn, firing_in}
use Rattle.firings.specs.Units.{owner_in, probe_in}
use Rattle.firings.proofs.RowsRead.{kept_at, seen_at}
use Rattle.firings.proofs.firing_rows.FiringRows.get.Goals as goal

pub returns-in_err-row : goal.returns-in_err-row
returns-in_err-row c =
    let i = c.self.inside in
    seen_at (firing_in (map owner_in i.owners.now) (map probe_in i.probes.now) i.args.now) i.count i.rows c.args.self.now c.self.view_is c.args.at c.requires None c.in_err-row.was
    ∙ ap (λ (o : Option Firing). Some o) (sym c.from_residual.ensures)

pub firing_of-requires : goal.firing_of-requires
firing_of-requires c =
    let i = c.self.inside in
    kept_at (firing_in (map owner_in i.owners.now) (map probe_in i.probes.now) i.args.now) i.count i.rows c.args.self.now c.self.view_is c.args.at c.requires
    (IsRowIn (map owner_in i.owners.now) (map probe_in i.probes.now) i.args.now) c.in_ok-row.row c.self.invariant.1 c.in_ok-row.was

pub returns : goal.returns
returns c =
    let i = c.self.inside in
    seen_at (firing_in (map owner_in i.owners.now) (map probe_in i.probes.now) i.args.now) i.count i.rows c.args.self.now c.self.view_is c.args.at c.requires (Some c.in_ok-row.row) c.in_ok-row.was
    ∙ ap (λ (f : Firing). Some (Some f)) (sym c.firing_of.ensures)
