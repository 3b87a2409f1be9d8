use Rattle.std.proofs.Common.{All, List, ap, map, ◌∙◌, refl}
use Rattle.firings.specs.declared.stored_row.Row.{Row}
use Rattle.firings.specs.Stored.{IsRowIn, firing_in}
use Rattle.firings.specs.Units.{owner_in, probe_in}
use Rattle.firing_reader.proofs.RowParts.{either_row, pushed_in}
use Rattle.firing_reader.proofs.Shared.{seen_extends}
use Rattle.firings.proofs.Stored.{rows_more, seen_all, stored}
use Rattle.firing_reader.proofs.builder.FiringsBuilder.read_row.Goals as goal

pub invariant_of-self : goal.invariant_of-self
invariant_of-self c =
    let i = c.self.inside in
    let e = c.row.ensures in
    rows_more (map owner_in i.owners) (map owner_in c.row.new.owners) (map probe_in i.probes) (map probe_in c.row.new.probes) i.args.items c.row.new.args.items i.rows.items (seen_extends owner_in _ _ e.owners) (seen_extends probe_in _ _ e.probes) e.args c.self.invariant

pub returns-in_err-row : goal.returns-in_err-row
returns-in_err-row c =
    let i = c.self.inside in
    let e = c.row.ensures in
    let same = seen_all (map owner_in i.owners) (map owner_in c.row.new.owners) (map probe_in i.probes) (map probe_in c.row.new.probes) i.args.items c.row.new.args.items i.rows.items (seen_extends owner_in _ _ e.owners) (seen_extends probe_in _ _ e.probes) e.args c.self.invariant ∙ c.self.view_is in
    rw c.from_residual.ensures same

pub invariant_of-self-2 : goal.invariant_of-self-2
invariant_of-self-2 c =
    let i = c.self.inside in
    let o = map owner_in i.owners in
    let q = map owner_in c.row.new.owners in
    let p = map probe_in i.probes in
    let u = map probe_in c.row.new.probes in
    let a = i.args.items in
    let b = c.row.new.args.items in
    let e = c.row.ensures in
    let r = c.in_ok-row.row in
    either_row c.push_row.result (λ (l : List Row). All (IsRowIn q u b) l) i.rows.items c.push_row.new.rows.items r c.push_row.ensures
    (rows_more o q p u a b i.rows.items (seen_extends owner_in _ _ e.owners) (seen_extends probe_in _ _ e.probes) e.args c.self.invariant) (pushed_in o q p u a b i.rows.items r (seen_extends owner_in _ _ e.owners) (seen_extends probe_in _ _ e.probes) e.args c.self.invariant c.in_ok-row.ensures.inside)

pub returns-in_err-push_row : goal.returns-in_err-push_row
returns-in_err-push_row c =
    let i = c.self.inside in
    let q = map owner_in c.row.new.owners in
    let u = map probe_in c.row.new.probes in
    let b = c.row.new.args.items in
    let e = c.row.ensures in
    let same = seen_all (map owner_in i.owners) q (map probe_in i.probes) u i.args.items b i.rows.items (seen_extends owner_in _ _ e.owners) (seen_extends probe_in _ _ e.probes) e.args c.self.invariant ∙ c.self.view_is in
    rw c.from_residual-in_err-push_row.ensures (ap (map (firing_in q u b)) c.in_err-push_row.ensures ∙ same)

pub returns : goal.returns
returns c =
    let i = c.self.inside in
    let q = map owner_in c.row.new.owners in
    let u = map probe_in c.row.new.probes in
    let b = c.row.new.args.items in
    let e = c.row.ensures in
    let same = seen_all (map owner_in i.owners) q (map probe_in i.probes) u i.args.items b i.rows.items (seen_extends owner_in _ _ e.owners) (seen_extends probe_in _ _ e.probes) e.args c.self.invariant ∙ c.self.view_is in
    let r = c.in_ok-row.row in
    let h = c.in_ok-row.ensures in
    (firing_in q u b r, rw c.in_ok-push_row.ensures (stored q u b i.rows.items r (firing_in q u b r) c.args.self.now same refl), h.row, rw c.last_number-last.ensures at h.rises)
