use Rattle.std.proofs.Common.{All, List, map, ◌∙◌, refl}
use Rattle.firings.specs.declared.stored_row.Row.{Row}
use Rattle.firings.specs.Probing.{probe_of}
use Rattle.firing_reader.specs.Steps.Stored.{owner_of}
use Rattle.firings.specs.Stored.{IsRowIn, firing_in}
use Rattle.firings.specs.Units.{owner_in, probe_in}
use Rattle.firing_reader.proofs.RowParts.{either_row, pushed_in, row_in, row_stored, seen_pushed}
use Rattle.firing_reader.proofs.Shared.{seen_extends}
use Rattle.firings.proofs.Stored.{extends_same, rows_more, seen_all}
use Rattle.firing_reader.proofs.builder.FiringsBuilder.push.Goals as goal

pub returns-in_err-owner : goal.returns-in_err-owner
returns-in_err-owner c =
    let i = c.self.inside in
    let p = map probe_in i.probes in
    let a = i.args.items in
    rw c.from_residual.ensures (seen_all (map owner_in i.owners) (map owner_in c.keep_owner.new.owners) p p a a i.rows.items (seen_extends owner_in _ _ c.keep_owner.ensures.0) (extends_same p) (extends_same a) c.self.invariant ∙ c.self.view_is)

pub returns-in_err-probe : goal.returns-in_err-probe
returns-in_err-probe c =
    let i = c.self.inside in
    let a = i.args.items in
    rw c.from_residual-in_err-probe.ensures (seen_all (map owner_in i.owners) (map owner_in c.keep_owner.new.owners) (map probe_in i.probes) (map probe_in c.keep_probe.new.probes) a a i.rows.items (seen_extends owner_in _ _ c.keep_owner.ensures.0) (seen_extends probe_in _ _ c.keep_probe.ensures.0) (extends_same a) c.self.invariant ∙ c.self.view_is)

pub returns-in_err-first : goal.returns-in_err-first
returns-in_err-first c =
    let i = c.self.inside in
    rw c.from_residual-in_err-first.ensures (seen_all (map owner_in i.owners) (map owner_in c.keep_owner.new.owners) (map probe_in i.probes) (map probe_in c.keep_probe.new.probes) i.args.items c.keep_arguments.new.all.items i.rows.items (seen_extends owner_in _ _ c.keep_owner.ensures.0) (seen_extends probe_in _ _ c.keep_probe.ensures.0) c.keep_arguments.ensures.0 c.self.invariant
    ∙ c.self.view_is)

pub invariant_of-self-2 : goal.invariant_of-self-2
invariant_of-self-2 c =
    let i = c.self.inside in
    let o = map owner_in i.owners in
    let q = map owner_in c.keep_owner.new.owners in
    let p = map probe_in i.probes in
    let u = map probe_in c.keep_probe.new.probes in
    let a = i.args.items in
    let b = c.keep_arguments.new.all.items in
    let f = c.args.firing.now in
    let r : Row = record { number = f.number; time = f.time; owner = c.in_ok-owner.owner; probe = c.in_ok-probe.probe; first = c.in_ok-first.first; count = c.in_ok-first.count } in
    let eo = (seen_extends owner_in _ _ c.keep_owner.ensures.0) in
    let ep = (seen_extends probe_in _ _ c.keep_probe.ensures.0) in
    let ea = c.keep_arguments.ensures.0 in
    let kept = row_in q u b r (owner_of f) (probe_of f) c.in_ok-owner.ensures.1 c.in_ok-probe.ensures.1 c.in_ok-first.ensures.1.0 in
    either_row c.push_row.result (λ (l : List Row). All (IsRowIn q u b) l) i.rows.items c.push_row.new.rows.items r c.push_row.ensures
    (rows_more o q p u a b i.rows.items eo ep ea c.self.invariant) (pushed_in o q p u a b i.rows.items r eo ep ea c.self.invariant kept)

pub returns : goal.returns
returns c =
    let i = c.self.inside in
    let q = map owner_in c.keep_owner.new.owners in
    let u = map probe_in c.keep_probe.new.probes in
    let b = c.keep_arguments.new.all.items in
    let same = seen_all (map owner_in i.owners) q (map probe_in i.probes) u i.args.items b i.rows.items (seen_extends owner_in _ _ c.keep_owner.ensures.0) (seen_extends probe_in _ _ c.keep_probe.ensures.0) c.keep_arguments.ensures.0 c.self.invariant ∙ c.self.view_is in
    let f = c.args.firing.now in
    let r : Row = record { number = f.number; time = f.time; owner = c.in_ok-owner.owner; probe = c.in_ok-probe.probe; first = c.in_ok-first.first; count = c.in_ok-first.count } in
    let more = row_stored q u b i.rows.items c.args.self.now r f same c.in_ok-owner.ensures.1 c.in_ok-probe.ensures.1 (c.in_ok-first.ensures.1.1 ∙ c.stored.ensures.ten) refl refl in
    seen_pushed c.push_row.result (firing_in q u b) i.rows.items c.push_row.new.rows.items r c.args.self.now f c.push_row.ensures same more
