use Rattle.std.proofs.Common.{All, ap, ◌∙◌, length, map, subst, sym, take}
use Rattle.std.specs.Prelude.{IfSome, option_map}
use Rattle.firings.specs.Stored.{IsRowIn, firing_in, row_before}
use Rattle.firings.specs.Units.{owner_in, probe_in}
use Rattle.firings.proofs.RowsRead.{all_before, before_mapped}
use Rattle.firings.proofs.firings.Firings.rows.Goals as goal

pub invariant_of-result : goal.invariant_of-result
invariant_of-result c =
    let i = c.self.inside in
    let indices = c.args.indices.now in
    let is = IsRowIn (map owner_in i.owners) (map probe_in i.probes) c.deref.result.now in
    let found = c.rows_before.ensures ∙ ap (λ l. map (row_before l) indices) c.deref-2.ensures.value in
    let all : All is i.rows.items = subst (λ a. All (IsRowIn (map owner_in i.owners) (map probe_in i.probes) a) i.rows.items) (sym c.deref.ensures.value) c.self.invariant in
    (c.requires, subst (λ l. All (λ r. IfSome r is) l) (sym found) (all_before is i.rows.items indices all))

pub returns : goal.returns
returns c =
    let i = c.self.inside in
    let indices = c.args.indices.now in
    let made = firing_in (map owner_in i.owners) (map probe_in i.probes) i.args.items in
    let found = c.rows_before.ensures ∙ ap (λ l. map (row_before l) indices) c.deref-2.ensures.value in
    ap (λ a. map (option_map (firing_in (map owner_in i.owners) (map probe_in i.probes) a)) (take (length indices) c.rows_before.result)) c.deref.ensures.value
    ∙ ap (map (option_map made)) found ∙ before_mapped made i.rows.items indices ∙ ap (λ l. map (row_before l) indices) c.self.view_is
