use Rattle.std.proofs.Common.{sym, ap, ◌∙◌}
use Rattle.std.specs.Prelude.{unwrap_or}
use Rattle.d_values.specs.Stores.{kind_of, blank, own_of}
use Rattle.d_values.specs.Tables.{pairs_of}
use Rattle.d_values.proofs.Storing.{own_entry-pairs_of, kind_of-own_of}
use Rattle.d_values.proofs.thread_table.ThreadTable.get.Goals as goal

pub returns-clause-value : goal.returns-clause-value
returns-clause-value c =
    c.find.ensures
    ∙ ap (λ o. unwrap_or o (blank c.args.var.kind)) (sym (own_entry-pairs_of c.self.inside.variables.entries c.args.var c.args.key.now))
    ∙ ap (λ t. own_of t c.args.var c.args.key.now) c.self.view_is

pub returns-clause-kind : goal.returns-clause-kind
returns-clause-kind c =
    let maps = c.self.inside.variables.entries in
    ap kind_of (c.find.ensures ∙ ap (λ o. unwrap_or o (blank c.args.var.kind)) (sym (own_entry-pairs_of maps c.args.var c.args.key.now)))
    ∙ kind_of-own_of (pairs_of maps) c.args.var c.args.key.now c.self.invariant
