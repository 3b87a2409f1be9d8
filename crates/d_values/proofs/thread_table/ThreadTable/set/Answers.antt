use Rattle.std.proofs.Common.{sym, ap, ◌∙◌, subst}
use Rattle.d_values.specs.Stores.{value_to_keep, own_entry, own_of, with_own, AreOwn}
use Rattle.d_values.specs.Tables.{pairs_of}
use Rattle.std.proofs.lemmas.Result.{on_ok_weaker}
use Rattle.d_values.proofs.Storing.{AreOwn-set, own_of-set, pairs_sets, on_either}
use Rattle.d_values.proofs.thread_table.ThreadTable.set.Goals as goal

pub invariant_of-self : goal.invariant_of-self
invariant_of-self c =
    let old = c.self.inside.variables.entries in
    let new = c.put.new.variables.entries in
    on_either c.put.result c.put.ensures.ok c.put.ensures.err
    (λ s. AreOwn-set (pairs_of old) (pairs_of new) c.args.var c.args.key.now c.args.value c.self.invariant c.requires
    (pairs_sets old new c.args.var c.args.key.now (value_to_keep c.args.value) s))
    (λ e. subst AreOwn (sym e) c.self.invariant)

pub returns-clause-ok : goal.returns-clause-ok
returns-clause-ok c =
    let old = c.self.inside.variables.entries in
    let new = c.put.new.variables.entries in
    on_ok_weaker c.put.result (λ s.
    own_of-set (pairs_of old) (pairs_of new) c.args.var c.args.key.now c.args.value c.requires (pairs_sets old new c.args.var c.args.key.now (value_to_keep c.args.value) s)
    ∙ ap (λ t. with_own (own_of t) c.args.var c.args.key.now c.args.value) c.self.view_is) c.put.ensures.ok

pub returns-clause-kept : goal.returns-clause-kept
returns-clause-kept c =
    let old = c.self.inside.variables.entries in
    let new = c.put.new.variables.entries in
    on_ok_weaker c.put.result (λ s.
    (λ i v k. pairs_sets old new c.args.var c.args.key.now (value_to_keep c.args.value) s v k i)
    ∙ ap (λ t. with_own (own_entry t) c.args.var c.args.key.now (value_to_keep c.args.value)) c.self.view_is) c.put.ensures.ok
