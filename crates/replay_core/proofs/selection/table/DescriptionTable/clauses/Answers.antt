use Rattle.std.proofs.Common.{rules, ◌≡◌, ◌≤◌, ◌∙◌, Some, ap, ap₂, filter, length, map, subst, sym}
use Rattle.std.proofs.Common.{slice_get}
use Rattle.std.proofs.lemmas.Option.{slice_get-get_or}
use Rattle.replay_core.specs.Steps.Described.{hash_sought, is_found}
use Rattle.replay_core.specs.Steps.Indices.{merge}
use Rattle.replay_core.specs.Uniting.{InOrder, with_number}
use Rattle.replay_core.proofs.DescribedLemmas.{all_kinds, clauses_selected, found_all}
use Rattle.replay_core.proofs.DescribedLemmas.{given_in_order, kind_more, none_yet, indices_given}
use Rattle.replay_core.proofs.selection.table.DescriptionTable.clauses.Goals as goal

pub loop-kind-init : goal.loop-kind-init
loop-kind-init c = λ ds t. c.new-clauses.ensures.items ∙ sym (ap (map (λ x. x.1.clause)) (none_yet c.args.probe.now t.all))

pub loop-kind-preserved : goal.loop-kind-preserved
loop-kind-preserved c = λ ds t.
    let p = c.args.probe.now in
    let k = c.loop-kind.kind in
    let s = c.args.self.now in
    let kind = c.like-item.result in
    let there = slice_get-get_or c.deref-like-items.result.now k kind c.loop-kind-test.true ∙ ap Some (sym c.like-item.is) in
    let at : slice_get s.kinds.items k ≡ Some kind = subst (λ l. slice_get l k ≡ Some kind) c.deref-like-items.ensures.value there in
    let hash : c.hash_sought-hash.result ≡ hash_sought s.hash_key kind p = c.hash_sought-hash.ensures in
    let found : c.in_ok-found.found.items ≡ map (λ x. x.1.clause) (filter (is_found k p) t.all) =
    c.in_ok-found.ensures t.sorted.order
    ∙ ap (λ l. map (λ x. x.1.clause) (filter (is_found k p) l)) (t.sorted.each c.hash_sought-hash.result ∙ ap (λ h. with_number h t.all) hash)
    ∙ ap (map (λ x. x.1.clause)) (found_all s.hash_key s.kinds.items p k kind at t.all t.kinds) in
    c.in_ok-clauses.ensures ∙ ap₂ (λ a b. merge a b) (c.loop-kind.invariant ds t) found
    ∙ kind_more k p t.all (subst InOrder (sym t.are) (given_in_order ds))

pub returns : goal.returns
returns c = λ ds t.
    let p = c.args.probe.now in
    let s = c.args.self.now in
    let past : length s.kinds.items ≤ c.loop-kind.kind = search rules in
    c.loop-kind.invariant ds t ∙ all_kinds s.hash_key s.kinds.items c.loop-kind.kind p t.all past t.kinds ∙ ap (clauses_selected p) t.are ∙ indices_given p 0 ds
