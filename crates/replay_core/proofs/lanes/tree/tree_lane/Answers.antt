use Rattle.std.proofs.Common.{◌≡◌, ◌≤◌, All, length, map, ap, subst, sym, ◌∙◌}
use Rattle.std.proofs.lemmas.List.{length-map}
use Rattle.std.proofs.lemmas.Result.{IfOk-weaker}
use Rattle.replay_core.specs.Vocabulary.{AllZip, statement_count, meant_of, typed_script_of}
use Rattle.replay_core.specs.Bounds.{AreBounded, indices_in}
use Rattle.replay_core.proofs.TreeLemmas.{all_few, all_named, few_probes, functions_same}
use Rattle.replay_core.proofs.TreeLemmas.{script_keeps, trees_mean}
use Rattle.replay_core.proofs.lanes.tree.tree_lane.Goals as goal

pub new-requires : goal.new-requires
new-requires c =
    let s = c.args.script.now in
    let many : length c.in_ok-functions.functions.items ≡ length s.aggregations.items =
    ap length c.in_ok-functions.ensures ∙ length-map s.aggregations.items (λ a. a.function) in
    subst (λ l. AreBounded (λ x. indices_in (meant_of x)) (λ x. statement_count (meant_of x)) (λ x. length x.descriptions.items) l c.in_ok-functions.functions.items) (sym c.clauses.ensures) (record {
      named = subst (λ n. All (λ x. indices_in (meant_of x) ≤ n) s.clauses.items) (sym many) (all_named s.clauses.items s.aggregations.items s.slots.items s.typed);
      few = all_few s.clauses.items s.aggregations.items s.slots.items s.typed;
      described = few_probes s.clauses.items s.aggregations.items s.slots.items s.typed;
    })

pub returns-clause-script : goal.returns-clause-script
returns-clause-script c =
    let s = c.args.script.now in
    let m = typed_script_of s in
    let trees = subst (λ l. AllZip (λ x meant. meant ≡ meant_of x) l (map meant_of s.clauses.items)) (sym c.clauses.ensures) (trees_mean s.clauses.items) in
    let functions = c.in_ok-functions.ensures ∙ functions_same s.clauses.items s.aggregations.items s.slots.items in
    IfOk-weaker c.new.result _ _ (λ l made n same. rw same (made m (record { each = trees; keep = script_keeps m s.typed }) functions)) c.new.ensures.script
