use Rattle.std.proofs.Common.{◌≡◌, ◌≤◌, All, length, map, ap, subst, sym, ◌∙◌}
use Rattle.std.proofs.lemmas.List.{length-map}
use Rattle.std.proofs.lemmas.Result.{IfOk-weaker}
use Rattle.replay_core.specs.Vocabulary.{AllZip, slots_of, IsSameClause, action_code}
use Rattle.replay_core.specs.Bounds.{AreBounded, indices_among}
use Rattle.replay_core.proofs.ProgramLemmas.{program_few, program_few_probes, program_named}
use Rattle.replay_core.proofs.TreeLemmas.{script_keeps}
use Rattle.replay_core.proofs.lanes.compiled.dif_lane.Goals as goal

pub new-requires : goal.new-requires
new-requires c =
    let (m, compiled) = c.requires in
    let p = c.args.program.now in
    let many : length c.in_ok-functions.functions.items ≡ length m.aggregations =
    ap length (c.in_ok-functions.ensures.items ∙ c.aggs.ensures ∙ compiled.program.have_functions) ∙ length-map m.aggregations (λ a. a.function) in
    subst (λ l. AreBounded (λ x. indices_among (map action_code x.actions.items)) (λ x. length x.actions.items) (λ x. length x.descriptions.items) l c.in_ok-functions.functions.items) (sym c.clauses.ensures) (record {
      named = subst (λ n. All (λ x. indices_among (map action_code x.actions.items) ≤ n) p.clauses.items) (sym many) (program_named m compiled.typed p.clauses.items compiled.program.do_the_same);
      few = program_few m compiled.typed p.clauses.items compiled.program.do_the_same;
      described = program_few_probes m compiled.typed p.clauses.items compiled.program.do_the_same;
    })

pub returns-clause-script : goal.returns-clause-script
returns-clause-script c =
    IfOk-weaker c.new.result _ _ (λ l made m compiled.
    let clauses = subst (λ l. AllZip (IsSameClause (slots_of m)) l m.clauses) (sym c.clauses.ensures) compiled.program.do_the_same in
    let functions = c.in_ok-functions.ensures.items ∙ c.aggs.ensures ∙ compiled.program.have_functions in
    made m (record { each = clauses; keep = script_keeps m compiled.typed }) functions) c.new.ensures.script
