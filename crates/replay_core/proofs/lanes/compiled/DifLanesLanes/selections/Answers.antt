use Rattle.std.proofs.Common.{◌≤◌, length, sum_by, subst, sym}
use Rattle.std.proofs.lemmas.Result.{IfOk-weaker}
use Rattle.replay_core.specs.Vocabulary.{AllZip, slots_of, IsSameClause}
use Rattle.replay_core.proofs.ProgramLemmas.{program_few_probes}
use Rattle.replay_core.proofs.lanes.compiled.DifLanesLanes.selections.Goals as goal

pub select-requires : goal.select-requires
select-requires c =
    let (m, compiled) = c.requires in
    subst (λ l. sum_by (λ x. length x.descriptions.items) l ≤ 65536) (sym c.clauses.ensures) (program_few_probes m compiled.typed c.args.self.now.program.now.clauses.items compiled.program.do_the_same)

pub returns : goal.returns
returns c =
    IfOk-weaker c.select.result _ _ (λ chosen are. record {
      few = are.few;
      each = λ m compiled. are.each m (subst (λ l. AllZip (IsSameClause (slots_of m)) l m.clauses) (sym c.clauses.ensures) compiled.program.do_the_same);
    }) c.select.ensures
