use Rattle.std.proofs.Common.{◌≡◌, length, map, take, List, sum_by}
use Rattle.replay_core.specs.Vocabulary.{AllZip, Slots, ClauseMeant}
use Rattle.replay_core.proofs.selection.descriptions.Given as goal

abbrev pub invariant-loop-clause : goal.invariant-loop-clause
invariant-loop-clause g l = record {
  each : length l.all.items ≡ l.clause-index;
  probes : sum_by length (map (λ d. d.now) l.all.items) ≡ sum_by g.C.Clause.probes (take l.clause-index l.clauses);
  meaning : (slots : Slots) (cs : List ClauseMeant) → AllZip (λ c. g.C.Clause.means c slots) l.clauses cs → map (λ d. d.now) l.all.items ≡ take l.clause-index (map (λ c. c.descriptions) cs);
}
