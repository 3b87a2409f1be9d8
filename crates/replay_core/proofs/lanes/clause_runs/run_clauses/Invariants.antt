use Rattle.std.proofs.Common.{◌≡◌, ◌+◌, ◌*◌, ◌<◌, ◌≤◌, length, List, All}
use Rattle.replay_core.specs.Vocabulary.{count_held, functions_of, AreTyped, HasTypedBuiltIns}
use Rattle.replay_core.specs.Vocabulary.{Slots, ClauseMeant}
use Rattle.replay_core.specs.Evaluation.{Stays, variables_in}
use Rattle.replay_core.specs.Scripts.{AllMean}
use Rattle.replay_core.specs.Seen.{piece_seen}
use Rattle.replay_core.proofs.Turning.{Continues}
use Rattle.replay_core.proofs.lanes.clause_runs.run_clauses.Given as goal

abbrev pub invariant-loop-index : goal.invariant-loop-index
invariant-loop-index g l = record {
  there : All (λ index. index < length l.clauses) l.left;
  functions : functions_of l.piece.table ≡ functions_of l.fn.piece.table;
  taken : l.piece.taken.items ≡ l.fn.piece.taken.items;
  held : count_held l.piece.table + 65536 * length l.left ≤ count_held l.fn.piece.table + 65536 * length l.fn.indices;
  stays : Stays g.C.Store.Store.seen l.fn.state l.state;
  all_made : (slots : Slots) (cs : List ClauseMeant) → AllMean g.C.Clause.means slots l.clauses cs → HasTypedBuiltIns l.fn.state.firing.now
      → AreTyped slots (variables_in g.C.Store.Store.seen l.fn.state)
      → AreTyped slots (variables_in g.C.Store.Store.seen l.state) × Continues l.fn.state.firing.now cs l.fn.indices l.left (variables_in g.C.Store.Store.seen l.fn.state) (variables_in g.C.Store.Store.seen l.state) (piece_seen l.fn.piece) (piece_seen l.piece) l.exits;
}

abbrev pub decreases-loop-index : goal.decreases-loop-index
decreases-loop-index g l = length l.left
