use Rattle.std.proofs.Common.{◌≡◌, subst, sym, ◌∙◌}
use Rattle.d_types.proofs.FiringValues.{own_unassigned}
use Rattle.replay_core.specs.Vocabulary.{AreTypedOwn, slots_of}
use Rattle.replay_core.specs.Meaning.{blank_threads}
use Rattle.replay_core.specs.Threads.{threads_of}
use Rattle.replay_core.proofs.lanes.lane.Lane.new.Goals as goal

pub returns-clause-script : goal.returns-clause-script
returns-clause-script g c = λ m mean functions.
    let none : threads_of (g.C.Store.Store.seen c.in-Ok.store) ≡ blank_threads = c.in-Ok.ensures in (
      record {
        clauses_mean = mean;
        have_functions = c.in_ok-piece.ensures.functions ∙ functions;
      },
      λ fresh thread. subst (λ t. AreTypedOwn (slots_of m) (t thread)) (sym none) (own_unassigned (slots_of m)),
    )
