use Rattle.std.proofs.Common.{refl, ◌∙◌}
use Rattle.dif_machine.specs.Cells.{locals_in}
use Rattle.replay_core.proofs.WordLemmas.{at_first, blank_first, threads_are}
use Rattle.replay_core.proofs.lanes.word_store.WordsStore.new.Goals as goal

pub invariant_of-result : goal.invariant_of-result
invariant_of-result c =
    let memory = c.new-memory.result in
    record {
      over = at_first c.in_ok-machine.machine.texts memory.table memory.locals.items c.in_ok-machine.ensures.texts c.new-memory.ensures.table c.new-memory.ensures.locals;
      is = c.new-memory.ensures.thread;
      fits = refl;
    }

pub returns : goal.returns
returns c =
    let texts = c.in_ok-machine.machine.texts in
    let memory = c.new-memory.result in
    threads_are texts memory.table _ memory.thread (locals_in texts memory.locals.items) refl c.new-memory.ensures.thread
    ∙ blank_first texts memory.table c.in_ok-machine.ensures.texts c.new-memory.ensures.table
