use Rattle.std.proofs.Common.{sym, ap, subst, ◌∙◌}
use Rattle.std.proofs.Math.Logic.{∥∥₁_elim}
use Rattle.numbered.specs.Texts.{Keeps}
use Rattle.dif_codegen.specs.Meaning.{value_of}
use Rattle.dif_machine.specs.Cells.{locals_in, own_in}
use Rattle.dif_machine.proofs.Knowing.{Knows-prop}
use Rattle.dif_machine.specs.Machine.{Knows, word_result}
use Rattle.replay_core.specs.Vocabulary.{Variables}
use Rattle.replay_core.specs.Evaluation.{Returns}
use Rattle.replay_core.specs.WordStore.{WordsSeen, words_seen}
use Rattle.replay_core.proofs.WordLemmas.{evaluated, others_stay, thread_stays}
use Rattle.replay_core.proofs.lanes.word_store.Words.run.Goals as goal

pub run_on-run-requires : goal.run_on-run-requires
run_on-run-requires c =
    let f = c.args.firing.now in
    record {
      known = ∥∥₁_elim c.requires (Knows-prop f c.self.inside.machine.known) (λ (known : Knows f c.args.self.now.known). subst (λ (w : WordsSeen). Knows f w.known) (sym c.self.view_is) known);
      over = c.self.invariant.over;
    }

pub invariant_of-self : goal.invariant_of-self
invariant_of-self c = record {
  over = c.run_on-run.ensures.run.ready.over;
  is = thread_stays c.self.inside.machine.texts c.run_on-run.new.machine.texts c.run_on-run.ensures.run.kept c.self.inside.memory.table c.run_on-run.new.memory.table c.self.invariant.over.0
      c.self.inside.memory.thread c.run_on-run.new.memory.thread c.run_on-run.ensures.run.beside ∙ c.self.invariant.is;
  fits = c.self.invariant.fits;
}

pub returns-clause-meets : goal.returns-clause-meets
returns-clause-meets c =
    let f = c.args.firing.now in
    let o = c.args.object.now.object in
    let texts = c.run_on-run.new.machine.texts in
    let memory = c.run_on-run.new.memory in
    let left : Variables = record { locals = locals_in texts memory.locals.items; own = own_in texts memory.table memory.thread } in
    subst (λ (w : WordsSeen). Returns (value_of f o (words_seen w).present) (word_result texts c.evaluated.result) left) c.self.view_is
    (evaluated _ texts c.run_on-run.result c.evaluated.result left c.evaluated.ensures c.run_on-run.ensures.meant c.run_on-run.ensures.run.within).0

pub returns-clause-within : goal.returns-clause-within
returns-clause-within c =
    (evaluated _ c.run_on-run.new.machine.texts c.run_on-run.result c.evaluated.result _ c.evaluated.ensures c.run_on-run.ensures.meant c.run_on-run.ensures.run.within).1

pub returns-clause-kept : goal.returns-clause-kept
returns-clause-kept c = subst (λ (w : WordsSeen). Keeps w.texts c.run_on-run.new.machine.texts) c.self.view_is c.run_on-run.ensures.run.kept

pub returns-clause-others : goal.returns-clause-others
returns-clause-others c =
    let old = c.self.inside in
    let memory = c.run_on-run.new.memory in
    others_stay old.machine.texts c.run_on-run.new.machine.texts c.run_on-run.ensures.run.kept old.memory.table memory.table c.self.invariant.over.0 old.memory.thread memory.thread
    c.run_on-run.ensures.run.beside old.thread c.self.invariant.fits c.self.invariant.is
    ∙ ap (λ (w : WordsSeen). (words_seen w).others) c.self.view_is
