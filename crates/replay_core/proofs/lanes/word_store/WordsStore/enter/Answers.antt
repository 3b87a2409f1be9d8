use Rattle.std.proofs.Common.{◌≡◌, true, rules, sym, ap, subst, ◌∙◌, SFits, w32}
use Rattle.std.proofs.Math.Facts.{sfits_widen}
use Rattle.std.proofs.lemmas.Int.{to_z-of_z}
use Rattle.dif_machine.specs.Cells.{locals_in}
use Rattle.dif_machine.specs.Machine.{Knows}
use Rattle.dif_machine.proofs.Knowing.{nothing_known}
use Rattle.replay_core.specs.Meaning.{at_start}
use Rattle.replay_core.specs.Threads.{threads_of}
use Rattle.replay_core.specs.WordStore.{is_thread, own_at, word_of_thread, words_seen}
use Rattle.replay_core.proofs.WordLemmas.{begun, entered, seen_at, thread_is, threads_are}
use Rattle.replay_core.proofs.lanes.word_store.WordsStore.enter.Goals as goal

pub invariant_of-self : goal.invariant_of-self
invariant_of-self c =
    let f = c.args.firing.now in
    let old = c.self.inside in
    let fits : SFits w32 f.thread = search rules in
    let back = to_z-of_z w32 f.thread fits in
    let is : c.enter.new.self.thread ≡ word_of_thread f.thread = simp to_z-of_z at c.enter.ensures.thread in
    record {
      over = entered old.machine.texts c.turn.new.self.texts old.memory.table c.enter.new.self.table c.enter.new.self.locals.items
          c.turn.ensures.texts c.enter.ensures.table c.enter.ensures.locals c.self.invariant.over.0;
      is = is ∙ ap word_of_thread (sym back);
      fits = subst (λ t. is_thread t ≡ true) (sym back) (thread_is f.thread (sfits_widen tt fits));
    }

pub returns-clause-knows : goal.returns-clause-knows
returns-clause-knows c = ∣ subst (Knows c.args.firing.now) (sym c.turn.ensures.known) (nothing_known c.args.firing.now) ∣₁

pub returns-clause-present : goal.returns-clause-present
returns-clause-present c =
    let f = c.args.firing.now in
    let old = c.self.inside in
    let texts = c.turn.new.self.texts in
    let new = c.enter.new.self in
    let fits : SFits w32 f.thread = search rules in
    let is : new.thread ≡ word_of_thread f.thread = simp to_z-of_z at c.enter.ensures.thread in
    let over = entered old.machine.texts texts old.memory.table new.table new.locals.items c.turn.ensures.texts c.enter.ensures.table c.enter.ensures.locals c.self.invariant.over.0 in
    let before = threads_are old.machine.texts old.memory.table old.thread old.memory.thread (locals_in old.machine.texts old.memory.locals.items) c.self.invariant.fits c.self.invariant.is in
    let same = before ∙ ap (λ t. own_at t old.memory.table) (sym c.turn.ensures.texts) ∙ ap (own_at texts) (sym c.enter.ensures.table) in
    begun texts new.table f.thread new.thread _ new.locals.items over.0.empty (thread_is f.thread (sfits_widen tt fits)) is same c.enter.ensures.locals
    ∙ ap (λ w. at_start (threads_of (words_seen w) f.thread)) c.self.view_is

pub returns-clause-threads : goal.returns-clause-threads
returns-clause-threads c =
    let f = c.args.firing.now in
    let old = c.self.inside in
    let texts = c.turn.new.self.texts in
    let new = c.enter.new.self in
    let fits : SFits w32 f.thread = search rules in
    let is : new.thread ≡ word_of_thread f.thread = simp to_z-of_z at c.enter.ensures.thread in
    let before = threads_are old.machine.texts old.memory.table old.thread old.memory.thread (locals_in old.machine.texts old.memory.locals.items) c.self.invariant.fits c.self.invariant.is in
    let same = before ∙ ap (λ t. own_at t old.memory.table) (sym c.turn.ensures.texts) ∙ ap (own_at texts) (sym c.enter.ensures.table) in
    ap (λ t. threads_of (seen_at texts new.table t new.thread (locals_in texts new.locals.items))) (to_z-of_z w32 f.thread fits)
    ∙ threads_are texts new.table f.thread new.thread (locals_in texts new.locals.items) (thread_is f.thread (sfits_widen tt fits)) is
    ∙ sym same ∙ ap (λ w. threads_of (words_seen w)) c.self.view_is
