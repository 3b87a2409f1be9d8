use Rattle.std.proofs.Common.{false, is_some, if◌then◌else◌, int_eq, refl, rules, subst, sym, ap}
use Rattle.std.proofs.Common.{◌∙◌}
use Rattle.std.proofs.lemmas.Result.{IfOk-weaker}
use Rattle.replay_core.specs.Vocabulary.{Made}
use Rattle.replay_core.specs.Lanes.{Notes}
use Rattle.replay_core.specs.Meaning.{Threads, at_start}
use Rattle.replay_core.specs.Seen.{piece_seen}
use Rattle.replay_core.specs.Threads.{threads_of}
use Rattle.replay_core.specs.Steps.AllMade.{all_made}
use Rattle.replay_core.specs.Steps.OnThread.{RunsOn}
use Rattle.replay_core.proofs.Noting.{notes_nothing}
use Rattle.replay_core.proofs.ThreadLemmas.{none_turn, own_stays, typed_start, thread_written}
use Rattle.replay_core.proofs.lanes.threads.run_on_thread.Goals as goal

pub returns-then-is_empty-clause-run : goal.returns-then-is_empty-clause-run
returns-then-is_empty-clause-run g c = λ slots cs mean fit good.
    let f = c.args.firing.now in
    let threads = threads_of (g.C.Store.Store.seen c.args.store.now) in
    let piece = c.args.piece.now in
    let start = at_start (threads f.thread) in
    let none = none_turn f cs c.args.indices.now start (sym c.is_empty.ensures ∙ c.if-is_empty.true) in
    subst (λ (made : Made). RunsOn f made threads threads piece piece false) (sym none)
    (record { notes = notes_nothing f.number start (piece_seen piece); threads = own_stays threads f.thread; exited = refl })

pub returns-clause-run : goal.returns-clause-run
returns-clause-run g c =
    let f = c.args.firing.now in
    let indices = c.args.indices.now in
    let piece = c.args.piece.now in
    let after = c.run_clauses.new.piece in
    let seen = g.C.Store.Store.seen in
    let old = seen c.args.store.now in
    let begun = seen c.enter.new.self in
    let left = seen c.run_clauses.new.state.store.now in
    let start = c.in_ok-enter.ensures.present in
    let stays = c.run_clauses.ensures.state in
    IfOk-weaker c.run_clauses.result _ _ (λ exits told slots cs mean fit good.
    let typed = typed_start slots begun.present (threads_of old f.thread) start good in
    let run = told slots cs mean fit typed in
    record {
      notes = subst (λ v. Notes f.number (all_made f cs indices v) (piece_seen piece) (piece_seen after)) start run.notes;
      threads = λ t.
          let written = thread_written begun left stays.at stays.others t
          ∙ ap (λ at. if int_eq t at then left.present.own else threads_of begun t) c.in_ok-enter.ensures.thread
          ∙ ap (λ (threads : Threads). if int_eq t f.thread then left.present.own else threads t) c.in_ok-enter.ensures.threads
          ∙ ap (λ v. if int_eq t f.thread then v.own else threads_of old t) (run.variables ∙ ap (λ v. (all_made f cs indices v).variables) start) in
          search (rules, written);
      exited = run.exited ∙ ap (λ v. is_some (all_made f cs indices v).exit) start;
    }) c.run_clauses.ensures.run
