use Rattle.std.proofs.Common.{◌≡◌, ◌<◌, ℤ, All, Contains, length, map, if◌then◌else◌, is_ok}
use Rattle.std.proofs.Common.{is_some, int_eq, rules, arith, subst, sym, ap, ◌∙◌}
use Rattle.std.proofs.lemmas.List.{length-map}
use Rattle.std.proofs.lemmas.List.Elements.{Contains-push}
use Rattle.std.proofs.lemmas.Result.{IfOk-weaker}
use Rattle.std.proofs.lemmas.Slice.Zip.{AllZip-long}
use Rattle.replay_core.specs.Vocabulary.{AreTypedOwn, slots_of}
use Rattle.replay_core.specs.Meaning.{at_start, firing_result, threads_after}
use Rattle.replay_core.specs.Patterns.{probe_of}
use Rattle.replay_core.specs.Seen.{piece_seen}
use Rattle.replay_core.specs.Threads.{threads_of}
use Rattle.replay_core.specs.Steps.AllMade.{all_made}
use Rattle.replay_core.proofs.FiringLemmas.{goes_on, indices_within, some_same, all_made_are}
use Rattle.replay_core.proofs.NotedLemmas.{firing_taken}
use Rattle.replay_core.proofs.ThreadLemmas.{typed_after}
use Rattle.replay_core.proofs.lanes.lane.Lane.run.Goals as goal

pub run_on_thread-requires-clause-runnable : goal.run_on_thread-requires-clause-runnable
run_on_thread-requires-clause-runnable g c =
    let (m, runs, indices_are) = c.requires.selected in
    let p = probe_of c.args.firing.now in
    let ds = map (λ c. c.descriptions) m.clauses in
    let size = length-map m.clauses (λ c. c.descriptions) in
    let many = AllZip-long _ c.args.self.now.clauses.now m.clauses runs.clauses_mean.each in
    let held = c.args.self.now.room in
    record {
      there = subst (λ l. All (λ i. i < length c.args.self.now.clauses.now) l) (sym indices_are)
          (λ k d lt. let within = indices_within p 0 ds k d lt in omega (arith, within, size, many));
      bounded = c.args.self.now.bounded;
      room = omega (arith, held, c.requires.few, c.requires.indices);
    }

pub invariant_of-self : goal.invariant_of-self
invariant_of-self g c =
    let piece = c.args.self.now.piece in
    (firing_taken (is_ok c.push.result) piece.taken.items c.push.new.self.items piece.events.items c.args.firing.now.number c.push.ensures.items piece.noted, tt)

pub run_on_thread-requires-clause-taken : goal.run_on_thread-requires-clause-taken
run_on_thread-requires-clause-taken g c =
    let number = c.args.firing.now.number in
    subst (λ l. Contains l number) (sym c.in_ok-push.ensures.items) (Contains-push c.args.self.now.piece.taken.items number)

pub returns-clause-run : goal.returns-clause-run
returns-clause-run g c =
    let f = c.args.firing.now in
    let threads = threads_of (g.C.Store.Store.seen c.args.self.now.store) in
    let start = at_start (threads f.thread) in
    let fit = c.built_ins_are_of_their_types.ensures in
    IfOk-weaker c.run_on_thread.result _ _ (λ exits told m runs selected typed.
    let run = told (slots_of m) m.clauses runs.clauses_mean fit (typed f.thread) in
    let made = all_made f m.clauses c.args.indices.now start in
    let is : made ≡ firing_result m f (threads f.thread) =
    ap (λ l. all_made f m.clauses l start) selected ∙ all_made_are m f start in
    let left : (thread : ℤ) → threads_of (g.C.Store.Store.seen c.run_on_thread.new.store) thread ≡ threads_after m f threads thread =
    λ thread. run.threads thread ∙ ap (λ r. if int_eq thread f.thread then r.variables.own else threads thread) is in
    record {
      fires = record {
        threads = λ i thread. left thread i;
        piece = goes_on m f threads made (piece_seen c.args.self.now.piece) _ (piece_seen c.run_on_thread.new.piece) is
            (search rules) run.notes;
      };
      typed = λ thread. subst (AreTypedOwn (slots_of m)) (sym (left thread)) (typed_after m f threads runs.clauses_mean.keep fit typed thread);
      exited = run.exited ∙ ap (λ r. is_some r.exit) is ∙ some_same (λ status. (f.number, status)) (firing_result m f (threads f.thread)).exit;
    }) c.run_on_thread.ensures.run
