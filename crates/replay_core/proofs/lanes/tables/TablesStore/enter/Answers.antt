use Rattle.std.proofs.Common.{◌≡◌, int_eq, rules, ap, ◌∙◌, SFits, w32}
use Rattle.std.proofs.lemmas.Int.{to_z-of_z}
use Rattle.replay_core.specs.Vocabulary.{lookup, own_of}
use Rattle.replay_core.specs.Threads.{own_in, threads_of}
use Rattle.replay_core.proofs.TableThreads.{seen_with, threads_kept, turned}
use Rattle.replay_core.proofs.lanes.tables.TablesStore.enter.Goals as goal

pub returns-clause-present : goal.returns-clause-present
returns-clause-present c =
    let f = c.args.firing.now in
    let old = c.args.self.now in
    let before : SFits w32 old.thread = search rules in
    let fits : SFits w32 f.thread = search rules in
    let found : own_of c.take_own.result ≡ own_in (lookup (int_eq f.thread) c.insert.new.self.entries) = simp to_z-of_z at c.take_own.ensures.own in
    turned old.others.entries c.insert.new.self.entries c.take_own.new.others.entries old.thread f.thread old.own c.replace-last.result c.take_own.result
    c.replace-last.ensures.value (λ q. search (rules, c.in_ok-insert.ensures.updates.0 q)) found old.locals c.reset.new.self c.reset.ensures

pub returns-clause-threads : goal.returns-clause-threads
returns-clause-threads c =
    let f = c.args.firing.now in
    let old = c.args.self.now in
    let before : SFits w32 old.thread = search rules in
    let fits : SFits w32 f.thread = search rules in
    let found : own_of c.take_own.result ≡ own_in (lookup (int_eq f.thread) c.insert.new.self.entries) = simp to_z-of_z at c.take_own.ensures.own in
    ap (λ t. threads_of (seen_with c.reset.new.self c.take_own.result t c.take_own.new.others.entries)) (to_z-of_z w32 f.thread fits)
    ∙ threads_kept old.others.entries c.insert.new.self.entries c.take_own.new.others.entries old.thread f.thread old.own c.replace-last.result c.take_own.result
    c.replace-last.ensures.value (λ q. search (rules, c.in_ok-insert.ensures.updates.0 q)) found (λ q. search (rules, c.take_own.ensures.others.0 q)) old.locals c.reset.new.self
