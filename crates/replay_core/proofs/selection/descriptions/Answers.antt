use Rattle.std.proofs.Common.{◌+◌, ◌<◌, length, arith, ◌∙◌, ap}
use Rattle.std.proofs.lemmas.List.{length_push}
use Rattle.replay_core.proofs.DescriptionLemmas.{meaning_all, meaning_more, probes_more}
use Rattle.replay_core.proofs.selection.descriptions.Goals as goal

pub loop-clause-preserved : goal.loop-clause-preserved
loop-clause-preserved g c =
    let xs = c.args.clauses.now in
    let i = c.loop-clause.clause-index in
    let inside : i < length xs = omega arith in
    let old = c.loop-clause.all.items in
    let new = c.push.new.self.items in
    let inv = c.loop-clause.invariant in
    record {
      each = ap length c.in_ok-push.ensures.items ∙ length_push old c.descriptions.result ∙ ap (λ n. n + 1) inv.each;
      probes = probes_more (λ d. d.now) g.C.Clause.probes xs i c.clause-item.result old new c.descriptions.result inside c.clause-item.is c.in_ok-push.ensures.items c.descriptions.ensures.probes inv.probes;
      meaning = λ slots cs zip.
          meaning_more (λ d. d.now) (λ c. g.C.Clause.means c slots) xs cs i c.clause-item.result old new c.descriptions.result inside c.clause-item.is c.in_ok-push.ensures.items (c.descriptions.ensures.meaning slots) zip (inv.meaning slots cs zip);
    }

pub returns-clause-meaning : goal.returns-clause-meaning
returns-clause-meaning g c = λ slots cs zip.
    meaning_all (λ d. d.now) (λ x. g.C.Clause.means x slots) c.args.clauses.now cs c.loop-clause.clause-index c.loop-clause.all.items (omega arith) zip (c.loop-clause.invariant.meaning slots cs zip)
