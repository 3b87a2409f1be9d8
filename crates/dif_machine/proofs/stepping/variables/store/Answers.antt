use Rattle.std.proofs.Common.{◌+◌, subst, sym, ◌∙◌}
use Rattle.dif_machine.specs.Frames.{at_index}
use Rattle.dif_machine.specs.Machine.{Knows}
use Rattle.dif_machine.specs.Semantics.{Goes}
use Rattle.dif_machine.proofs.Acting.{stored_kind, stored_there, stores}
use Rattle.dif_machine.proofs.stepping.variables.store.Goals as goal

pub word-word-requires : goal.word-word-requires
word-word-requires g c =
    let can = c.requires.can in
    stored_there c.args.machine.now.frame can.index can.index can.vars can.vars can.object can.object can.firing can.firing c.args.variable c.args.a can.runs

pub store-requires-clause-kind : goal.store-requires-clause-kind
store-requires-clause-kind g c =
    let can = c.requires.can in
    stored_kind c.args.machine.now.frame can.index can.index can.vars can.vars can.object can.object can.firing can.firing c.args.variable c.args.a can.runs _ c.word-word.ensures.is

pub store-requires-clause-over : goal.store-requires-clause-over
store-requires-clause-over g c = (g.met.M.Memory.stays c.args.memory.now c.args.machine.now.lasting c.args.machine.now.texts c.requires.running.over c.requires.running.among).0

pub returns : goal.returns
returns g c = λ o f. record {
  leads = λ index.
      let can = c.requires.can in
      let acts = stores c.args.machine.now.frame can.index index can.vars (g.M.Memory.holds c.args.memory.now c.args.machine.now.texts) can.object o can.firing f c.args.variable c.args.a can.runs _ c.word-word.ensures.is in
      let grows = c.store.ensures.grows in
      let holds = (λ j. g.M.Memory.holds c.store.new.memory (c.store.ensures.texts j)) ∙ c.in_ok-store.ensures.stores.ok in
      record {
        lasting = record { more = grows.lasting.more; among = grows.lasting.among };
        known = subst (Knows f) (sym grows.known);
        over = c.store.ensures.over c.requires.running.over;
        others = c.store.ensures.stores.beside;
        stepped = acts ∙ sym (λ j. Goes (at_index (grows.frame j) (index + 1)) (holds j));
      };
}
