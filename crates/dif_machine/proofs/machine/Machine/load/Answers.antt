use Rattle.std.specs.Prelude.{List}
use Rattle.std.proofs.Common.{subst}
use Rattle.numbered.specs.declared.word.Word.{Word}
use Rattle.dif_machine.specs.Machine.{Seen, key_in}
use Rattle.dif_machine.specs.Memories.{LoadsWord}
use Rattle.dif_machine.specs.Sources.{own_value}
use Rattle.dif_machine.specs.Steps.Instructions.{held_in}
use Rattle.dif_machine.proofs.Holding.{grown}
use Rattle.dif_machine.proofs.machine.Machine.load.Goals as goal

pub returns-in-Local : goal.returns-in-Local
returns-in-Local g c = record {
  grows = grown _ _ c.load_local.ensures.kept _ _ _ _ _ _ c.self.invariant c.self.view_is;
  loads = subst (λ (s : Seen). LoadsWord c.args.memory.now s.texts c.load_local.new.self c.load_local.new.texts c.load_local.result (held_in (g.M.Memory.holds c.args.memory.now s.texts) c.args.variable s.frame.tuple)) c.self.view_is
      (rw c.in-Local.is c.load_local.ensures);
}

pub returns-in-Scalar : goal.returns-in-Scalar
returns-in-Scalar g c = record {
  grows = grown _ _ c.load_own.ensures.kept _ _ _ _ _ _ c.self.invariant c.self.view_is;
  loads = subst (λ (s : Seen). LoadsWord c.args.memory.now s.texts c.load_own.new.self c.load_own.new.texts c.load_own.result (held_in (g.M.Memory.holds c.args.memory.now s.texts) c.args.variable s.frame.tuple)) c.self.view_is
      (rw c.in-Scalar.is (subst (λ (key : List Word). LoadsWord c.args.memory.now c.self.inside.texts c.load_own.new.self c.load_own.new.texts c.load_own.result (own_value (g.M.Memory.holds c.args.memory.now c.self.inside.texts) c.in-Scalar.x (key_in c.self.inside.texts key))) c.new.ensures c.load_own.ensures));
}

pub returns-in-Element : goal.returns-in-Element
returns-in-Element g c = record {
  grows = grown _ _ c.load_own-in-Element.ensures.kept _ _ _ _ _ _ c.self.invariant c.self.view_is;
  loads = subst (λ (s : Seen). LoadsWord c.args.memory.now s.texts c.load_own-in-Element.new.self c.load_own-in-Element.new.texts c.load_own-in-Element.result (held_in (g.M.Memory.holds c.args.memory.now s.texts) c.args.variable s.frame.tuple)) c.self.view_is
      (rw c.in-Element.is c.load_own-in-Element.ensures);
}
