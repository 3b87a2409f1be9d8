use Rattle.std.specs.Prelude.{[], ◌∷◌, ◌++◌, List}
use Rattle.std.proofs.Common.{ap, subst, ◌∙◌}
use Rattle.numbered.specs.declared.word.Word.{Word}
use Rattle.dif_machine.specs.Machine.{Seen, key_in}
use Rattle.dif_machine.specs.Memories.{LoadsWord}
use Rattle.dif_machine.specs.Sources.{own_value}
use Rattle.dif_machine.proofs.Holding.{grown}
use Rattle.dif_machine.proofs.machine.Machine.load_at.Goals as goal

pub returns : goal.returns
returns g c =
    let i = c.self.inside in
    let tuple = c.push.ensures ∙ ap (λ (ws : List Word). ws ++ c.args.key ∷ []) c.clear.ensures in
    record {
      known = (grown _ _ c.load_own.ensures.kept _ _ _ _ _ _ c.self.invariant c.self.view_is).known;
      loads = subst (λ (s : Seen). LoadsWord c.args.memory.now s.texts c.load_own.new.self c.load_own.new.texts c.load_own.result (own_value (g.M.Memory.holds c.args.memory.now s.texts) c.args.x (key_in s.texts (c.args.key ∷ [])))) c.self.view_is
          (subst (λ (key : List Word). LoadsWord c.args.memory.now i.texts c.load_own.new.self c.load_own.new.texts c.load_own.result (own_value (g.M.Memory.holds c.args.memory.now i.texts) c.args.x (key_in i.texts key))) tuple c.load_own.ensures);
    }
