use Rattle.std.proofs.Common.{sym, subst}
use Rattle.dif_machine.specs.Frames.{at_index}
use Rattle.dif_machine.specs.Machine.{Knows}
use Rattle.dif_machine.specs.Operators.{call_of}
use Rattle.dif_machine.specs.Semantics.{puts}
use Rattle.dif_machine.proofs.Acting.{on_word}
use Rattle.dif_machine.proofs.Executing.{finds, there}
use Rattle.dif_machine.proofs.stepping.tuple.call.Goals as goal

pub returns : goal.returns
returns c =
    let k = c.call.ensures.grows in
    λ o f. finds _ o f _ _ _ _ _ k.kept k.lasting k.frame (subst (Knows f) (sym k.known)) c.put.ensures (λ index vars. on_word c.call.new.self.texts c.in_ok-word.word (λ value. puts (at_index c.args.machine.now.frame index) c.args.d value vars) _ (there (call_of c.args.function c.args.machine.now.frame.tuple) (λ value. puts (at_index c.args.machine.now.frame c.requires.index) c.args.d value c.requires.vars) c.requires.runs) c.in_ok-word.ensures.word)
