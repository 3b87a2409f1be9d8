use Rattle.std.proofs.Common.{ap, sym, ◌∙◌}
use Rattle.std.proofs.lemmas.Option.{slice_get-get_or}
use Rattle.dif_machine.specs.Frames.{at_index}
use Rattle.dif_machine.specs.Semantics.{on, puts}
use Rattle.dif_machine.specs.Sources.{built_ins}
use Rattle.dif_machine.specs.Vocabulary.{Int, Value}
use Rattle.dif_machine.proofs.Executing.{finds}
use Rattle.dif_machine.proofs.stepping.values.ldgs.Goals as goal

pub returns : goal.returns
returns c =
    let k = c.built_in.ensures in
    λ o. finds _ o c.args.firing.now _ _ _ _ _ k.kept k.lasting k.frame (λ known. k.known) c.put.ensures (λ index vars.
    ap (λ x. on x (λ value. puts (at_index c.args.machine.now.frame index) c.args.d value vars)) (slice_get-get_or (built_ins c.args.firing.now) c.args.v (Int 0) c.requires.there)
    ∙ ap (λ (value : Value). puts (at_index c.args.machine.now.frame index) c.args.d value vars) (sym c.in_ok-word.ensures.word.is))
