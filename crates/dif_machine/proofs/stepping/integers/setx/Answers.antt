use Rattle.std.proofs.Common.{refl}
use Rattle.std.proofs.lemmas.Option.{slice_get_read}
use Rattle.dif_machine.proofs.Executing.{goes}
use Rattle.dif_machine.proofs.stepping.integers.setx.Goals as goal

pub returns : goal.returns
returns c =
    let there = slice_get_read c.args.difo.now.numbers.items _ c.args.i c.index-word.result.now refl c.requires.inside c.index-word.ensures in
    λ f. goes _ _ f _ _ _ c.put.ensures (λ index vars. rw there refl)
