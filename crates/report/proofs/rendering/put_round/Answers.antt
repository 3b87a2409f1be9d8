use Rattle.std.proofs.Common.{◌++◌, ap, ◌∙◌}
use Rattle.std.specs.List.{flat_map}
use Rattle.std.proofs.lemmas.Result.{on_ok_weaker}
use Rattle.report.proofs.rendering.put_round.Goals as goal

pub returns : goal.returns
returns g c =
    let out = c.args.out.now.items in
    on_ok_weaker c.put_blocks.result (λ is.
    is ∙ ap (λ l. out ++ flat_map (λ block. block.items) l) c.deref.ensures.value ∙ ap (λ l. out ++ l) c.in_ok-made.ensures) c.put_blocks.ensures
