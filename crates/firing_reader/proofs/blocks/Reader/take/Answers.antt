use Rattle.std.proofs.Common.{◌∙◌, ◌++◌, ap, append_assoc, sym}
use Rattle.std.proofs.lemmas.Result.{on_ok_weaker}
use Rattle.firing_reader.specs.Blocks.{reads}
use Rattle.firing_reader.proofs.blocks.Reader.take.Goals as goal

pub loop-left-preserved : goal.loop-left-preserved
loop-left-preserved g c = λ rest.
    let reader = c.loop-left.self in
    let part = c.split_at.result.0.now in
    let more = c.split_at.result.1.now in
    c.in_ok-take_part.ensures.taken (more ++ rest) ∙ sym (ap (reads reader) (append_assoc part more rest)) ∙ ap (λ l. reads reader (l ++ rest)) (sym c.split_at.ensures.by_index.0) ∙ c.loop-left.invariant rest

pub returns-clause-taken : goal.returns-clause-taken
returns-clause-taken g c = on_ok_weaker c.take_part-2.result (λ taken rest. taken rest ∙ c.loop-left.invariant rest) c.take_part-2.ensures.taken
