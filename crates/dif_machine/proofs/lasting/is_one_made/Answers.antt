use Rattle.std.specs.Prelude.{◌<◌, length, take}
use Rattle.std.specs.List.{All}
use Rattle.std.proofs.Common.{arith, subst}
use Rattle.std.proofs.lemmas.List.{take_all}
use Rattle.std.proofs.lemmas.List.Elements.{All-cons, All-head, All-more, All-tail}
use Rattle.dif_machine.specs.Machine.{IsWithin}
use Rattle.dif_machine.proofs.lasting.is_one_made.Goals as goal

pub loop-part-preserved : goal.loop-part-preserved
loop-part-preserved c texts all inside =
    let here : c.loop-part.part-index < length c.args.key.now = omega arith in
    All-more (IsWithin (take c.args.lasting texts)) c.args.key.now c.loop-part.part-index _ here (c.loop-part.invariant texts all inside)
    (c.is_made.ensures c.if-is_made.false texts (all c.loop-part.part-index _ here) inside)

pub returns : goal.returns
returns c none texts all inside =
    let P = IsWithin (take c.args.lasting texts) in
    let keyed = subst (All P) (take_all c.loop-part.part-index c.args.key.now (omega arith)) (c.loop-part.invariant texts (All-tail (IsWithin texts) c.args.word c.args.key.now all) inside) in
    All-cons P c.args.word c.args.key.now (c.is_made-2.ensures none texts (All-head (IsWithin texts) c.args.word c.args.key.now all) inside) keyed
