use Rattle.std.proofs.Common.{rules, ◌≡◌, ◌<◌, ◌++◌, ◌∷◌, ◌∙◌, [], Some, arith, length, take}
use Rattle.std.specs.Prelude.{slice_get}
use Rattle.std.proofs.lemmas.Grind.{common_steps}
use Rattle.std.proofs.lemmas.List.{take_more}
use Rattle.std.proofs.lemmas.Option.{get_or_from_slice_get}
use Rattle.firings.proofs.Placed.{index_more}
use Rattle.firing_reader.proofs.Shared.{one_there}
use Rattle.firings.proofs.Stored.{extends_more}
use Rattle.firing_reader.proofs.unit_table.UnitTable.indices_of.Goals as goal

pub loop-at-preserved : goal.loop-at-preserved
loop-at-preserved g c =
    let others = c.args.others.now in
    let i = c.loop-at.at in
    let within : i < length others = search rules in
    let (o, there) = one_there others i within in
    let kept : slice_get c.index_of_other.new.self c.in_ok-index.index ≡ Some o = c.in_ok-index.ensures.1 ∙ there in
    let one = index_more c.loop-at.self c.index_of_other.new.self c.loop-at.indices.items (take i others) c.in_ok-index.index o c.index_of_other.ensures.0 c.loop-at.invariant.indices kept in
    let pushed : c.push.new.self.items ≡ c.loop-at.indices.items ++ c.in_ok-index.index ∷ [] = grind (arith, common_steps) in
    record {
      grows = extends_more _ _ _ c.loop-at.invariant.grows c.index_of_other.ensures.0;
      indices = rw (pushed, take_more others i o within, get_or_from_slice_get others i o o there) one;
    }
