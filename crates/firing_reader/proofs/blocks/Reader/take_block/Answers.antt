use Rattle.firing_reader.proofs.BlockSteps.{same_left}
use Rattle.firing_reader.proofs.WaitingRows.{added_kept, added_reads, same_unread}
use Rattle.firing_reader.proofs.blocks.Reader.take_block.Goals as goal

pub invariant_of-self : goal.invariant_of-self
invariant_of-self c =
    let p = c.self.inside.progress in
    added_kept c.add_block.result c.self.inside.stage p.firings p.waiting.pieces.items p.waiting.bytes.items p.left.items c.args.block.now.items c.add_block.new.left.items c.requires c.add_block.ensures.added c.add_block.ensures.refused c.self.invariant

pub returns-in-Header : goal.returns-in-Header
returns-in-Header c =
    let i = c.self.inside in
    let p = i.progress in
    let w = p.waiting.bytes.items in
    rw (← c.self.view_is) record {
      taken = added_reads c.add_block.result i.stage p.firings p.waiting.pieces.items w p.left.items c.args.block.now.items c.add_block.new.left.items c.self.invariant c.add_block.ensures.added;
      refused = same_left c.add_block.result _ _ _ _ (same_unread c.add_block.result w p.left.items c.add_block.new.left.items c.add_block.ensures.refused);
    }
