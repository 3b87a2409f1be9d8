use Rattle.std.proofs.Common.{◌≡◌, ◌++◌, drop}
use Rattle.std.specs.List.{flat_map}
use Rattle.report.proofs.rendering.put_blocks.Given as goal

abbrev pub invariant-loop-block : goal.invariant-loop-block
invariant-loop-block l =
    l.out.items ++ flat_map (λ block. block.items) (drop l.block-index l.blocks)
    ≡ l.fn.out.items ++ flat_map (λ block. block.items) l.blocks
