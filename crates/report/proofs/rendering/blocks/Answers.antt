use Rattle.std.proofs.Common.{List, Bor, max, ap, ◌∙◌, arith}
use Rattle.std.specs.List.{flat_map}
use Rattle.std.specs.Map.Iter.{deref_pair}
use Rattle.rayon.specs.Lists.{chunks_of, chunks_size, chunks_slice}
use Rattle.rayon.proofs.ToStd.{chunks_of-concat}
use Rattle.report.specs.Entry.{entry_bytes}
use Rattle.report.specs.Vocabulary.{Held, KeyPart}
use Rattle.report.proofs.Blocks.{made_of_blocks}
use Rattle.report.proofs.rendering.blocks.Goals as goal

pub returns : goal.returns
returns g c =
    let entries = c.args.entries.now in
    let done = c.in_ok-collect.ensures in
    let chain = done.1 in
    let base = c.map.ensures.base in
    let chunks = c.par_chunks.ensures in
    let cut = chain.1 ∙ (λ i. chunks_of (max (chunks_size (base i)) 1) (chunks_slice (base i))) ∙ (λ i. chunks_of (max (chunks.size i) 1) (chunks.slice i)) in
    made_of_blocks _ (λ (e : Bor (List KeyPart) × Bor Held). entry_bytes (deref_pair e)) c.in_ok-collect.field-0 done.0 chain.0 entries
    (ap (flat_map (λ l. l)) cut ∙ chunks_of-concat 512 entries (omega arith)) chain.2 done.2
