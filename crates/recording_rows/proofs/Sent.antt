-- What a writer took, block by block.
use Rattle.std.proofs.Common.{◌≡◌, ◌++◌, ℕ, List, Option, ap, append_assoc, subst, sym, ◌∙◌}
use Rattle.std.specs.Io.KnownBytes.{Appends}
use Rattle.csv.proofs.WriteFacts.{appends-more}
use Rattle.recording_rows.specs.Steps.Blocks.{Ends, IsWritten, Sends}
use Rattle.recording_rows.specs.Written.{WritesOneTrace}
use Rattle.recording_rows.specs.declared.rows.Rows.{Rows}
use Rattle.recording_rows.proofs.Lines.{writes_trace}

-- one block more
pub sent_more : (first before after : Option (List ℕ)) (old new : Rows) (sent : List ℕ) → Appends first before sent → Ends sent old → Sends before after old new
    → (all : List ℕ) × Appends first after all × Ends all new
sent_more first before after old new sent took ends (more, next, split, same) =
    let text : sent ++ old.block.items ≡ (sent ++ more) ++ new.block.items = ap (λ (l : List ℕ). sent ++ l) split ∙ sym (append_assoc sent more new.block.items) in
    (sent ++ more, appends-more first before after sent more took next, subst (λ (n : ℕ). IsWritten ((sent ++ more) ++ new.block.items) n) (sym same) (subst (λ (l : List ℕ). IsWritten l old.count) text ends))

-- the last block
pub sent_all : (first before after : Option (List ℕ)) (rows : Rows) (sent : List ℕ) → Appends first before sent → Ends sent rows → Appends before after rows.block.items
    → WritesOneTrace first after
sent_all first before after rows sent took ends last =
    let (firings, written) = writes_trace (sent ++ rows.block.items) rows.count ends in
    (sent ++ rows.block.items, appends-more first before after sent rows.block.items took last, firings, written)
