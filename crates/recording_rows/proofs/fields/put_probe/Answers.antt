use Rattle.std.proofs.Common.{◌≡◌, ◌++◌, ◌∷◌, [], ap, ◌∙◌, ℕ, List}
use Rattle.std.specs.Prelude.{codes}
use Rattle.std.specs.Fmt.{decimal}
use Rattle.std.proofs.lemmas.Result.{on_ok_weaker}
use Rattle.recording_rows.specs.Steps.Rows.{after_commas, side_word}
use Rattle.recording_rows.proofs.Pieces.{put_more}
use Rattle.recording_rows.proofs.fields.put_probe.Goals as goal

pub returns-clause-bytes : goal.returns-clause-bytes
returns-clause-bytes c =
    let old = c.args.out.now.items in
    let row = c.args.row.now in
    let one : c.put_count.new.out.items ≡ old ++ after_commas (decimal row.time ∷ []) = c.in_ok-put_count.ensures.bytes in
    let two : c.extend_from_slice.new.self.items ≡ old ++ after_commas (decimal row.time ∷ codes "syscall" ∷ [] ∷ []) =
    put_more old _ _ (decimal row.time ∷ []) (codes "syscall" ∷ [] ∷ []) one c.in_ok-extend_from_slice.ensures.items in
    let three : c.put_text.new.out.items ≡ old ++ after_commas (decimal row.time ∷ codes "syscall" ∷ [] ∷ row.call.bytes.now ∷ []) =
    put_more old _ _ (decimal row.time ∷ codes "syscall" ∷ [] ∷ []) (row.call.bytes.now ∷ []) two c.in_ok-put_text.ensures in
    on_ok_weaker c.put_text-2.result
    (λ put. put_more old _ _ (decimal row.time ∷ codes "syscall" ∷ [] ∷ row.call.bytes.now ∷ []) (side_word row.side ∷ []) three
    (put ∙ ap (λ (w : List ℕ). c.put_text.new.out.items ++ after_commas (w ∷ [])) c.word.ensures)) c.put_text-2.ensures
