use Rattle.std.proofs.Common.{◌≡◌, ◌++◌, ◌∷◌, []}
use Rattle.std.specs.Prelude.{codes}
use Rattle.std.specs.Fmt.{decimal}
use Rattle.std.proofs.lemmas.Result.{on_ok_weaker}
use Rattle.recording_rows.specs.Steps.Rows.{after_commas}
use Rattle.recording_rows.proofs.Pieces.{put_more}
use Rattle.recording_rows.proofs.fields.put_owner.Goals as goal

pub returns : goal.returns
returns c =
    let old = c.args.out.now.items in
    let o = c.args.owner.now in
    let one : c.extend_from_slice.new.self.items ≡ old ++ after_commas (codes "0" ∷ []) = c.in_ok-extend_from_slice.ensures.items in
    let two : c.put_count.new.out.items ≡ old ++ after_commas (codes "0" ∷ decimal o.thread.number ∷ []) =
    put_more old _ _ (codes "0" ∷ []) (decimal o.thread.number ∷ []) one c.in_ok-put_count.ensures.bytes in
    let three : c.put_count-2.new.out.items ≡ old ++ after_commas (codes "0" ∷ decimal o.thread.number ∷ decimal o.process.number ∷ []) =
    put_more old _ _ (codes "0" ∷ decimal o.thread.number ∷ []) (decimal o.process.number ∷ []) two c.in_ok-put_count-2.ensures.bytes in
    on_ok_weaker c.put_text.result
    (λ put. put_more old _ _ (codes "0" ∷ decimal o.thread.number ∷ decimal o.process.number ∷ []) (o.program.bytes.now ∷ []) three put) c.put_text.ensures
