use Rattle.std.proofs.Common.{◌∷◌, [], map}
use Rattle.std.specs.Prelude.{codes}
use Rattle.std.specs.Fmt.{decimal}
use Rattle.recording_rows.specs.Steps.Rows.{argument_text, owner_fields, side_word}
use Rattle.recording_rows.proofs.Pieces.{put_line}
use Rattle.recording_rows.proofs.fields.put_row.Goals as goal

pub returns-clause-bytes : goal.returns-clause-bytes
returns-clause-bytes c =
    let row = c.args.row.now in
    put_line c.extend_from_slice.result c.args.out.now.items _ _ _ _ _ (decimal c.args.number) (owner_fields row.owner)
    (decimal row.time ∷ codes "syscall" ∷ [] ∷ row.call.bytes.now ∷ side_word row.side ∷ []) (map argument_text row.arguments)
    c.in_ok-put_number.ensures c.in_ok-put_owner.ensures c.in_ok-put_probe.ensures.bytes c.in_ok-put_arguments.ensures.bytes c.extend_from_slice.ensures.items
