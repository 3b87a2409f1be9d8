use Rattle.std.proofs.Common.{◌≡◌, ◌++◌}
use Rattle.std.specs.Prelude.{codes}
use Rattle.std.specs.Fmt.{decimal}
use Rattle.data_lines.specs.Texts.{text_value}
use Rattle.data_lines.proofs.Pieces.{put_last, put_more}
use Rattle.data_lines.proofs.lines.put_text_line.Goals as goal

pub returns : goal.returns
returns c =
    let old = c.args.out.now.items in
    let kind = codes "{\"kind\":\"text\",\"firing\":" in
    let firing = decimal c.args.firing in
    let member = codes ",\"text\":" in
    let text = text_value c.args.text.now in
    let one : c.extend_from_slice.new.self.items ≡ old ++ kind = c.in_ok-extend_from_slice.ensures.items in
    let two : c.put_number.new.out.items ≡ old ++ (kind ++ firing) = put_more old _ _ kind firing one c.in_ok-put_number.ensures in
    let three : c.extend_from_slice-2.new.self.items ≡ old ++ (kind ++ firing ++ member) = put_more old _ _ (kind ++ firing) member two c.in_ok-extend_from_slice-2.ensures.items in
    let four : c.put_text.new.out.items ≡ old ++ (kind ++ firing ++ member ++ text) = put_more old _ _ (kind ++ firing ++ member) text three c.in_ok-put_text.ensures in
    put_last c.extend_from_slice-3.result old _ _ (kind ++ firing ++ member ++ text) (codes "}\n") four c.extend_from_slice-3.ensures.items
