use Rattle.std.proofs.Common.{◌≡◌, ◌++◌, subst}
use Rattle.std.specs.Prelude.{codes}
use Rattle.std.specs.Fmt.{decimal}
use Rattle.data_lines.specs.Lines.{function_word, written_name}
use Rattle.data_lines.specs.Texts.{text_value}
use Rattle.data_lines.proofs.Pieces.{put_last, put_more}
use Rattle.data_lines.proofs.lines.put_entry_head.Goals as goal

pub returns : goal.returns
returns c =
    let old = c.args.out.now.items in
    let kind = codes "{\"kind\":\"entry\",\"aggregation\":" in
    let index = decimal c.args.index in
    let before_name = codes ",\"name\":" in
    let name = text_value (written_name c.args.name.now) in
    let before_function = codes ",\"function\":\"" in
    let function = function_word c.args.function in
    let one : c.extend_from_slice.new.self.items ≡ old ++ kind = c.in_ok-extend_from_slice.ensures.items in
    let two : c.put_number.new.out.items ≡ old ++ (kind ++ index) = put_more old _ _ kind index one c.in_ok-put_number.ensures in
    let three : c.extend_from_slice-2.new.self.items ≡ old ++ (kind ++ index ++ before_name) = put_more old _ _ (kind ++ index) before_name two c.in_ok-extend_from_slice-2.ensures.items in
    let four : c.put_name.new.out.items ≡ old ++ (kind ++ index ++ before_name ++ name) = put_more old _ _ (kind ++ index ++ before_name) name three c.in_ok-put_name.ensures in
    let five : c.extend_from_slice-3.new.self.items ≡ old ++ (kind ++ index ++ before_name ++ name ++ before_function) = put_more old _ _ (kind ++ index ++ before_name ++ name) before_function four c.in_ok-extend_from_slice-3.ensures.items in
    let word : c.extend_from_slice-4.new.self.items ≡ c.extend_from_slice-3.new.self.items ++ function = subst (λ w. c.extend_from_slice-4.new.self.items ≡ c.extend_from_slice-3.new.self.items ++ w) c.function_word.ensures c.in_ok-extend_from_slice-4.ensures.items in
    let six : c.extend_from_slice-4.new.self.items ≡ old ++ (kind ++ index ++ before_name ++ name ++ before_function ++ function) = put_more old _ _ (kind ++ index ++ before_name ++ name ++ before_function) function five word in
    put_last c.extend_from_slice-5.result old _ _ (kind ++ index ++ before_name ++ name ++ before_function ++ function) (codes "\",\"key\":") six c.extend_from_slice-5.ensures.items
