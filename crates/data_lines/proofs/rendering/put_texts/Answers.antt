use Rattle.std.proofs.Common.{◌≡◌, ◌+◌, ◌++◌, drop, ap, sym, ◌∙◌, append_assoc, arith}
use Rattle.std.specs.List.{flat_map}
use Rattle.std.proofs.lemmas.List.{drop_more}
use Rattle.data_lines.specs.Lines.{text_line}
use Rattle.data_lines.proofs.rendering.put_texts.Goals as goal

pub loop-firing-preserved : goal.loop-firing-preserved
loop-firing-preserved c =
    let texts = c.args.texts.now in
    let i = c.loop-firing.firing-index in
    let out = c.loop-firing.out.items in
    let item = c.loop-firing-item.result in
    let rest = flat_map text_line (drop (i + 1) texts) in
    let put : c.put_text_line.new.out.items ≡ out ++ text_line item =
    c.in_ok-put_text_line.ensures ∙ ap (λ text. out ++ text_line (item.0, text)) c.as_bytes.ensures in
    let next : flat_map text_line (drop i texts) ≡ text_line item ++ rest =
    ap (flat_map text_line) (drop_more texts i item (omega arith)) ∙ ap (λ text. text_line text ++ rest) (sym c.loop-firing-item.is) in
    ap (λ l. l ++ rest) put ∙ append_assoc out (text_line item) rest ∙ ap (λ l. out ++ l) (sym next) ∙ c.loop-firing.invariant
