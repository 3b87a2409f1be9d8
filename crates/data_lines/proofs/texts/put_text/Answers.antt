use Rattle.std.proofs.Common.{rules, arith, ◌≡◌, ◌++◌, ◌∷◌, [], cond, false, true, sym, ap, ◌∙◌}
use Rattle.std.proofs.Math.Path.{subst}
use Rattle.std.proofs.lemmas.Result.{on_ok_weaker}
use Rattle.std.proofs.lemmas.Str.{IsUtf8-from_ascii}
use Rattle.std.proofs.lemmas.Str.Ascii.{IsAscii-cons, IsAscii-nil}
use Rattle.std.specs.Str.{IsUtf8, is_utf8}
use Rattle.data_lines.specs.Texts.{in_hex, json_string}
use Rattle.data_lines.proofs.Utf8.{is_utf8-from_rest, not_utf8-from_rest}
use Rattle.data_lines.proofs.texts.put_text.Goals as goal

pub returns-then-eq : goal.returns-then-eq
returns-then-eq c =
    let text = c.args.text.now in
    let old = c.args.out.now.items in
    let plain = c.split_at.result.0.now in
    let feed : c.split_at.result.1.now ≡ 10 ∷ [] = search rules in
    let whole : text ≡ plain ++ 10 ∷ [] = c.split_at.ensures.by_index.0 ∙ ap (λ rest. plain ++ rest) feed in
    let rest : IsUtf8 (10 ∷ []) = IsUtf8-from_ascii (10 ∷ []) (IsAscii-cons 10 [] (omega arith) IsAscii-nil) in
    let is : is_utf8 text ≡ true = is_utf8-from_rest text c.plain_len.result c.plain_len.ensures.ascii (subst IsUtf8 (sym feed ∙ c.split_at.ensures.back) rest) in
    on_ok_weaker c.put_line.result (λ put.
    put ∙ ap (λ t. old ++ json_string t) (sym whole) ∙ ap (λ t. old ++ cond t (json_string text) (in_hex text)) (sym is)) c.put_line.ensures

pub returns-in-Ok : goal.returns-in-Ok
returns-in-Ok c =
    let text = c.args.text.now in
    let old = c.args.out.now.items in
    let rest = subst IsUtf8 c.split_at.ensures.back c.in-Ok.ensures.cases.1 in
    let is : is_utf8 text ≡ true = is_utf8-from_rest text c.plain_len.result c.plain_len.ensures.ascii rest in
    on_ok_weaker c.put_string.result (λ put.
    put ∙ ap (λ t. old ++ json_string t) (sym c.split_at.ensures.by_index.0) ∙ ap (λ t. old ++ cond t (json_string text) (in_hex text)) (sym is)) c.put_string.ensures

pub returns-in-Err : goal.returns-in-Err
returns-in-Err c =
    let text = c.args.text.now in
    let old = c.args.out.now.items in
    let rest = subst (λ r. ¬ (IsUtf8 r)) c.split_at.ensures.back c.in-Err.ensures.cases.0 in
    let is : is_utf8 text ≡ false = not_utf8-from_rest text c.plain_len.result c.plain_len.ensures.within c.plain_len.ensures.ascii rest in
    on_ok_weaker c.put_in_hex.result (λ put. put ∙ ap (λ t. old ++ cond t (json_string text) (in_hex text)) (sym is)) c.put_in_hex.ensures
