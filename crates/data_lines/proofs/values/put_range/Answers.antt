use Rattle.std.proofs.Common.{◌≡◌, ◌++◌, sym, ap, ◌∙◌, rules, to_z, of_z, w32}
use Rattle.std.specs.Prelude.{codes}
use Rattle.std.specs.Fmt.{decimal, signed_decimal}
use Rattle.std.proofs.lemmas.Result.{on_ok_weaker}
use Rattle.data_lines.specs.Vocabulary.{levels_of}
use Rattle.data_lines.specs.Values.{number_member, range_members}
use Rattle.data_lines.proofs.Pieces.{put_more}
use Rattle.data_lines.proofs.values.put_range.Goals as goal

pub returns : goal.returns
returns c =
    let old = c.args.out.now.items in
    let r = c.in-Steps.range in
    let lower = number_member (codes "lower") (signed_decimal r.lower) in
    let upper = number_member (codes "upper") (signed_decimal r.upper) in
    let step = number_member (codes "step") (decimal r.step) in
    let levels = number_member (codes "levels") (decimal (levels_of r)) in
    let out = c.put_member.new.out.items in
    let out-2 = c.put_member-2.new.out.items in
    let out-3 = c.put_member-3.new.out.items in
    let lower-is : to_z w32 (of_z w32 c.lower.result) ≡ c.lower.result = search rules in
    let upper-is : to_z w32 (of_z w32 c.upper.result) ≡ c.upper.result = search rules in
    let one : out ≡ old ++ lower = c.in_ok-put_member.ensures ∙ ap (λ n. old ++ number_member (codes "lower") (signed_decimal n)) (lower-is ∙ c.lower.ensures) in
    let two : out-2 ≡ old ++ (lower ++ upper) = put_more old out out-2 lower upper one
    (c.in_ok-put_member-2.ensures ∙ ap (λ n. out ++ number_member (codes "upper") (signed_decimal n)) (upper-is ∙ c.upper.ensures)) in
    let three : out-3 ≡ old ++ (lower ++ upper ++ step) = put_more old out-2 out-3 (lower ++ upper) step two
    (c.in_ok-put_member-3.ensures ∙ ap (λ n. out-2 ++ number_member (codes "step") (decimal n)) c.step.ensures) in
    on_ok_weaker c.put_member-4.result (λ put. put_more old out-3 c.put_member-4.new.out.items (lower ++ upper ++ step) levels three
    (put ∙ ap (λ n. out-3 ++ number_member (codes "levels") (decimal n)) c.levels.ensures) ∙ ap (λ s. old ++ range_members s) (sym c.in-Steps.is)) c.put_member-4.ensures
