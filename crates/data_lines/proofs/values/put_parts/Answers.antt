use Rattle.std.proofs.Common.{◌≡◌, ◌<◌, ◌∷◌, [], ◌++◌, List, length, get_or, take, drop, ◌-◌, sym, ap, ◌∙◌}
use Rattle.std.proofs.Common.{append_assoc, append-nil, arith, rules}
use Rattle.std.proofs.lemmas.List.{drop_all, take_rest}
use Rattle.std.specs.List.{flat_map}
use Rattle.data_lines.specs.Json.{comma_list}
use Rattle.data_lines.specs.Vocabulary.{KeyPart}
use Rattle.data_lines.specs.Values.{part_value}
use Rattle.data_lines.proofs.values.put_parts.Goals as goal

-- the first, and the others after commas
first_and_rest : (parts : List KeyPart) (first : KeyPart) → 0 < length parts → first ≡ get_or parts 0 first
    → comma_list part_value parts ≡ part_value first ++ flat_map (λ p. 44 ∷ part_value p) (drop 1 parts)
first_and_rest [] first some is = absurd (omega arith)
first_and_rest (part ∷ parts) first some is = ap (λ p. part_value p ++ flat_map (λ p. 44 ∷ part_value p) parts) (sym is)

pub returns : goal.returns
returns c =
    let parts = c.args.parts.now in
    let old = c.args.out.now.items in
    let first = c.first-item.result in
    let put = flat_map (λ p. 44 ∷ part_value p) in
    let rest = take (length parts - 1) (drop 1 parts) in
    let done : c.loop-part.out.items ≡ c.put_part.new.out.items ++ put rest =
    sym (append-nil c.loop-part.out.items) ∙ ap (λ l. c.loop-part.out.items ++ put l) (sym (drop_all c.loop-part.part-index rest (let past = c.loop-part-test.false in omega arith)))
    ∙ c.loop-part.invariant in
    let before : c.put_part.new.out.items ≡ old ++ part_value first = search rules in
    let some = c.in-len1-up.len_at_least in
    done ∙ ap (λ l. c.put_part.new.out.items ++ put l) (take_rest parts 1) ∙ ap (λ l. l ++ put (drop 1 parts)) before
    ∙ append_assoc old (part_value first) (put (drop 1 parts))
    ∙ ap (λ l. old ++ l) (sym (first_and_rest parts first (omega arith) c.first-item.is))
