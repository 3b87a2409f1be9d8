use Rattle.std.specs.Prelude.{◌<◌, ◌+◌, ◌*◌, List, length, take}
use Rattle.std.proofs.Common.{sym, ap, subst, ◌∙◌, arith}
use Rattle.std.proofs.lemmas.List.{length-take-le, take_more_set}
use Rattle.numbered.specs.declared.word.Word.{Word}
use Rattle.numbered.specs.Shapes.{shape_of}
use Rattle.numbered.proofs.Shaped.{digits_more, digit_small, shape_below}
use Rattle.numbered.proofs.tuple.Tuple.push.Goals as goal

pub overflow_mul-self : goal.overflow_mul-self
overflow_mul-self c =
    let i = c.self.inside in
    let few = subst (λ (ws : List Word). length ws < 8) (sym c.self.view_is) c.requires in
    let below = shape_below (take i.len i.words) 8 (omega (arith, few)) in
    omega arith

pub overflow_add-self-2 : goal.overflow_add-self-2
overflow_add-self-2 c =
    let i = c.self.inside in
    let few = subst (λ (ws : List Word). length ws < 8) (sym c.self.view_is) c.requires in
    let below = shape_below (take i.len i.words) 8 (omega (arith, few)) in
    let digit = digit_small c.args.word in
    omega (arith, c.digit.ensures)

pub invariant_of-self : goal.invariant_of-self
invariant_of-self c =
    let i = c.self.inside in
    let few = subst (λ (ws : List Word). length ws < 8) (sym c.self.view_is) c.requires in
    let count = length-take-le i.len i.words (omega arith) in (
      omega (arith, few, count),
      ap (λ n. 2 * n + c.digit.result) c.self.invariant.1
          ∙ ap (λ d. 2 * shape_of (take i.len i.words) + d) c.digit.ensures
          ∙ sym (digits_more 1 (take i.len i.words) c.args.word)
          ∙ ap shape_of (sym (take_more_set i.words i.len c.args.word (omega (arith, few, count)))),
    )
