use Rattle.std.proofs.Common.{◌≡◌, ◌+◌, ◌-◌, ◌*◌, List, ℕ, sym, ap, ◌∙◌, arith, take, drop, length}
use Rattle.std.specs.Int.{from_le_bytes, w64}
use Rattle.std.proofs.lemmas.Bool.{eq-eqb, eqb-true}
use Rattle.keyed_hash.proofs.SameBytes.{same_last, same_next}
use Rattle.keyed_hash.proofs.same.is_same_long.Goals as goal

pub loop-word-preserved : goal.loop-word-preserved
loop-word-preserved c =
    let left = c.args.left.now in
    let right = c.args.right.now in
    let n = 8 * c.loop-word.word in
    let is : from_le_bytes w64 (take 8 (drop n left)) ≡ from_le_bytes w64 (take 8 (drop n right)) = sym c.word_at.ensures ∙ c.if-word_at.false ∙ c.word_at-in-loop-word.ensures in
    same_next left right n (8 * (c.loop-word.word + 1)) (omega arith) (omega arith) c.requires.as_many c.type_inv.left c.type_inv.right is c.loop-word.invariant

pub returns : goal.returns
returns c =
    let left = c.args.left.now in
    let right = c.args.right.now in
    let last = length left - 8 in (
      λ same. same_last left right (8 * c.loop-word.word) last c.requires.as_many (omega arith) (omega arith) c.type_inv.left c.type_inv.right c.loop-word.invariant (sym c.word_at-2.ensures ∙ eqb-true _ _ same ∙ c.word_at-3.ensures),
      λ is. eq-eqb _ _ (c.word_at-2.ensures ∙ ap (λ (l : List ℕ). from_le_bytes w64 (take 8 (drop last l))) is ∙ sym c.word_at-3.ensures),
    )
