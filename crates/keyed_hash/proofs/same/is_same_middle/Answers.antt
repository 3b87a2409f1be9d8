use Rattle.std.proofs.Common.{◌≡◌, ◌-◌, List, ℕ, sym, ap, ◌∙◌, arith, take, drop, length}
use Rattle.std.specs.Int.{from_le_bytes, w32}
use Rattle.std.proofs.lemmas.Bool.{eq-eqb, eqb-true}
use Rattle.keyed_hash.proofs.SameBytes.{same_halves}
use Rattle.keyed_hash.proofs.same.is_same_middle.Goals as goal

pub returns-then-half_at : goal.returns-then-half_at
returns-then-half_at c =
    let left = c.args.left.now in
    let right = c.args.right.now in
    let last = length left - 4 in
    let first : from_le_bytes w32 (take 4 (drop 0 left)) ≡ from_le_bytes w32 (take 4 (drop 0 right)) = sym c.half_at.ensures ∙ c.if-half_at.true ∙ c.half_at-2.ensures in (
      λ same. same_halves left right last c.requires.as_many (omega arith) (omega arith) c.type_inv.left c.type_inv.right first (sym c.half_at-then-half_at.ensures ∙ eqb-true _ _ same ∙ c.half_at-then-half_at-2.ensures),
      λ is. eq-eqb _ _ (c.half_at-then-half_at.ensures ∙ ap (λ (l : List ℕ). from_le_bytes w32 (take 4 (drop last l))) is ∙ sym c.half_at-then-half_at-2.ensures),
    )
