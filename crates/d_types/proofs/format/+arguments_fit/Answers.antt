use Rattle.std.proofs.Common.{◌≡◌, ◌<◌, ◌==◌, List, [], ◌∷◌, length, ne_eqb, refl, ◌∙◌, arith}
use Rattle.d_types.specs.declared.typed.Piece.{Piece}
use Rattle.d_types.specs.declared.typed.TypedExpr.{TypedExpr}
use Rattle.d_types.specs.Typed.{typeds_of}
use Rattle.d_types.specs.Formats as spec
use Rattle.d_types.proofs.format.+arguments_fit.Goals as goal

no_pieces : (ps : List Piece) (xs : List TypedExpr) → length ps < 1 → (length xs == 0) ≡ spec.fit ps (typeds_of xs)
no_pieces [] [] h = refl
no_pieces [] (x ∷ xs) h = ne_eqb (length (x ∷ xs)) 0 (λ e. omega (arith, e))
no_pieces (p ∷ ps) xs h = absurd (omega (arith, h))

pub returns-in-empty : goal.returns-in-empty
returns-in-empty t c = c.is_empty.ensures ∙ no_pieces c.args.pieces.now c.args.args.now c.in-empty.len_below
