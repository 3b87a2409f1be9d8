-- What a piece has more after several calls.
use Rattle.std.proofs.Common.{ℕ, ◌+◌, ◌≤◌, refl, arith, ◌∙◌}
use Rattle.replay_core.specs.Effects.{HasMore}
use Rattle.replay_core.specs.declared.lanes.piece.Piece.{Piece}

pub no_more : (n : ℕ) (p : Piece) → HasMore n p p
no_more n p = record { held = omega arith; functions = refl; taken = refl }

pub more_then : (a b n : ℕ) (p q r : Piece) → a + b ≤ n → HasMore a p q → HasMore b q r → HasMore n p r
more_then a b n p q r most first next =
    let one = first.held in
    let two = next.held in
    record {
      held = omega (arith, one, two, most);
      functions = next.functions ∙ first.functions;
      taken = next.taken ∙ first.taken;
    }
