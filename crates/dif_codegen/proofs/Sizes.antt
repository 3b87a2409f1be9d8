-- How large a tree is, counted so that it grows with each function on the way to its parts.
use Rattle.std.specs.Prelude.{◌≡◌, ◌≤◌, ℕ, ◌+◌}
use Rattle.std.proofs.Common.{ap, subst}
use Rattle.d_types.specs.Needs.{need}
use Rattle.d_types.specs.declared.typed.TypedExpr.{TypedExpr}
use Rattle.d_types.specs.Typed.{Typed, Constant, Text, Fixed, Read, Unary, Operate, Compare}
use Rattle.d_types.specs.Typed.{CompareText, Logic}
use Rattle.d_types.specs.Typed.{Choice, Convert, Assign, Update, Count, Strlen, Strjoin}
use Rattle.d_types.specs.Typed.{Typeds, end, more, typed_of}

abbrev mutual
  pub size : Typed → ℕ
  size (Constant t word) = 1
  size (Text bytes) = 1
  size (Fixed b) = 1
  size (Read x keys) = 2 + sizes keys
  size (Unary o t a) = 1 + size a
  size (Operate o a b) = 3 + size a + size b
  size (Compare o t a b) = 2 + size a + size b
  size (CompareText o a b) = 2 + size a + size b
  size (Logic o a b) = 3 + size a + size b
  size (Choice t c a b) = 2 + size c + size a + size b
  size (Convert t u a) = 1 + size a
  size (Assign x keys a) = 2 + sizes keys + size a
  size (Update o x keys a) = 2 + sizes keys + size a
  size (Count step answer x keys) = 2 + sizes keys
  size (Strlen a) = 1 + size a
  size (Strjoin a b) = 3 + size a + size b

  pub sizes : Typeds → ℕ
  sizes end = 0
  sizes (more a rest) = 1 + size a + sizes rest

-- what an expression with keys hands to its own function: a smaller tree, and registers enough
pub calls : (tree : TypedExpr) (z : Typed) (r : ℕ) → typed_of tree ≡ z → r + need (typed_of tree) ≤ 7 → (size (typed_of tree) ≡ size z) × (r + need z ≤ 7)
calls tree z r e few = (ap size e, subst (λ z. r + need z ≤ 7) e few)
