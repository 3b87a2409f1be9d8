-- How many parts an expression has: what evaluation goes down.
use Rattle.std.proofs.Common.{◌≤◌, ◌<◌, ◌+◌, ℕ, zero, suc, List, [], ◌∷◌, length, get_or, arith}
use Rattle.d_types.specs.Typed.{Constant, Text, Fixed, Read, Unary, Operate, Compare, CompareText}
use Rattle.d_types.specs.Typed.{Logic, Choice, Convert, Assign, Update, Count, Strlen, Strjoin, end}
use Rattle.d_types.specs.Typed.{more}
use Rattle.replay_core.specs.Vocabulary.{TypedExpr, Typed, Typeds, typed_of, typeds_of}

abbrev mutual
  pub weight : Typed → ℕ
  weight (Constant t word) = 0
  weight (Text bytes) = 0
  weight (Fixed b) = 0
  weight (Read x keys) = suc (weights keys)
  weight (Unary o t a) = suc (weight a)
  weight (Operate o a b) = suc (weight a + weight b)
  weight (Compare o t a b) = suc (weight a + weight b)
  weight (CompareText o a b) = suc (weight a + weight b)
  weight (Logic o a b) = suc (weight a + weight b)
  weight (Choice t c a b) = suc (weight c + weight a + weight b)
  weight (Convert t u a) = suc (weight a)
  weight (Assign x keys a) = suc (weights keys + weight a)
  weight (Update o x keys a) = suc (weights keys + weight a)
  weight (Count step answer x keys) = suc (weights keys)
  weight (Strlen a) = suc (weight a)
  weight (Strjoin a b) = suc (weight a + weight b)

  pub weights : Typeds → ℕ
  weights end = 0
  weights (more a rest) = weight a + weights rest

-- a key is no heavier than all
pub key_is_light : (keys : List TypedExpr) (i : ℕ) (d : TypedExpr) → i < length keys → weight (typed_of (get_or keys i d)) ≤ weights (typeds_of keys)
key_is_light [] i d lt = absurd (omega arith)
key_is_light (k ∷ keys) zero d lt = omega arith
key_is_light (k ∷ keys) (suc i) d lt = let rest = key_is_light keys i d (omega arith) in omega (arith, rest)
