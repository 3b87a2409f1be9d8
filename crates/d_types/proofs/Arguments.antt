-- Arguments, taken from the end.
use Rattle.std.proofs.Common.{◌≡◌, ◌==◌, true, false, List, [], ◌∷◌, ◌++◌, length, Option, Some, None}
use Rattle.std.proofs.Common.{vec_len, refl, sym, ap, ◌∙◌, Vec, Global, arith}
use Rattle.std.proofs.lemmas.List.{nil_from_length}
use Rattle.std.proofs.lemmas.Bool.Decides.{nat_tests}
use Rattle.d_types.specs.declared.typed.TypedExpr.{TypedExpr}
use Rattle.d_types.specs.Typed.{Typed, typed_of, typeds_of, type_of}
use Rattle.d_types.specs.Steps.Typing.{strjoin, only, strjoin_of}

none_left : (v : Vec TypedExpr Global) → (vec_len v == 0) ≡ true → v.items ≡ []
none_left v h =
    let len : vec_len v ≡ length v.items = v.ok.0 in
    let zero_long : length v.items ≡ 0 = grind (arith, nat_tests) in
    nil_from_length v.items zero_long

some_left : (v : Vec TypedExpr Global) → (vec_len v == 0) ≡ false → (length v.items == 0) ≡ false
some_left v h = ap (λ n. n == 0) (sym v.ok.0) ∙ h

too_many : (ys : List TypedExpr) (x : TypedExpr) → (length ys == 0) ≡ false → only (typeds_of (ys ++ x ∷ [])) ≡ None
too_many [] x h = cc
too_many (y ∷ []) x h = refl
too_many (y ∷ z ∷ ys) x h = refl

module _ (all : List TypedExpr) (rest : Vec TypedExpr Global) (x : TypedExpr) (popped : all ≡ rest.items ++ x ∷ []) where
  pub one_argument : (vec_len rest == 0) ≡ true → only (typeds_of all) ≡ Some (typed_of x)
  one_argument h = rw (popped, none_left rest h) refl

  pub more_arguments : (vec_len rest == 0) ≡ false → only (typeds_of all) ≡ None
  more_arguments h = rw popped (too_many rest.items x (some_left rest h))

-- a first argument, if it is the only one before the second
abbrev joined : Option Typed → Typed → Option Typed
joined None y = None
joined (Some x) y = strjoin (type_of x) (type_of y) x y

joined_last : (xs : List TypedExpr) (y : TypedExpr) → strjoin_of (typeds_of (xs ++ y ∷ [])) ≡ joined (only (typeds_of xs)) (typed_of y)
joined_last [] y = refl
joined_last (a ∷ []) y = refl
joined_last (a ∷ b ∷ []) y = refl
joined_last (a ∷ b ∷ c ∷ xs) y = refl

module _ (all others : List TypedExpr) (y : TypedExpr) (last : all ≡ others ++ y ∷ []) where
  pub two_arguments : (x : TypedExpr) → Some (typed_of x) ≡ only (typeds_of others) → strjoin_of (typeds_of all) ≡ strjoin (type_of (typed_of x)) (type_of (typed_of y)) (typed_of x) (typed_of y)
  two_arguments x h = rw (last, joined_last others y, ← h) refl

  pub not_two : None ≡ only (typeds_of others) → strjoin_of (typeds_of all) ≡ None
  not_two h = rw (last, joined_last others y, ← h) refl
