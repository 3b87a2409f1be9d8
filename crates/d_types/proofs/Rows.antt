-- A row of typed trees as a list.
use Rattle.std.proofs.Common.{◌≡◌, List, [], ◌∷◌, ◌++◌, length, refl, ap, ◌∙◌, Vec, Global, arith}
use Rattle.d_types.specs.declared.typed.TypedExpr.{TypedExpr, Row_of-TypedExpr, end_of-TypedExpr}
use Rattle.d_types.specs.declared.typed.TypedExpr.{more_of-TypedExpr, items-the_row-TypedExpr}
use Rattle.d_types.specs.declared.typed.TypedExpr.{items_hidden-the_row-TypedExpr-0}
use Rattle.d_types.specs.declared.typed.TypedExpr.TheBlock.{hidden-the_row-TypedExpr-0}
use Rattle.d_types.specs.Typed.{more, typed_of, typeds_in, typeds_of}
use Rattle.d_types.specs.Steps.Typing.{with_typed}
use Rattle.d_types.specs.Needs.{count}

row_is : {m : _} (row : Row_of-TypedExpr m) → typeds_in row ≡ typeds_of (items-the_row-TypedExpr m row)
row_is end_of-TypedExpr = refl
row_is (more_of-TypedExpr a rest) = ap (more (typed_of a)) (row_is rest)

pub keys_are : (keys : Vec TypedExpr Global) → typeds_in (hidden-the_row-TypedExpr-0 keys) ≡ typeds_of keys.items
keys_are keys = row_is (hidden-the_row-TypedExpr-0 keys) ∙ ap typeds_of (items_hidden-the_row-TypedExpr-0 keys)

pub typeds_push : (xs : List TypedExpr) (x : TypedExpr) → typeds_of (xs ++ x ∷ []) ≡ with_typed (typeds_of xs) (typed_of x)
typeds_push [] x = refl
typeds_push (y ∷ xs) x = ap (more (typed_of y)) (typeds_push xs x)

pub count_is : (xs : List TypedExpr) → count (typeds_of xs) ≡ length xs
count_is [] = refl
count_is (x ∷ xs) = let e : count (typeds_of xs) ≡ length xs = count_is xs in omega arith
