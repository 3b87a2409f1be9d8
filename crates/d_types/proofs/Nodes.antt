-- A node with keys, by the list of its keys.
use Rattle.std.proofs.Common.{◌≡◌, List, sym, ap, ◌∙◌, Vec, Global}
use Rattle.d_parser.specs.declared.operators.Step.{Step}
use Rattle.d_types.specs.declared.typed.Answer.{Answer}
use Rattle.d_types.specs.declared.typed.Operation.{Operation}
use Rattle.d_types.specs.declared.typed.Variable.{Variable}
use Rattle.d_types.specs.declared.typed.TypedExpr.{TypedExpr}
use Rattle.d_types.specs.declared.typed.TypedExpr.TheVariants as e
use Rattle.d_types.specs.Typed as typed
use Rattle.d_types.specs.Typed.{Typeds, typed_of, typeds_of}
use Rattle.d_types.proofs.Rows.{keys_are}

pub read_is : (tree : TypedExpr) (x : Variable) (keys : Vec TypedExpr Global) (items : List TypedExpr) →
    tree ≡ e.Read x keys → items ≡ keys.items → typed_of tree ≡ typed.Read x (typeds_of items)
read_is tree x keys items is same = ap typed_of is ∙ ap (typed.Read x) (keys_are keys ∙ ap typeds_of (sym same))

pub assign_is : (tree : TypedExpr) (x : Variable) (keys : Vec TypedExpr Global) (a : _) (items : List TypedExpr) →
    tree ≡ e.Assign x keys a → items ≡ keys.items → typed_of tree ≡ typed.Assign x (typeds_of items) (typed_of a.value)
assign_is tree x keys a items is same =
    ap typed_of is ∙ ap (λ (ks : Typeds). typed.Assign x ks (typed_of a.value)) (keys_are keys ∙ ap typeds_of (sym same))

pub update_is : (tree : TypedExpr) (o : Operation) (x : Variable) (keys : Vec TypedExpr Global) (a : _) (items : List TypedExpr) →
    tree ≡ e.Update o x keys a → items ≡ keys.items → typed_of tree ≡ typed.Update o x (typeds_of items) (typed_of a.value)
update_is tree o x keys a items is same =
    ap typed_of is ∙ ap (λ (ks : Typeds). typed.Update o x ks (typed_of a.value)) (keys_are keys ∙ ap typeds_of (sym same))

pub step_is : (tree : TypedExpr) (step : Step) (answer : Answer) (x : Variable) (keys : Vec TypedExpr Global) (items : List TypedExpr) →
    tree ≡ e.Step step answer x keys → items ≡ keys.items → typed_of tree ≡ typed.Count step answer x (typeds_of items)
step_is tree step answer x keys items is same =
    ap typed_of is ∙ ap (typed.Count step answer x) (keys_are keys ∙ ap typeds_of (sym same))
