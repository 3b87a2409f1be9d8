-- Needs of expressions with keys.
use Rattle.std.proofs.Common.{◌≡◌, ℕ, ◌+◌, nat_le, max, ◌&&◌, length, ap, ◌∙◌, Vec, Global, arith}
use Rattle.std.proofs.lemmas.Bool.Decides.{nat_tests}
use Rattle.d_parser.specs.declared.operators.Step.{Step}
use Rattle.d_types.specs.declared.typed.Answer.{Answer}
use Rattle.d_types.specs.declared.typed.Operation.{Operation}
use Rattle.d_types.specs.declared.typed.Variable.{Variable}
use Rattle.d_types.specs.declared.typed.TypedExpr.{TypedExpr}
use Rattle.d_types.specs.declared.typed.TypedExpr.TheVariants as e
use Rattle.d_types.specs.Typed as typed
use Rattle.d_types.specs.Typed.{Typeds, typed_of, typeds_of}
use Rattle.d_types.specs.Needs.{need, need_of_keys, count}
use Rattle.d_types.proofs.Rows.{keys_are, count_is}

pub read_need : (v : Variable) (keys : Vec TypedExpr Global) → need (typed_of (e.Read v keys)) ≡ max (need_of_keys 0 (typeds_of keys.items)) 1
read_need v keys = ap (λ (ks : Typeds). need (typed.Read v ks)) (keys_are keys)

pub step_need : (step : Step) (answer : Answer) (v : Variable) (keys : Vec TypedExpr Global) →
    need (typed_of (e.Step step answer v keys)) ≡ max (need_of_keys 0 (typeds_of keys.items)) (count (typeds_of keys.items) + 1)
step_need step answer v keys = ap (λ (ks : Typeds). need (typed.Count step answer v ks)) (keys_are keys)

greatest : (a b r : ℕ) → nat_le (max a b) r ≡ (nat_le a r && nat_le b r)
greatest a b r = grind (arith, nat_tests)

pub assign_fits : (v : Variable) (keys : Vec TypedExpr Global) (a : _) (r : ℕ) →
    nat_le (need (typed_of (e.Assign v keys a))) r ≡ (nat_le (need_of_keys 0 (typeds_of keys.items)) r && nat_le (length keys.items + need (typed_of a.value)) r)
assign_fits v keys a r =
    ap (λ (ks : Typeds). nat_le (need (typed.Assign v ks (typed_of a.value))) r) (keys_are keys)
    ∙ ap (λ n. nat_le (max (need_of_keys 0 (typeds_of keys.items)) (n + need (typed_of a.value))) r) (count_is keys.items)
    ∙ greatest _ _ r

pub update_fits : (o : Operation) (v : Variable) (keys : Vec TypedExpr Global) (a : _) (r : ℕ) →
    nat_le (need (typed_of (e.Update o v keys a))) r ≡ (nat_le (need_of_keys 0 (typeds_of keys.items)) r && nat_le (length keys.items + 1 + need (typed_of a.value)) r)
update_fits o v keys a r =
    ap (λ (ks : Typeds). nat_le (need (typed.Update o v ks (typed_of a.value))) r) (keys_are keys)
    ∙ ap (λ n. nat_le (max (need_of_keys 0 (typeds_of keys.items)) (n + 1 + need (typed_of a.value))) r) (count_is keys.items)
    ∙ greatest _ _ r
