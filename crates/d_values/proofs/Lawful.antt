-- What is wrapped into a type, and what is set.
use Rattle.std.specs.Prelude.{◌≡◌, ◌≢◌, ℕ, suc, ◌-◌, ◌%◌, ◌^◌, ◌<◌, ◌≤◌, ℤ, pos}
use Rattle.std.specs.Prelude.{negsuc, neg_ℤ, ◌-ℤ◌, ◌≤ℤ◌, ◌<ℤ◌, true, false, ◌&&◌}
use Rattle.std.specs.Prelude.{if◌then◌else◌, List}
use Rattle.std.proofs.Common.{refl, sym, ap, ◌∙◌, arith, inl, inr, subst}
use Rattle.std.proofs.lemmas.Bool.{and_parts, cases_lt, false_from_ne_true}
use Rattle.std.proofs.lemmas.Bool.Decides.{nat_tests}
use Rattle.std.proofs.lemmas.Int.{ints}
use Rattle.std.proofs.lemmas.Nat.{pow_pos}
use Rattle.std.proofs.Math.Nat.{mod-eq_of_lt, mod-lt}
use Rattle.d_values.specs.Numbers.{modulo, number_of_bits, wrap, least_of, bound_of, IsNumber}
use Rattle.d_values.specs.Numbers.{IsWrapped}
use Rattle.d_values.specs.Stores.{with_local, with_own}
use Rattle.d_values.specs.Variables.{same_var, same_var_decides}
use Rattle.d_values.specs.Keys.{same_key}
use Rattle.d_values.specs.KeyLaws.{same_key_decides}
use Rattle.d_values.specs.Vocabulary.{IntType, KeyPart, Var}
use Rattle.d_values.proofs.Wrapping.{typed_plain, typed_low, typed_high, sizes}

modulo_below : (z : ℤ) (m : ℕ) → 0 < m → modulo z m < m
modulo_below (pos n) m positive = mod-lt n positive
modulo_below (negsuc n) m positive = omega arith

-- a number that is low - size, of the lowest bits
modulo-below_zero : (low size : ℕ) → low < size → modulo (pos low -ℤ pos size) size ≡ low
modulo-below_zero low size small =
    let negative : pos low -ℤ pos size ≡ negsuc (size - suc low) = omega (arith, ints) in
    let rest : (size - suc low) % size ≡ size - suc low = mod-eq_of_lt (omega arith) in
    ap (λ z. modulo z size) negative ∙ (let e : modulo (negsuc (size - suc low)) size ≡ low = omega arith in e)

plain_bounds : (t : IntType) → t.signed ≡ false → (least_of t ≡ pos 0) × (bound_of t ≡ pos (2 ^ t.width))
plain_bounds t plain = (grind (arith, nat_tests), grind (arith, nat_tests))

signed_bounds : (t : IntType) → t.signed ≡ true → (least_of t ≡ neg_ℤ (pos (2 ^ (t.width - 1)))) × (bound_of t ≡ pos (2 ^ (t.width - 1)))
signed_bounds t signed = (grind (arith, nat_tests), grind (arith, nat_tests))

-- a number of the type has these bounds
within : (t : IntType) (n lo hi : ℤ) → (least_of t ≡ lo) × (bound_of t ≡ hi) → lo ≤ℤ n → n <ℤ hi → IsNumber t n
within t n lo hi are least below = record { least = subst (λ z. z ≤ℤ n) (sym are.0) least; below = subst (λ z. n <ℤ z) (sym are.1) below }

module _ (t : IntType) (low : ℕ) (small : low < 2 ^ t.width) where
  -- what the lowest bits stand for: a number of the type, with these bits
  record Fine (n : ℤ) : Type 0 where
    number : IsNumber t n
    same : modulo n (2 ^ t.width) ≡ low

  fine : Fine (number_of_bits t low)
  fine = elim t.signed as (λ s. t.signed ≡ s → Fine (number_of_bits t low)) [
    | true ↦ λ signed. elim (cases_lt low (2 ^ (t.width - 1))) [
      | inl under ↦ subst Fine (sym (typed_low t low under)) (record {
        number = within t (pos low) (neg_ℤ (pos (2 ^ (t.width - 1)))) (pos (2 ^ (t.width - 1))) (signed_bounds t signed) (omega (arith, ints)) (omega (arith, ints));
        same = mod-eq_of_lt small;
      })
      | inr over ↦ subst Fine (sym (typed_high t low signed over)) (record {
        number = within t (pos low -ℤ pos (2 ^ t.width)) (neg_ℤ (pos (2 ^ (t.width - 1)))) (pos (2 ^ (t.width - 1))) (signed_bounds t signed)
            (omega (arith, ints, (sizes t.width t.known).double)) (omega (arith, ints));
        same = modulo-below_zero low (2 ^ t.width) small;
      })
    ]
    | false ↦ λ plain. subst Fine (sym (typed_plain t low plain)) (record {
      number = within t (pos low) (pos 0) (pos (2 ^ t.width)) (plain_bounds t plain) (omega (arith, ints)) (omega (arith, ints));
      same = mod-eq_of_lt small;
    })
  ] refl

pub wrapped : (t : IntType) (z : ℤ) → IsWrapped t z (wrap t z)
wrapped t z =
    let f = fine t (modulo z (2 ^ t.width)) (modulo_below z (2 ^ t.width) (pow_pos t.width)) in
    record { number = f.number; same = f.same }

-- a number of the type stands for itself
own_plain : (t : IntType) (n : ℤ) → t.signed ≡ false → pos 0 ≤ℤ n → n <ℤ pos (2 ^ t.width) → wrap t n ≡ n
own_plain t (pos a) plain least below = typed_plain t (a % 2 ^ t.width) plain ∙ ap pos (mod-eq_of_lt (omega (arith, ints)))
own_plain t (negsuc a) plain least below = absurd (omega (arith, ints))

own_signed : (t : IntType) (n : ℤ) → t.signed ≡ true → neg_ℤ (pos (2 ^ (t.width - 1))) ≤ℤ n → n <ℤ pos (2 ^ (t.width - 1)) → wrap t n ≡ n
own_signed t (pos a) signed least below =
    let size = (sizes t.width t.known).double in
    let low : a % 2 ^ t.width ≡ a = mod-eq_of_lt (omega (arith, ints)) in
    typed_low t (a % 2 ^ t.width) (omega (arith, ints)) ∙ ap pos low
own_signed t (negsuc a) signed least below =
    let size = (sizes t.width t.known).double in
    let few : suc a ≤ 2 ^ (t.width - 1) = omega (arith, ints) in
    let low : a % 2 ^ t.width ≡ a = mod-eq_of_lt (omega arith) in
    let bits : modulo (negsuc a) (2 ^ t.width) ≡ 2 ^ t.width - suc a = omega arith in
    ap (number_of_bits t) bits ∙ typed_high t (2 ^ t.width - suc a) signed (omega arith) ∙ (let e : pos (2 ^ t.width - suc a) -ℤ pos (2 ^ t.width) ≡ negsuc a = omega (arith, ints) in e)

own : (t : IntType) (n : ℤ) → IsNumber t n → wrap t n ≡ n
own t n is = elim t.signed as (λ s. t.signed ≡ s → wrap t n ≡ n) [
  | true ↦ λ e. own_signed t n e (subst (λ z. z ≤ℤ n) (signed_bounds t e).0 is.least) (subst (λ z. n <ℤ z) (signed_bounds t e).1 is.below)
  | false ↦ λ e. own_plain t n e (subst (λ z. z ≤ℤ n) (plain_bounds t e).0 is.least) (subst (λ z. n <ℤ z) (plain_bounds t e).1 is.below)
] refl

pub one_number : (t : IntType) (z n : ℤ) → IsWrapped t z n → n ≡ wrap t z
one_number t z n is = sym (own t n is.number) ∙ ap (number_of_bits t) is.same

-- ---- what is set

pub same_var-same : (v : Var) → same_var v v ≡ true
same_var-same v = (same_var_decides v v).1 refl

pub same_var-other : (v w : Var) → w ≢ v → same_var v w ≡ false
same_var-other v w other = false_from_ne_true _ (λ e. other (sym ((same_var_decides v w).0 e)))

both-same : (v : Var) (k : List KeyPart) → same_var v v && same_key k k ≡ true
both-same v k = ap (λ b. b && same_key k k) (same_var-same v) ∙ (same_key_decides k k).1 refl

both-other : (var v : Var) (key k : List KeyPart) → ((v ≡ var) × (k ≡ key) → ⊥) → same_var var v && same_key key k ≡ false
both-other var v key k other = false_from_ne_true _ (λ e. let both = and_parts _ _ e in other (sym ((same_var_decides var v).0 both.0), sym ((same_key_decides key k).0 both.1)))

pub with_local-here : {X : Type 0} (values : Var → X) (var : Var) (value : X) → with_local values var value var ≡ value
with_local-here values var value = ap (λ b. if b then value else values var) (same_var-same var)

pub with_local-others : {X : Type 0} (values : Var → X) (var : Var) (value : X) (other : Var) → other ≢ var → with_local values var value other ≡ values other
with_local-others values var value other apart = ap (λ b. if b then value else values other) (same_var-other var other apart)

pub with_own-here : {X : Type 0} (values : Var → List KeyPart → X) (var : Var) (key : List KeyPart) (value : X) → with_own values var key value var key ≡ value
with_own-here values var key value = ap (λ b. if b then value else values var key) (both-same var key)

pub with_own-others : {X : Type 0} (values : Var → List KeyPart → X) (var : Var) (key : List KeyPart) (value : X) (v : Var) (k : List KeyPart) → ((v ≡ var) × (k ≡ key) → ⊥)
    → with_own values var key value v k ≡ values v k
with_own-others values var key value v k apart = ap (λ b. if b then value else values v k) (both-other var v key k apart)
