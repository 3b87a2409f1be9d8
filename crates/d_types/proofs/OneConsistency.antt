-- There is one proof at most that trees are consistent.
use Rattle.std.proofs.Common.{◌≡◌, ℕ, ℤ, List, [], ◌∷◌, Option, Some, None, refl, sym, ap, ◌∙◌}
use Rattle.std.proofs.Common.{subst}
use Rattle.std.proofs.Math.Bool.{Bool-set}
use Rattle.std.proofs.Math.Bridge.{le_prop}
use Rattle.std.proofs.Math.Dec.{T_prop}
use Rattle.std.proofs.Math.Nat.{ℕ_set}
use mathlib.Core.Sum.{⊎_set}
use Rattle.d_values.specs.declared.int_type.IntType.{IntType}
use Rattle.d_values.specs.declared.int_type.DType.{DType}
use Rattle.d_values.specs.declared.int_type.DType.TheVariants as ty
use Rattle.d_values.specs.Numbers.{IsNumber, number_of, bits_of}
use Rattle.d_values.specs.Words.{narrow}
use Rattle.d_values.proofs.Lawful.{one_number}
use Rattle.d_values.proofs.Wrapping.{number-narrow}
use Rattle.d_types.specs.declared.typed.Operation.{Operation}
use Rattle.d_types.specs.declared.typed.Operation.TheVariants as op
use Rattle.d_types.specs.Held.{IsWord, Slots, IsSomeInteger, TakesOperands, IsConsistent}
use Rattle.d_types.specs.Held.{AreConsistent}
use Rattle.d_types.specs.Typed.{Typed, Constant, Text, Fixed, Read, Unary, Operate, Compare}
use Rattle.d_types.specs.Typed.{CompareText, Logic, Choice, Convert, Assign, Update, Count, Strlen}
use Rattle.d_types.specs.Typed.{Strjoin, Typeds, end, more}
use Rattle.d_types.specs.Typed.{Action, Evaluate, Trace, Print, Exit, Aggregate, ClauseMeant}
use Rattle.d_types.specs.Wholes.{EachIs, AnyIs, ActionIs, ActionsAre, ClauseIs}

-- ---- words and types

-- the number that a word of the type stands for
number_is : (t : IntType) (word : ℕ) (h : IsWord t word) → h.0 ≡ number_of t (narrow t word)
number_is t word h = one_number t h.0 h.0 (record { number = h.1; same = refl }) ∙ sym (number-narrow t h.0 word (sym h.2))

number_prop : (t : IntType) (word : ℕ) (n : ℤ) → IsProp (IsNumber t n × (word ≡ bits_of n))
number_prop t word n = hlevel (T_prop, ℕ_set)

word_prop : (t : IntType) (word : ℕ) → IsProp (IsWord t word)
word_prop t word a b = same b.0 (number_is t word a ∙ sym (number_is t word b)) (b.1, b.2)
  where
    same : (m : ℤ) → a.0 ≡ m → (q : IsNumber t m × (word ≡ bits_of m)) → ◌≡◌ {A = IsWord t word} a (m, q.0, q.1)
    same m e =
        subst (λ (k : ℤ). (q : IsNumber t k × (word ≡ bits_of k)) → ◌≡◌ {A = IsWord t word} a (k, q.0, q.1)) e
        (λ q. ap (λ (p : IsNumber t a.0 × (word ≡ bits_of a.0)). (a.0, p.0, p.1)) (number_prop t word a.0 (a.1, a.2) q))

DType-set : IsSet DType
DType-set = hlevel (⊎_set, ℕ_set, Bool-set)

type-set : IsSet (Option DType)
type-set = hlevel (⊎_set, DType-set)

pub integer_prop : (t : DType) → IsProp (IsSomeInteger t)
integer_prop t a b = same b.0 (let both : ty.Int a.0 ≡ ty.Int b.0 = sym a.1 ∙ b.1 in cc) b.1
  where
    same : (u : IntType) → a.0 ≡ u → (q : t ≡ ty.Int u) → ◌≡◌ {A = IsSomeInteger t} a (u, q)
    same u e =
        subst (λ (v : IntType). (q : t ≡ ty.Int v) → ◌≡◌ {A = IsSomeInteger t} a (v, q)) e
        (λ q. ap (λ (p : t ≡ ty.Int a.0). (a.0, p)) (DType-set t (ty.Int a.0) a.1 q))

takes_prop : (o : Operation) (left right : DType) → IsProp (TakesOperands o left right)
takes_prop (op.Arithmetic o t) left right = hlevel DType-set
takes_prop (op.Shift o t) left right = hlevel (DType-set, integer_prop)

-- ---- trees

module _ (slots : Slots) where
  mutual
    one_prop : (z : Typed) → IsProp (IsConsistent slots z)
    one_prop (Constant t word) = word_prop t word
    one_prop (Text bytes) = hlevel le_prop
    one_prop (Fixed b) = hlevel
    one_prop (Read x keys) = let k = each_prop keys in hlevel (type-set, k)
    one_prop (Unary o t a) = let p = one_prop a in hlevel (DType-set, p)
    one_prop (Operate o a b) = let p = one_prop a in let q = one_prop b in hlevel (takes_prop, p, q)
    one_prop (Compare o t a b) = let p = one_prop a in let q = one_prop b in hlevel (DType-set, p, q)
    one_prop (CompareText o a b) = let p = one_prop a in let q = one_prop b in hlevel (DType-set, p, q)
    one_prop (Logic o a b) = let p = one_prop a in let q = one_prop b in hlevel (integer_prop, p, q)
    one_prop (Choice t c a b) = let r = one_prop c in let p = one_prop a in let q = one_prop b in hlevel (DType-set, integer_prop, p, q, r)
    one_prop (Convert t u a) = let p = one_prop a in hlevel (DType-set, p)
    one_prop (Assign x keys a) = let k = each_prop keys in let p = one_prop a in hlevel (type-set, DType-set, k, p)
    one_prop (Update o x keys a) = let k = each_prop keys in let p = one_prop a in hlevel (type-set, integer_prop, takes_prop, k, p)
    one_prop (Count step answer x keys) = let k = each_prop keys in hlevel (type-set, integer_prop, k)
    one_prop (Strlen a) = let p = one_prop a in hlevel (DType-set, p)
    one_prop (Strjoin a b) = let p = one_prop a in let q = one_prop b in hlevel (DType-set, p, q)

    each_prop : (keys : Typeds) → IsProp (AreConsistent slots keys)
    each_prop end = hlevel
    each_prop (more a rest) = let p = one_prop a in let k = each_prop rest in hlevel (p, k)

  all_prop : (all : Typeds) → IsProp (EachIs (IsConsistent slots) all)
  all_prop end = hlevel
  all_prop (more a rest) = let k = all_prop rest in hlevel (one_prop, k)

  any_prop : (o : Option Typed) → IsProp (AnyIs (IsConsistent slots) o)
  any_prop None = hlevel
  any_prop (Some a) = one_prop a

  action_prop : (a : Action) → IsProp (ActionIs (IsConsistent slots) a)
  action_prop (Evaluate a) = one_prop a
  action_prop (Trace t a) = one_prop a
  action_prop (Print format types arguments) = all_prop arguments
  action_prop (Exit a) = one_prop a
  action_prop (Aggregate index keys argument) = hlevel (all_prop, any_prop)

  actions_prop : (all : List Action) → IsProp (ActionsAre (IsConsistent slots) all)
  actions_prop [] = hlevel
  actions_prop (a ∷ rest) = let k = actions_prop rest in hlevel (action_prop, k)

  pub clause_prop : (c : ClauseMeant) → IsProp (ClauseIs (IsConsistent slots) c)
  clause_prop c = hlevel (any_prop, actions_prop)
