-- Runs of clauses leave variables with values of their types.
use Rattle.std.proofs.Common.{ℕ, zero, suc, List, [], ◌∷◌, ◌%◌, Option, Some, None}
use Rattle.std.specs.Int.{cast_signed, w64}
use Rattle.d_values.specs.declared.value.Value.{Value}
use Rattle.firings.specs.declared.firing.Firing.{Firing}
use Rattle.d_types.specs.declared.effect.Effect.{Effect}
use Rattle.d_types.specs.declared.effect.Effect.TheVariants as ef
use Rattle.d_values.specs.declared.int_type.DType.{DType}
use Rattle.d_types.specs.Typed.{Typed, Typeds, end, more, type_of, Action, Evaluate, Trace, Print}
use Rattle.d_types.specs.Typed.{Exit, Aggregate, ClauseMeant}
use Rattle.d_types.specs.Storage.{Variables}
use Rattle.d_types.specs.Expressions.{Outcome, Has, Faults, with, number_outcome, at_zero}
use Rattle.d_types.specs.Expressions.{eval, keys_of}
use Rattle.d_types.specs.Clauses.{Made, and_then, by_trees, effect_result, fault_line, go_on}
use Rattle.d_types.specs.Clauses.{nothing_made, run_by, run_of, statements_made, values_of}
use Rattle.d_types.specs.Printing.{trace_line, printf_text}
use Rattle.d_types.specs.Held.{IsOf, HasTypedBuiltIns, Slots, AreTyped, EndsTyped, IsConsistent}
use Rattle.d_types.specs.Held.{AreConsistent}
use Rattle.d_types.specs.Wholes.{EachIs, AnyIs, ActionIs, ActionsAre, ClauseIs}
use Rattle.d_types.proofs.Holding.{one, eval_is, keys_are}
use Rattle.d_types.proofs.TreeRuns.{argument_value, effect_of}

-- what an effect makes leaves the variables
pub effect_leaves : (slots : Slots) (e : Effect) (vars : Variables) → AreTyped slots vars → AreTyped slots (effect_result e vars).variables
effect_leaves slots ef.Nothing vars good = good
effect_leaves slots (ef.Says text) vars good = good
effect_leaves slots (ef.Exits status) vars good = good
effect_leaves slots (ef.Adds index key z) vars good = good

module _ (slots : Slots) (f : Firing) (fit : HasTypedBuiltIns f) where
  abbrev pub Kept : {A : Type 0} → Outcome A → Type 0
  Kept o = EndsTyped slots (λ x. Unit {0}) o

  all_are : (keys : Typeds) → EachIs (IsConsistent slots) keys → AreConsistent slots keys
  all_are end h = tt
  all_are (more a rest) h = (h.0, all_are rest h.1)

  -- an expression, and then what keeps the variables
  later : {A : Type 0} (a : Typed) (go : Value → Variables → Outcome A) (vars : Variables) → IsConsistent slots a → AreTyped slots vars →
      ((x : Value) (late : Variables) → AreTyped slots late → Kept (go x late)) → Kept (with (eval f a vars) go)
  later a go vars is good rest =
      one slots (IsOf (type_of a)) (λ x. Unit {0}) (eval f a vars) go (eval_is slots f fit a vars is good) (λ x late fits well. rest x late well)

  number_kept : (a : Typed) (vars : Variables) → IsConsistent slots a → AreTyped slots vars → Kept (number_outcome (eval f a vars))
  number_kept a vars is good = later a _ vars is good (λ x late well. (tt, well))

  values_kept : (types : List DType) (all : Typeds) (vars : Variables) → EachIs (IsConsistent slots) all → AreTyped slots vars → Kept (values_of f types all vars)
  values_kept [] end vars is good = (tt, good)
  values_kept [] (more a rest) vars is good = (tt, good)
  values_kept (t ∷ types) end vars is good = (tt, good)
  values_kept (t ∷ types) (more a rest) vars is good =
      later a (λ x vars. with (values_of f types rest vars) (λ xs. Has ((t, x) ∷ xs))) vars is.0 good
      (λ x late well. one slots (λ y. Unit {0}) (λ y. Unit {0}) (values_of f types rest late) (λ xs. Has ((t, x) ∷ xs)) (values_kept types rest late is.1 well)
      (λ xs last any fine. (tt, fine)))

  given_kept : (argument : Option Typed) (vars : Variables) → AnyIs (IsConsistent slots) argument → AreTyped slots vars → Kept (argument_value f argument vars)
  given_kept None vars is good = (tt, good)
  given_kept (Some a) vars is good =
      one slots (λ y. Unit {0}) (λ y. Unit {0}) (number_outcome (eval f a vars)) (λ word. Has (cast_signed w64 word)) (number_kept a vars is good) (λ w late any well. (tt, well))

  pub effect_kept : (a : Action) (vars : Variables) → ActionIs (IsConsistent slots) a → AreTyped slots vars → Kept (effect_of f a vars)
  effect_kept (Evaluate a) vars is good = later a (λ x. Has ef.Nothing) vars is good (λ x late well. (tt, well))
  effect_kept (Trace t a) vars is good = later a (λ x. Has (ef.Says (trace_line t x))) vars is good (λ x late well. (tt, well))
  effect_kept (Print format types all) vars is good =
      one slots (λ y. Unit {0}) (λ y. Unit {0}) (values_of f types all vars) (λ values. Has (ef.Says (printf_text format values))) (values_kept types all vars is good)
      (λ xs late any well. (tt, well))
  effect_kept (Exit a) vars is good =
      one slots (λ y. Unit {0}) (λ y. Unit {0}) (number_outcome (eval f a vars)) (λ word. Has (ef.Exits (word % 256))) (number_kept a vars is good)
      (λ w late any well. (tt, well))
  effect_kept (Aggregate index keys argument) vars is good =
      one slots (λ y. Unit {0}) (λ y. Unit {0}) (keys_of f keys vars) (λ key vars. with (argument_value f argument vars) (λ z. Has (ef.Adds index key z)))
      (keys_are slots f fit keys vars (all_are keys is.0) good)
      (λ key late any well. one slots (λ y. Unit {0}) (λ y. Unit {0}) (argument_value f argument late) (λ z. Has (ef.Adds index key z)) (given_kept argument late is.1 well)
      (λ z last every fine. (tt, fine)))

  went_kept : {A : Type 0} (line : List ℕ) (before : Made) (o : Outcome A) (go : A → Variables → Made) → Kept o → ((x : A) (vars : Variables) → AreTyped slots vars → AreTyped slots (go x vars).variables) →
      AreTyped slots (go_on line before o go).variables
  went_kept line before (Has x vars) go good rest = rest x vars good.1
  went_kept line before (Faults vars) go good rest = good

  statements_kept : (line : List ℕ) (all : List Action) (before : Made) → ActionsAre (IsConsistent slots) all → AreTyped slots before.variables →
      AreTyped slots (statements_made (by_trees f) line all before).variables
  statements_kept line [] before is good = good
  statements_kept line (a ∷ rest) before is good =
      went_kept line before (effect_of f a before.variables) _ (effect_kept a before.variables is.0 good)
      (λ effect late well. statements_kept line rest (and_then before (effect_result effect late)) is.1 (effect_leaves slots effect late well))

  guarded_kept : (word : ℕ) (vars : Variables) (made : Made) → AreTyped slots vars → AreTyped slots made.variables → AreTyped slots (at_zero word (nothing_made vars) made).variables
  guarded_kept zero vars made good well = good
  guarded_kept (suc n) vars made good well = well

  by_kept : (line : List ℕ) (predicate : Option Typed) (all : List Action) (vars : Variables) → AnyIs (IsConsistent slots) predicate → ActionsAre (IsConsistent slots) all → AreTyped slots vars →
      AreTyped slots (run_by (by_trees f) line predicate all vars).variables
  by_kept line None all vars is are good = statements_kept line all (nothing_made vars) are good
  by_kept line (Some a) all vars is are good =
      went_kept line (nothing_made vars) (number_outcome (eval f a vars)) _ (number_kept a vars is good)
      (λ word late well. guarded_kept word late (statements_made (by_trees f) line all (nothing_made late)) well (statements_kept line all (nothing_made late) are well))

  pub run_kept : (index : ℕ) (clause : ClauseMeant) (vars : Variables) → ClauseIs (IsConsistent slots) clause → AreTyped slots vars →
      AreTyped slots (run_of f index clause vars).variables
  run_kept index clause vars is good = by_kept (fault_line f.number index) clause.predicate clause.statements vars is.0 is.1 good
