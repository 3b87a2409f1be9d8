-- What compiled clauses mean is what the clauses mean.
use Rattle.std.specs.Prelude.{◌≡◌, ℕ, ◌%◌, List, [], ◌∷◌, map, Option, Some, None}
use Rattle.std.specs.Int.{cast_signed, w64}
use Rattle.std.proofs.Common.{refl, ap, ◌∙◌}
use Rattle.d_values.specs.declared.int_type.DType.{DType}
use Rattle.d_values.specs.declared.value.Value.{Value}
use Rattle.firings.specs.declared.firing.Firing.{Firing}
use Rattle.d_types.specs.declared.effect.Effect.TheVariants as ef
use Rattle.d_types.specs.Clauses as trees
use Rattle.d_types.specs.Clauses.{Made, and_then, argument_by, by_trees, effect_by, effect_result}
use Rattle.d_types.specs.Clauses.{fault_line, go_on, nothing_made, run_by, run_of, statements_made}
use Rattle.d_types.specs.Expressions.{Outcome, Has, Faults, with, number_outcome, at_zero}
use Rattle.d_types.specs.Expressions.{eval, keys_of, part_of}
use Rattle.d_types.specs.Fitting.{FitsRegisters}
use Rattle.d_types.specs.Held.{AreConsistent, AreTyped, EndsTyped, HasTypedBuiltIns, IsConsistent}
use Rattle.d_types.specs.Held.{IsOf}
use Rattle.d_types.specs.Held.{Slots}
use Rattle.d_types.specs.Printing.{printf_text, trace_line}
use Rattle.d_types.specs.Storage.{Variables}
use Rattle.d_types.specs.Typed.{Action, Aggregate, ClauseMeant, Evaluate, Exit, Print, Trace, Typed}
use Rattle.d_types.specs.Typed.{Typeds, end, more, type_of}
use Rattle.d_types.specs.Wholes.{ActionIs, ActionsAre, AnyIs, ClauseIs, EachIs}
use Rattle.d_types.proofs.Holding.{eval_is, keys_are}
use Rattle.d_types.proofs.HoldingRuns.{effect_kept, effect_leaves}
use Rattle.dif_codegen.specs.Meaning.{by_objects, key_of_objects, run_code, value_of}
use Rattle.dif_codegen.specs.Meaning.{values_of_objects}
use Rattle.dif_codegen.specs.Steps.Programs.{compiled_objects, optional_object, compiled_object}
use Rattle.dif_codegen.specs.Steps.Programs.{compiled_action, compiled_clause}
use Rattle.dif_codegen.proofs.Compiled.{computes, is_returning}
use Rattle.dif_codegen.proofs.Ended.{value_is}
use Rattle.d_types.proofs.TreeRuns.{argument_value, effect_of}

module _ (slots : Slots) (f : Firing) (fit : HasTypedBuiltIns f) where
  -- a run of an expression's object comes to what the expression means
  value_same : (e : Typed) (vars : Variables) → IsConsistent slots e → FitsRegisters e → AreTyped slots vars → value_of f (compiled_object e).object vars ≡ eval f e vars
  value_same e vars is few good =
      value_is f (compiled_object e).object vars (eval f e vars) (is_returning slots e is few (compiled_object e).object refl refl refl).valid
      (computes slots e is few (compiled_object e).object refl refl refl f vars fit good)

  -- what goes on in the same way from all that there may be
  on_same : {A B : Type 0} (Is : A → Type 0) (o : Outcome A) (go on : A → Variables → Outcome B) → EndsTyped slots Is o
      → ((x : A) (late : Variables) → AreTyped slots late → go x late ≡ on x late) → with o go ≡ with o on
  on_same Is (Has x late) go on good rest = rest x late good.1
  on_same Is (Faults late) go on good rest = refl

  first_same : {A : Type 0} (e : Typed) (vars : Variables) (go on : Value → Variables → Outcome A) → IsConsistent slots e → FitsRegisters e → AreTyped slots vars
      → ((x : Value) (late : Variables) → AreTyped slots late → go x late ≡ on x late) → with (value_of f (compiled_object e).object vars) go ≡ with (eval f e vars) on
  first_same e vars go on is few good rest =
      ap (λ o. with o go) (value_same e vars is few good) ∙ on_same (IsOf (type_of e)) (eval f e vars) go on (eval_is slots f fit e vars is good) rest

  number_same : (e : Typed) (vars : Variables) → IsConsistent slots e → FitsRegisters e → AreTyped slots vars → number_outcome (value_of f (compiled_object e).object vars) ≡ number_outcome (eval f e vars)
  number_same e vars is few good = ap number_outcome (value_same e vars is few good)

  values_same : (types : List DType) (all : Typeds) (vars : Variables) → EachIs (IsConsistent slots) all → EachIs FitsRegisters all → AreTyped slots vars
      → values_of_objects f types (compiled_objects all) vars ≡ trees.values_of f types all vars
  values_same [] end vars is few good = refl
  values_same [] (more e rest) vars is few good = refl
  values_same (t ∷ types) end vars is few good = refl
  values_same (t ∷ types) (more e rest) vars is few good =
      first_same e vars _ _ is.0 few.0 good (λ x late well. ap (λ o. with o (λ vs. Has ((t, x) ∷ vs))) (values_same types rest late is.1 few.1 well))

  key_same : (all : Typeds) (vars : Variables) → EachIs (IsConsistent slots) all → EachIs FitsRegisters all → AreTyped slots vars
      → key_of_objects f (compiled_objects all) vars ≡ keys_of f all vars
  key_same end vars is few good = refl
  key_same (more e rest) vars is few good =
      first_same e vars _ _ is.0 few.0 good (λ x late well. ap (λ o. with o (λ key. Has (part_of x ∷ key))) (key_same rest late is.1 few.1 well))

  given_same : (argument : Option Typed) (vars : Variables) → AnyIs (IsConsistent slots) argument → AnyIs FitsRegisters argument → AreTyped slots vars
      → argument_by (by_objects f) (optional_object argument) vars ≡ argument_value f argument vars
  given_same None vars is few good = refl
  given_same (Some e) vars is few good = ap (λ o. with o (λ word. Has (cast_signed w64 word))) (number_same e vars is few good)

  all_are : (keys : Typeds) → EachIs (IsConsistent slots) keys → AreConsistent slots keys
  all_are end h = tt
  all_are (more a rest) h = (h.0, all_are rest h.1)

  effect_same : (a : Action) (vars : Variables) → ActionIs (IsConsistent slots) a → ActionIs FitsRegisters a → AreTyped slots vars
      → effect_by (by_objects f) (compiled_action a) vars ≡ effect_of f a vars
  effect_same (Evaluate e) vars is few good = ap (λ o. with o (λ x. Has ef.Nothing)) (value_same e vars is few good)
  effect_same (Trace t e) vars is few good = ap (λ o. with o (λ x. Has (ef.Says (trace_line t x)))) (value_same e vars is few good)
  effect_same (Print format types all) vars is few good = ap (λ o. with o (λ values. Has (ef.Says (printf_text format values)))) (values_same types all vars is few good)
  effect_same (Exit e) vars is few good = ap (λ o. with o (λ word. Has (ef.Exits (word % 256)))) (number_same e vars is few good)
  effect_same (Aggregate index keys argument) vars is few good =
      ap (λ o. with o (λ key vars. with (argument_by (by_objects f) (optional_object argument) vars) (λ z. Has (ef.Adds index key z)))) (key_same keys vars is.0 few.0 good)
      ∙ on_same (λ key. Unit {0}) (keys_of f keys vars) _ _ (keys_are slots f fit keys vars (all_are keys is.0) good) (λ key late well. ap (λ o. with o (λ z. Has (ef.Adds index key z))) (given_same argument late is.1 few.1 well))

  went_same : {A : Type 0} (line : List ℕ) (before : Made) (o : Outcome A) (go on : A → Variables → Made) → EndsTyped slots (λ x. Unit {0}) o
      → ((x : A) (late : Variables) → AreTyped slots late → go x late ≡ on x late) → go_on line before o go ≡ go_on line before o on
  went_same line before (Has x late) go on good rest = rest x late good.1
  went_same line before (Faults late) go on good rest = refl

  statements_same : (line : List ℕ) (all : List Action) (before : Made) → ActionsAre (IsConsistent slots) all → ActionsAre FitsRegisters all → AreTyped slots before.variables
      → statements_made (by_objects f) line (map compiled_action all) before ≡ statements_made (by_trees f) line all before
  statements_same line [] before is few good = refl
  statements_same line (a ∷ rest) before is few good =
      ap (λ o. go_on line before o (λ effect vars. statements_made (by_objects f) line (map compiled_action rest) (and_then before (effect_result effect vars))))
      (effect_same a before.variables is.0 few.0 good)
      ∙ went_same line before (effect_of f a before.variables) _ _ (effect_kept slots f fit a before.variables is.0 good)
      (λ effect late well. statements_same line rest (and_then before (effect_result effect late)) is.1 few.1 (effect_leaves slots effect late well))

  number_kept : (o : Outcome Value) (t : DType) → EndsTyped slots (IsOf t) o → EndsTyped slots (λ n. Unit {0}) (number_outcome o)
  number_kept (Has x late) t good = (tt, good.1)
  number_kept (Faults late) t good = good

  by_same : (line : List ℕ) (predicate : Option Typed) (all : List Action) (vars : Variables) → AnyIs (IsConsistent slots) predicate → AnyIs FitsRegisters predicate
      → ActionsAre (IsConsistent slots) all → ActionsAre FitsRegisters all → AreTyped slots vars
      → run_by (by_objects f) line (optional_object predicate) (map compiled_action all) vars ≡ run_by (by_trees f) line predicate all vars
  by_same line None all vars is few are small good = statements_same line all (nothing_made vars) are small good
  by_same line (Some e) all vars is few are small good =
      ap (λ o. go_on line (nothing_made vars) o (λ word vars. at_zero word (nothing_made vars) (statements_made (by_objects f) line (map compiled_action all) (nothing_made vars))))
      (number_same e vars is few good)
      ∙ went_same line (nothing_made vars) (number_outcome (eval f e vars)) _ _ (number_kept (eval f e vars) (type_of e) (eval_is slots f fit e vars is good))
      (λ word late well. ap (at_zero word (nothing_made late)) (statements_same line all (nothing_made late) are small well))

  -- a run of a compiled clause makes what a run of the clause makes
  pub run_same : (index : ℕ) (c : ClauseMeant) (vars : Variables) → ClauseIs (IsConsistent slots) c → ClauseIs FitsRegisters c → AreTyped slots vars
      → run_code f index (compiled_clause c) vars ≡ run_of f index c vars
  run_same index c vars is few good = by_same (fault_line f.number index) c.predicate c.statements vars is.0 few.0 is.1 few.1 good
