-- What compiled clauses mean: the objects are run, and all else is as for typed trees.
-- Source: Cantrill, Shapiro and Leventhal, "Dynamic Instrumentation of Production Systems" (USENIX
-- 2004), on DIF.
use Rattle.std.specs.List.{list_any}
use Rattle.std.specs.Prelude.{◌≡◌, ℕ, zero, suc, Bool, List, [], ◌∷◌, length, map}
use Rattle.d_types.specs.Typed.{is_exit}
use Rattle.dif_machine.specs.Semantics as steps
use Rattle.dif_machine.specs.{Frames.Frame, Frames.start, Semantics.Next, Semantics.step_of}
use Rattle.dif_codegen.specs.Vocabulary.{AllZip, AggFn, DType, KeyPart, Value, Firing, Evaluation}
use Rattle.dif_codegen.specs.Vocabulary.{Made, fault_line, run_by, run_of, Outcome, Has, Faults}
use Rattle.dif_codegen.specs.Vocabulary.{with, part_of, HasTypedBuiltIns, Slots, AreTyped, slots_of}
use Rattle.dif_codegen.specs.Vocabulary.{Variables, ClauseMeant, ScriptMeant, Object}
use Rattle.dif_codegen.specs.Vocabulary.{CompiledClause, TypedObject}
use Rattle.dif_codegen.specs.Correct.{IsActionOf, IsOptionalObjectOf}
use Rattle.dif_codegen.specs.Programs.{ClauseCode, clause_code}

-- ---- objects

-- on from the next state, or the end
abbrev pub goes_on : Next → Variables → (Frame → Variables → Outcome Value) → Outcome Value
goes_on (steps.Goes s after) vars go = go s after
goes_on (steps.Ends value after) vars go = Has value after
goes_on (steps.Faults after) vars go = Faults after
goes_on steps.Stuck vars go = Faults vars

-- at most n steps from a state
abbrev pub ends_within : ℕ → Firing → Object → Frame → Variables → Outcome Value
ends_within zero f o s vars = Faults vars
ends_within (suc n) f o s vars = goes_on (step_of o f s vars) vars (ends_within n f o)

-- a run of an object: valid code makes at most as many steps as it has instructions
abbrev pub value_of : Firing → Object → Variables → Outcome Value
value_of f o vars = ends_within (length o.code) f o start vars

-- ---- clauses

abbrev pub values_of_objects : Firing → List DType → List TypedObject → Variables
    → Outcome (List (DType × Value))
values_of_objects f (t ∷ types) (x ∷ rest) vars =
    with (value_of f x.object vars)
    (λ v vars. with (values_of_objects f types rest vars) (λ vs. Has ((t, v) ∷ vs)))
values_of_objects f types none vars = Has [] vars

abbrev pub key_of_objects : Firing → List TypedObject → Variables → Outcome (List KeyPart)
key_of_objects f [] vars = Has [] vars
key_of_objects f (x ∷ rest) vars =
    with (value_of f x.object vars)
    (λ v vars. with (key_of_objects f rest vars) (λ key. Has (part_of v ∷ key)))

-- the evaluation of objects
abbrev pub by_objects : Firing → Evaluation TypedObject (List TypedObject)
by_objects f = record {
  value = λ x. value_of f x.object;
  values = values_of_objects f;
  key = key_of_objects f;
}

-- a run of the compiled clause at this index among the program's, from 1
abbrev pub run_code : Firing → ℕ → ClauseCode → Variables → Made
run_code f index c vars =
    run_by (by_objects f) (fault_line f.number index) c.predicate c.actions vars

-- ---- programs

-- a compiled clause is the same clause, with a valid object that computes it in place of each
-- expression. From any variables that hold values of their types each run makes what a run of the
-- clause makes, and leaves such variables
pub record IsSameClause (slots : Slots) (c : CompiledClause) (meant : ClauseMeant) : Type 0 where
  pub descriptions : c.descriptions.items ≡ meant.descriptions
  pub predicate : IsOptionalObjectOf slots c.predicate meant.predicate
  pub actions : AllZip (IsActionOf slots) (clause_code c).actions meant.statements
  pub runs : (f : Firing) (index : ℕ) (vars : Variables) → HasTypedBuiltIns f → AreTyped slots vars
      → run_code f index (clause_code c) vars ≡ run_of f index meant vars
  pub typed : (f : Firing) (index : ℕ) (vars : Variables) → HasTypedBuiltIns f → AreTyped slots vars
      → AreTyped slots (run_code f index (clause_code c) vars).variables

-- some action of the clauses is an exit
abbrev pub code_exits : List CompiledClause → Bool
code_exits clauses = list_any (λ c. list_any (λ a. is_exit a) (clause_code c).actions) clauses

-- a program has the functions of a script's aggregations and a clause for each of its clauses, in
-- their order
pub record IsProgramOf (m : ScriptMeant) (clauses : List CompiledClause) (functions : List AggFn)
    : Type 0 where
  pub have_functions : functions ≡ map (λ a. a.function) m.aggregations
  pub do_the_same : AllZip (IsSameClause (slots_of m)) clauses m.clauses
