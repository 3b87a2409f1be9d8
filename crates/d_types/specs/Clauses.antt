-- What a run of a clause means: the texts, contributions, exit and variables that it makes.
-- Source: Dynamic Tracing Guide, "Predicates" and "Actions and Subroutines".
use Rattle.std.specs.Prelude.{ℕ, ◌%◌, List, [], ◌∷◌, ◌++◌, Option, Some, None, ℤ, pos, codes}
use Rattle.std.specs.Option.{option_or}
use Rattle.d_types.specs.Vocabulary.{decimal, cast_signed, w64, Contribution, DType}
use Rattle.d_types.specs.Vocabulary.{KeyPart, Value, Firing, Effect}
use Rattle.d_types.specs.Typed.{Typed, Typeds, more, ActionOf, Evaluate}
use Rattle.d_types.specs.Typed.{Trace, Print, Exit, Aggregate, ClauseMeant}
use Rattle.d_types.specs.Expressions.{Outcome, Has, Faults, with, number, number_outcome}
use Rattle.d_types.specs.Expressions.{at_zero, eval, keys_of}
use Rattle.d_types.specs.{Storage.Variables, Printing.trace_line, Printing.printf_text}

-- ---- evaluation

-- how expressions and lists of them are evaluated: from left to right, each going on with the
-- variables that the one before left
pub record Evaluation (E Es : Type 0) : Type 0 where
  pub value : E → Variables → Outcome Value
  -- printf's arguments, each with its type
  pub values : List DType → Es → Variables → Outcome (List (DType × Value))
  -- an aggregation's key
  pub key : Es → Variables → Outcome (List KeyPart)

-- the values of the arguments, each beside its type
abbrev pub values_of : Firing → List DType → Typeds → Variables → Outcome (List (DType × Value))
values_of f (t ∷ types) (more a rest) vars =
    with (eval f a vars) (λ x vars. with (values_of f types rest vars) (λ xs. Has ((t, x) ∷ xs)))
values_of f types none vars = Has [] vars

-- the evaluation of typed trees
abbrev pub by_trees : Firing → Evaluation Typed Typeds
by_trees f = record { value = eval f; values = values_of f; key = keys_of f }

-- ---- one statement

module _ {E Es : Type 0} (by : Evaluation E Es) where
  -- what an aggregating function is given, as a signed number; 0 if it takes nothing
  abbrev pub argument_by : Option E → Variables → Outcome ℤ
  argument_by None vars = Has (pos 0) vars
  argument_by (Some a) vars = number (by.value a vars) (λ word. Has (cast_signed w64 word))

  -- what a statement does beside its assignments, or the fault
  abbrev pub effect_by : ActionOf E Es → Variables → Outcome Effect
  effect_by (Evaluate a) vars = with (by.value a vars) (λ x. Has Effect.Nothing)
  effect_by (Trace t a) vars = with (by.value a vars) (λ x. Has (Effect.Says (trace_line t x)))
  effect_by (Print format types all) vars =
      with (by.values types all vars) (λ values. Has (Effect.Says (printf_text format values)))
  effect_by (Exit a) vars = number (by.value a vars) (λ word. Has (Effect.Exits (word % 256)))
  effect_by (Aggregate index keys argument) vars =
      with (by.key keys vars)
      (λ key vars. with (argument_by argument vars) (λ z. Has (Effect.Adds index key z)))

-- ---- what a run makes

pub record Made : Type 0 where
  pub texts : List (List ℕ)
  pub contributions : List Contribution
  -- the status of the first exit
  pub exit : Option ℕ
  pub variables : Variables

-- nothing is made, and the variables stay
abbrev pub nothing_made : Variables → Made
nothing_made vars = record { texts = []; contributions = []; exit = None; variables = vars }

-- what two runs made, one after the other: the first exit counts, and the variables are those after
-- the second
abbrev pub and_then : Made → Made → Made
and_then a b = record b {
  texts = a.texts ++ b.texts;
  contributions = a.contributions ++ b.contributions;
  exit = option_or a.exit b.exit;
}

-- what a statement with this effect makes
abbrev pub effect_result : Effect → Variables → Made
effect_result Effect.Nothing vars = nothing_made vars
effect_result (Effect.Says text) vars = record (nothing_made vars) { texts = text ∷ [] }
effect_result (Effect.Exits status) vars = record (nothing_made vars) { exit = Some status }
effect_result (Effect.Adds index key z) vars =
    record (nothing_made vars) { contributions = record { agg = index; key = key; arg = z } ∷ [] }

-- the line that stands for a fault at the firing of this number in the clause at this index
abbrev pub fault_line : ℕ → ℕ → List ℕ
fault_line number index =
    codes "error: firing "
    ++ (decimal number ++ (codes " clause " ++ (decimal index ++ codes ": divide-by-zero\n")))

-- ---- a run

-- a run goes on with what there is; a fault ends it, and its line takes the place of all texts
abbrev pub go_on : {A : Type 0} → List ℕ → Made → Outcome A → (A → Variables → Made) → Made
go_on line before (Has x vars) go = go x vars
go_on line before (Faults vars) go = record before { texts = line ∷ []; variables = vars }

module _ {E Es : Type 0} (by : Evaluation E Es) where
  -- what statements make after what was made before them, in order
  abbrev pub statements_made : List ℕ → List (ActionOf E Es) → Made → Made
  statements_made line [] before = before
  statements_made line (action ∷ rest) before =
      go_on line before (effect_by by action before.variables)
      (λ effect vars. statements_made line rest (and_then before (effect_result effect vars)))

  -- a run: the statements if the predicate isn't 0, or if there is none
  abbrev pub run_by : List ℕ → Option E → List (ActionOf E Es) → Variables → Made
  run_by line None statements vars = statements_made line statements (nothing_made vars)
  run_by line (Some predicate) statements vars =
      go_on line (nothing_made vars) (number_outcome (by.value predicate vars))
      (λ word vars. at_zero word (nothing_made vars)
      (statements_made line statements (nothing_made vars)))

-- ---- typed trees

-- a run of the clause at this index among the script's, from 1
abbrev pub run_of : Firing → ℕ → ClauseMeant → Variables → Made
run_of f index clause vars =
    run_by (by_trees f) (fault_line f.number index) clause.predicate clause.statements vars
