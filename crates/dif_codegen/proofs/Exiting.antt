-- A program exits exactly where its script does, and adds to the same aggregations.
use Rattle.std.specs.List.{AllZip, list_any}
use Rattle.std.specs.Prelude.{◌≡◌, ◌||◌, ℕ, List, [], ◌∷◌, map, Option, None, Some}
use Rattle.std.proofs.Common.{refl, ap, ◌∙◌}
use Rattle.d_types.specs.Held.{Slots, slots_of}
use Rattle.d_types.specs.Typed.{Action, ActionOf, Aggregate, ClauseMeant, Evaluate, Exit, Print}
use Rattle.d_types.specs.Typed.{ScriptMeant, Trace, has_exit, is_exit}
use Rattle.aggregations.specs.declared.function.AggFn.{AggFn}
use Rattle.dif_codegen.specs.declared.program.Action as program
use Rattle.dif_codegen.specs.declared.program.CompiledClause.{CompiledClause}
use Rattle.dif_codegen.specs.Correct.{IsActionOf}
use Rattle.dif_codegen.specs.Meaning.{IsSameClause, IsProgramOf, code_exits}
use Rattle.dif_codegen.specs.Programs.{ActionCode, action_code, clause_code}

-- the index of the aggregation that a statement adds to, if any
abbrev pub aggregation_of : {E Es : Type 0} → ActionOf E Es → Option ℕ
aggregation_of (Evaluate x) = None
aggregation_of (Trace t x) = None
aggregation_of (Print format types arguments) = None
aggregation_of (Exit x) = None
aggregation_of (Aggregate index keys argument) = Some index

module _ (slots : Slots) where
  action_exits : (x : ActionCode) (a : Action) → IsActionOf slots x a → is_exit x ≡ is_exit a
  action_exits (Exit x) (Exit e) h = refl
  action_exits (Exit x) (Evaluate e) h = absurd h
  action_exits (Exit x) (Trace u e) h = absurd h
  action_exits (Exit x) (Print written given es) h = absurd h
  action_exits (Exit x) (Aggregate n es e) h = absurd h
  action_exits (Evaluate x) (Exit e) h = absurd h
  action_exits (Trace t x) (Exit e) h = absurd h
  action_exits (Print format types xs) (Exit e) h = absurd h
  action_exits (Aggregate index xs x) (Exit e) h = absurd h
  action_exits x a h = refl

  same_aggregation : (x : ActionCode) (a : Action) → IsActionOf slots x a → aggregation_of x ≡ aggregation_of a
  same_aggregation (Aggregate index xs x) (Aggregate n es e) h = ap Some h.0
  same_aggregation (Aggregate index xs x) (Evaluate e) h = absurd h
  same_aggregation (Aggregate index xs x) (Trace u e) h = absurd h
  same_aggregation (Aggregate index xs x) (Print written given es) h = absurd h
  same_aggregation (Aggregate index xs x) (Exit e) h = absurd h
  same_aggregation (Evaluate x) (Aggregate n es e) h = absurd h
  same_aggregation (Trace t x) (Aggregate n es e) h = absurd h
  same_aggregation (Print format types xs) (Aggregate n es e) h = absurd h
  same_aggregation (Exit x) (Aggregate n es e) h = absurd h
  same_aggregation x a h = refl

  actions_exit : (xs : List ActionCode) (all : List Action) → AllZip (IsActionOf slots) xs all → list_any (λ a. is_exit a) xs ≡ list_any (λ a. is_exit a) all
  actions_exit [] [] zip = refl
  actions_exit [] (a ∷ rest) zip = absurd zip
  actions_exit (x ∷ xs) [] zip = absurd zip
  actions_exit (x ∷ xs) (a ∷ rest) zip =
      ap (λ b. b || list_any (λ a. is_exit a) xs) (action_exits x a zip.0) ∙ ap (λ b. is_exit a || b) (actions_exit xs rest zip.1)

  -- the statements add to the same aggregations
  pub same_aggregations : (xs : List ActionCode) (all : List Action) → AllZip (IsActionOf slots) xs all → map (λ a. aggregation_of a) xs ≡ map (λ a. aggregation_of a) all
  same_aggregations [] [] zip = refl
  same_aggregations [] (a ∷ rest) zip = absurd zip
  same_aggregations (x ∷ xs) [] zip = absurd zip
  same_aggregations (x ∷ xs) (a ∷ rest) zip =
      ap (λ o. o ∷ map (λ a. aggregation_of a) xs) (same_aggregation x a zip.0) ∙ ap (λ l. aggregation_of a ∷ l) (same_aggregations xs rest zip.1)

  clauses_exit : (cs : List CompiledClause) (ms : List ClauseMeant) → AllZip (IsSameClause slots) cs ms → code_exits cs ≡ list_any (λ c. list_any (λ a. is_exit a) c.statements) ms
  clauses_exit [] [] zip = refl
  clauses_exit [] (m ∷ ms) zip = absurd zip
  clauses_exit (c ∷ cs) [] zip = absurd zip
  clauses_exit (c ∷ cs) (m ∷ ms) zip =
      ap (λ b. b || code_exits cs) (actions_exit (clause_code c).actions m.statements zip.0.actions)
      ∙ ap (λ b. list_any (λ a. is_exit a) m.statements || b) (clauses_exit cs ms zip.1)

pub program_exits : (m : ScriptMeant) (cs : List CompiledClause) (functions : List AggFn) → IsProgramOf m cs functions → code_exits cs ≡ has_exit m
program_exits m cs functions is = clauses_exit (slots_of m) cs m.clauses is.do_the_same

-- ---- as they lie in memory

pub written_exits : (cs : List CompiledClause) → list_any (λ c. list_any (λ a. is_exit (action_code a)) c.actions.items) cs ≡ code_exits cs
written_exits [] = refl
written_exits (c ∷ cs) =
    ap (λ b. b || list_any (λ c. list_any (λ a. is_exit (action_code a)) c.actions.items) cs) (here c.actions.items)
    ∙ ap (λ b. list_any (λ a. is_exit a) (clause_code c).actions || b) (written_exits cs)
  where
    here : (xs : List program.Action) → list_any (λ a. is_exit (action_code a)) xs ≡ list_any (λ a. is_exit a) (map action_code xs)
    here [] = refl
    here (x ∷ xs) = ap (λ b. is_exit (action_code x) || b) (here xs)
