-- Without an exit every firing counts.
use Rattle.std.proofs.Common.{◌≡◌, ℕ, zero, suc, List, [], ◌∷◌, ◌++◌, All, filter, cond, nat_le}
use Rattle.std.proofs.Common.{get_or, true, false, Option, None, Some, option_map, unwrap_or, refl}
use Rattle.std.proofs.Common.{ap, ◌∙◌, arith, le-leb}
use Rattle.std.proofs.lemmas.Bool.{both_ways, false_from_ne_true, or_parts}
use Rattle.std.proofs.lemmas.List.Elements.{All-head, All-tail}
use Rattle.std.proofs.lemmas.List.Folds.{list_any_at}
use Rattle.d_types.specs.Typed.{Action, Aggregate, Evaluate, Exit, Print, Trace}
use Rattle.d_types.specs.Clauses.{by_trees}
use Rattle.replay_core.specs.Vocabulary.{list_any, option_or, ClauseMeant, Effect, Evaluation}
use Rattle.replay_core.specs.Vocabulary.{Faults, Firing, Has, IsTrace, Made, Outcome, ScriptMeant}
use Rattle.replay_core.specs.Vocabulary.{Typed, Typeds, Variables, argument_by, begin_of, effect_by}
use Rattle.replay_core.specs.Vocabulary.{end_of, fault_line, has_exit, is_exit, number_outcome}
use Rattle.replay_core.specs.Vocabulary.{run_of, with, with_ends}
use Rattle.replay_core.specs.Exit.{exit_status, firings_over, history_over, up_to}
use Rattle.replay_core.specs.Meaning.{Threads, clauses_for, exit_of, history, in_turn}
use Rattle.replay_core.specs.Meaning.{firing_result, threads_after, blank_threads}
use Rattle.replay_core.specs.Running.{threads_over}
use Rattle.replay_core.specs.Steps.EffectRuns.{Ran, effect_then, exit_in, statements_by}
use Rattle.replay_core.specs.Steps.EffectRuns.{where_predicate, where_true}
use Rattle.d_types.specs.declared.effect.Effect.TheVariants as ef
use Rattle.replay_core.proofs.BeginLemmas.{exit_parts}
use Rattle.replay_core.proofs.EffectRuns.{run_by_is}
use Rattle.replay_core.proofs.ExitLemmas.{Rises, trace_rises}
use Rattle.replay_core.proofs.ThreadLemmas.{for_all}
use Rattle.replay_core.proofs.TraceRuns.{before_end}

-- ---- a run of a clause

-- an effect that is no exit
abbrev Stays : Effect → Type 0
Stays (ef.Exits status) = ⊥
Stays e = Unit {0}

abbrev Goes : Outcome Effect → Type 0
Goes (Has effect vars) = Stays effect
Goes (Faults vars) = Unit {0}

goes_with : {A : Type 0} (o : Outcome A) (go : A → Variables → Outcome Effect) → ((x : A) (vars : Variables) → Goes (go x vars)) → Goes (with o go)
goes_with (Has x vars) go goes = goes x vars
goes_with (Faults vars) go goes = tt

skipped : (e : Effect) (rest : List Effect) → Stays e → exit_in (e ∷ rest) ≡ exit_in rest
skipped (ef.Exits status) rest stays = absurd stays
skipped e rest stays = refl

module _ (by : Evaluation Typed Typeds) where
  effect_goes : (a : Action) (vars : Variables) → is_exit a ≡ false → Goes (effect_by by a vars)
  effect_goes (Evaluate a) vars without = goes_with (by.value a vars) _ (λ x vars. tt)
  effect_goes (Trace t a) vars without = goes_with (by.value a vars) _ (λ x vars. tt)
  effect_goes (Print format types arguments) vars without = goes_with (by.values types arguments vars) _ (λ x vars. tt)
  effect_goes (Exit a) vars without = absurd (let c : true ≡ false = without in cc)
  effect_goes (Aggregate index keys argument) vars without =
      goes_with (by.key keys vars) _ (λ key vars. goes_with (argument_by by argument vars) _ (λ z vars. tt))

  followed_goes : (o : Outcome Effect) (go : Variables → Ran) → Goes o → ((vars : Variables) → exit_in (go vars).effects ≡ None) → exit_in (effect_then o go).effects ≡ None
  followed_goes (Has effect vars) go goes none = skipped effect (go vars).effects goes ∙ none vars
  followed_goes (Faults vars) go goes none = refl

  statements_go : (all : List Action) (vars : Variables) → list_any (λ a. is_exit a) all ≡ false → exit_in (statements_by by all vars).effects ≡ None
  statements_go [] vars without = refl
  statements_go (a ∷ rest) vars without =
      let both = or_parts (is_exit a) (list_any (λ a. is_exit a) rest) without in
      followed_goes (effect_by by a vars) (statements_by by rest) (effect_goes a vars both.0) (λ vars. statements_go rest vars both.1)

  where_goes : (o : Outcome ℕ) (go : Variables → Ran) → ((vars : Variables) → exit_in (go vars).effects ≡ None) → exit_in (where_true o go).effects ≡ None
  where_goes (Has zero vars) go none = refl
  where_goes (Has (suc n) vars) go none = none vars
  where_goes (Faults vars) go none = refl

  guarded_goes : (predicate : Option Typed) (all : List Action) (vars : Variables) → list_any (λ a. is_exit a) all ≡ false → exit_in (where_predicate by predicate (statements_by by all) vars).effects ≡ None
  guarded_goes None all vars without = statements_go all vars without
  guarded_goes (Some a) all vars without = where_goes (number_outcome (by.value a vars)) (statements_by by all) (λ vars. statements_go all vars without)

-- ---- a firing

abbrev ClauseGoes : ClauseMeant → Type 0
ClauseGoes c = list_any (λ a. is_exit a) c.statements ≡ false

clauses_go : (cs : List ClauseMeant) → list_any (λ c. list_any (λ a. is_exit a) c.statements) cs ≡ false → All ClauseGoes cs
clauses_go cs without k d lt = false_from_ne_true (list_any (λ a. is_exit a) (get_or cs k d).statements) (λ e.
    both_ways _ without (list_any_at (λ c. list_any (λ a. is_exit a) c.statements) cs k d lt e))

turn_goes : (f : Firing) (cs : List (ℕ × ClauseMeant)) (vars : Variables) → All (λ c. ClauseGoes c.1) cs → (in_turn f cs vars).exit ≡ None
turn_goes f [] vars all = refl
turn_goes f (c ∷ cs) vars all =
    let first = run_of f c.0 c.1 vars in
    let noted = run_by_is (by_trees f) (fault_line f.number c.0) c.1.predicate c.1.statements vars in
    let none : first.exit ≡ None = ap (λ (m : Made). m.exit) noted ∙ guarded_goes (by_trees f) c.1.predicate c.1.statements vars (All-head (λ c. ClauseGoes c.1) c cs all) in
    ap (λ o. option_or o (in_turn f cs first.variables).exit) none ∙ turn_goes f cs first.variables (All-tail (λ c. ClauseGoes c.1) c cs all)

-- ---- a run

history_goes : (m : ScriptMeant) (fs : List Firing) (threads : Threads) → has_exit m ≡ false → exit_of (history m fs threads) ≡ None
history_goes m [] threads without = refl
history_goes m (f ∷ fs) threads without =
    let none : (firing_result m f (threads f.thread)).exit ≡ None = turn_goes f (clauses_for f 1 m.clauses) _ (for_all ClauseGoes f 1 m.clauses (clauses_go m.clauses without)) in
    ap (λ o. option_or (option_map (λ status. (f.number, status)) o) (exit_of (history m fs (threads_after m f threads)))) none
    ∙ history_goes m fs (threads_after m f threads) without

pub script_goes : (m : ScriptMeant) (trace : List Firing) → has_exit m ≡ false → (firings_over m trace ≡ with_ends trace trace) × (exit_status (history_over m trace) ≡ 0)
script_goes m trace without = (
  ap (λ o. with_ends trace (up_to o trace)) (history_goes m (with_ends trace trace) blank_threads without),
  ap (λ (o : Option (ℕ × ℕ)). unwrap_or (option_map (λ exit. exit.1) o) 0) (history_goes m (firings_over m trace) blank_threads without),
)

-- firings before the last are up to its number
all_before : (n : ℕ) (fs : List Firing) (e : Firing) → Rises n (fs ++ e ∷ []) → filter (λ f. nat_le f.number e.number) fs ≡ fs
all_before n [] e r = refl
all_before n (f ∷ fs) e r =
    let lt = before_end f.number fs e r.1 in
    ap (λ b. cond b (f ∷ filter (λ f. nat_le f.number e.number) fs) (filter (λ f. nat_le f.number e.number) fs)) (le-leb f.number e.number (omega arith))
    ∙ ap (λ l. f ∷ l) (all_before f.number fs e r.1)

pub trace_goes : (m : ScriptMeant) (trace : List Firing) → IsTrace trace → exit_of (history m (begin_of trace ∷ trace) blank_threads) ≡ None → firings_over m trace ≡ with_ends trace trace
trace_goes m trace is none =
    let end = end_of trace in
    let rows = begin_of trace ∷ trace in
    let threads = threads_over m rows blank_threads in
    ap (λ o. with_ends trace (up_to o trace)) (exit_parts m rows (end ∷ []) ∙ ap (λ o. option_or o (exit_of (history m (end ∷ []) threads))) none)
    ∙ ap (λ fs. with_ends trace fs)
    (elim (firing_result m end (threads end.thread)).exit as (λ o. up_to (option_or (option_map (λ status. (end.number, status)) o) None) trace ≡ trace) [
      | None ↦ refl
      | Some status ↦ all_before 0 trace end (trace_rises trace is)
    ])
