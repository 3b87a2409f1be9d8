-- What a run notes, effect by effect.
use Rattle.std.proofs.Common.{◌≡◌, ◌%◌, ℕ, ℤ, List, [], ◌∷◌, ◌++◌, map, Bool, true, false, ◌||◌}
use Rattle.std.proofs.Common.{Option, None, Some, is_some, length, take, Ok, Err, refl, sym, ap}
use Rattle.std.proofs.Common.{◌∙◌, subst, append_assoc, take_at}
use Rattle.aggregations.specs.Table.{contribution}
use Rattle.replay_core.specs.Vocabulary.{option_or, Aggregation, Contribution, StandsFor}
use Rattle.replay_core.specs.Vocabulary.{functions_of, KeyPart, Effect, Outcome, Has, Faults, with}
use Rattle.replay_core.specs.Vocabulary.{Made, and_then, Variables}
use Rattle.replay_core.specs.Effects.{NotesRun}
use Rattle.replay_core.specs.Steps.EffectRuns.{Ran, contributions_in, effect_then, exit_in}
use Rattle.replay_core.specs.Steps.EffectRuns.{run_result, run_with, texts_in}
use Rattle.replay_core.specs.Steps.Effects.{effects_result, NotesEffect, Performs}
use Rattle.replay_core.specs.Lanes.{Notes}
use Rattle.replay_core.specs.Pieces.{PieceSeen}
use Rattle.d_types.specs.declared.effect.Effect.TheVariants as ef
use Rattle.replay_core.specs.declared.evaluation.fault.EvalFault.TheVariants as fault
use Rattle.replay_core.proofs.Noting.{append_nil, notes_nothing, notes_then, or_none}

-- ---- effects and those after them

texts_then : (a b : List Effect) → texts_in (a ++ b) ≡ texts_in a ++ texts_in b
texts_then [] b = refl
texts_then (ef.Says text ∷ a) b = ap (λ l. text ∷ l) (texts_then a b)
texts_then (effect ∷ a) b = texts_then a b

contributions_then : (a b : List Effect) → contributions_in (a ++ b) ≡ contributions_in a ++ contributions_in b
contributions_then [] b = refl
contributions_then (ef.Adds index key z ∷ a) b = ap (λ l. contribution index key z ∷ l) (contributions_then a b)
contributions_then (effect ∷ a) b = contributions_then a b

exit_then : (a b : List Effect) → exit_in (a ++ b) ≡ option_or (exit_in a) (exit_in b)
exit_then [] b = refl
exit_then (ef.Exits status ∷ a) b = refl
exit_then (effect ∷ a) b = exit_then a b

abbrev pub made_of : List (List ℕ) → List Contribution → Option ℕ → Variables → Made
made_of texts contributions exit vars = record { texts = texts; contributions = contributions; exit = exit; variables = vars }

done_then : (a b : List Effect) (vars : Variables) → effects_result (a ++ b) vars ≡ and_then (effects_result a vars) (effects_result b vars)
done_then a b vars = let texts = texts_then a b in let contributions = contributions_then a b in let exit = exit_then a b in cc

some_then : (a b : Option ℕ) → (is_some a || is_some b) ≡ is_some (option_or a b)
some_then None b = refl
some_then (Some s) b = refl

-- ---- the statements so far

-- what the statements before have done is noted, and those that are left do the rest of the whole
pub record SoFar (number : ℕ) (whole left : Ran) (old now : PieceSeen) (exits : Bool) : Type 0 where
  pub done : List Effect
  pub is : whole ≡ run_with (done ++ left.effects) left.faulted left.variables
  pub notes : (vars : Variables) → Notes number (effects_result done vars) old now
  pub exited : exits ≡ is_some (exit_in done)

pub none_yet : (number : ℕ) (whole : Ran) (p : PieceSeen) → SoFar number whole whole p p false
none_yet number whole p = record { done = []; is = refl; notes = λ vars. notes_nothing number vars p; exited = refl }

one_more : (number : ℕ) (whole left rest : Ran) (old now next : PieceSeen) (exits exited more : Bool) (effect : Effect)
    → SoFar number whole left old now exits → left ≡ run_with (effect ∷ rest.effects) rest.faulted rest.variables
    → NotesEffect number effect now next → exited ≡ is_some (exit_in (effect ∷ [])) → more ≡ (exits || exited)
    → SoFar number whole rest old next more
one_more number whole left rest old now next exits exited more effect so_far is noted told more_is = record {
  done = so_far.done ++ effect ∷ [];
  is = so_far.is ∙ ap (λ (l : Ran). run_with (so_far.done ++ l.effects) l.faulted l.variables) is
      ∙ ap (λ es. run_with es rest.faulted rest.variables) (sym (append_assoc so_far.done (effect ∷ []) rest.effects));
  notes = λ vars. subst (λ m. Notes number m old next) (sym (done_then so_far.done (effect ∷ []) vars))
      (notes_then number (effects_result so_far.done vars) (effects_result (effect ∷ []) vars) old now next (so_far.notes vars) (noted vars));
  exited = more_is ∙ ap (λ b. b || exited) so_far.exited ∙ ap (λ b. is_some (exit_in so_far.done) || b) told
      ∙ some_then (exit_in so_far.done) (exit_in (effect ∷ [])) ∙ ap is_some (sym (exit_then so_far.done (effect ∷ [])));
}

-- a statement more
pub goes_on : (number : ℕ) (whole left : Ran) (o : Outcome Effect) (go : Variables → Ran) (old now next : PieceSeen) (vars : Variables) (exits exited more : Bool)
    → SoFar number whole left old now exits → left ≡ effect_then o go → Performs number o now (Ok exited) next vars → more ≡ (exits || exited)
    → SoFar number whole (go vars) old next more
goes_on number whole left (Has effect after) go old now next vars exits exited more so_far is performs more_is =
    one_more number whole left (go vars) old now next exits exited more effect so_far
    (is ∙ ap (λ v. let rest = go v in run_with (effect ∷ rest.effects) rest.faulted rest.variables) (sym performs.0)) performs.1 performs.2 more_is
goes_on number whole left (Faults after) go old now next vars exits exited more so_far is performs more_is = absurd performs

-- the statements that were left are none
pub ends : (number : ℕ) (line : List ℕ) (whole : Ran) (old now : PieceSeen) (vars : Variables) (exits : Bool)
    → SoFar number whole (run_with [] false vars) old now exits → NotesRun number (run_result line whole) old now vars exits
ends number line whole old now vars exits so_far =
    let all : whole ≡ run_with so_far.done false vars = so_far.is ∙ ap (λ es. run_with es false vars) (sym (append_nil so_far.done)) in
    subst (λ (w : Ran). NotesRun number (run_result line w) old now vars exits) (sym all)
    (record { notes = so_far.notes vars; variables = refl; exited = so_far.exited })

-- ---- how a run ends

-- the piece with a fault's line in place of the run's texts
abbrev with_line : ℕ → List ℕ → (old now : PieceSeen) → PieceSeen
with_line number line old now = record { events = old.events ++ (number, line) ∷ []; table = now.table; taken = now.taken; exit = now.exit }

is_with_line : (number : ℕ) (line : List ℕ) (old now end : PieceSeen) → take (length old.events) now.events ≡ old.events
    → end.events ≡ take (length old.events) now.events ++ (number, line) ∷ [] → end.table ≡ now.table → end.taken ≡ now.taken → end.exit ≡ now.exit
    → with_line number line old now ≡ end
is_with_line number line old now end cut texts table taken exit =
    let seen : List (ℕ × List ℕ) → _ → List ℕ → Option (ℕ × ℕ) → PieceSeen = λ a b c d. record { events = a; table = b; taken = c; exit = d } in
    ap (λ t. seen t now.table now.taken now.exit) (sym (texts ∙ ap (λ l. l ++ (number, line) ∷ []) cut))
    ∙ ap (λ t. seen end.events t now.taken now.exit) (sym table)
    ∙ ap (λ t. seen end.events end.table t now.exit) (sym taken)
    ∙ ap (λ t. seen end.events end.table end.taken t) (sym exit)

ends_faulted : (number : ℕ) (line : List ℕ) (whole left : Ran) (old now : PieceSeen) (vars : Variables) (exits : Bool)
    → SoFar number whole left old now exits → left ≡ run_with [] true vars → NotesRun number (run_result line whole) old (with_line number line old now) vars exits
ends_faulted number line whole left old now vars exits so_far is =
    let all : whole ≡ run_with so_far.done true vars =
    so_far.is ∙ ap (λ (l : Ran). run_with (so_far.done ++ l.effects) l.faulted l.variables) is ∙ ap (λ es. run_with es true vars) (sym (append_nil so_far.done)) in
    let noted = so_far.notes vars in
    subst (λ (w : Ran). NotesRun number (run_result line w) old (with_line number line old now) vars exits) (sym all)
    (record {
      notes = record { texts = refl; functions = noted.functions; table = noted.table; taken = noted.taken; exit = noted.exit };
      variables = refl;
      exited = so_far.exited;
    })

-- a statement faults, and the line is noted after the texts before the run
pub faults : (number : ℕ) (line : List ℕ) (whole left : Ran) (o : Outcome Effect) (go : Variables → Ran) (old now next end : PieceSeen) (vars : Variables) (exits : Bool)
    → SoFar number whole left old now exits → left ≡ effect_then o go → Performs number o now (Err fault.DivideByZero) next vars
    → end.events ≡ take (length old.events) next.events ++ (number, line) ∷ [] → end.table ≡ next.table → end.taken ≡ next.taken → end.exit ≡ next.exit
    → NotesRun number (run_result line whole) old end vars exits
faults number line whole left (Has effect after) go old now next end vars exits so_far is performs texts table taken exit = absurd performs
faults number line whole left (Faults after) go old now next end vars exits so_far is performs texts table taken exit =
    let cut : take (length old.events) next.events ≡ old.events =
    ap (λ (p : PieceSeen). take (length old.events) p.events) performs.1 ∙ ap (take (length old.events)) (so_far.notes vars).texts
    ∙ take_at old.events (map (λ text. (number, text)) (texts_in so_far.done)) (length old.events) refl in
    let faulted = ends_faulted number line whole left old now vars exits so_far (is ∙ ap (run_with [] true) (sym performs.0)) in
    let noted = subst (λ p. NotesRun number (run_result line whole) old (with_line number line old p) vars exits) (sym performs.1) faulted in
    subst (λ p. NotesRun number (run_result line whole) old p vars exits) (is_with_line number line old next end cut texts table taken exit) noted

-- the predicate faults
pub predicate_faults : (number : ℕ) (line : List ℕ) (old end : PieceSeen) (vars : Variables)
    → end.events ≡ take (length old.events) old.events ++ (number, line) ∷ [] → end.table ≡ old.table → end.taken ≡ old.taken → end.exit ≡ old.exit
    → NotesRun number (run_result line (run_with [] true vars)) old end vars false
predicate_faults number line old end vars texts table taken exit =
    let cut : take (length old.events) old.events ≡ old.events = ap (take (length old.events)) (append_nil old.events) ∙ take_at old.events [] (length old.events) refl in
    subst (λ p. NotesRun number (run_result line (run_with [] true vars)) old p vars false) (is_with_line number line old old end cut texts table taken exit)
    (ends_faulted number line (run_with [] true vars) (run_with [] true vars) old old vars false (none_yet number (run_with [] true vars) old) refl)

-- ---- one statement

pub says : {A : Type 0} (number : ℕ) (o : Outcome A) (go : A → List ℕ) (x : A) (text : List ℕ) (old new : PieceSeen) (after : Variables)
    → o ≡ Has x after → text ≡ go x → NotesEffect number (ef.Says text) old new → Performs number (with o (λ x. Has (ef.Says (go x)))) old (Ok false) new after
says number o go x text old new after is same noted =
    subst (λ q. Performs number (with q (λ x. Has (ef.Says (go x)))) old (Ok false) new after) (sym is)
    (refl, subst (λ t. NotesEffect number (ef.Says t) old new) same noted, refl)

pub adds : (number index : ℕ) (o : Outcome (List KeyPart)) (given : Variables → Outcome ℤ) (key : List KeyPart) (z : ℤ) (old : PieceSeen) (table : List Aggregation) (between after : Variables)
    → o ≡ Has key between → given between ≡ Has z after → functions_of table ≡ functions_of old.table
    → ((before : List Contribution) → StandsFor old.table before → StandsFor table (before ++ contribution index key z ∷ []))
    → Performs number (with o (λ key vars. with (given vars) (λ z. Has (ef.Adds index key z)))) old (Ok false) (record old { table = table }) after
adds number index o given key z old table between after keyed is functions stands =
    subst (λ q. Performs number (with q (λ key vars. with (given vars) (λ z. Has (ef.Adds index key z)))) old (Ok false) (record old { table = table }) after) (sym keyed)
    (subst (λ q. Performs number (with q (λ z. Has (ef.Adds index key z))) old (Ok false) (record old { table = table }) after) (sym is)
    (refl, (λ vars. record { texts = append_nil old.events; functions = functions; table = stands; taken = refl; exit = or_none old.exit }), refl))

pub leaves : (number : ℕ) (o : Outcome ℕ) (word : ℕ) (old : PieceSeen) (exit : Option (ℕ × ℕ)) (after : Variables)
    → o ≡ Has word after → exit ≡ option_or old.exit (Some (number, word % 256))
    → Performs number (with o (λ word. Has (ef.Exits (word % 256)))) old (Ok true) (record old { exit = exit }) after
leaves number o word old exit after is exits =
    subst (λ q. Performs number (with q (λ word. Has (ef.Exits (word % 256)))) old (Ok true) (record old { exit = exit }) after) (sym is)
    (refl, (λ vars. record { texts = append_nil old.events; functions = refl; table = λ before. subst (StandsFor old.table) (append_nil before); taken = refl; exit = exits }), refl)
