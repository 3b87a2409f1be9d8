-- The variables of threads, before and after a firing.
use Rattle.std.proofs.Common.{◌≡◌, ℕ, suc, ℤ, List, [], ◌∷◌, All, filter, map, true, false, ◌==◌}
use Rattle.std.proofs.Common.{if◌then◌else◌, length, int_eq, refl, arith, sym, ap, ◌∙◌, subst}
use Rattle.std.proofs.lemmas.Bool.Decides.{Decides-eqb, Decides-int_eq}
use Rattle.std.proofs.lemmas.List.Elements.{All-append, All-map}
use Rattle.d_types.proofs.FiringValues.{locals_unassigned}
use Rattle.replay_core.specs.Vocabulary.{KeyPart, Value, Var, nothing_made, run_of, AreTyped}
use Rattle.replay_core.specs.Vocabulary.{AreTypedOwn, HasTypedBuiltIns, Slots, slots_of, Variables}
use Rattle.replay_core.specs.Vocabulary.{ClauseMeant, ScriptMeant, Firing}
use Rattle.replay_core.specs.Meaning.{Threads, at_start, clauses_for, in_turn, firing_result}
use Rattle.replay_core.specs.Meaning.{threads_after}
use Rattle.replay_core.specs.Patterns.{probe_of, selects}
use Rattle.replay_core.specs.Scripts.{AreTypedThreads, Keeps}
use Rattle.replay_core.specs.Threads.{StoreSeen, threads_of}
use Rattle.replay_core.specs.Steps.AllMade.{all_made}

-- ---- how a firing begins

pub typed_start : (slots : Slots) (vars : Variables) (own : Var → List KeyPart → Value) → vars ≡ at_start own → AreTypedOwn slots own → AreTyped slots vars
typed_start slots vars own is typed = subst (AreTyped slots) (sym is) (locals_unassigned slots, typed)

-- ---- what it leaves

pub thread_written : (old new : StoreSeen) → new.at ≡ old.at → new.others ≡ old.others → (t : ℤ) → threads_of new t ≡ (if int_eq t old.at then new.present.own else threads_of old t)
thread_written old new at others t =
    ap (λ (a : ℤ). if int_eq t a then new.present.own else new.others t) at
    ∙ ap (λ (o : Threads). if int_eq t old.at then new.present.own else o t) others
    ∙ elim (int_eq t old.at) as (λ b. (if b then new.present.own else old.others t) ≡ (if b then new.present.own else (if b then old.present.own else old.others t))) [
      | true ↦ refl
      | false ↦ refl
    ]

-- a thread whose firing ran no clause has what it had
pub own_stays : (threads : Threads) (thread t : ℤ) → threads t ≡ (if int_eq t thread then threads thread else threads t)
own_stays threads thread t = elim (int_eq t thread) as (λ b. int_eq t thread ≡ b → threads t ≡ (if b then threads thread else threads t)) [
  | true ↦ λ same. ap threads ((Decides-int_eq t thread).0 same)
  | false ↦ λ other. refl
] refl

-- no clause runs at no indices
pub none_turn : (f : Firing) (cs : List ClauseMeant) (indices : List ℕ) (start : Variables) → (length indices == 0) ≡ true → all_made f cs indices start ≡ nothing_made start
none_turn f cs [] start none = refl
none_turn f cs (index ∷ indices) start none =
    let zeroth : length (index ∷ indices) ≡ 0 = (Decides-eqb (length (index ∷ indices)) 0).0 none in absurd (omega arith)

-- ---- types

-- what holds of all clauses holds of those that a firing runs
pub for_all : (P : ClauseMeant → Type 0) (f : Firing) (index : ℕ) (cs : List ClauseMeant) → All P cs → All (λ x. P x.1) (clauses_for f index cs)
for_all P f index [] each = λ k d lt. absurd (omega arith)
for_all P f index (c ∷ cs) each =
    let own = filter (λ d. selects d (probe_of f)) c.descriptions in
    All-append (λ x. P x.1) (map (λ d. (index, c)) own) (clauses_for f (suc index) cs)
    (All-map (λ x. P x.1) (λ d. (index, c)) own (λ k d lt. each 0 c (omega arith)))
    (for_all P f (suc index) cs (λ k d lt. each (suc k) d (omega (arith, lt))))

module _ (slots : Slots) (f : Firing) (fit : HasTypedBuiltIns f) where
  -- clauses that run one after the other keep the variables' types
  turn_kept : (cs : List (ℕ × ClauseMeant)) (vars : Variables) → All (λ c. Keeps slots c.1) cs → AreTyped slots vars → AreTyped slots (in_turn f cs vars).variables
  turn_kept [] vars keep typed = typed
  turn_kept (c ∷ cs) vars keep typed =
      turn_kept cs (run_of f c.0 c.1 vars).variables (λ k d lt. keep (suc k) d (omega (arith, lt)))
      (keep 0 c (omega arith) f c.0 vars fit typed)

pub typed_after : (m : ScriptMeant) (f : Firing) (threads : Threads) → All (Keeps (slots_of m)) m.clauses → HasTypedBuiltIns f
    → AreTypedThreads (slots_of m) threads → AreTypedThreads (slots_of m) (threads_after m f threads)
typed_after m f threads keep fit typed thread =
    elim (int_eq thread f.thread) as (λ b. AreTypedOwn (slots_of m) (if b then (firing_result m f (threads f.thread)).variables.own else threads thread)) [
      | true ↦ (turn_kept (slots_of m) f fit (clauses_for f 1 m.clauses) (at_start (threads f.thread)) (for_all (Keeps (slots_of m)) f 1 m.clauses keep)
          (locals_unassigned (slots_of m), typed f.thread)).1
      | false ↦ typed thread
    ]
