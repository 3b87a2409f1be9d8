-- The firings of a run over a trace.
use Rattle.std.proofs.Common.{add-one, eq-eqb, false, ne_eqb, None, Option, ◌≡◌, ℕ, ◌-◌, Some}
use Rattle.std.proofs.Common.{slice_get, zero, suc, ◌+◌, ◌<◌, ◌≤◌, ◌==◌, ◌||◌, Bool, true, cond}
use Rattle.std.proofs.Common.{List, [], ◌∷◌, ◌++◌, All, map, filter, length, refl, sym, ap, ◌∙◌}
use Rattle.std.proofs.Common.{subst, arith, length-append, ℤ, IsSomeAnd, nat_le, le-leb}
use Rattle.std.proofs.lemmas.Bool.{cond_both, or_right}
use Rattle.std.proofs.lemmas.List.{get_or_push, map-append}
use Rattle.std.proofs.lemmas.List.Elements.{All-append, All-filter, All-get_or}
use Rattle.std.proofs.lemmas.List.Sums.{count_by-le-length, length-filter}
use Rattle.std.proofs.lemmas.Option.{slice_get-get_or, slice_get_read}
use Rattle.firings.specs.Firings.{IsFiring, thread_of, last_number}
use Rattle.shard_queue.specs.Threads.{thread_zero}
use Rattle.shard_queue.proofs.Lists.{all_cons}
use Rattle.replay_core.specs.Vocabulary.{IsStrictlyIncreasing, ScriptMeant, Firing, begin_of}
use Rattle.replay_core.specs.Vocabulary.{end_of, with_ends, number_of, IsTrace, Groups, AreOf}
use Rattle.replay_core.specs.Vocabulary.{grouping, no_number, run_threads}
use Rattle.replay_core.specs.declared.workers.span.Span.{Span}
use Rattle.replay_core.specs.Exit.{firings_over, up_to}
use Rattle.replay_core.specs.Meaning.{exit_of, history, blank_threads}
use Rattle.replay_core.specs.Groups.{AreGrouped}
use Rattle.replay_core.specs.Working.{firings_in, is_in}
use Rattle.replay_core.specs.declared.workers.span.Span.TheVariants as span
use Rattle.replay_core.proofs.ExitLemmas.{Rises, rises_less, trace_rises}
use Rattle.replay_core.proofs.GroupSums.{all_mapped}
use Rattle.replay_core.proofs.SelectionLemmas.{slice_get_left}

pub threads_are : (trace : List Firing) → map thread_of (with_ends trace trace) ≡ run_threads trace
threads_are trace = ap (λ l. thread_zero ∷ l) (map-append thread_of trace (end_of trace ∷ []))

pub run_few : (trace : List Firing) → IsTrace trace → length (with_ends trace trace) ≤ 1000002
run_few trace is = let few = is.few in let len = length-append trace (end_of trace ∷ []) in omega arith

-- all firings count
pub all_count : (fs : List Firing) → filter (is_in span.All) fs ≡ fs
all_count [] = refl
all_count (f ∷ fs) = ap (λ l. f ∷ l) (all_count fs)

-- ---- indices

pub at_row : (trace : List Firing) (index : ℕ) (f : Firing) → 0 < index → slice_get trace (index - 1) ≡ Some f → slice_get (with_ends trace trace) index ≡ Some f
at_row trace zero f some e = absurd (omega arith)
at_row trace (suc k) f some e =
    let same : suc k - 1 ≡ k = omega arith in
    slice_get_left trace (end_of trace ∷ []) k f (subst (λ j. slice_get trace j ≡ Some f) same e)

pub at_end : (trace : List Firing) (index : ℕ) → index ≡ length trace + 1 → slice_get (with_ends trace trace) index ≡ Some (end_of trace)
at_end trace index is =
    let long = length-append trace (end_of trace ∷ []) in
    slice_get_read (with_ends trace trace) (length trace + 2) index (end_of trace) (omega arith) (omega arith)
    (sym (get_or_push (begin_of trace ∷ trace) (end_of trace) (end_of trace) index (omega arith)))

-- ---- firings that count

-- numbers rise
abbrev pub Rising : List Firing → Type 0
Rising [] = Unit {0}
Rising (f ∷ fs) = Rises f.number fs

rises_kept : (p : Firing → Bool) (n : ℕ) (fs : List Firing) → Rises n fs → Rises n (filter p fs)
rises_kept p n [] r = tt
rises_kept p n (f ∷ fs) r =
    let more = rises_kept p f.number fs r.1 in
    cond_both (p f) (f ∷ filter p fs) (filter p fs) (Rises n) (λ yes. (r.0, more)) (λ no. rises_less n f.number (filter p fs) (let lt = r.0 in omega arith) more)

rising_after : (n : ℕ) (fs : List Firing) → Rises n fs → Rising fs
rising_after n [] r = tt
rising_after n (f ∷ fs) r = r.1

pub rising_kept : (p : Firing → Bool) (fs : List Firing) → Rising fs → Rising (filter p fs)
rising_kept p [] r = tt
rising_kept p (f ∷ fs) r =
    let more = rises_kept p f.number fs r in
    cond_both (p f) (f ∷ filter p fs) (filter p fs) Rising (λ yes. more) (λ no. rising_after f.number (filter p fs) more)

pub rising_rest : (fs rest : List Firing) → Rising (fs ++ rest) → Rising rest
rising_rest [] rest up = up
rising_rest (f ∷ fs) rest up = rising_rest fs rest (rising_after f.number (fs ++ rest) up)

increases : (n : ℕ) (fs : List Firing) → Rises n fs → IsStrictlyIncreasing (n ∷ map number_of fs)
increases n [] r k within = absurd (omega arith)
increases n (f ∷ fs) r zero within = r.0
increases n (f ∷ fs) r (suc k) within = rw add-one (rw add-one at (increases f.number fs r.1 k (omega arith)))

pub climbing : (fs : List Firing) → Rising fs → IsStrictlyIncreasing (map number_of fs)
climbing [] r = λ k within. absurd (omega arith)
climbing (f ∷ fs) r = increases f.number fs r

pub counted_rise : (s : Span) (trace : List Firing) → IsTrace trace → IsStrictlyIncreasing (map number_of (firings_in s trace))
counted_rise s trace is = climbing (firings_in s trace) (rising_kept (is_in s) (with_ends trace trace) (trace_rises trace is))

pub few_kept : {A : Type 0} (p : A → Bool) (fs : List A) → length (filter p fs) ≤ length fs
few_kept p fs = rw (length-filter p fs) (count_by-le-length p fs)

pub counted_few : (s : Span) (trace : List Firing) → IsTrace trace → length (firings_in s trace) ≤ 1000002
counted_few s trace is = let some = few_kept (is_in s) (with_ends trace trace) in let all = run_few trace is in omega arith

-- ---- their groups

pub counted_grouped : (s : Span) (groups : Groups) (trace : List Firing) → AreOf groups (run_threads trace) → AreGrouped (grouping groups) (firings_in s trace)
counted_grouped s groups trace are =
    let P = λ (t : ℤ). IsSomeAnd ((grouping groups).group t) (λ g. g < (grouping groups).count) in
    All-filter (is_in s) (λ (f : Firing). P f.thread) (with_ends trace trace) (all_mapped P thread_of (with_ends trace trace) (subst (λ (ts : List ℤ). All P ts) (sym (threads_are trace)) are.each))

-- where there is a firing there is a group
pub some_group : (groups : Groups) (trace : List Firing) → AreOf groups (run_threads trace) → 0 < (grouping groups).count
some_group groups trace are = here ((grouping groups).group thread_zero) (are.each 0 thread_zero (omega arith))
  where
    here : (x : Option ℕ) → IsSomeAnd x (λ g. g < (grouping groups).count) → 0 < (grouping groups).count
    here None h = absurd h
    here (Some g) h = omega arith

-- ---- up to an exit

-- numbers before the end are not the end's
pub before_end : (n : ℕ) (fs : List Firing) (e : Firing) → Rises n (fs ++ e ∷ []) → n < e.number
before_end n [] e r = r.0
before_end n (f ∷ fs) e r = let lt = r.0 in let more = before_end f.number fs e r.1 in omega arith

up_to_end : (last n : ℕ) (fs : List Firing) (e : Firing) → Rises n (fs ++ e ∷ []) → filter (is_in (span.UpTo last e.number)) (fs ++ e ∷ []) ≡ filter (λ f. nat_le f.number last) fs ++ e ∷ []
up_to_end last n [] e r = ap (λ b. cond b (e ∷ []) []) (or_right (nat_le e.number last) (e.number == e.number) (eq-eqb e.number e.number refl))
up_to_end last n (f ∷ fs) e r =
    let lt = before_end f.number fs e r.1 in
    let more = up_to_end last f.number fs e r.1 in
    let kept = filter (is_in (span.UpTo last e.number)) (fs ++ e ∷ []) in
    elim (nat_le f.number last) as (λ b. cond (b || (f.number == e.number)) (f ∷ kept) kept ≡ cond b (f ∷ filter (λ g. nat_le g.number last) fs) (filter (λ g. nat_le g.number last) fs) ++ e ∷ []) [
      | true ↦ ap (λ l. f ∷ l) more
      | false ↦ ap (λ b. cond b (f ∷ kept) kept) (ne_eqb f.number e.number (λ same. omega arith)) ∙ more
    ]

-- the firings up to an exit, and END
pub counted_up_to : (exit : ℕ × ℕ) (trace : List Firing) → IsTrace trace → firings_in (span.UpTo exit.0 (end_of trace).number) trace ≡ with_ends trace (up_to (Some exit) trace)
counted_up_to exit trace is =
    let rest = filter (is_in (span.UpTo exit.0 (end_of trace).number)) (trace ++ end_of trace ∷ []) in
    ap (λ b. cond (b || (0 == (end_of trace).number)) (begin_of trace ∷ rest) rest) (le-leb 0 exit.0 (omega arith))
    ∙ ap (λ l. begin_of trace ∷ l) (up_to_end exit.0 0 trace (end_of trace) (trace_rises trace is))

-- the firings that count, by the run's exit
pub over_by : (m : ScriptMeant) (trace : List Firing) (exit : Option (ℕ × ℕ)) → exit_of (history m (with_ends trace trace) blank_threads) ≡ exit → with_ends trace (up_to exit trace) ≡ firings_over m trace
over_by m trace exit is = ap (λ o. with_ends trace (up_to o trace)) (sym is)

-- ---- numbers

number_small : (trace : List Firing) → IsTrace trace → last_number trace < 4611686018427387905
number_small [] is = omega arith
number_small (f ∷ fs) is =
    let last = length (f ∷ fs) - 1 in
    let inside : last < length (f ∷ fs) = omega arith in
    let small = (All-get_or IsFiring (f ∷ fs) last f inside is.firings).number.1 in
    rw (slice_get-get_or (f ∷ fs) last f inside) (omega (arith, small))

pub numbers_small : (trace : List Firing) → IsTrace trace → All (λ f. f.number < no_number) (with_ends trace trace)
numbers_small trace is =
    let P = λ (f : Firing). f.number < no_number in
    all_cons P (begin_of trace) (trace ++ end_of trace ∷ []) (omega arith)
    (All-append P trace (end_of trace ∷ []) (λ k d lt. let le = (is.firings k d lt).number.1 in omega arith)
    (all_cons P (end_of trace) [] (let le = number_small trace is in omega arith) (λ k d lt. absurd (omega arith))))
