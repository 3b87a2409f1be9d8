-- A run, from its rounds.
use Rattle.std.proofs.Common.{◌≡◌, ◌≢◌, ◌<◌, ◌≤◌, ℕ, List, All, Option, None, Some, IfSome, false}
use Rattle.std.proofs.Common.{map, length, refl, sym, ap, ◌∙◌, subst, arith}
use Rattle.replay_core.specs.Vocabulary.{AreOf, Firing, Groups, IsStrictlyIncreasing, IsTrace}
use Rattle.replay_core.specs.Vocabulary.{ScriptMeant, end_of, grouping, has_exit, no_number}
use Rattle.replay_core.specs.Vocabulary.{number_lowered, number_of, number_seen, run_threads}
use Rattle.replay_core.specs.Vocabulary.{with_ends}
use Rattle.replay_core.specs.declared.workers.round.Round.{Round}
use Rattle.replay_core.specs.declared.workers.span.Span.{Span}
use Rattle.replay_core.specs.Beginnings.{AreBegun, IsBegunOf, exit_over, least_exit, lesser_of}
use Rattle.replay_core.specs.AtBoard.{GivesBegun, GivesPieces, IsRound}
use Rattle.replay_core.specs.Steps.AtBoard.{IsRun}
use Rattle.replay_core.specs.Exit.{first_exit_number, firings_over}
use Rattle.replay_core.specs.Groups.{AreGrouped}
use Rattle.replay_core.specs.Meaning.{blank_threads}
use Rattle.replay_core.specs.Working.{IsOfGroup, firings_in}
use Rattle.replay_core.specs.declared.workers.span.Span.TheVariants as span
use Rattle.replay_core.proofs.Parts.{given_begun, given_pieces}
use Rattle.replay_core.proofs.RoundOne.{least_of_run, number_is, number_none, number_some}
use Rattle.replay_core.proofs.RoundOne.{pieces_whole}
use Rattle.replay_core.proofs.ExitLemmas.{exit_at, trace_rises}
use Rattle.replay_core.proofs.WithoutExit.{script_goes}
use Rattle.replay_core.proofs.TraceRuns.{all_count, counted_few, counted_grouped, counted_rise}
use Rattle.replay_core.proofs.TraceRuns.{counted_up_to, numbers_small, over_by}

-- the firings that count are those of a span
span_over : (m : ScriptMeant) (trace : List Firing) → IsTrace trace → (s : Span) × (firings_in s trace ≡ firings_over m trace)
span_over m trace is = here (exit_over m (with_ends trace trace)) refl
  where
    here : (o : Option (ℕ × ℕ)) → exit_over m (with_ends trace trace) ≡ o → (s : Span) × (firings_in s trace ≡ firings_over m trace)
    here None e = (span.All, all_count (with_ends trace trace) ∙ over_by m trace None e)
    here (Some x) e = (span.UpTo x.0 (end_of trace).number, counted_up_to x trace is ∙ over_by m trace (Some x) e)

module _ (m : ScriptMeant) (groups : Groups) (trace : List Firing) (is : IsTrace trace) where
  pub over_grouped : AreOf groups (run_threads trace) → AreGrouped (grouping groups) (firings_over m trace)
  over_grouped are = let s = span_over m trace is in subst (AreGrouped (grouping groups)) s.1 (counted_grouped s.0 groups trace are)

  pub over_rise : IsStrictlyIncreasing (map number_of (firings_over m trace))
  over_rise = let s = span_over m trace is in subst (λ (fs : List Firing). IsStrictlyIncreasing (map number_of fs)) s.1 (counted_rise s.0 trace is)

  pub over_few : length (firings_over m trace) ≤ 1000002
  over_few = let s = span_over m trace is in subst (λ (fs : List Firing). length fs ≤ 1000002) s.1 (counted_few s.0 trace is)

-- a round over all firings, where no script that is run has an exit
pub plain_round : (runs : ScriptMeant → Type 0) (groups : Groups) (trace : List Firing) (r : Round) → IsRound (GivesPieces runs groups (firings_in span.All trace)) (grouping groups).count r
    → ((m : ScriptMeant) → runs m → has_exit m ≡ false) → IsRun runs groups trace r
plain_round runs groups trace r round without =
    let made = given_pieces span.All runs groups trace r.pieces.items round.seats round.parts in
    record {
      once = round.once;
      taken = round.taken;
      each = λ m means. subst (λ (l : List Firing). All (IsOfGroup m (grouping groups) l) r.pieces.items) (all_count (with_ends trace trace) ∙ sym (script_goes m trace (without m means)).0) (made.each m means);
      roomy = made.roomy;
    }

module _ (runs : ScriptMeant → Type 0) (groups : Groups) (trace : List Firing) (is : IsTrace trace) (placed : AreOf groups (run_threads trace)) (first : Round)
    (round : IsRound (GivesBegun number_seen number_lowered runs groups trace) (grouping groups).count first) where
  grouped : AreGrouped (grouping groups) (with_ends trace trace)
  grouped = subst (AreGrouped (grouping groups)) (all_count (with_ends trace trace)) (counted_grouped span.All groups trace placed)

  given : AreBegun runs first.least (grouping groups) (with_ends trace trace) first.pieces.items × (first.least ≡ least_exit first.pieces.items)
  given = given_begun runs groups trace first.least first.pieces.items round.seats round.parts round.lowered round.seen

  module _ (m : ScriptMeant) where
    small : IfSome (exit_over m (with_ends trace trace)) (λ x. x.0 < no_number)
    small = exit_at (λ n. n < no_number) m (with_ends trace trace) blank_threads (numbers_small trace is)

    -- what was lowered is the number of the first exit
    lowered : runs m → first.least ≡ lesser_of no_number (exit_over m (with_ends trace trace))
    lowered means = least_of_run m (grouping groups) (with_ends trace trace) first.least first.pieces.items (trace_rises trace is) grouped round.once (given.0.each m means) given.1

    pub least_is : runs m → first.least ≡ first_exit_number m trace
    least_is means = lowered means ∙ number_is (exit_over m (with_ends trace trace)) small

  -- round one alone, where nothing was lowered
  pub one_round : first.least ≡ no_number → IsRun runs groups trace first
  one_round none = record {
    once = round.once;
    taken = round.taken;
    each = λ m means.
        let fs = with_ends trace trace in
        let least = lowered m means in
        let begun = subst (λ n. All (IsBegunOf m n (grouping groups) fs) first.pieces.items) none (given.0.each m means) in
        subst (λ (l : List Firing). All (IsOfGroup m (grouping groups) l) first.pieces.items) (over_by m trace None (number_none (exit_over m fs) (small m) (omega arith)))
        (pieces_whole m (grouping groups) fs first.pieces.items (trace_rises trace is) (numbers_small trace is) (sym given.1 ∙ none) begun);
    roomy = given.0.roomy;
  }

  -- round two, up to the least number
  pub two_rounds : first.least ≢ no_number → (end : ℕ) → end ≡ (end_of trace).number → (second : Round)
      → IsRound (GivesPieces runs groups (firings_in (span.UpTo first.least end) trace)) (grouping groups).count second → IsRun runs groups trace second
  two_rounds some end same second again =
      let made = given_pieces (span.UpTo first.least end) runs groups trace second.pieces.items again.seats again.parts in
      record {
        once = again.once;
        taken = again.taken;
        each = λ m means.
            let exit = number_some first.least (exit_over m (with_ends trace trace)) (lowered m means) (small m) some in
            subst (λ (l : List Firing). All (IsOfGroup m (grouping groups) l) second.pieces.items)
            (ap (λ n. firings_in (span.UpTo first.least n) trace) same ∙ counted_up_to (first.least, exit.0) trace is ∙ over_by m trace (Some (first.least, exit.0)) exit.1)
            (made.each m means);
        roomy = made.roomy;
      }
