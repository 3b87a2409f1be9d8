-- The firings' numbers rise, and an exit's number is that of one of them.
use Rattle.std.proofs.Common.{◌≡◌, ℕ, suc, ◌-◌, ◌<◌, ◌≤◌, List, [], ◌∷◌, ◌++◌, All, length, map}
use Rattle.std.proofs.Common.{slice_get, None, Some, IfSome, option_map, ap, arith, add-one}
use Rattle.std.proofs.lemmas.List.Elements.{All-tail}
use Rattle.replay_core.specs.Vocabulary.{option_map_or, option_or, Firing, IsStrictlyIncreasing}
use Rattle.replay_core.specs.Vocabulary.{IsTrace, ScriptMeant, end_of, number_of}
use Rattle.replay_core.specs.Meaning.{Threads, exit_of, history, firing_result, threads_after}

-- numbers rise from above n on
abbrev pub Rises : ℕ → List Firing → Type 0
Rises n [] = Unit {0}
Rises n (f ∷ fs) = (n < f.number) × Rises f.number fs

pub rises_less : (m n : ℕ) (fs : List Firing) → m ≤ n → Rises n fs → Rises m fs
rises_less m n [] le r = tt
rises_less m n (f ∷ fs) le r = (omega (arith, r.0), r.1)

pub rises_is : (n : ℕ) (fs : List Firing) → IsStrictlyIncreasing (n ∷ map number_of fs) → Rises n fs
rises_is n [] all = tt
rises_is n (f ∷ fs) all = (all 0 (omega arith), rises_is f.number fs (λ k within. rw add-one (rw add-one at (all (suc k) (omega arith)))))

ends_above : (f : Firing) (fs : List Firing) (e : Firing) → Rises f.number fs → option_map_or number_of (slice_get (f ∷ fs) (length fs)) 0 < e.number → Rises f.number (fs ++ e ∷ [])
ends_above f [] e r lt = (lt, tt)
ends_above f (g ∷ fs) e r lt = (r.0, ends_above g fs e r.1 lt)

pub trace_rises : (fs : List Firing) → IsTrace fs → Rises 0 (fs ++ end_of fs ∷ [])
trace_rises [] is = (omega arith, tt)
trace_rises (f ∷ fs) is =
    let first = (is.firings 0 f (omega arith)).number in
    let last = ap (λ n. option_map_or number_of (slice_get (f ∷ fs) n) 0) (let e : length (f ∷ fs) - 1 ≡ length fs = omega arith in e) in
    (omega arith, ends_above f fs (end_of (f ∷ fs)) (rises_is f.number fs is.rises) (omega arith))

-- what holds of the firings' numbers holds of the exit's
pub exit_at : (P : ℕ → Type 0) (m : ScriptMeant) (fs : List Firing) (threads : Threads) → All (λ f. P f.number) fs → IfSome (exit_of (history m fs threads)) (λ x. P x.0)
exit_at P m [] threads all = tt
exit_at P m (f ∷ fs) threads all =
    elim (firing_result m f (threads f.thread)).exit
    as (λ o. IfSome (option_or (option_map (λ status. (f.number, status)) o) (exit_of (history m fs (threads_after m f threads)))) (λ x. P x.0)) [
      | None ↦ exit_at P m fs (threads_after m f threads) (All-tail (λ f. P f.number) f fs all)
      | Some status ↦ all 0 f (omega arith)
    ]
