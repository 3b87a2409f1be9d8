-- The data of a whole is that of its run.
use Rattle.std.proofs.Common.{◌≡◌, ◌∙◌, ◌∷◌, [], ℕ, suc, List, Option, Vec, Global, map, length, ap, arith}
use Rattle.std.proofs.Common.{refl, subst, sum_by}
use Rattle.std.specs.Prelude.{IfOk, Result, Ok, Err}
use Rattle.std.specs.List.{flat_map}
use Rattle.std.proofs.lemmas.List.Sums.{sum_by-append, sum_by-cons}
use Rattle.std.proofs.lemmas.List.{length-map}
use Rattle.replay_core.specs.declared.collector.whole.Whole.{Whole}
use Rattle.replay_core.specs.Groups.{Grouping, SameItems}
use Rattle.replay_core.specs.Meaning.{Threads, blank_threads, contributions_of, exit_of, history, texts_of, threads_after}
use Rattle.replay_core.specs.Pieces.{IsWholeOf, RunsEachOnce}
use Rattle.replay_core.specs.Seen.{whole_seen}
use Rattle.replay_core.specs.Vocabulary.{Firing, ScriptMeant, number_of}
use Rattle.data_lines.specs.Layout.{IsDataOf, whole_run}
use Rattle.data_lines.specs.Runs.{IsData, WholeRun, run_from}

-- ---- how many firings were run

ones : {A : Type 0} (xs : List A) → sum_by (λ x. 1) xs ≡ length xs
ones [] = refl
ones (x ∷ xs) = let here = sum_by-cons (λ y. 1) x xs in let rest = ones xs in omega (arith, here, rest)

in_groups : (groups : List (Vec ℕ Global))
    → sum_by (λ n. 1) (flat_map (λ group. group) (map (λ group. group.items) groups)) ≡ sum_by (λ group. length group.items) groups
in_groups [] = refl
in_groups (group ∷ groups) =
    let all = sum_by-append (λ n. 1) group.items (flat_map (λ g. g) (map (λ g. g.items) groups)) in
    let own = ones group.items in
    let each = sum_by-cons (λ g. length g.items) group groups in
    let rest = in_groups groups in
    omega (arith, all, own, each, rest)

history_length : (m : ScriptMeant) (fs : List Firing) (threads : Threads) → length (history m fs threads) ≡ length fs
history_length m [] threads = refl
history_length m (f ∷ fs) threads = ap suc (history_length m fs (threads_after m f threads))

firings_run : (m : ScriptMeant) (fs : List Firing) (groups : List (Vec ℕ Global))
    → SameItems (flat_map (λ group. group) (map (λ group. group.items) groups)) (map number_of fs)
    → sum_by (λ group. length group.items) groups ≡ length (history m fs blank_threads)
firings_run m fs groups same =
    let all = in_groups groups in
    let each = same (λ n. 1) in
    let numbers = ones (map number_of fs) in
    let mapped = length-map fs number_of in
    let run = history_length m fs blank_threads in
    omega (arith, all, each, numbers, mapped, run)

-- ---- its data

run_is : (m : ScriptMeant) (fs : List Firing) (grouping : Grouping) (whole : Whole) → IsWholeOf m fs grouping (whole_seen whole)
    → RunsEachOnce fs (whole_seen whole)
    → run_from whole (contributions_of (history m fs blank_threads)) ≡ whole_run (history m fs blank_threads)
run_is m fs grouping whole is once =
    let h = history m fs blank_threads in
    let firings = firings_run m fs whole.ran.items once in
    let by : (texts : List (ℕ × List ℕ)) (exit : Option (ℕ × ℕ)) (n : ℕ) → WholeRun =
    λ texts exit n. record { texts = texts; contributions = contributions_of h; exit = exit; firings = n } in
    ap (λ texts. by texts whole.exit (sum_by (λ group. length group.items) whole.ran.items)) is.texts
    ∙ ap (λ exit. by (texts_of h) exit (sum_by (λ group. length group.items) whole.ran.items)) is.exit
    ∙ ap (λ n. by (texts_of h) (exit_of h) n) firings

pub data_of_run : {E : Type 0} (m : ScriptMeant) (fs : List Firing) (grouping : Grouping) (whole : Whole) (r : Result (Vec ℕ Global) E)
    → IsWholeOf m fs grouping (whole_seen whole) → RunsEachOnce fs (whole_seen whole)
    → IfOk r (λ bytes. IsData m.aggregations (run_from whole (contributions_of (history m fs blank_threads))) bytes.items)
    → IfOk r (λ bytes. IsDataOf m (history m fs blank_threads) bytes.items)
data_of_run m fs grouping whole (Ok bytes) is once written =
    subst (λ run. IsData m.aggregations run bytes.items) (run_is m fs grouping whole is once) written
data_of_run m fs grouping whole (Err e) is once written = tt
