-- Runs, one firing after the other.
use Rattle.std.proofs.Common.{◌≡◌, List, [], ◌∷◌, ◌++◌, map, Option, None, Some, option_map, refl}
use Rattle.std.proofs.Common.{sym, ap, ◌∙◌, subst}
use Rattle.std.proofs.lemmas.Grind.{flat_map-append}
use Rattle.std.proofs.lemmas.List.{map-append}
use Rattle.replay_core.specs.Vocabulary.{option_or, StandsFor, Made, ScriptMeant, Firing, number_of}
use Rattle.replay_core.specs.Lanes.{Fires, LaneSeen}
use Rattle.replay_core.specs.Meaning.{Threads, contributions_of, exit_of, history, firing_result}
use Rattle.replay_core.specs.Meaning.{texts_of, threads_after, blank_threads}
use Rattle.replay_core.specs.Running.{IsLaneOf, threads_over}

-- ---- a history in two parts

pub history_append : (m : ScriptMeant) (fs gs : List Firing) (threads : Threads) → history m (fs ++ gs) threads ≡ history m fs threads ++ history m gs (threads_over m fs threads)
history_append m [] gs threads = refl
history_append m (f ∷ fs) gs threads = ap (λ r. (f, firing_result m f (threads f.thread)) ∷ r) (history_append m fs gs (threads_after m f threads))

threads_append : (m : ScriptMeant) (fs gs : List Firing) (threads : Threads) → threads_over m (fs ++ gs) threads ≡ threads_over m gs (threads_over m fs threads)
threads_append m [] gs threads = refl
threads_append m (f ∷ fs) gs threads = threads_append m fs gs (threads_after m f threads)

pub exit_first : {A : Type 0} (a b c : Option A) → option_or a (option_or b c) ≡ option_or (option_or a b) c
exit_first None b c = refl
exit_first (Some x) b c = refl

pub exit_append : (r s : List (Firing × Made)) → exit_of (r ++ s) ≡ option_or (exit_of r) (exit_of s)
exit_append [] s = refl
exit_append (x ∷ r) s =
    ap (option_or (option_map (λ status. (x.0.number, status)) x.1.exit)) (exit_append r s)
    ∙ exit_first (option_map (λ status. (x.0.number, status)) x.1.exit) (exit_of r) (exit_of s)

-- ---- one more firing

pub fires_more : (m : ScriptMeant) (fs : List Firing) (f : Firing) (old new : LaneSeen) → IsLaneOf m fs old → Fires m f old new → IsLaneOf m (fs ++ f ∷ []) new
fires_more m fs f old new lane fires =
    let so_far = history m fs blank_threads in
    let threads : threads_over m (fs ++ f ∷ []) blank_threads ≡ threads_after m f (threads_over m fs blank_threads) = threads_append m fs (f ∷ []) blank_threads in
    let here : history m (f ∷ []) old.threads ≡ history m (f ∷ []) (threads_over m fs blank_threads) = ap (history m (f ∷ [])) lane.threads in
    let last = history m (f ∷ []) old.threads in
    let all : history m (fs ++ f ∷ []) blank_threads ≡ so_far ++ last = history_append m fs (f ∷ []) blank_threads ∙ ap (λ r. so_far ++ r) (sym here) in
    record {
      threads = fires.threads ∙ ap (threads_after m f) lane.threads ∙ sym threads;
      piece = record {
        texts = fires.piece.texts ∙ ap (λ l. l ++ texts_of last) lane.piece.texts ∙ sym (flat_map-append (λ (x : Firing × Made). map (λ text. (x.0.number, text)) x.1.texts) so_far last) ∙ ap texts_of (sym all);
        functions = fires.piece.functions ∙ lane.piece.functions;
        table = subst (StandsFor new.piece.table) (sym (flat_map-append (λ (x : Firing × Made). x.1.contributions) so_far last) ∙ ap contributions_of (sym all))
            (fires.piece.table (contributions_of so_far) lane.piece.table);
        taken = fires.piece.taken ∙ ap (λ l. l ++ f.number ∷ []) lane.piece.taken ∙ sym (map-append number_of fs (f ∷ []));
        exit = fires.piece.exit ∙ ap (λ o. option_or o (exit_of last)) lane.piece.exit ∙ sym (exit_append so_far last) ∙ ap exit_of (sym all);
      };
    }
