-- Beginnings of a group's firings.
use Rattle.std.proofs.Common.{◌≡◌, ℕ, ◌+◌, ◌<◌, ◌≤◌, min, true, false, List, [], ◌∷◌, ◌++◌, Option}
use Rattle.std.proofs.Common.{None, Some, is_some, length, drop, take, get_or, slice_get, refl, sym}
use Rattle.std.proofs.Common.{ap, ◌∙◌, ⊎_elim, inl, inr, arith, append-nil, option_map}
use Rattle.std.proofs.Common.{take-append-drop, take_all}
use Rattle.std.proofs.lemmas.List.Concat.{flat_map-append}
use Rattle.shard_queue.proofs.Lists.{drop_next}
use Rattle.replay_core.specs.Vocabulary.{option_or, ScriptMeant, Firing}
use Rattle.replay_core.specs.declared.lanes.piece.Piece.{Piece}
use Rattle.replay_core.specs.Beginnings.{IsBeginning, IsBegun, IsLeft, exit_over, least_exit}
use Rattle.replay_core.specs.Beginnings.{lesser_of}
use Rattle.replay_core.specs.Meaning.{Threads, exit_of, history, firing_result, blank_threads}
use Rattle.replay_core.specs.Running.{threads_over}
use Rattle.replay_core.specs.Steps.Working.{firings_at}
use Rattle.replay_core.proofs.RunLemmas.{exit_append, history_append}
use Rattle.replay_core.proofs.WorkSteps.{one_at}

-- ---- exits of firings one after the other

pub exit_parts : (m : ScriptMeant) (fs gs : List Firing) → exit_over m (fs ++ gs) ≡ option_or (exit_over m fs) (exit_of (history m gs (threads_over m fs blank_threads)))
exit_parts m fs gs = ap exit_of (history_append m fs gs blank_threads) ∙ exit_append (history m fs blank_threads) (history m gs (threads_over m fs blank_threads))

-- one firing more, where none has exited
pub exit_push : (m : ScriptMeant) (fs : List Firing) (f : Firing) (threads : Threads) → threads ≡ threads_over m fs blank_threads → exit_over m fs ≡ None
    → exit_over m (fs ++ f ∷ []) ≡ exit_of (history m (f ∷ []) threads)
exit_push m fs f threads same none =
    exit_parts m fs (f ∷ []) ∙ ap (λ o. option_or o (exit_of (history m (f ∷ []) (threads_over m fs blank_threads)))) none ∙ ap (λ t. exit_of (history m (f ∷ []) t)) (sym same)

none_of : {A : Type 0} (o : Option A) → false ≡ is_some o → o ≡ None
none_of None e = refl
none_of (Some x) e = absurd cc

pub still_none : (m : ScriptMeant) (fs : List Firing) (f : Firing) (threads : Threads) → threads ≡ threads_over m fs blank_threads → exit_over m fs ≡ None
    → false ≡ is_some (exit_of (history m (f ∷ []) threads)) → exit_over m (fs ++ f ∷ []) ≡ None
still_none m fs f threads same none stays = exit_push m fs f threads same none ∙ none_of (exit_of (history m (f ∷ []) threads)) stays

-- the exit of one firing
abbrev one_exit : ℕ → Option ℕ → Option (ℕ × ℕ)
one_exit number o = option_or (option_map (λ status. (number, status)) o) None

-- where it exits, the number is its own
number_of_one : (m : ScriptMeant) (f : Firing) (threads : Threads) (number : ℕ) → true ≡ is_some (exit_of (history m (f ∷ []) threads)) → min number f.number ≡ lesser_of number (exit_of (history m (f ∷ []) threads))
number_of_one m f threads number exits = here (firing_result m f (threads f.thread)).exit exits
  where
    here : (o : Option ℕ) → true ≡ is_some (one_exit f.number o) → min number f.number ≡ lesser_of number (one_exit f.number o)
    here None e = absurd cc
    here (Some status) e = refl

pub now_lowered : (m : ScriptMeant) (fs : List Firing) (f : Firing) (threads : Threads) (number : ℕ) → threads ≡ threads_over m fs blank_threads → exit_over m fs ≡ None
    → true ≡ is_some (exit_of (history m (f ∷ []) threads)) → min number f.number ≡ lesser_of number (exit_over m (fs ++ f ∷ []))
now_lowered m fs f threads number same none exits = number_of_one m f threads number exits ∙ ap (lesser_of number) (sym (exit_push m fs f threads same none))

-- ---- the three ends of a beginning

pub ended_by_exit : (m : ScriptMeant) (seen : ℕ) (fs : List Firing) (f : Firing) (rest all : List Firing) (threads : Threads) → threads ≡ threads_over m fs blank_threads → exit_over m fs ≡ None
    → true ≡ is_some (exit_of (history m (f ∷ []) threads)) → all ≡ (fs ++ f ∷ []) ++ rest → IsBeginning m seen (fs ++ f ∷ []) all
ended_by_exit m seen fs f rest all threads same none exits parts = record {
  rest = rest;
  parts = parts;
  end = inl record { before = fs; last = f; parts = refl; none = none; exits = ap is_some (exit_push m fs f threads same none) ∙ sym exits };
}

pub ended_by_number : (m : ScriptMeant) (seen : ℕ) (fs : List Firing) (f : Firing) (rest all : List Firing) → exit_over m fs ≡ None → seen < f.number
    → all ≡ fs ++ f ∷ rest → IsBeginning m seen fs all
ended_by_number m seen fs f rest all none lt parts = record { rest = f ∷ rest; parts = parts; end = inr (none, lt) }

pub ended_by_last : (m : ScriptMeant) (seen : ℕ) (fs all : List Firing) → exit_over m fs ≡ None → all ≡ fs → IsBeginning m seen fs all
ended_by_last m seen fs all none parts = record { rest = []; parts = parts ∙ sym (append-nil fs); end = inr (none, tt) }

-- ---- indices

-- the firings at the indices up to one, and from it on
pub at_parts : (fs : List Firing) (indices : List ℕ) (i : ℕ) → firings_at fs indices ≡ firings_at fs (take i indices) ++ firings_at fs (drop i indices)
at_parts fs indices i = ap (firings_at fs) (sym (take-append-drop i indices)) ∙ flat_map-append (λ p. take 1 (drop p fs)) (take i indices) (drop i indices)

pub at_next : (fs : List Firing) (indices : List ℕ) (i index : ℕ) (f : Firing) → i < length indices → get_or indices i index ≡ index → slice_get fs index ≡ Some f
    → firings_at fs (drop i indices) ≡ f ∷ firings_at fs (drop (i + 1) indices)
at_next fs indices i index f lt item is = ap (firings_at fs) (drop_next indices i index lt item) ∙ ap (λ l. l ++ firings_at fs (drop (i + 1) indices)) (one_at fs index f is)

pub at_all : (fs : List Firing) (indices : List ℕ) (i : ℕ) → length indices ≤ i → firings_at fs indices ≡ firings_at fs (take i indices)
at_all fs indices i le = ap (firings_at fs) (sym (take_all i indices le))

-- ---- pieces

left_less : (seen less : ℕ) (rest : List Firing) → less ≤ seen → IsLeft seen rest → IsLeft less rest
left_less seen less [] le h = tt
left_less seen less (f ∷ fs) le h = omega arith

-- what was seen falls, and the ends stay
pub seen_less : (m : ScriptMeant) (seen less : ℕ) (all : List Firing) (p : Piece) → less ≤ seen → IsBegun m seen all p → IsBegun m less all p
seen_less m seen less all p le b = record {
  fired = b.fired;
  beginning = record { rest = b.beginning.rest; parts = b.beginning.parts; end = ⊎_elim inl (λ e. inr (e.0, left_less seen less b.beginning.rest le e.1)) b.beginning.end };
  piece = b.piece;
}

lowered_twice : (n : ℕ) (a b : Option (ℕ × ℕ)) → lesser_of (lesser_of n a) b ≡ lesser_of (lesser_of n b) a
lowered_twice n None b = refl
lowered_twice n (Some a) None = refl
lowered_twice n (Some a) (Some b) = omega arith

-- one piece more
pub least_more : (ps : List (ℕ × Piece)) (p : ℕ × Piece) → least_exit (ps ++ p ∷ []) ≡ lesser_of (least_exit ps) p.1.exit
least_more [] p = refl
least_more (q ∷ ps) p = ap (λ n. lesser_of n q.1.exit) (least_more ps p) ∙ lowered_twice (least_exit ps) p.1.exit q.1.exit
