-- What all_made make is what a firing means.
use Rattle.std.proofs.Common.{◌≡◌, ℕ, suc, ◌+◌, ◌<◌, ◌≤◌, List, [], ◌∷◌, ◌++◌, All, filter, map}
use Rattle.std.proofs.Common.{length, slice_get, sum_by, Option, None, Some, option_map, is_some}
use Rattle.std.proofs.Common.{refl, sym, ap, ◌∙◌, subst, arith, add-one, add-zero, length-append}
use Rattle.std.proofs.lemmas.List.{length-map}
use Rattle.std.proofs.lemmas.List.Sums.{sum_by-cons}
use Rattle.std.proofs.lemmas.List.Elements.{All-append, All-map}
use Rattle.firings.specs.declared.unit.Probe.{Probe}
use Rattle.replay_core.specs.Vocabulary.{option_or, StandsFor, functions_of, Description, Made}
use Rattle.replay_core.specs.Vocabulary.{run_of, and_then, Variables, ClauseMeant, ScriptMeant}
use Rattle.replay_core.specs.Vocabulary.{Firing}
use Rattle.replay_core.specs.Lanes.{GoesOnBy, Notes}
use Rattle.replay_core.specs.Meaning.{Threads, clauses_for, history, in_turn, firing_result}
use Rattle.replay_core.specs.Patterns.{probe_of, selects}
use Rattle.replay_core.specs.Pieces.{PieceSeen}
use Rattle.replay_core.specs.Indices.{indices_for}
use Rattle.replay_core.specs.Steps.AllMade.{run_at, all_made}
use Rattle.replay_core.proofs.Noting.{append_nil, or_none}
use Rattle.replay_core.proofs.TraceRuns.{few_kept}

-- ---- all_made

module _ (f : Firing) (all : List ClauseMeant) where
  -- one clause, once for each of these descriptions
  repeated : (n : ℕ) (c : ClauseMeant) (ds : List Description) (indices : List ℕ) (rest : List (ℕ × ClauseMeant)) → slice_get all n ≡ Some c
      → ((vars : Variables) → all_made f all indices vars ≡ in_turn f rest vars)
      → (vars : Variables) → all_made f all (map (λ d. n) ds ++ indices) vars ≡ in_turn f (map (λ d. (n + 1, c)) ds ++ rest) vars
  repeated n c [] indices rest here same vars = same vars
  repeated n c (d ∷ ds) indices rest here same vars =
      let first : run_at f n (slice_get all n) vars ≡ run_of f (n + 1) c vars = ap (λ o. run_at f n o vars) here in
      ap (λ m. and_then m (all_made f all (map (λ (d : Description). n) ds ++ indices) m.variables)) first
      ∙ ap (λ m. and_then (run_of f (n + 1) c vars) m) (repeated n c ds indices rest here same (run_of f (n + 1) c vars).variables)

  all_made_from : (n : ℕ) (cs : List ClauseMeant) → ((i : ℕ) → slice_get all (n + i) ≡ slice_get cs i)
      → (vars : Variables) → all_made f all (indices_for (probe_of f) n (map (λ c. c.descriptions) cs)) vars ≡ in_turn f (clauses_for f (n + 1) cs) vars
  all_made_from n [] same vars = refl
  all_made_from n (c ∷ cs) same vars =
      let here : slice_get all n ≡ Some c = ap (slice_get all) (sym (add-zero n)) ∙ same 0 in
      let more : (i : ℕ) → slice_get all (n + 1 + i) ≡ slice_get cs i = λ i. let e : n + 1 + i ≡ n + suc i = omega arith in ap (slice_get all) e ∙ same (suc i) in
      let after : (vars : Variables) → all_made f all (indices_for (probe_of f) (n + 1) (map (λ c. c.descriptions) cs)) vars ≡ in_turn f (clauses_for f (suc (n + 1)) cs) vars =
      λ v. all_made_from (n + 1) cs more v ∙ ap (λ k. in_turn f (clauses_for f k cs) v) (add-one (n + 1)) in
      repeated n c (filter (λ d. selects d (probe_of f)) c.descriptions) (indices_for (probe_of f) (n + 1) (map (λ c. c.descriptions) cs)) (clauses_for f (suc (n + 1)) cs) here after vars

pub all_made_are : (m : ScriptMeant) (f : Firing) (vars : Variables)
    → all_made f m.clauses (indices_for (probe_of f) 0 (map (λ c. c.descriptions) m.clauses)) vars ≡ in_turn f (clauses_for f 1 m.clauses) vars
all_made_are m f vars = all_made_from f m.clauses 0 m.clauses (λ i. ap (slice_get m.clauses) (let e : 0 + i ≡ i = omega arith in e)) vars

-- ---- how many, and where

pub indices_few : (p : Probe) (n : ℕ) (ds : List (List Description)) → length (indices_for p n ds) ≤ sum_by length ds
indices_few p n [] = omega arith
indices_few p n (d ∷ ds) =
    let own = few_kept (λ d. selects d p) d in
    let rest = indices_few p (n + 1) ds in
    rw (sum_by-cons, length-append, length-map) (omega (arith, own, rest))

pub indices_within : (p : Probe) (n : ℕ) (ds : List (List Description)) → All (λ i. i < n + length ds) (indices_for p n ds)
indices_within p n [] = λ k d lt. absurd (omega arith)
indices_within p n (d ∷ ds) =
    All-append (λ i. i < n + suc (length ds)) (map (λ d. n) (filter (λ d. selects d p) d)) (indices_for p (n + 1) ds)
    (All-map (λ i. i < n + suc (length ds)) (λ (d : Description). n) (filter (λ d. selects d p) d) (λ k x lt. omega arith))
    (λ k x lt. let rest = indices_within p (n + 1) ds k x lt in omega (arith, rest))

-- ---- a firing

pub goes_on : (m : ScriptMeant) (f : Firing) (threads : Threads) (made : Made) (old mid new : PieceSeen) → made ≡ firing_result m f (threads f.thread)
    → mid ≡ record { events = old.events; table = old.table; taken = old.taken ++ f.number ∷ []; exit = old.exit }
    → Notes f.number made mid new → GoesOnBy (history m (f ∷ []) threads) old new
goes_on m f threads made old mid new is pushed notes = subst (λ r. GoesOnBy ((f, r) ∷ []) old new) is (record {
  texts = notes.texts ∙ ap (λ p. p.events ++ map (λ text. (f.number, text)) made.texts) pushed ∙ ap (λ l. old.events ++ l) (append_nil (map (λ text. (f.number, text)) made.texts));
  functions = notes.functions ∙ ap (λ p. functions_of p.table) pushed;
  table = λ before stands.
      let from : StandsFor mid.table before = subst (λ p. StandsFor p.table before) (sym pushed) stands in
      subst (λ l. StandsFor new.table (before ++ l)) (append_nil made.contributions) (notes.table before from);
  taken = notes.taken ∙ ap (λ p. p.taken) pushed;
  exit = notes.exit ∙ ap (λ p. option_or p.exit (option_map (λ status. (f.number, status)) made.exit)) pushed
      ∙ ap (option_or old.exit) (or_none (option_map (λ status. (f.number, status)) made.exit));
})

pub some_same : {A : Type 0} (tell : ℕ → A) (o : Option ℕ) → is_some o ≡ is_some (option_or (option_map tell o) None)
some_same tell None = refl
some_same tell (Some status) = refl
