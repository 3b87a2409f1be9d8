-- What workers gave back, one worker after the other.
use Rattle.std.proofs.Common.{All, IfOk, List, None, Ok, Option, Result, Some, Vec, [], ap}
use Rattle.std.proofs.Common.{append-nil, ap₂, arith, if◌then◌else◌, length, map, min, refl, subst}
use Rattle.std.proofs.Common.{suc, sym, ℕ, ◌++◌, ◌+◌, ◌<◌, ◌∙◌, ◌∷◌, ◌≡◌, ◌≤◌, flat_map, Global}
use Rattle.std.proofs.lemmas.List.{map-append}
use Rattle.std.proofs.lemmas.List.Concat.{flat_map-append}
use Rattle.std.proofs.lemmas.List.Elements.{All-append, All-map}
use Rattle.shard_queue.specs.Boards.{claim_numbers, claim_seats_at_end}
use Rattle.shard_queue.specs.Hands.{IsHandOut}
use Rattle.shard_queue.proofs.Lists.{all_cons}
use Rattle.replay_core.specs.Vocabulary.{ScriptMeant, Firing, with_ends, no_number, Groups}
use Rattle.replay_core.specs.Vocabulary.{grouping, ClaimSeat, ClaimBoard, IsAt, least_lowered}
use Rattle.replay_core.specs.Vocabulary.{least_seen, number_lowered, number_seen}
use Rattle.replay_core.specs.declared.lanes.piece.Piece.{Piece}
use Rattle.replay_core.specs.Groups.{IsAllBelow}
use Rattle.replay_core.specs.declared.workers.round.Round.{Round}
use Rattle.replay_core.specs.declared.workers.span.Span.{Span}
use Rattle.replay_core.specs.AtBoard.{AreParts, GivesBegun, GivesPieces, IsRound, IsWork, Part}
use Rattle.replay_core.specs.Steps.AtBoard.{AreFinished}
use Rattle.replay_core.specs.Beginnings.{AreBegun, IsBegunOf, least_exit, lesser_of}
use Rattle.replay_core.specs.Seen.{IsRoomy}
use Rattle.replay_core.specs.Working.{AreOfGroups, IsOfGroup, firings_in}
use Rattle.replay_core.proofs.BeginLemmas.{seen_less}
use Rattle.replay_core.proofs.GroupSums.{all_mapped}

pub none_finished : {E : Type 0} (pieces : List (ℕ × Piece)) (seats : List ClaimSeat) → pieces ≡ [] → seats ≡ [] → AreFinished {E = E} [] pieces seats
none_finished pieces seats a b = record { parts = []; each = refl; all = a; seated = b }

pieces_more : (ps : List Part) (p : Part) → flat_map (λ q. q.0.items) (ps ++ p ∷ []) ≡ flat_map (λ q. q.0.items) ps ++ p.0.items
pieces_more ps p = flat_map-append (λ q. q.0.items) ps (p ∷ []) ∙ ap (λ l. flat_map (λ q. q.0.items) ps ++ l) (append-nil p.0.items)

pub one_finished : {E : Type 0} (results : List (Result Part E)) (result : Result Part E) (pieces new : List (ℕ × Piece)) (seats more : List ClaimSeat) (part : Vec (ℕ × Piece) Global) (seat : ClaimSeat)
    → AreFinished results pieces seats → result ≡ Ok (part, seat) → new ≡ pieces ++ part.items → more ≡ seats ++ seat ∷ [] → AreFinished (results ++ result ∷ []) new more
one_finished results result pieces new seats more part seat are one a b = record {
  parts = are.parts ++ (part, seat) ∷ [];
  each = ap₂ (λ rs r. rs ++ r ∷ []) are.each one ∙ sym (map-append Ok are.parts ((part, seat) ∷ []));
  all = a ∙ ap (λ xs. xs ++ part.items) are.all ∙ sym (pieces_more are.parts (part, seat));
  seated = b ∙ ap (λ xs. xs ++ seat ∷ []) are.seated ∙ sym (map-append (λ p. p.1) are.parts ((part, seat) ∷ []));
}

-- what holds of each worker that came to its end holds of all
pub finished_parts : {E : Type 0} (P : Part → Type 0) (results : List (Result Part E)) (pieces : List (ℕ × Piece)) (seats : List ClaimSeat) → AreFinished results pieces seats → All (λ r. IfOk r P) results → AreParts P pieces seats
finished_parts P results pieces seats are each = record {
  parts = are.parts;
  each = all_mapped (λ r. IfOk r P) Ok are.parts (subst (λ rs. All (λ r. IfOk r P) rs) are.each each);
  all = are.all;
  seated = are.seated;
}

-- what seats have drawn, as their lists
pub drawn_lists : (ss : List ClaimSeat) → flat_map (λ v. v.items) (map (λ s. s.taken) ss) ≡ claim_numbers ss
drawn_lists [] = refl
drawn_lists (s ∷ ss) = ap (λ l. s.taken.items ++ l) (drawn_lists ss)

module _ (P : Part → Type 0) (board : ClaimBoard) where
  abbrev Works : Part → Type 0
  Works = IsWork P board

  pub all_at : (pieces : List (ℕ × Piece)) (seats : List ClaimSeat) → AreParts Works pieces seats → All (IsAt board) seats
  all_at pieces seats are = subst (λ ss. All (IsAt board) ss) (sym are.seated) (All-map (IsAt board) (λ (p : Part). p.1) are.parts (λ k d lt. (are.each k d lt).at))

  all_told : (ps : List Part) → All Works ps → claim_seats_at_end (map (λ p. p.1) ps) ≡ length (map (λ p. p.1) ps)
  all_told [] each = refl
  all_told (p ∷ ps) each =
      let here : (if p.1.at_end then 1 else 0) ≡ 1 = ap (λ b. if b then 1 else 0) (each 0 p (omega arith)).at_end in
      let more = all_told ps (λ k d lt. each (suc k) d (omega arith)) in
      let up : 1 + length (map (λ q. q.1) ps) ≡ suc (length (map (λ q. q.1) ps)) = omega arith in
      ap (λ k. k + claim_seats_at_end (map (λ q. q.1) ps)) here ∙ ap (λ k. 1 + k) more ∙ up

  all_ordered : (ps : List Part) → All Works ps → map (λ p. p.0) (flat_map (λ p. p.0.items) ps) ≡ claim_numbers (map (λ p. p.1) ps)
  all_ordered [] each = refl
  all_ordered (p ∷ ps) each = map-append (λ q. q.0) p.0.items (flat_map (λ q. q.0.items) ps)
      ∙ ap₂ (λ xs ys. xs ++ ys) (each 0 p (omega arith)).order (all_ordered ps (λ k d lt. each (suc k) d (omega arith)))

  -- so a closed board has all groups, each once
  pub whole_round : (n : ℕ) (r : Round) (seats : List ClaimSeat) → AreParts Works r.pieces.items seats → 0 < length seats → board.end ≡ n
      → IsHandOut board.end (claim_seats_at_end seats) (claim_numbers seats) → flat_map (λ list. list.items) r.lists.items ≡ claim_numbers seats
      → r.least ≡ least_lowered seats → r.least ≤ least_seen seats → IsRound P n r
  whole_round n r seats are some end out same low seen_low =
      let at_end : claim_seats_at_end seats ≡ length seats = ap claim_seats_at_end are.seated ∙ all_told are.parts are.each ∙ sym (ap length are.seated) in
      let order : map (λ p. p.0) r.pieces.items ≡ claim_numbers seats = ap (map (λ p. p.0)) are.all ∙ all_ordered are.parts are.each ∙ sym (ap claim_numbers are.seated) in
      let front : out.0 ≡ n = out.2 (omega arith) ∙ end in
      let drawn : IsAllBelow n (claim_numbers seats) = subst (λ k. IsAllBelow k (claim_numbers seats)) front out.3 in
      record {
        once = subst (λ (xs : List ℕ). IsAllBelow n xs) (sym order) drawn;
        taken = subst (λ (xs : List ℕ). IsAllBelow n xs) (sym same) drawn;
        seats = seats;
        parts = record { parts = are.parts; each = λ k d lt. (are.each k d lt).gives; all = are.all; seated = are.seated };
        lowered = low;
        seen = seen_low;
      }

-- what holds of each worker's pieces holds of all
all_flat : (Q : ℕ × Piece → Type 0) (ps : List Part) → All (λ p. All Q p.0.items) ps → All Q (flat_map (λ p. p.0.items) ps)
all_flat Q [] each = λ k d lt. absurd (omega arith)
all_flat Q (p ∷ ps) each = All-append Q p.0.items (flat_map (λ q. q.0.items) ps) (each 0 p (omega arith)) (all_flat Q ps (λ k d lt. each (suc k) d (omega arith)))

pub given_pieces : (s : Span) (runs : ScriptMeant → Type 0) (groups : Groups) (trace : List Firing) (pieces : List (ℕ × Piece)) (seats : List ClaimSeat)
    → AreParts (GivesPieces runs groups (firings_in s trace)) pieces seats → AreOfGroups runs (grouping groups) (firings_in s trace) pieces
given_pieces s runs groups trace pieces seats are = record {
  each = λ m is. subst (λ ps. All (IsOfGroup m (grouping groups) (firings_in s trace)) ps) (sym are.all) (all_flat (IsOfGroup m (grouping groups) (firings_in s trace)) are.parts (λ k d lt. (are.each k d lt).each m is));
  roomy = subst (λ ps. All (λ p. IsRoomy p.1) ps) (sym are.all) (all_flat (λ p. IsRoomy p.1) are.parts (λ k d lt. (are.each k d lt).roomy));
}

-- ---- round one

lesser_min : (m n : ℕ) (e : Option (ℕ × ℕ)) → (lesser_of m e ≤ m) × (lesser_of (min m n) e ≡ min (lesser_of m e) n)
lesser_min m n None = (omega arith, refl)
lesser_min m n (Some e) = (omega arith, omega arith)

least_small : (ps : List (ℕ × Piece)) → least_exit ps ≤ no_number
least_small [] = omega arith
least_small (p ∷ ps) = let le = (lesser_min (least_exit ps) 0 p.1.exit).0 in let more = least_small ps in omega arith

least_append : (xs ys : List (ℕ × Piece)) → least_exit (xs ++ ys) ≡ min (least_exit xs) (least_exit ys)
least_append [] ys = let le = least_small ys in omega arith
least_append (x ∷ xs) ys = ap (λ n. lesser_of n x.1.exit) (least_append xs ys) ∙ (lesser_min (least_exit xs) (least_exit ys) x.1.exit).1

module _ (runs : ScriptMeant → Type 0) (groups : Groups) (trace : List Firing) where
  lowered_least : (ps : List Part) → All (GivesBegun number_seen number_lowered runs groups trace) ps → least_lowered (map (λ p. p.1) ps) ≡ least_exit (flat_map (λ p. p.0.items) ps)
  lowered_least [] each = refl
  lowered_least (p ∷ ps) each =
      let here = (each 0 p (omega arith)).1 in
      let more = lowered_least ps (λ k d lt. each (suc k) d (omega arith)) in
      ap (λ n. min n (least_lowered (map (λ q. q.1) ps))) here ∙ ap (λ n. min (least_exit p.0.items) n) more ∙ sym (least_append p.0.items (flat_map (λ q. q.0.items) ps))

  begun_each : (m : ScriptMeant) → runs m → (least : ℕ) (ps : List Part) → least ≤ least_seen (map (λ p. p.1) ps) → All (GivesBegun number_seen number_lowered runs groups trace) ps
      → All (λ p. All (IsBegunOf m least (grouping groups) (with_ends trace trace)) p.0.items) ps
  begun_each m is least [] le each = λ k d lt. absurd (omega arith)
  begun_each m is least (p ∷ ps) le each =
      all_cons (λ q. All (IsBegunOf m least (grouping groups) (with_ends trace trace)) q.0.items) p ps
      (λ j e in'. seen_less m (number_seen p.1) least _ _ (omega arith) ((each 0 p (omega arith)).0.each m is j e in'))
      (begun_each m is least ps (omega arith) (λ j e in'. each (suc j) e (omega arith)))

  -- round one's pieces are beginnings by the least number, and that is the least of their exits
  pub given_begun : (least : ℕ) (pieces : List (ℕ × Piece)) (seats : List ClaimSeat) → AreParts (GivesBegun number_seen number_lowered runs groups trace) pieces seats
      → least ≡ least_lowered seats → least ≤ least_seen seats → AreBegun runs least (grouping groups) (with_ends trace trace) pieces × (least ≡ least_exit pieces)
  given_begun least pieces seats are low seen_low = (
    record {
      each = λ m is. subst (λ ps. All (IsBegunOf m least (grouping groups) (with_ends trace trace)) ps) (sym are.all)
          (all_flat (IsBegunOf m least (grouping groups) (with_ends trace trace)) are.parts (begun_each m is least are.parts (subst (λ ss. least ≤ least_seen ss) are.seated seen_low) are.each));
      roomy = subst (λ ps. All (λ p. IsRoomy p.1) ps) (sym are.all) (all_flat (λ p. IsRoomy p.1) are.parts (λ k d lt. (are.each k d lt).0.roomy));
    },
    low ∙ ap least_lowered are.seated ∙ lowered_least are.parts are.each ∙ sym (ap least_exit are.all),
  )
