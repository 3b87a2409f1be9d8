-- What the groups' pieces have, collected, is what the run means.
use Rattle.std.proofs.Common.{◌≡◌, ℕ, suc, ◌+◌, List, [], ◌∷◌, ◌++◌, All, map, length, sum_by, refl}
use Rattle.std.proofs.Common.{sym, ap, ap₂, ◌∙◌, subst, arith, append-nil, flat_map}
use Rattle.std.specs.List.{range_with_len}
use Rattle.std.proofs.lemmas.List.Concat.{flat_map_single}
use Rattle.std.proofs.lemmas.List.Folds.{flat_map-map}
use Rattle.std.proofs.lemmas.List.Sorted.{All-permutation}
use Rattle.aggregations.proofs.OrderLemmas.{stands_same}
use Rattle.replay_core.specs.Vocabulary.{IsStrictlyIncreasing, StandsFor, ScriptMeant, Firing}
use Rattle.replay_core.specs.Vocabulary.{number_of, functions_in}
use Rattle.replay_core.specs.declared.lanes.piece.Piece.{Piece}
use Rattle.replay_core.specs.declared.collector.whole.Whole.{Whole}
use Rattle.replay_core.specs.Groups.{AreGrouped, Grouping, of_group}
use Rattle.replay_core.specs.Meaning.{contributions_of, exit_of, history, texts_of, blank_threads}
use Rattle.replay_core.specs.Collecting.{pieces_with_groups, IsCollected}
use Rattle.replay_core.specs.Pieces.{IsWholeOf, RunsEachOnce}
use Rattle.replay_core.specs.Seen.{whole_seen}
use Rattle.replay_core.specs.Tables.{AllHave, StandFor}
use Rattle.replay_core.specs.Uniting.{IsSorted, first_exit, group_history}
use Rattle.replay_core.specs.Working.{IsOfGroup}
use Rattle.replay_core.proofs.GroupSums.{flat_same, parts_read}
use Rattle.replay_core.proofs.NumberOrder.{sorted_once}
use Rattle.replay_core.proofs.RunUnites.{groups_unite}

module _ (m : ScriptMeant) (grouping : Grouping) (fs : List Firing) where
  -- pieces of the groups from a on
  abbrev AllPieces : ℕ → List Piece → Type 0
  AllPieces a ps = All (IsOfGroup m grouping fs) (pieces_with_groups a ps)

  read_each : {X : Type 0} (f : Piece → X) (F : ℕ → X) (a : ℕ) (ps : List Piece) → All (λ p. f p.1 ≡ F p.0) (pieces_with_groups a ps) → map f ps ≡ map F (range_with_len a (length ps))
  read_each f F a [] each = refl
  read_each f F a (p ∷ ps) each = ap₂ (λ x xs. x ∷ xs) (each 0 (a, p) (omega arith)) (read_each f F (a + 1) ps (λ k d lt. each (suc k) d (omega arith)))

  tables_joined : (a : ℕ) (ps : List Piece) → AllPieces a ps → StandFor (map (λ p. p.table) ps) (flat_map (λ g. contributions_of (group_history m grouping fs g)) (range_with_len a (length ps)))
  tables_joined a [] each = refl
  tables_joined a (p ∷ ps) each = (
    contributions_of (group_history m grouping fs a),
    flat_map (λ g. contributions_of (group_history m grouping fs g)) (range_with_len (a + 1) (length ps)),
    refl,
    (each 0 (a, p) (omega arith)).table,
    tables_joined (a + 1) ps (λ k d lt. each (suc k) d (omega arith)),
  )

  all_functions : (a : ℕ) (ps : List Piece) → AllPieces a ps → AllHave (functions_in m) (map (λ p. p.table) ps)
  all_functions a [] each = tt
  all_functions a (p ∷ ps) each = ((each 0 (a, p) (omega arith)).functions, all_functions (a + 1) ps (λ k d lt. each (suc k) d (omega arith)))

  pub whole_of : (pieces : List (ℕ × Piece)) (w : Whole) → AreGrouped grouping fs → IsStrictlyIncreasing (map number_of fs) → All (IsOfGroup m grouping fs) pieces
      → IsCollected grouping.count pieces w → IsWholeOf m fs grouping (whole_seen w)
  whole_of pieces w grouped rises each c =
      let sorted = c.sorted in
      let all : AllPieces 0 sorted = All-permutation (IsOfGroup m grouping fs) pieces (pieces_with_groups 0 sorted) c.same each in
      let unite = groups_unite m grouping fs grouped rises in
      let texts = λ (n : ℕ). flat_map (λ g. texts_of (group_history m grouping fs g)) (range_with_len 0 n) in
      let parts = λ (n : ℕ). flat_map (λ g. contributions_of (group_history m grouping fs g)) (range_with_len 0 n) in
      let own = λ (g : ℕ). texts_of (group_history m grouping fs g) in
      let each_text = read_each (λ p. p.events.items) own 0 sorted (λ k d lt. (all k d lt).texts) in
      let items : flat_map (λ p. p.events.items) sorted ≡ texts grouping.count = sym (flat_map-map (λ l. l) (λ (p : Piece). p.events.items) sorted)
      ∙ ap (flat_map (λ l. l)) each_text ∙ flat_map-map (λ l. l) own (range_with_len 0 (length sorted)) ∙ ap texts c.count in
      let stood = c.whole.table.stand (parts (length sorted)) (tables_joined 0 sorted all) in
      let one : StandsFor w.table (parts (length sorted)) = subst (λ cs. StandsFor w.table cs) (sym (stood.2 ∙ ap (λ l. stood.0 ++ l) stood.4 ∙ append-nil stood.0)) stood.3 in
      record {
        texts = sorted_once (texts grouping.count) w.events.items (texts_of (history m fs blank_threads)) (subst (λ l. IsSorted l w.events.items) items c.whole.texts) unite.texts;
        functions = (c.whole.table.functions (functions_in m) (all_functions 0 sorted all)).0;
        table = stands_same w.table (parts grouping.count) (contributions_of (history m fs blank_threads)) unite.contributions (subst (λ n. StandsFor w.table (parts n)) c.count one);
        ran = c.whole.ran ∙ read_each (λ p. p.taken.items) (λ g. map number_of (of_group grouping g fs)) 0 sorted (λ k d lt. (all k d lt).taken) ∙ ap (λ n. map (λ g. map number_of (of_group grouping g fs)) (range_with_len 0 n)) c.count;
        exit = c.whole.exit ∙ ap first_exit (read_each (λ p. p.exit) (λ g. exit_of (group_history m grouping fs g)) 0 sorted (λ k d lt. (all k d lt).exit) ∙ ap (λ n. map (λ g. exit_of (group_history m grouping fs g)) (range_with_len 0 n)) c.count) ∙ unite.exit;
      }

  -- so it has the number of each firing once
  pub each_once : (w : Whole) → AreGrouped grouping fs → IsWholeOf m fs grouping (whole_seen w) → RunsEachOnce fs (whole_seen w)
  each_once w grouped whole = λ h.
      ap (λ l. sum_by h (flat_map (λ (group : List ℕ). group) l)) whole.ran
      ∙ ap (sum_by h) (flat_map-map (λ (group : List ℕ). group) (λ g. map number_of (of_group grouping g fs)) (range_with_len 0 grouping.count)
      ∙ flat_same (λ g. map number_of (of_group grouping g fs)) (λ g. flat_map own_number (of_group grouping g fs)) (range_with_len 0 grouping.count) (λ g. sym (flat_map_single number_of (of_group grouping g fs))))
      ∙ parts_read (λ (f : Firing). grouping.group f.thread) own_number grouping.count h fs grouped
      ∙ ap (sum_by h) (flat_map_single number_of fs)
    where
      own_number : Firing → List ℕ
      own_number f = f.number ∷ []
