-- At the close of round one the least number is that of the run's first exit.
use Rattle.std.proofs.Common.{◌≡◌, ◌≢◌, ◌⊎◌, ℕ, ◌<◌, ◌≤◌, min, true, List, [], ◌∷◌, ◌++◌, All}
use Rattle.std.proofs.Common.{Option, None, Some, IfSome, is_some, filter, map, length, get_or}
use Rattle.std.proofs.Common.{nat_lt, refl, sym, ap, ◌∙◌, subst, ⊎_elim, inl, inr, arith}
use Rattle.std.proofs.Common.{append-nil, ltb-true, ltb-false, option_map, unwrap_or}
use Rattle.std.proofs.lemmas.Bool.{cond_both}
use Rattle.std.proofs.lemmas.List.Elements.{All-cons, All-contains, All-filter, All-map, All-tail}
use Rattle.std.proofs.lemmas.List.Elements.{Contains-append_right}
use Rattle.std.proofs.lemmas.List.Sorted.{All-permutation, IsPermutation-sym}
use Rattle.shard_queue.proofs.Permutations.{same_items}
use Rattle.replay_core.specs.Vocabulary.{option_or, Firing, ScriptMeant, no_number}
use Rattle.replay_core.specs.declared.lanes.piece.Piece.{Piece}
use Rattle.replay_core.specs.Beginnings.{ExitsLast, IsBegun, IsBegunOf, IsLeft, exit_over}
use Rattle.replay_core.specs.Beginnings.{least_exit, lesser_of}
use Rattle.replay_core.specs.Groups.{AreGrouped, Grouping, IsAllBelow, below, is_group, of_group}
use Rattle.replay_core.specs.Meaning.{blank_threads, exit_of, history}
use Rattle.replay_core.specs.Pieces.{IsPieceOf}
use Rattle.replay_core.specs.Running.{threads_over}
use Rattle.replay_core.specs.Seen.{piece_seen}
use Rattle.replay_core.specs.Uniting.{first_exit, sooner}
use Rattle.replay_core.specs.Working.{IsOfGroup}
use Rattle.replay_core.proofs.BeginLemmas.{exit_parts}
use Rattle.replay_core.proofs.ExitLemmas.{Rises, exit_at}
use Rattle.replay_core.proofs.GroupSums.{all_mapped}
use Rattle.replay_core.proofs.RunUnites.{groups_unite}
use Rattle.replay_core.proofs.TraceRuns.{Rising, climbing, rising_kept, rising_rest}

-- ---- the number of an exit, which is `no_number` without one

lesser_is : (n : ℕ) (e : Option (ℕ × ℕ)) → n ≤ no_number → lesser_of n e ≡ min n (lesser_of no_number e)
lesser_is n None le = omega arith
lesser_is n (Some x) le = omega arith

pub number_is : (e : Option (ℕ × ℕ)) → IfSome e (λ x. x.0 < no_number) → lesser_of no_number e ≡ unwrap_or (option_map (λ x. x.0) e) no_number
number_is None small = refl
number_is (Some x) small = omega arith

pub number_none : (e : Option (ℕ × ℕ)) → IfSome e (λ x. x.0 < no_number) → no_number ≤ lesser_of no_number e → e ≡ None
number_none None small le = refl
number_none (Some x) small le = absurd (omega arith)

pub number_some : (n : ℕ) (e : Option (ℕ × ℕ)) → n ≡ lesser_of no_number e → IfSome e (λ x. x.0 < no_number) → n ≢ no_number → (status : ℕ) × (e ≡ Some (n, status))
number_some n None is small some = absurd (some is)
number_some n (Some x) is small some = let same : x.0 ≡ n = omega arith in (x.1, ap (λ k. Some (k, x.1)) same)

from_over : (n : ℕ) (e : Option (ℕ × ℕ)) → n ≤ no_number → IfSome e (λ x. n < x.0) → n ≤ lesser_of no_number e
from_over n None le over = le
from_over n (Some x) le over = omega arith

-- ---- the least number of many exits

module _ {A : Type 0} (exit : A → Option (ℕ × ℕ)) where
  abbrev lesser_in : List A → ℕ
  lesser_in [] = no_number
  lesser_in (x ∷ xs) = lesser_of (lesser_in xs) (exit x)

  abbrev IsUnder : ℕ → List A → Type 0
  IsUnder n xs = (n ≤ no_number) × All (λ x. n ≤ lesser_of no_number (exit x)) xs

  under_all : (xs : List A) → IsUnder (lesser_in xs) xs
  under_all [] = (omega arith, λ k d lt. absurd (omega arith))
  under_all (x ∷ xs) =
      let rest = under_all xs in
      let is = lesser_is (lesser_in xs) (exit x) rest.0 in
      (omega arith, All-cons (λ y. lesser_in (x ∷ xs) ≤ lesser_of no_number (exit y)) x xs (omega arith) (λ k d lt. let more = rest.1 k d lt in omega arith))

  at_most : (n : ℕ) (xs : List A) → IsUnder n xs → n ≤ lesser_in xs
  at_most n [] under = under.0
  at_most n (x ∷ xs) under =
      let is = lesser_is (lesser_in xs) (exit x) (under_all xs).0 in
      let more = at_most n xs (under.0, All-tail (λ y. n ≤ lesser_of no_number (exit y)) x xs under.1) in
      let here = under.1 0 x (omega arith) in
      omega arith

  sooner_least : (a b : Option (ℕ × ℕ)) → lesser_of no_number (sooner a b) ≡ min (lesser_of no_number b) (lesser_of no_number a)
  sooner_least None None = omega arith
  sooner_least None (Some y) = omega arith
  sooner_least (Some x) None = omega arith
  sooner_least (Some x) (Some y) = cond_both (nat_lt y.0 x.0) (Some y) (Some x) (λ o. lesser_of no_number o ≡ min (min no_number y.0) (min no_number x.0))
      (λ less. let lt = ltb-true y.0 x.0 less in omega arith) (λ no. let ge = ltb-false y.0 x.0 no in omega arith)

  first_least : (xs : List A) → lesser_of no_number (first_exit (map exit xs)) ≡ lesser_in xs
  first_least [] = refl
  first_least (x ∷ xs) =
      let is = lesser_is (lesser_in xs) (exit x) (under_all xs).0 in
      let step = sooner_least (exit x) (first_exit (map exit xs)) in
      let more = first_least xs in
      omega arith

pieces_least : (ps : List (ℕ × Piece)) → least_exit ps ≡ lesser_in (λ p. p.1.exit) ps
pieces_least [] = refl
pieces_least (p ∷ ps) = ap (λ n. lesser_of n p.1.exit) (pieces_least ps)

-- ---- a beginning's exit

all_over : (n : ℕ) (fs : List Firing) → Rises n fs → All (λ f. n < f.number) fs
all_over n [] up = λ k d lt. absurd (omega arith)
all_over n (f ∷ fs) up = All-cons (λ g. n < g.number) f fs up.0 (λ k d lt. let first = up.0 in let more = all_over f.number fs up.1 k d lt in omega arith)

left_rises : (n : ℕ) (fs : List Firing) → IsLeft n fs → Rising fs → Rises n fs
left_rises n [] left up = tt
left_rises n (f ∷ fs) left up = (left, up)

some_first : (o next : Option (ℕ × ℕ)) → is_some o ≡ true → option_or o next ≡ o
some_first None next e = absurd cc
some_first (Some x) next e = refl

-- a beginning has the group's exit, or the group exits over what was seen
begun_exit : (m : ScriptMeant) (seen : ℕ) (all : List Firing) (p : Piece) → seen ≤ no_number → IsBegun m seen all p → Rising all
    → (p.exit ≡ exit_over m all) ⊎ ((p.exit ≡ None) × (seen ≤ lesser_of no_number (exit_over m all)))
begun_exit m seen all p small b up =
    let rest = b.beginning.rest in
    let threads = threads_over m b.fired blank_threads in
    let whole = ap (exit_over m) b.beginning.parts ∙ exit_parts m b.fired rest in
    ⊎_elim
    (λ (l : ExitsLast m b.fired). inl (b.piece.exit ∙ sym (whole ∙ some_first (exit_over m b.fired) (exit_of (history m rest threads)) l.exits)))
    (λ (l : (exit_over m b.fired ≡ None) × IsLeft seen rest).
    let over = all_over seen rest (left_rises seen rest l.1 (rising_rest b.fired rest (subst Rising b.beginning.parts up))) in
    inr (
      b.piece.exit ∙ l.0,
      subst (λ o. seen ≤ lesser_of no_number o) (sym (whole ∙ ap (λ o. option_or o (exit_of (history m rest threads))) l.0))
          (from_over seen (exit_of (history m rest threads)) small (exit_at (λ n. seen < n) m rest threads over)),
    ))
    b.beginning.end

-- ---- the least number

pub least_of_run : (m : ScriptMeant) (grouping : Grouping) (fs : List Firing) (least : ℕ) (ps : List (ℕ × Piece)) → Rising fs → AreGrouped grouping fs
    → IsAllBelow grouping.count (map (λ p. p.0) ps) → All (IsBegunOf m least grouping fs) ps → least ≡ least_exit ps → least ≡ lesser_of no_number (exit_over m fs)
least_of_run m grouping fs least ps up grouped once begun is =
    let E : ℕ → Option (ℕ × ℕ) = λ g. exit_over m (of_group grouping g fs) in
    let own = λ (p : ℕ × Piece). p.1.exit in
    let groups = map (λ (p : ℕ × Piece). p.0) ps in
    let all = below grouping.count in
    let moved = (same_items groups all).0 once in
    let whole = ap (lesser_of no_number) (sym (groups_unite m grouping fs grouped (climbing fs up)).exit) ∙ first_least E all in
    let pieces = pieces_least ps in
    let low = under_all E all in
    let under = under_all own ps in
    let each : (k : ℕ) (d : ℕ × Piece) → k < length ps → (own (get_or ps k d) ≡ E (get_or ps k d).0) ⊎ ((own (get_or ps k d) ≡ None) × (least ≤ lesser_of no_number (E (get_or ps k d).0))) = λ k d lt.
    begun_exit m least (of_group grouping (get_or ps k d).0 fs) (get_or ps k d).1 (omega arith) (begun k d lt) (rising_kept (λ f. is_group (get_or ps k d).0 (grouping.group f.thread)) fs up) in
    let le = at_most own (lesser_in E all) ps (
      low.0,
      λ k d lt.
          let here = all_mapped (λ g. lesser_in E all ≤ lesser_of no_number (E g)) (λ (p : ℕ × Piece). p.0) ps
          (All-permutation (λ g. lesser_in E all ≤ lesser_of no_number (E g)) all groups (IsPermutation-sym groups all moved) low.1) k d lt in
          let most = lesser_is no_number (E (get_or ps k d).0) (omega arith) in
          ⊎_elim (λ e. let same = ap (lesser_of no_number) e in omega arith) (λ e. let same = ap (lesser_of no_number) e.0 in omega arith) (each k d lt),
    ) in
    let ge = at_most E least all (
      omega arith,
      All-permutation (λ g. least ≤ lesser_of no_number (E g)) groups all moved
          (All-map (λ g. least ≤ lesser_of no_number (E g)) (λ (p : ℕ × Piece). p.0) ps (λ k d lt. let here = under.1 k d lt in
          ⊎_elim (λ e. let same = ap (lesser_of no_number) e in omega arith) (λ e. e.1) (each k d lt))),
    ) in
    omega arith

-- where nothing was lowered a piece is what all its firings make
begun_whole : (m : ScriptMeant) (all : List Firing) (p : Piece) → Rising all → All (λ f. f.number < no_number) all → no_number ≤ lesser_of no_number p.exit → IsBegun m no_number all p
    → IsPieceOf m all (piece_seen p)
begun_whole m all p up small none b = ⊎_elim (λ (l : ExitsLast m b.fired). absurd (let no = sym b.piece.exit ∙ no_exit in let some = l.exits in cc)) (λ l. whole b.beginning.rest refl l.1) b.beginning.end
  where
    no_exit : p.exit ≡ None
    no_exit = ⊎_elim
        (λ e. e ∙ number_none (exit_over m all) (exit_at (λ n. n < no_number) m all blank_threads small) (subst (λ o. no_number ≤ lesser_of no_number o) e none))
        (λ e. e.0)
        (begun_exit m no_number all p (omega arith) b up)

    whole : (rest : List Firing) → b.beginning.rest ≡ rest → IsLeft no_number b.beginning.rest → IsPieceOf m all (piece_seen p)
    whole [] e left = subst (λ (fs : List Firing). IsPieceOf m fs (piece_seen p)) (sym (b.beginning.parts ∙ ap (λ (l : List Firing). b.fired ++ l) e ∙ append-nil b.fired)) b.piece
    whole (f ∷ more) e left =
        let over : no_number < f.number = subst (IsLeft no_number) e left in
        let under = All-contains (λ g. g.number < no_number) (b.fired ++ f ∷ more) f
        (subst (λ (l : List Firing). All (λ g. g.number < no_number) l) (b.beginning.parts ∙ ap (λ (l : List Firing). b.fired ++ l) e) small)
        (Contains-append_right b.fired (f ∷ more) f (0, omega arith, refl)) in
        absurd (omega arith)

pub pieces_whole : (m : ScriptMeant) (grouping : Grouping) (fs : List Firing) (ps : List (ℕ × Piece)) → Rising fs → All (λ f. f.number < no_number) fs → least_exit ps ≡ no_number
    → All (IsBegunOf m no_number grouping fs) ps → All (IsOfGroup m grouping fs) ps
pieces_whole m grouping fs ps up small none begun k d lt =
    let mine = λ (f : Firing). is_group (get_or ps k d).0 (grouping.group f.thread) in
    let pieces = pieces_least ps in
    let under = (under_all (λ p. p.1.exit) ps).1 k d lt in
    begun_whole m (filter mine fs) (get_or ps k d).1 (rising_kept mine fs up) (All-filter mine (λ f. f.number < no_number) fs small) (omega arith) (begun k d lt)
