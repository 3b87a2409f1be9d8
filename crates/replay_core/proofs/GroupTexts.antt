-- The texts of a run, and those of its groups.
use Rattle.std.proofs.Common.{◌≡◌, ◌≢◌, ℕ, zero, suc, ◌<◌, ◌≤◌, ◌==◌, cond, List, [], ◌∷◌, ◌++◌}
use Rattle.std.proofs.Common.{Option, map, refl, sym, ap, ◌∙◌, subst, ⊎_elim, arith, ne_eqb}
use Rattle.std.proofs.Common.{flat_map}
use Rattle.std.specs.List.{range_with_len}
use Rattle.std.proofs.lemmas.Bool.{cases_eq, cond_both}
use Rattle.replay_core.specs.Vocabulary.{IsStrictlyIncreasing, ScriptMeant, Made, Firing, number_of}
use Rattle.replay_core.specs.Groups.{Grouping, AreGrouped, is_group}
use Rattle.replay_core.specs.Meaning.{Threads, history, texts_of, threads_after}
use Rattle.replay_core.specs.Uniting.{with_number, AllFrom, InOrder}
use Rattle.replay_core.proofs.ExitLemmas.{Rises, rises_is}
use Rattle.replay_core.proofs.GroupSums.{AllIn, filter-flat, flat_none, flat_one, flat_same}
use Rattle.replay_core.proofs.GroupSums.{own_group, part, passed, taken}

-- the numbers rise from above n on
abbrev pub Over : ℕ → List (Firing × Made) → Type 0
Over n [] = Unit {0}
Over n (x ∷ r) = (n < x.0.number) × Over x.0.number r

-- the numbers rise
abbrev pub Climbs : List (Firing × Made) → Type 0
Climbs [] = Unit {0}
Climbs (x ∷ r) = Over x.0.number r

pub over_less : (m n : ℕ) (r : List (Firing × Made)) → m ≤ n → Over n r → Over m r
over_less m n [] le over = tt
over_less m n (x ∷ r) le over = (let lt = over.0 in omega arith, over.1)

pub over_climbs : (n : ℕ) (r : List (Firing × Made)) → Over n r → Climbs r
over_climbs n [] over = tt
over_climbs n (x ∷ r) over = over.1

pub over_history : (m : ScriptMeant) (n : ℕ) (fs : List Firing) (threads : Threads) → Rises n fs → Over n (history m fs threads)
over_history m n [] threads up = tt
over_history m n (f ∷ fs) threads up = (up.0, over_history m f.number fs (threads_after m f threads) up.1)

pub climbs_history : (m : ScriptMeant) (fs : List Firing) (threads : Threads) → IsStrictlyIncreasing (map number_of fs) → Climbs (history m fs threads)
climbs_history m [] threads up = tt
climbs_history m (f ∷ fs) threads up = over_history m f.number fs (threads_after m f threads) (rises_is f.number fs up)

-- the group of what a firing made
abbrev pub group_in : Grouping → Firing × Made → Option ℕ
group_in grouping x = grouping.group x.0.thread

pub grouped_history : (m : ScriptMeant) (grouping : Grouping) (fs : List Firing) (threads : Threads) → AreGrouped grouping fs → AllIn (group_in grouping) grouping.count (history m fs threads)
grouped_history m grouping [] threads each k d lt = absurd (omega arith)
grouped_history m grouping (f ∷ fs) threads each zero d lt = each 0 f (omega arith)
grouped_history m grouping (f ∷ fs) threads each (suc k) d lt = grouped_history m grouping fs (threads_after m f threads) (λ j e l. each (suc j) e (omega arith)) k d (omega arith)

pub over_part : (group : Firing × Made → Option ℕ) (g n : ℕ) (r : List (Firing × Made)) → Over n r → Over n (part group g r)
over_part group g n [] over = tt
over_part group g n (x ∷ r) over =
    let more = over_part group g x.0.number r over.1 in
    cond_both (is_group g (group x)) (x ∷ part group g r) (part group g r) (Over n) (λ yes. (over.0, more)) (λ no. over_less n x.0.number (part group g r) (let lt = over.0 in omega arith) more)

-- ---- the texts of one number

kept_none : {T : Type 0} (k m : ℕ) (ts : List T) → m ≢ k → with_number k (map (λ t. (m, t)) ts) ≡ []
kept_none k m [] ne = refl
kept_none k m (t ∷ ts) ne = ap (λ b. cond b ((m, t) ∷ with_number k (map (λ t. (m, t)) ts)) (with_number k (map (λ t. (m, t)) ts))) (ne_eqb m k ne) ∙ kept_none k m ts ne

abbrev texts_in : Firing × Made → List (ℕ × List ℕ)
texts_in x = map (λ text. (x.0.number, text)) x.1.texts

module _ (k : ℕ) where
  abbrev texts_at : Firing × Made → List (ℕ × List ℕ)
  texts_at x = with_number k (texts_in x)

  none_over : (r : List (Firing × Made)) → Over k r → flat_map texts_at r ≡ []
  none_over [] over = refl
  none_over (x ∷ r) over =
      ap (λ l. l ++ flat_map texts_at r) (kept_none k x.0.number x.1.texts (λ e. let lt = over.0 in omega arith))
      ∙ none_over r (over_less k x.0.number r (let lt = over.0 in omega arith) over.1)

  module _ (group : Firing × Made → Option ℕ) (n : ℕ) where
    parts_at : (r : List (Firing × Made)) → Climbs r → AllIn group n r → flat_map (λ g. flat_map texts_at (part group g r)) (range_with_len 0 n) ≡ flat_map texts_at r
    parts_at [] up each = flat_none (range_with_len 0 n)
    parts_at (x ∷ r) up each =
        let own = own_group n (group x) (each 0 x (omega arith)) in
        let F : ℕ → List (ℕ × List ℕ) = λ g. flat_map texts_at (part group g (x ∷ r)) in
        let G : ℕ → List (ℕ × List ℕ) = λ g. flat_map texts_at (part group g r) in
        let mine : F own.0 ≡ texts_at x ++ G own.0 = ap (flat_map texts_at) (taken group own.0 x r own.2) in
        let others : (g : ℕ) → g ≢ own.0 → F g ≡ G g = λ g ne. ap (flat_map texts_at) (passed group g x r (own.3 g ne)) in
        let more = parts_at r (over_climbs x.0.number r up) (λ i d lt. each (suc i) d (omega arith)) in
        ⊎_elim
        (λ (is : x.0.number ≡ k).
        let over = subst (λ j. Over j r) is up in
        let none : (g : ℕ) → G g ≡ [] = λ g. none_over (part group g r) (over_part group g k r over) in
        flat_one F 0 n own.0 (omega arith) (let lt = own.1 in omega arith) (λ g ne. others g ne ∙ none g)
        ∙ mine ∙ ap (λ l. texts_at x ++ l) (none own.0 ∙ sym (none_over r over)))
        (λ (no : x.0.number ≢ k).
        let nothing = kept_none k x.0.number x.1.texts no in
        flat_same F G (range_with_len 0 n) (λ g. ⊎_elim
        (λ (e : g ≡ own.0). subst (λ j. F j ≡ G j) (sym e) (mine ∙ ap (λ l. l ++ G own.0) nothing))
        (λ (ne : g ≢ own.0). others g ne)
        (cases_eq g own.0))
        ∙ more ∙ sym (ap (λ l. l ++ flat_map texts_at r) nothing))
        (cases_eq x.0.number k)

    -- of each number, the run's texts are those of its groups
    pub texts_unite : (r : List (Firing × Made)) → Climbs r → AllIn group n r
        → with_number k (texts_of r) ≡ with_number k (flat_map (λ g. texts_of (part group g r)) (range_with_len 0 n))
    texts_unite r up each =
        filter-flat (λ e. e.0 == k) texts_in r
        ∙ sym (parts_at r up each)
        ∙ flat_same (λ g. flat_map texts_at (part group g r)) (λ g. with_number k (texts_of (part group g r))) (range_with_len 0 n) (λ g. sym (filter-flat (λ e. e.0 == k) texts_in (part group g r)))
        ∙ sym (filter-flat (λ e. e.0 == k) (λ g. texts_of (part group g r)) (range_with_len 0 n))

-- ---- the texts of a run are in order

from_front : {T : Type 0} (n m : ℕ) (ts : List T) (xs : List (ℕ × T)) → n ≤ m → AllFrom n xs → AllFrom n (map (λ t. (m, t)) ts ++ xs)
from_front n m [] xs le h = h
from_front n m (t ∷ ts) xs le h = (le, from_front n m ts xs le h)

order_front : {T : Type 0} (m : ℕ) (ts : List T) (xs : List (ℕ × T)) → AllFrom m xs → InOrder xs → InOrder (map (λ t. (m, t)) ts ++ xs)
order_front m [] xs from up = up
order_front m (t ∷ ts) xs from up = (from_front m m ts xs (omega arith) from, order_front m ts xs from up)

from_over : (n : ℕ) (r : List (Firing × Made)) → Over n r → AllFrom n (texts_of r)
from_over n [] over = tt
from_over n (x ∷ r) over = from_front n x.0.number x.1.texts (texts_of r) (let lt = over.0 in omega arith) (from_over n r (over_less n x.0.number r (let lt = over.0 in omega arith) over.1))

pub texts_in_order : (r : List (Firing × Made)) → Climbs r → InOrder (texts_of r)
texts_in_order [] up = tt
texts_in_order (x ∷ r) up = order_front x.0.number x.1.texts (texts_of r) (from_over x.0.number r up) (texts_in_order r (over_climbs x.0.number r up))
