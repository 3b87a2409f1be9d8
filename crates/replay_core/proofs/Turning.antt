-- The clauses that are left, and those that ran.
use Rattle.std.proofs.Common.{◌≡◌, ℕ, zero, suc, ◌<◌, List, [], ◌∷◌, All, slice_get, Bool, true}
use Rattle.std.proofs.Common.{false, ◌+◌, ◌||◌, Option, None, Some, is_some, length, refl, sym, ap}
use Rattle.std.proofs.Common.{◌∙◌, subst, arith, get_or}
use Rattle.std.proofs.lemmas.Option.{get_or_from_slice_get, slice_get_within}
use Rattle.replay_core.specs.Vocabulary.{option_or, AllZip, Made, and_then, run_of, AreTyped}
use Rattle.replay_core.specs.Vocabulary.{HasTypedBuiltIns, Slots, Variables, ClauseMeant, Firing}
use Rattle.replay_core.specs.Effects.{NotesRun}
use Rattle.replay_core.specs.Lanes.{Notes}
use Rattle.replay_core.specs.Pieces.{PieceSeen}
use Rattle.replay_core.specs.Scripts.{AllMean, Keeps}
use Rattle.replay_core.specs.Steps.AllMade.{run_at, all_made}
use Rattle.replay_core.proofs.Noting.{notes_nothing, notes_then}

-- with the clauses that are left a piece goes on as with all of them from the start
pub record Continues (f : Firing) (cs : List ClauseMeant) (all left : List ℕ) (before now : Variables) (old new : PieceSeen) (exits : Bool) : Type 0 where
  pub notes : (end : PieceSeen) → Notes f.number (all_made f cs left now) new end → Notes f.number (all_made f cs all before) old end
  pub variables : (all_made f cs left now).variables ≡ (all_made f cs all before).variables
  pub told : (exits || is_some (all_made f cs left now).exit) ≡ is_some (all_made f cs all before).exit

-- what stands beside an element
pub zip_at : {A B : Type 0} (R : A → B → Type 0) (xs : List A) (ys : List B) (i : ℕ) (d : A) → AllZip R xs ys → i < length xs
    → (y : B) × (slice_get ys i ≡ Some y) × R (get_or xs i d) y
zip_at R [] ys i d zip lt = absurd (omega arith)
zip_at R (x ∷ xs) [] i d zip lt = absurd zip
zip_at R (x ∷ xs) (y ∷ ys) zero d zip lt = (y, refl, zip.0)
zip_at R (x ∷ xs) (y ∷ ys) (suc i) d zip lt = zip_at R xs ys i d zip.1 (omega arith)

-- and what is true of all that stands there
pub zip_with_at : {A B : Type 0} (R : A → B → Type 0) (P : B → Type 0) (xs : List A) (ys : List B) (i : ℕ) (d : A) → AllZip R xs ys → All P ys
    → i < length xs → (y : B) × (slice_get ys i ≡ Some y) × R (get_or xs i d) y × P y
zip_with_at R P xs ys i d zip all lt =
    let (y, at, related) = zip_at R xs ys i d zip lt in
    (y, at, related, subst P (get_or_from_slice_get ys i y y at) (all i y (slice_get_within ys i y at)))

module _ (f : Firing) (cs : List ClauseMeant) where
  pub continues_start : (all : List ℕ) (vars : Variables) (p : PieceSeen) → Continues f cs all all vars vars p p false
  continues_start all vars p = record { notes = λ end h. h; variables = refl; told = refl }

  some_or : (exits : Bool) (a b : Option ℕ) → ((exits || is_some a) || is_some b) ≡ (exits || is_some (option_or a b))
  some_or true a b = refl
  some_or false None b = refl
  some_or false (Some s) b = refl

  -- one more turn
  pub continues_more : (all left : List ℕ) (index : ℕ) (before now after : Variables) (old new next : PieceSeen) (exits more : Bool) (made : Made)
      → Continues f cs all (index ∷ left) before now old new exits
      → run_at f index (slice_get cs index) now ≡ made → made.variables ≡ after → Notes f.number made new next → more ≡ (exits || is_some made.exit)
      → Continues f cs all left before after old next more
  continues_more all left index before now after old new next exits more made so_far is vars noted more_is =
      let first = run_at f index (slice_get cs index) now in
      let same : first.variables ≡ after = ap (λ m. m.variables) is ∙ vars in
      let rest_is : all_made f cs left first.variables ≡ all_made f cs left after = ap (all_made f cs left) same in
      let turn : all_made f cs (index ∷ left) now ≡ and_then made (all_made f cs left after) =
      ap (λ m. and_then m (all_made f cs left m.variables)) is ∙ ap (λ v. and_then made (all_made f cs left v)) vars in
      record {
        notes = λ end h. so_far.notes end
            (subst (λ m. Notes f.number m new end) (sym turn) (notes_then f.number made (all_made f cs left after) new next end noted h));
        variables = ap (λ m. m.variables) (sym turn) ∙ so_far.variables;
        told = ap (λ b. b || is_some (all_made f cs left after).exit) more_is ∙ some_or exits made.exit (all_made f cs left after).exit
            ∙ ap (λ m. exits || is_some m.exit) (sym turn) ∙ so_far.told;
      }

  -- one more turn, of a clause that means the script's
  pub turn_more : {C : Type 0} (means : C → Slots → ClauseMeant → Type 0) (slots : Slots) (clauses : List C) (clause : C)
      (all left : List ℕ) (index : ℕ) (before now after : Variables) (old new next : PieceSeen) (exits more : Bool)
      → AllMean means slots clauses cs → index < length clauses → clause ≡ get_or clauses index clause → HasTypedBuiltIns f
      → ((c : ClauseMeant) → means clause slots c → NotesRun f.number (run_of f (index + 1) c now) new next after more)
      → AreTyped slots now × Continues f cs all (index ∷ left) before now old new exits
      → AreTyped slots after × Continues f cs all left before after old next (exits || more)
  turn_more means slots clauses clause all left index before now after old new next exits more mean inside is fit ran so_far =
      let at = zip_with_at (λ x. means x slots) (Keeps slots) clauses cs index clause mean.each mean.keep inside in
      let run = run_of f (index + 1) at.0 now in
      let here = ran at.0 (subst (λ x. means x slots at.0) (sym is) at.2) in
      let runs : run_at f index (slice_get cs index) now ≡ run = ap (λ o. run_at f index o now) at.1 in (
        subst (AreTyped slots) (sym here.variables) (at.3 f (index + 1) now fit so_far.0),
        continues_more all left index before now after old new next exits (exits || more) run so_far.1 runs (sym here.variables) here.notes (ap (λ b. exits || b) here.exited),
      )

  or_false : (b : Bool) → b ≡ (b || false)
  or_false true = refl
  or_false false = refl

  -- none is left
  pub continues_all : (all : List ℕ) (before now : Variables) (old new : PieceSeen) (exits : Bool) → Continues f cs all [] before now old new exits
      → NotesRun f.number (all_made f cs all before) old new now exits
  continues_all all before now old new exits c = record {
    notes = c.notes new (notes_nothing f.number now new);
    variables = c.variables;
    exited = or_false exits ∙ c.told;
  }
