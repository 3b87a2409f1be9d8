-- Which fault a list of pieces has, and the places of the pieces of a list without one.
use Rattle.std.specs.Prelude.{◌≡◌, ◌<◌, ℕ, ◌+◌, Bool, false, List, [], ◌∷◌, Option, None, Some}
use Rattle.std.specs.Prelude.{is_some, length, slice_index_or, slice_set}
use Rattle.replay_core.specs.declared.collect_fault.CollectFault.{CollectFault}
use Rattle.replay_core.specs.declared.collect_fault.CollectFault.TheVariants.{Missing, Memory}
use Rattle.replay_core.specs.Collecting.{first_bad_after}

module _ {P : Type 0} where
  abbrev pub is_filled : List (Option P) → ℕ → Bool
  is_filled places g = is_some (slice_index_or places g None)

  -- a piece is put into the free place of its group
  pub record IsPlaced (old : List (Option P)) (g : ℕ) (p : P) (new : List (Option P)) : Type 0 where
    pub within : g < length old
    pub free : is_filled old g ≡ false
    pub placed : new ≡ slice_set old g (Some p)

  -- the fault of a piece that can't be put into the place of its group, whatever comes after it
  abbrev pub IsFaultAt : List (Option P) → ℕ → ℕ → P → CollectFault → Type 0
  IsFaultAt places n g p e =
      (rest : List (ℕ × P)) → first_bad_after (is_filled places) n ((g, p) ∷ rest) ≡ Some e

  -- the pieces at the places, each with its place, counted from here
  abbrev pub pieces_with_places : ℕ → List (Option P) → List (ℕ × P)
  pieces_with_places g [] = []
  pieces_with_places g (None ∷ places) = pieces_with_places (g + 1) places
  pieces_with_places g (Some p ∷ places) = (g, p) ∷ pieces_with_places (g + 1) places

  -- the first place without a piece, counted from here
  abbrev pub first_missing : ℕ → List (Option P) → Option CollectFault
  first_missing g [] = None
  first_missing g (None ∷ places) = Some (Missing g)
  first_missing g (Some p ∷ places) = first_missing (g + 1) places

abbrev pub IsFault : CollectFault → Option CollectFault → Type 0
IsFault Memory bad = Unit {0}
IsFault e bad = bad ≡ Some e
