-- The rule of a board: the first word hands out the numbers, the second is the least that was
-- lowered.
use Rattle.std.specs.Prelude.{◌≡◌, ℕ, ◌≤◌, min, map, length, slice_index}
use Rattle.shard_queue.specs.Vocabulary.{BoardView, Hand, Low, get_elem?, some}
use Rattle.atomic_table.specs.Table.{State, Me}
use Rattle.shard_queue.specs.Hands.{empty_hand, joint_hand}
use Rattle.shard_queue.specs.Drawing.{Draws, Drawn}
use Rattle.shard_queue.specs.Least.{no_number, low, lesser, nothing_lowered, IsLeastLowered}

abbrev pub view : Hand → Low → BoardView
view h l = record { hand = h; low = l }

abbrev pub hand_of : BoardView → Hand
hand_of v = v.hand

abbrev pub low_of : BoardView → Low
low_of v = v.low

-- what two views know, and what the second one knows afterwards
abbrev pub view_of_both : BoardView → BoardView → BoardView
view_of_both v w = view (joint_hand v.hand w.hand) (lesser v.low w.low)

abbrev pub empty_view : BoardView
empty_view = view empty_hand nothing_lowered

module _ {S : Type 0} where
  -- k.0 numbers among k.1 seats
  pub record Kept (k : ℕ × ℕ) (s : State S BoardView) : Type 0 where
    pub two : length s.words ≡ 2
    pub draws : Draws k.0 k.1 (slice_index s.words 0) (map hand_of s.views)
    pub least : IsLeastLowered (slice_index s.words 1) (map low_of s.views)
    -- a view that counts no seat has lowered nothing
    pub idle : (by : ℕ) (v : BoardView) → get_elem? s.views by ≡ some v
        → v.hand.seats ≡ 0 → v.low.lowered ≡ no_number

  -- a claim
  abbrev pub Claimed : Me S BoardView → ℕ → Me S BoardView → Type 0
  Claimed m found w = (w.1 ≡ m.1) × (w.0.low ≡ m.0.low) × Drawn m.0.hand found w.0.hand

  -- a number is lowered
  abbrev pub Lowered : ℕ → Me S BoardView → Me S BoardView → Type 0
  Lowered number m w =
      (w.1 ≡ m.1) × (w.0 ≡ view m.0.hand (low (min m.0.low.lowered number) m.0.low.seen))

  -- the least number is looked at: none that the seat lowered or was shown is less
  abbrev pub Looked : Me S BoardView → ℕ → Me S BoardView → Type 0
  Looked m found w =
      (w.1 ≡ m.1) × (w.0 ≡ view m.0.hand (low m.0.low.lowered (min m.0.low.seen found)))
      × (found ≤ m.0.low.lowered) × (found ≤ m.0.low.seen)
