-- What a lane made of the firings that it was given.
use Rattle.std.specs.Prelude.{◌≡◌, List, [], ◌∷◌}
use Rattle.d_types.specs.Typed.{ScriptMeant}
use Rattle.firings.specs.declared.firing.Firing.{Firing}
use Rattle.replay_core.specs.Lanes.{LaneSeen}
use Rattle.replay_core.specs.Meaning.{Threads, threads_after, blank_threads}
use Rattle.replay_core.specs.Pieces.{IsPieceOf}

-- what the threads keep after these firings
abbrev pub threads_over : ScriptMeant → List Firing → Threads → Threads
threads_over m [] threads = threads
threads_over m (f ∷ fs) threads = threads_over m fs (threads_after m f threads)

-- the lane is what the script makes of these firings
pub record IsLaneOf (m : ScriptMeant) (fs : List Firing) (lane : LaneSeen) : Type 0 where
  pub threads : lane.threads ≡ threads_over m fs blank_threads
  pub piece : IsPieceOf m fs lane.piece
