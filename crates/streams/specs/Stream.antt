-- What contracts see of a sink and a feed, and what calls do to the bytes that a sink holds and a
-- feed has left.
use Rattle.std.specs.Prelude.{ℕ, ◌+◌, ◌<◌, ◌≤◌, Bool, Option, List, IsTrue, MatchBool, length, take}
use Rattle.std.specs.Io.KnownBytes.{Appends, Consumes}

-- a sink
pub record SinkSeen : Type 0 where
  -- the bytes written so far, if they are known
  pub bytes : Option (List ℕ)
  -- how many calls of put and of flush were made, a failed one too
  pub calls : ℕ
  -- whether a call has failed
  pub has_failed : Bool
  -- whether the last call was a flush, and went well
  pub is_flushed : Bool

-- a feed
pub record FeedSeen : Type 0 where
  -- the bytes that are left, if they are known
  pub remaining : Option (List ℕ)
  -- how many calls of get were made, a failed one too
  pub calls : ℕ
  -- whether a call has failed
  pub has_failed : Bool
  -- whether the last call reported the end: it gave nothing, though there was room
  pub has_ended : Bool

-- the sink's bytes grow by a beginning of bs that is not all of it
abbrev pub AppendsBeginning : Option (List ℕ) → Option (List ℕ) → List ℕ → Type 0
AppendsBeginning old new bs = (k : ℕ) × (k < length bs) × Appends old new (take k bs)

-- The sink's bytes grow by bs, and are flushed. If it failed they grow by a beginning of bs, or
-- by all of it if only the flush failed.
pub record IsSent (bs : List ℕ) (old new : SinkSeen) : Type 0 where
  pub bytes : MatchBool new.has_failed
      ((k : ℕ) × (k ≤ length bs) × Appends old.bytes new.bytes (take k bs))
      (Appends old.bytes new.bytes bs × IsTrue new.is_flushed)
  pub few : new.calls ≤ old.calls + length bs + 1

-- the feed's bytes lose a beginning
abbrev pub LosesBeginning : Option (List ℕ) → Option (List ℕ) → Type 0
LosesBeginning old new = (bs : List ℕ) × Consumes old new bs
