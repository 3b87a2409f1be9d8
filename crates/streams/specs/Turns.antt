-- Reading a feed turn by turn, if a turn makes some of the calls that are left.
use Rattle.std.specs.Prelude.{◌≡◌, ◌⊎◌, ℕ, ◌+◌, ◌<◌, ◌≤◌, Bool, List, Result, Err, IfOk}
use Rattle.std.specs.Prelude.{IsTrue, IsFalse, MatchBool, OnOk}
use Rattle.std.specs.Io.KnownBytes.{Consumes, IsAtEnd}
use Rattle.streams.specs.declared.reading.ReadFault.{ReadFault}
use Rattle.streams.specs.declared.reading.ReadFault.TheVariants.{Failed, Memory}
use Rattle.streams.specs.declared.reading.TheConstants.{MAX_CALLS}
use Rattle.streams.specs.Stream.{FeedSeen, LosesBeginning}

-- no call of the feed has failed, and if some were made, none has reported the end
pub record GoesOn (calls_left : ℕ) (feed : FeedSeen) : Type 0 where
  pub works : IsFalse feed.has_failed
  pub few : calls_left ≤ MAX_CALLS
  pub goes_on : calls_left < MAX_CALLS → IsFalse feed.has_ended

-- the last call reported the end of the feed, and nothing is left
pub record HasEnded (feed : FeedSeen) : Type 0 where
  pub works : IsFalse feed.has_failed
  pub ended : IsTrue feed.has_ended
  pub nothing_left : IsAtEnd feed.remaining

-- A turn makes calls, does this with the bytes that they give, and returns whether the feed has
-- ended. It fails if a call did, or if there is none left and the feed hasn't ended.
pub record IsTurn (old new : FeedSeen) (calls_left calls_left' : ℕ) (result : Result Bool ReadFault)
    (Takes : List ℕ → Type 0) : Type 0 where
  pub counted : new.calls + calls_left' ≡ old.calls + calls_left
  pub given : IfOk result (λ ended. MatchBool ended (HasEnded new)
      (GoesOn calls_left' new × (calls_left' < calls_left)))
  pub failed : result ≡ Err Failed
      → IsTrue new.has_failed ⊎ (IsFalse new.has_ended × (calls_left' ≡ 0))
  pub memory : result ≡ Err Memory → IsFalse new.has_failed
  pub bytes : List ℕ
  pub gave : Consumes old.remaining new.remaining bytes
  pub taken : OnOk result (Takes bytes)

-- the feed failed, or had not ended after the most calls
abbrev pub IsCutShort : (old new : FeedSeen) → Type 0
IsCutShort old new =
    IsTrue new.has_failed ⊎ (IsFalse new.has_ended × (new.calls ≡ old.calls + MAX_CALLS))

-- a reading makes no more than the most calls, and comes to the feed's end or a fault
pub record IsReading {A : Type 0} (old new : FeedSeen) (result : Result A ReadFault) : Type 0 where
  pub ended : OnOk result (HasEnded new)
  pub failed : result ≡ Err Failed → IsCutShort old new
  pub memory : result ≡ Err Memory → IsFalse new.has_failed
  pub rest : LosesBeginning old.remaining new.remaining
  pub few : new.calls ≤ old.calls + MAX_CALLS
