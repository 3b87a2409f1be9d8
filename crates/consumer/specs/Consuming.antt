-- From a reader's bytes to a writer's.
use Rattle.std.specs.Prelude.{◌≡◌, ◌≢◌, ◌≤◌, ◌⊎◌, ◌+◌, ℕ, List, Option, Result, Ok, Err, IfErr}
use Rattle.std.specs.Prelude.{IfSome, IsTrue, IsFalse}
use Rattle.replay_core.specs.Layouts.{LayoutMeant}
use Rattle.streams.specs.{Stream.FeedSeen, Stream.IsSent, Stream.SinkSeen, Turns.IsCutShort}
use Rattle.consumer.specs.Vocabulary.{MAX_CALLS, ReadFault, Failed, ConsumeFault, Read, Refused}
use Rattle.consumer.specs.Vocabulary.{Write, Refusal, Memory, Plan, Replayed}
use Rattle.consumer.specs.{Bundle.Divides, Replaying.IsReplay}

-- this holds of the bytes that were to be read or, if these are not known, of some bytes
pub record HoldsOfInput (remaining : Option (List ℕ)) (Holds : List ℕ → Type 0) : Type 0 where
  pub input : List ℕ
  pub read : IfSome remaining (λ bytes. input ≡ bytes)
  pub holds : Holds input

-- The reader was read to its end, or the fault says why not. It, and only it, is blamed if it
-- failed or had not ended; otherwise this holds of its bytes. Without an answer the writer stays
-- as it was, unless it failed.
pub record IsConsumed {S : Type 0} (old new : FeedSeen) (sink sink' : S)
    (result : Result Replayed ConsumeFault) (Holds : List ℕ → Type 0) : Type 0 where
  pub blamed : result ≡ Err Read → IsCutShort old new
  pub whole : result ≢ Err Read
      → IsFalse new.has_failed × ((result ≡ Err (Refused Memory)) ⊎ IsTrue new.has_ended)
  pub few : new.calls ≤ old.calls + MAX_CALLS
  pub shown : result ≢ Err Read → HoldsOfInput old.remaining Holds
  pub untouched : result ≢ Err Write → IfErr result (λ e. sink' ≡ sink)

-- The answer goes out and is flushed; if there is none, nothing is written. The writer, and only
-- it, is blamed if it failed.
abbrev pub WritesOut : Result Replayed Refusal → (old new : SinkSeen)
    → Result Replayed ConsumeFault → Type 0
WritesOut (Err e) old new result = (new ≡ old) × (result ≡ Err (Refused e))
WritesOut (Ok r) old new (Ok given) =
    (given ≡ r) × IsFalse new.has_failed × IsSent r.bytes.items old new
WritesOut (Ok r) old new (Err Write) = IsTrue new.has_failed × IsSent r.bytes.items old new
WritesOut (Ok r) old new (Err e) = ⊥

-- what replay returns for the script over the trace is what goes out
pub record WritesAnswer (shows : LayoutMeant) (script trace : List ℕ) (plan : Plan)
    (old new : SinkSeen) (result : Result Replayed ConsumeFault) : Type 0 where
  pub answer : Result Replayed Refusal
  pub is : IsReplay shows script trace plan answer
  pub out : WritesOut answer old new result

-- what goes out is the answer of a bundle's script over its trace
abbrev pub WritesBundle : LayoutMeant → (bundle : List ℕ) → Plan → (old new : SinkSeen)
    → Result Replayed ConsumeFault → Type 0
WritesBundle shows bundle plan old new result = (script trace : List ℕ)
    × Divides bundle script trace × WritesAnswer shows script trace plan old new result

-- how a fault of reading is reported
abbrev pub fault_of_reading : ReadFault → ConsumeFault
fault_of_reading Failed = Read
fault_of_reading ReadFault.Memory = Refused Memory
