-- How the program ends, and what went to its streams by then.
use Rattle.std.specs.Prelude.{◌≡◌, ◌⊎◌, ℕ, List, Option, Result, Err, IsFalse, IsOkAnd, IsSome}
use Rattle.std.specs.Prelude.{MatchBool, MatchOption, MatchResult}
use Rattle.std.specs.Prelude.{drop, map, string_bytes}
use Rattle.std.specs.Io.KnownBytes.{Appends}
use Rattle.std.specs.declared.vec.IntoIter.{IntoIter}
use Rattle.std.specs.declared.string.String.{String}
use Rattle.replay_core.specs.Layouts.{LayoutMeant}
use Rattle.streams.specs.Stream.{FeedSeen, IsSent, SinkSeen}
use Rattle.consumer.specs.Consuming.{HoldsOfInput, IsConsumed, WritesAnswer, WritesBundle}
use Rattle.consumer.specs.Refusals.{IsReported, status_at_end}
use Rattle.consumer.specs.Vocabulary.{into_iter_items, ConsumeFault, Request}
use Rattle.consumer.specs.Vocabulary.{Read, Refused, Write, Memory, Replayed, UsageFault}
use Rattle.consumer.specs.Arguments.{Asks, IsFaultOf, IsMistake}
use Rattle.consumer.specs.declared.program.Streams.{Streams}
use Rattle.consumer.specs.declared.arguments.UsageFault.TheVariants.{Help, Usage}
use Rattle.consumer.specs.declared.arguments.UsageFault.TheVariants as usage
use Rattle.clap.specs.declared.error.kind.ErrorKind.TheVariants.{ValueValidation}

-- ---- its streams

pub record StreamsSeen : Type 0 where
  pub input : FeedSeen
  pub output : SinkSeen
  pub errors : SinkSeen

abbrev pub streams_seen : {F S E : Type 0} → (F → FeedSeen) → (S → SinkSeen) → (E → SinkSeen)
    → Streams F S E → StreamsSeen
streams_seen feed sink errors s =
    record { input = feed s.input; output = sink s.output; errors = errors s.errors }

-- no call of them has failed
pub record AreUnfailed (s : StreamsSeen) : Type 0 where
  pub input : IsFalse s.input.has_failed
  pub output : IsFalse s.output.has_failed
  pub errors : IsFalse s.errors.has_failed

-- ---- its arguments

-- the arguments after the program's name
abbrev pub arguments_of : {A Z : Type 0} → IntoIter (String A) Z → List (List ℕ)
arguments_of all = map string_bytes (drop 1 (into_iter_items all))

-- the arguments ask for this
abbrev pub IsRequest : {A Z E : Type 0} → Result (IntoIter (String A) Z) E → Request → Type 0
IsRequest given request = IsOkAnd given (λ all. Asks (arguments_of all) request)

-- the arguments ask for no run, for this reason; or one is not UTF-8, or memory ran out
abbrev pub IsNoRequest : {A Z E : Type 0} → Result (IntoIter (String A) Z) E → UsageFault → Type 0
IsNoRequest given fault = (fault ≡ usage.Memory) ⊎ MatchResult given
    (λ all. IsFaultOf (arguments_of all) fault) (λ e. IsMistake ValueValidation fault)

-- ---- a run

-- What was asked for is run: without a file over the input's bundle, and with one, which has the
-- script, over the input's trace. The result is of the input's bytes, and of the file's. Or the
-- file could not be read, and no input was.
abbrev pub IsRunOf : LayoutMeant → Request → (holds : List ℕ → Option (List ℕ))
    → (old new : StreamsSeen) → Result Replayed ConsumeFault → Type 0
IsRunOf shows request holds old new result =
    IsConsumed old.input new.input old.output new.output result (λ input. MatchOption request.file
    (WritesBundle shows input request.plan old.output new.output result)
    (λ file. HoldsOfInput (holds (string_bytes file)) (λ script.
    WritesAnswer shows script input request.plan old.output new.output result)))
    ⊎ (IsSome request.file × (result ≡ Err Read) × (new.input ≡ old.input)
    × (new.output ≡ old.output))

-- ---- without a run

-- memory ran out: the program says so
pub record IsSpent (old new : StreamsSeen) (status : ℕ) : Type 0 where
  pub output : new.output ≡ old.output
  pub line : IsReported (Err (Refused Memory)) old.errors new.errors status

-- help goes to the output; if that fails, the program says so
pub record IsHelped (old new : StreamsSeen) (status : ℕ) : Type 0 where
  pub text : List ℕ
  pub sent : IsSent text old.output new.output
  pub ends : MatchBool new.output.has_failed
      (IsReported (Err Write) old.errors new.errors status)
      ((status ≡ 0) × (new.errors ≡ old.errors))

-- what is wrong with the arguments goes to standard error
pub record IsCorrected (old new : StreamsSeen) (status : ℕ) : Type 0 where
  pub ends : status ≡ 2
  pub text : List ℕ
  pub sent : IsSent text old.errors new.errors
  pub output : new.output ≡ old.output

abbrev pub EndsWithoutRun : UsageFault → (old new : StreamsSeen) → ℕ → Type 0
EndsWithoutRun (Help e) old new status = IsHelped old new status ⊎ IsSpent old new status
EndsWithoutRun (Usage e) old new status = IsCorrected old new status ⊎ IsSpent old new status
EndsWithoutRun usage.Memory old new status = IsSpent old new status

-- ---- the program

-- The arguments ask for a run, and the program ends as that does, with its status and, if there is
-- no answer, its line; or they ask for none, and the input is not read.
pub data Ends {A Z E : Type 0} (shows : LayoutMeant) (given : Result (IntoIter (String A) Z) E)
    (holds : List ℕ → Option (List ℕ)) (old new : StreamsSeen) (status : ℕ) : Type 0 where
  ran : (request : Request) (result : Result Replayed ConsumeFault) → IsRequest given request
      → IsRunOf shows request holds old new result → IsReported result old.errors new.errors status
      → Ends shows given holds old new status
  without_run : (fault : UsageFault) → IsNoRequest given fault → new.input ≡ old.input
      → EndsWithoutRun fault old new status → Ends shows given holds old new status

-- the run ended since memory ran out, or reading or writing failed, and says so
pub record IsBroken (old new : StreamsSeen) (status : ℕ) : Type 0 where
  pub fault : ConsumeFault
  pub is : status_at_end (Err fault) ≡ 1
  pub line : IsReported (Err fault) old.errors new.errors status

-- the same bytes go to two sinks
pub record WriteAlike (old new old' new' : SinkSeen) : Type 0 where
  pub bytes : List ℕ
  pub first : Appends old.bytes new.bytes bytes
  pub second : Appends old'.bytes new'.bytes bytes
