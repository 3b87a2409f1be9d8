-- What is said of a reader's bytes where they were not all read.
use Rattle.std.proofs.Common.{Global, ◌≡◌, ◌≢◌, ◌≤◌, ◌+◌, ◌⊎◌, ◌∙◌, ℕ, List, [], Option, Some, None}
use Rattle.std.proofs.Common.{Result, Ok, Err, ap, arith, inl, inr, refl, rules, sym}
use Rattle.std.specs.Result.{IsErrAnd}
use Rattle.std.proofs.lemmas.Result.{IfErr-weaker, err_from_is_err_and}
use Rattle.replay_core.specs.Layouts.{LayoutMeant}
use Rattle.streams.specs.Stream.{FeedSeen, SinkSeen}
use Rattle.streams.specs.Turns.{IsReading}
use Rattle.streams.specs.declared.reading.ReadFault.{ReadFault}
use Rattle.streams.specs.declared.reading.ReadFault.TheVariants.{Failed}
use Rattle.streams.specs.declared.reading.ReadFault.TheVariants as reading
use Rattle.consumer.specs.declared.consuming.ConsumeFault.{ConsumeFault}
use Rattle.consumer.specs.declared.consuming.ConsumeFault.TheVariants.{Read, Refused, Write}
use Rattle.consumer.specs.declared.plan.Plan.{Plan}
use Rattle.consumer.specs.declared.plan.Replayed.{Replayed}
use Rattle.consumer.specs.declared.refusal.Refusal.TheVariants.{Memory}
use Rattle.consumer.specs.Consuming.{HoldsOfInput, IsConsumed, WritesAnswer, fault_of_reading}
use Rattle.consumer.specs.Program.{AreUnfailed, IsRunOf, StreamsSeen}
use Rattle.consumer.specs.Vocabulary.{MAX_CALLS, Request}
use Rattle.std.specs.Prelude.{IfErr, IsFalse, IsSome, MatchOption}
use Rattle.std.proofs.KnownBytes.{Consumes-nil}
use Rattle.std.specs.declared.string.String.{String}
use Rattle.consumer.proofs.Refusing.{out_of_memory}

-- what holds of any bytes holds of those that were to be read
pub holds_of_any : (remaining : Option (List ℕ)) (Holds : List ℕ → Type 0) → ((bytes : List ℕ) → Holds bytes) → HoldsOfInput remaining Holds
holds_of_any None Holds any = record { input = []; read = search rules; holds = any [] }
holds_of_any (Some bytes) Holds any = record { input = bytes; read = refl; holds = any bytes }

-- memory was refused before the first call
pub none_read : {A : Type 0} (feed : FeedSeen) → IsFalse feed.has_failed → IsReading {A = A} feed feed (Err reading.Memory)
none_read feed works = record { ended = tt; failed = λ e. cc; memory = λ e. works; rest = ([], Consumes-nil _); few = omega arith }

module _ {S : Type 0} (old new : FeedSeen) (sink : S) (result : Result Replayed ConsumeFault) (Holds : List ℕ → Type 0) where
  -- memory ran out, and the feed had not failed
  pub spent : IsFalse new.has_failed → new.calls ≤ old.calls + MAX_CALLS → result ≡ Err (Refused Memory) → ((bytes : List ℕ) → Holds bytes)
      → IsConsumed old new sink sink result Holds
  spent works few out any = record {
    blamed = λ read. let never : Err (Refused Memory) ≡ Err Read = sym out ∙ read in absurd cc;
    whole = λ other. (works, inl out);
    few = few;
    shown = λ other. holds_of_any _ _ any;
    untouched = λ other. rw out refl;
  }

  -- the feed is blamed where it failed
  pub read_fails : {A : Type 0} (fault : ReadFault) → IsErrAnd result (λ e. e ≡ fault_of_reading fault) → IsReading {A = A} old new (Err fault)
      → (result ≢ Err Read → (bytes : List ℕ) → Holds bytes) → IsConsumed old new sink sink result Holds
  read_fails Failed told r any =
      let p = err_from_is_err_and result told in
      let failed : result ≡ Err Read = p.1 ∙ ap Err p.2 in
      record { blamed = λ read. r.failed refl; whole = λ other. absurd (other failed); few = r.few; shown = λ other. absurd (other failed); untouched = λ other. rw failed refl }
  read_fails reading.Memory told r any =
      let p = err_from_is_err_and result told in
      let out : result ≡ Err (Refused Memory) = p.1 ∙ ap Err p.2 in
      spent (r.memory refl) r.few out (any (λ read. let never : Err (Refused Memory) ≡ Err Read = sym out ∙ read in absurd cc))

-- the feed was read to its end, and the writer is blamed alone
pub consumed : {S A : Type 0} (old new : FeedSeen) (sink sink' : S) (result : Result Replayed ConsumeFault) (Holds : List ℕ → Type 0) (input : A)
    → IsReading old new (Ok input) → result ≢ Err Read → (result ≢ Err Write → IfErr result (λ e. sink' ≡ sink)) → HoldsOfInput old.remaining Holds
    → IsConsumed old new sink sink' result Holds
consumed old new sink sink' result Holds input r written untouched holds = record {
  blamed = λ read. absurd (written read);
  whole = λ other. (r.ended.works, inr r.ended.ended);
  few = r.few;
  shown = λ other. holds;
  untouched = untouched;
}

-- what is said of a sink is said of what is seen of it
pub consumed_seen : {S T : Type 0} (seen : S → T) (old new : FeedSeen) (sink sink' : S) (result : Result Replayed ConsumeFault) (Holds Holds' : List ℕ → Type 0)
    → ((bytes : List ℕ) → Holds bytes → Holds' bytes) → IsConsumed old new sink sink' result Holds → IsConsumed old new (seen sink) (seen sink') result Holds'
consumed_seen seen old new sink sink' result Holds Holds' follows is = record {
  blamed = is.blamed;
  whole = is.whole;
  few = is.few;
  shown = λ other. let h = is.shown other in record { input = h.input; read = h.read; holds = follows h.input h.holds };
  untouched = λ other. IfErr-weaker result _ _ (λ e same. ap seen same) (is.untouched other);
}

-- where memory ran out, that is replay's answer too, and nothing goes out
pub memory_shown : {shows : LayoutMeant} (script trace : List ℕ) (plan : Plan) (seen : SinkSeen) (result : Result Replayed ConsumeFault) → result ≡ Err (Refused Memory) → WritesAnswer shows script trace plan seen seen result
memory_shown {shows = shows} script trace plan seen result out =
    record { answer = Err Memory; is = out_of_memory shows script trace plan; out = (refl, out) }

-- the same where it ran out in reading
pub none_shown : {shows : LayoutMeant} (script trace : List ℕ) (plan : Plan) (seen : SinkSeen) (result : Result Replayed ConsumeFault) (fault : ReadFault) → IsErrAnd result (λ e. e ≡ fault_of_reading fault) → result ≢ Err Read → WritesAnswer shows script trace plan seen seen result
none_shown script trace plan seen result Failed told other =
    let p = err_from_is_err_and result told in
    absurd (other (p.1 ∙ ap Err p.2))
none_shown script trace plan seen result reading.Memory told other =
    let p = err_from_is_err_and result told in
    memory_shown script trace plan seen result (p.1 ∙ ap Err p.2)

-- a file is asked for, where one is named
pub some_file : {A : Type 0} (file : Option A) (name : A) → file ≡ Some name → IsSome file
some_file file name named = rw named refl

-- what holds of it holds of the one that is named
pub any_file : {A : Type 0} (file : Option A) (name : A) (P : Type 0) (Q : A → Type 0) → file ≡ Some name → Q name → MatchOption file P Q
any_file file name P Q named holds = rw named holds

-- where the script of a file is not read, the run ends by that fault, and no stream is touched
pub script_unread : (shows : LayoutMeant) (request : Request) (holds : List ℕ → Option (List ℕ)) (seen : StreamsSeen) (result : Result Replayed ConsumeFault)
    (fault : ConsumeFault) (name : String Global) → request.file ≡ Some name → AreUnfailed seen → IsErrAnd result (λ e. e ≡ fault)
    → (fault ≡ Read) ⊎ (fault ≡ Refused Memory) → IsRunOf shows request holds seen seen result
script_unread shows request holds seen result fault name named unfailed told (inl read) =
    let p = err_from_is_err_and result told in
    let failed : result ≡ Err Read = p.1 ∙ ap Err (p.2 ∙ read) in
    inr (some_file request.file name named, failed, refl, refl)
script_unread shows request holds seen result fault name named unfailed told (inr memory) =
    let p = err_from_is_err_and result told in
    let out : result ≡ Err (Refused Memory) = p.1 ∙ ap Err (p.2 ∙ memory) in
    inl (spent _ _ _ result _ unfailed.input (omega arith) out
    (λ trace. any_file request.file name _ _ named (holds_of_any _ _ (λ script. memory_shown script trace request.plan seen.output result out))))
