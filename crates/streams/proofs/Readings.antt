-- A reading goes on turn by turn, and ends.
use Rattle.std.proofs.Common.{◌≡◌, ◌≤◌, ◌<◌, ⊎_elim, inl, inr, ℕ, ◌+◌, ◌++◌, ◌∙◌, Bool, true, false, [], List, Result, Ok}
use Rattle.std.proofs.Common.{Err, append_assoc, ap, arith}
use Rattle.std.specs.Prelude.{IfOk, IsFalse, IsTrue, MatchBool, OnOk}
use Rattle.std.specs.Io.KnownBytes.{Consumes}
use Rattle.std.proofs.KnownBytes.{Consumes-nil, Consumes-trans}
use Rattle.streams.specs.Stream.{FeedSeen, LosesBeginning}
use Rattle.streams.specs.Turns.{GoesOn, IsReading, IsTurn}
use Rattle.streams.specs.declared.reading.ReadFault.{ReadFault}
use Rattle.streams.specs.declared.reading.ReadFault.TheVariants.{Failed, Memory}
use Rattle.streams.specs.declared.reading.TheConstants.{MAX_CALLS}

-- it has made these calls of a feed, and goes on
pub record HasMade (old now : FeedSeen) (calls_left : ℕ) : Type 0 where
  pub going : GoesOn calls_left now
  pub counted : now.calls + calls_left ≡ old.calls + MAX_CALLS
  pub rest : LosesBeginning old.remaining now.remaining

pub none_made : (feed : FeedSeen) (left : ℕ) → left ≡ MAX_CALLS → IsFalse feed.has_failed → HasMade feed feed left
none_made feed left most works = record {
  going = record { works = works; few = omega (arith, most); goes_on = λ less. absurd (omega (arith, most, less)) };
  counted = omega (arith, most);
  rest = ([], Consumes-nil _);
}

module _ (old mid new : FeedSeen) (left left' : ℕ) (Takes : List ℕ → Type 0) (made : HasMade old mid left) where
  lost : (result : Result Bool ReadFault) → IsTurn mid new left left' result Takes → LosesBeginning old.remaining new.remaining
  lost result turn = (_, Consumes-trans _ _ _ _ _ made.rest.1 turn.gave)

  pub turn_made : IsTurn mid new left left' (Ok false) Takes → HasMade old new left'
  turn_made turn = record { going = turn.given.0; counted = omega (arith, turn.counted, made.counted); rest = lost _ turn }

  pub turn_ends : {A : Type 0} (value : A) → IsTurn mid new left left' (Ok true) Takes → IsReading old new (Ok value)
  turn_ends value turn = record {
    ended = turn.given;
    failed = λ e. cc;
    memory = λ e. cc;
    rest = lost _ turn;
    few = omega (arith, turn.counted, made.counted);
  }

  -- memory was refused after the end
  pub turn_spent : {A : Type 0} → IsTurn mid new left left' (Ok true) Takes → IsReading {A = A} old new (Err Memory)
  turn_spent turn = record {
    ended = tt;
    failed = λ e. cc;
    memory = λ e. turn.given.works;
    rest = lost _ turn;
    few = omega (arith, turn.counted, made.counted);
  }

  pub turn_fails : {A : Type 0} (fault : ReadFault) → IsTurn mid new left left' (Err fault) Takes → IsReading {A = A} old new (Err fault)
  turn_fails fault turn = record {
    ended = tt;
    failed = λ e. let is : fault ≡ Failed = cc in ⊎_elim (λ (failed : IsTrue new.has_failed). inl failed)
        (λ (spent : IsFalse new.has_ended × (left' ≡ 0)). let none = spent.1 in inr (spent.0, omega (arith, turn.counted, made.counted, none))) (turn.failed (ap Err is));
    memory = λ e. let is : fault ≡ Memory = cc in turn.memory (ap Err is);
    rest = lost _ turn;
    few = omega (arith, turn.counted, made.counted);
  }

-- this follows of what a turn does with its bytes
pub turn_with : {old new : FeedSeen} {left left' : ℕ} {result : Result Bool ReadFault} {Takes Takes' : List ℕ → Type 0} (turn : IsTurn old new left left' result Takes)
    → OnOk result (Takes' turn.bytes) → IsTurn old new left left' result Takes'
turn_with turn taken = record {
  counted = turn.counted;
  given = turn.given;
  failed = turn.failed;
  memory = turn.memory;
  bytes = turn.bytes;
  gave = turn.gave;
  taken = taken;
}

-- ---- turns that fill a block

fewer : (r : Result Bool ReadFault) (Ends Goes : Type 0) (a b c : ℕ) → b ≤ a → IfOk r (λ ended. MatchBool ended Ends (Goes × (c < b))) → IfOk r (λ ended. MatchBool ended Ends (Goes × (c < a)))
fewer (Ok true) Ends Goes a b c le h = h
fewer (Ok false) Ends Goes a b c le (goes, lt) = (goes, omega (arith, lt, le))
fewer (Err e) Ends Goes a b c le h = h

-- a turn after others, by which a block grows
pub later : (r : Result Bool ReadFault) (old mid new : FeedSeen) (a b c : ℕ) (before block after : List ℕ) → b ≤ a → mid.calls + b ≡ old.calls + a
    → (bytes : List ℕ) × Consumes old.remaining mid.remaining bytes × (block ≡ before ++ bytes) → IsTurn mid new b c r (λ bytes. after ≡ block ++ bytes) → IsTurn old new a c r (λ bytes. after ≡ before ++ bytes)
later r old mid new a b c before block after le counted (front, given, is) turn = record {
  counted = omega (arith, turn.counted, counted);
  given = fewer r _ _ a b c le turn.given;
  failed = turn.failed;
  memory = turn.memory;
  bytes = front ++ turn.bytes;
  gave = Consumes-trans _ _ _ _ _ given turn.gave;
  taken = both r turn.bytes turn.taken;
}
  where
    both : (r : Result Bool ReadFault) (more : List ℕ) → OnOk r (after ≡ block ++ more) → OnOk r (after ≡ before ++ (front ++ more))
    both (Ok ended) more own = own ∙ ap (λ (l : List ℕ). l ++ more) is ∙ append_assoc before front more
    both (Err e) more own = own
