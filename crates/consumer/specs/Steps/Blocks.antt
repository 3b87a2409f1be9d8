-- A bundle, or the trace of a script that comes apart, of which the bytes come in blocks.
use Rattle.std.specs.Prelude.{◌≡◌, ℕ, List, ◌++◌, Option, Some, None, Result, OnOk}
use Rattle.firing_reader.specs.Blocks.{Taken}
use Rattle.consumer.specs.{Bundle.Divides, Steps.Judging.IsJudged}
use Rattle.consumer.specs.Vocabulary.{Refusal, TypedScript, reads, trace_of}
use Rattle.consumer.specs.declared.intake.Input.{Input}

-- the script and the trace of what is read: a bundle has both, and a script that comes apart is
-- over all that is read
abbrev pub Splits : (apart : Option (List ℕ)) → (bytes script trace : List ℕ) → Type 0
Splits None bytes script trace = Divides bytes script trace
Splits (Some apart) bytes script trace = (script ≡ apart) × (trace ≡ bytes)

-- the script of these bytes was judged so; if it was accepted, its trace reads as what was taken
-- does with the rest
pub record IsTakenApart (apart : Option (List ℕ)) (bytes : List ℕ) (t : Input) (rest : List ℕ)
    : Type 0 where
  pub script : List ℕ
  pub trace : List ℕ
  pub splits : Splits apart bytes script trace
  pub is_judged : IsJudged script t.script
  pub read : OnOk t.script (reads t.trace rest ≡ trace_of trace)

-- the bytes that have come: the block has all of a bundle, or the script is known whatever comes
-- next
abbrev pub HasTaken : Option (List ℕ) → (block : List ℕ) → Option Input → List ℕ → Type 0
HasTaken apart block None bytes = (apart ≡ None) × (block ≡ bytes)
HasTaken apart block (Some t) bytes = (rest : List ℕ) → IsTakenApart apart (bytes ++ rest) t rest

-- more bytes have come
abbrev pub Takes : (block : List ℕ) → Option Input → (block' : List ℕ) → Option Input
    → (bytes : List ℕ) → Type 0
Takes block taken block' taken' bytes = (apart : Option (List ℕ)) (before : List ℕ)
    → HasTaken apart block taken before → HasTaken apart block' taken' (before ++ bytes)

-- more bytes of a trace have come
abbrev pub TakesRows : Taken → Taken → List ℕ → Type 0
TakesRows trace trace' bytes = (rest : List ℕ) → reads trace' rest ≡ reads trace (bytes ++ rest)

-- a bundle of these bytes, whatever comes after them, has a script that is judged as this one, and
-- a trace that begins with this one
abbrev pub Tells : (bytes script trace : List ℕ) → Type 0
Tells bytes script trace = (judged : Result TypedScript Refusal) (rest : List ℕ)
    → IsJudged script judged → (script' trace' : List ℕ) × Divides (bytes ++ rest) script' trace'
    × IsJudged script' judged × OnOk judged (trace' ≡ trace ++ rest)
