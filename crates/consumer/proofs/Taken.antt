-- Bundles and traces that come in blocks.
use Rattle.std.proofs.Common.{◌≡◌, ◌<◌, ℕ, List, [], ◌++◌, sym, ap, ◌∙◌, subst, append_assoc}
use Rattle.std.proofs.Common.{append-nil, arith, length, refl, take}
use Rattle.std.specs.Prelude.{IfOk, IfSome, Option, Some, None, OnOk, Result, Ok, Err}
use Rattle.std.proofs.lemmas.Result.{on_ok_weaker}
use Rattle.firing_reader.specs.Blocks.{Taken}
use Rattle.consumer.specs.Steps.Beginnings.{IsDividedAt, IsUndivided}
use Rattle.consumer.specs.Steps.Blocks.{HasTaken, IsTakenApart, Splits, Takes, TakesRows, Tells}
use Rattle.consumer.specs.Bundle.{Divides}
use Rattle.consumer.specs.Steps.Judging.{IsJudged}
use Rattle.consumer.specs.Vocabulary.{reads, trace_of}
use Rattle.consumer.specs.declared.intake.Input.{Input}
use Rattle.consumer.proofs.LongFiles.{judged_alike}
use Rattle.consumer.proofs.LongScripts.{long_script}

-- what holds anyway holds if there is a value
pub on_ok_any : {A E : Type 0} (r : Result A E) (P : Type 0) → P → OnOk r P
on_ok_any (Ok a) P h = h
on_ok_any (Err e) P h = tt

on_ok_both : {A E : Type 0} (r : Result A E) (P Q R : Type 0) → (P → Q → R) → OnOk r P → OnOk r Q → OnOk r R
on_ok_both (Ok a) P Q R f h k = f h k
on_ok_both (Err e) P Q R f h k = tt

-- ---- the script is known

-- a row is taken out, the rows before it are read, bytes are added to it, and it is put back
pub rows_beside : (old out read new : Taken) (row bytes : List ℕ) → ((rest : List ℕ) → reads out (row ++ rest) ≡ reads old rest) → TakesRows out read []
    → ((rest : List ℕ) → reads new rest ≡ reads read ((row ++ bytes) ++ rest)) → TakesRows old new bytes
rows_beside old out read new row bytes back same put rest =
    put rest ∙ same ((row ++ bytes) ++ rest) ∙ ap (reads out) (append_assoc row bytes rest) ∙ back (bytes ++ rest)

-- its trace goes on, if it was accepted
pub trace_goes : (t t' : Input) (o o' : Option Input) (block block' bytes : List ℕ) → o ≡ Some t → o' ≡ Some t' → t'.script ≡ t.script
    → OnOk t.script (TakesRows t.trace t'.trace bytes) → Takes block o block' o' bytes
trace_goes t t' o o' block block' bytes is is' same goes = λ apart before had.
    let known : HasTaken apart block (Some t) before = rw is at had in
    rw is' (λ rest. let p = known (bytes ++ rest) in record {
      script = p.script;
      trace = p.trace;
      splits = subst (λ b. Splits apart b p.script p.trace) (sym (append_assoc before bytes rest)) p.splits;
      is_judged = subst (IsJudged p.script) (sym same) p.is_judged;
      read = rw same (on_ok_both t.script (TakesRows t.trace t'.trace bytes) _ _ (λ k l. k rest ∙ l) goes p.read);
    })

-- ---- what tells the script

-- a dividing line
pub told_divided : (first : List ℕ) (count : ℕ) (trace : List ℕ) → IsDividedAt first count trace → Tells first (take count first) trace
told_divided first count trace d = λ judged rest is. (take count first, trace ++ rest, d.divides rest, is, on_ok_any judged _ refl)

-- its length
pub told_long : (first : List ℕ) (count : ℕ) → IsUndivided first count → 65540 < length first → Tells first first []
told_long first count u long = λ judged rest is.
    let (script, trace, divides, more) = long_script first count 65536 u long rest in
    let alike = judged_alike first script (omega (arith, long)) more judged trace rest is in
    (script, trace, divides, alike.0, alike.1)

-- what the first bytes tell is taken
pub taken_of : (first script trace : List ℕ) (t : Input) → Tells first script trace → IsJudged script t.script
    → OnOk t.script ((rest : List ℕ) → reads t.trace rest ≡ trace_of (trace ++ rest)) → HasTaken None [] (Some t) first
taken_of first script trace t tells judged read = λ rest.
    let (script', trace', divides, is, more) = tells t.script rest judged in
    record { script = script'; trace = trace'; splits = divides; is_judged = is; read = on_ok_both t.script _ _ _ (λ all same. all rest ∙ ap trace_of (sym same)) read more }

-- the block has all that has come, and may tell the script
pub block_goes : (block all : List ℕ) (o put told : Option Input) (bytes : List ℕ) → o ≡ None → put ≡ told → all ≡ block ++ bytes
    → IfSome told (λ t. HasTaken None [] (Some t) all) → Takes block o all put bytes
block_goes block all o put None bytes none same is told = λ apart before had.
    let h : (apart ≡ None) × (block ≡ before) = rw none at had in
    rw same (h.0, is ∙ ap (λ b. b ++ bytes) h.1)
block_goes block all o put (Some t) bytes none same is told = λ apart before had.
    let h : (apart ≡ None) × (block ≡ before) = rw none at had in
    let whole : all ≡ before ++ bytes = is ∙ ap (λ b. b ++ bytes) h.1 in
    rw (same, h.0) (λ rest. subst (λ b. IsTakenApart None (b ++ rest) t rest) whole (told rest))

-- ---- the end

-- the script was known
pub whole_known : (first : List ℕ) (t : Input) (o : Option Input) → o ≡ Some t → (apart : Option (List ℕ)) (bytes : List ℕ) → HasTaken apart first o bytes → IsTakenApart apart bytes t []
whole_known first t o is apart bytes had =
    let known : HasTaken apart first (Some t) bytes = rw is at had in
    subst (λ b. IsTakenApart apart b t []) (append-nil bytes) (known [])

-- the end tells it
pub whole_told : {E : Type 0} (r : Result Input E) (first script trace : List ℕ) (o : Option Input) → o ≡ None → Divides first script trace → IfOk r (λ t. IsJudged script t.script)
    → IfOk r (λ t. OnOk t.script ((rest : List ℕ) → reads t.trace rest ≡ trace_of (trace ++ rest)))
    → IfOk r (λ t. (apart : Option (List ℕ)) (bytes : List ℕ) → HasTaken apart first o bytes → IsTakenApart apart bytes t [])
whole_told (Err e) first script trace o none divides judged read = tt
whole_told (Ok t) first script trace o none divides judged read = λ apart bytes had.
    let h : (apart ≡ None) × (first ≡ bytes) = rw none at had in
    rw h.0 (record {
      script = script;
      trace = trace;
      splits = subst (λ b. Divides b script trace) h.1 divides;
      is_judged = judged;
      read = on_ok_weaker t.script (λ all. all [] ∙ ap trace_of (append-nil trace)) read;
    })

-- the trace of a script that comes apart, from its start on
pub begun_apart : (script : List ℕ) (t : Input) → IsJudged script t.script → OnOk t.script ((rest : List ℕ) → reads t.trace rest ≡ trace_of rest) → HasTaken (Some script) [] (Some t) []
begun_apart script t judged read = λ rest. record { script = script; trace = rest; splits = (refl, refl); is_judged = judged; read = on_ok_weaker t.script (λ all. all rest) read }
