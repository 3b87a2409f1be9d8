-- What options say.
use Rattle.std.proofs.Common.{◌≡◌, ◌∙◌, ◌≤◌, ◌<◌, ◌^◌, refl, sym, subst, ap, arith, ℕ, List}
use Rattle.std.proofs.Common.{Option, Some, None, Result, Ok, Err}
use Rattle.std.specs.Prelude.{IfOk, IsSomeAnd, codes, option_and_then}
use Rattle.std.specs.Str.Parse.{ExplainsUnsignedError, HasUnsignedDigitsIfOk, IsNumeral}
use Rattle.std.specs.Str.Parse.{ParsesUnsigned, digits_value, without_leading_plus}
use Rattle.std.specs.declared.num.ParseIntError.{ParseIntError}
use Rattle.clap.specs.Matches.{ReadsOne, first_value, one_text}
use Rattle.clap.specs.Words.{AddsArg, App, Rule, app_of, one_of, rows_of, rule_of, with_rule}
use Rattle.clap.specs.declared.builder.arg.Arg.{Arg}
use Rattle.clap.specs.declared.builder.command.Command.{Command}
use Rattle.clap.specs.declared.parser.matches.Found.{Found}
use Rattle.clap.proofs.WalkLemmas.{first_value-rows, one_text-rows}
use Rattle.consumer.specs.Steps.Arguments.{HasRule}
use Rattle.consumer.specs.Arguments.{IsNumberIn, engine_called, engine_in, file_in}
use Rattle.consumer.specs.declared.plan.EngineKind.{EngineKind}

-- a command with one more option
pub with_option : (old new : Command) (a : Arg) (app : App) (r : Rule) → AddsArg old a new → HasRule r a
    → app_of old ≡ app → app_of new ≡ with_rule app r
with_option old new a app r adds has before =
    adds.shape has.1 ∙ ap (λ x. with_rule x (rule_of a)) before ∙ ap (with_rule app) has.0

-- so long as memory is there
pub ok_with_option : {E : Type 0} (old : Command) (r : Result Command E) (a : Arg) (app : App) (rule : Rule) → IfOk r (AddsArg old a)
    → HasRule rule a → app_of old ≡ app → IfOk r (λ c. app_of c ≡ with_rule app rule)
ok_with_option old (Ok c) a app rule adds has before = with_option old c a app rule adds has before
ok_with_option old (Err e) a app rule adds has before = tt

-- the text writes this number
abbrev pub Writes : List ℕ → ℕ → Type 0
Writes text n = IsNumeral 10 (without_leading_plus text) × (digits_value 10 (without_leading_plus text) ≡ n)

-- the first value of -s is the file
pub file_read : (f : Found) (file : Option (List ℕ)) → file ≡ first_value f (codes "script") → file ≡ file_in (rows_of f)
file_read f file found = found ∙ first_value-rows f (codes "script")

-- that of -e is the name of the engine
pub engine_read : (f : Found) (name : Option (List ℕ)) (engine : Option EngineKind) → name ≡ first_value f (codes "engine")
    → engine ≡ option_and_then engine_called name → engine ≡ engine_in (rows_of f)
engine_read f name engine found read =
    read ∙ ap (option_and_then engine_called) (found ∙ first_value-rows f (codes "engine"))

-- how `u32` is read of a text
abbrev pub Reads : List ℕ → Result ℕ ParseIntError → Type 0
Reads text r = ParsesUnsigned 32 10 text r × ExplainsUnsignedError 10 text r × HasUnsignedDigitsIfOk text r

module _ (f : Found) (id : List ℕ) where
  -- a number that was read is written there
  pub is_written : (n : ℕ) → (one_text f id ≡ None → Some n ≡ None)
      → ((t : List ℕ) → one_text f id ≡ Some t → ReadsOne Reads t (Some n))
      → IsSomeAnd (one_of id (rows_of f)) (λ text. Writes text n)
  is_written n none value = subst (λ o. IsSomeAnd o (λ text. Writes text n)) (one_text-rows f id) (by (one_text f id) refl)
    where
      by : (o : Option (List ℕ)) → one_text f id ≡ o → IsSomeAnd o (λ text. Writes text n)
      by None e =
          let bad : Some n ≡ None = none e in
          cc
      by (Some t) e =
          let read = (value t e).0 in
          (read.0.0, sym read.1)

  pub is_in : (low high n : ℕ) → low ≤ n → n ≤ high → IsSomeAnd (one_of id (rows_of f)) (λ text. Writes text n)
      → IsNumberIn low high (rows_of f) id n
  is_in low high n least most written = by (one_of id (rows_of f)) written
    where
      by : (o : Option (List ℕ)) → IsSomeAnd o (λ text. Writes text n)
          → IsSomeAnd o (λ text. IsNumeral 10 (without_leading_plus text) × (digits_value 10 (without_leading_plus text) ≡ n) × (low ≤ n) × (n ≤ high))
      by None h = h
      by (Some t) h = (h.0, h.1, least, most)

  -- one that is written there in bounds is the one that was read
  pub is_that : (low high n m : ℕ) → IsSomeAnd (one_of id (rows_of f)) (λ text. Writes text n)
      → IsNumberIn low high (rows_of f) id m → (m ≡ n) × (low ≤ m) × (m ≤ high)
  is_that low high n m written is = by (one_of id (rows_of f)) written is
    where
      by : (o : Option (List ℕ)) → IsSomeAnd o (λ text. Writes text n)
          → IsSomeAnd o (λ text. IsNumeral 10 (without_leading_plus text) × (digits_value 10 (without_leading_plus text) ≡ m) × (low ≤ m) × (m ≤ high))
          → (m ≡ n) × (low ≤ m) × (m ≤ high)
      by None h k = absurd h
      by (Some t) h k = (sym k.1 ∙ h.1, k.2, k.3)

  -- where none was read, none is written in bounds
  pub none_written : (low high n : ℕ) → high < 2 ^ 32 → ((t : List ℕ) → one_text f id ≡ Some t → ReadsOne Reads t None)
      → IsNumberIn low high (rows_of f) id n → ⊥
  none_written low high n fits value is =
      by (one_text f id) refl (subst (λ o. IsSomeAnd o (λ text. IsNumeral 10 (without_leading_plus text) × (digits_value 10 (without_leading_plus text) ≡ n) × (low ≤ n) × (n ≤ high))) (sym (one_text-rows f id)) is)
    where
      by : (o : Option (List ℕ)) → one_text f id ≡ o
          → IsSomeAnd o (λ text. IsNumeral 10 (without_leading_plus text) × (digits_value 10 (without_leading_plus text) ≡ n) × (low ≤ n) × (n ≤ high)) → ⊥
      by None e h = h
      by (Some t) e h =
          let read = value t e in
          read.1.0 (h.0, subst (λ x. x < 2 ^ 32) (sym h.1) (omega arith))
