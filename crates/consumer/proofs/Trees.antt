-- What `parse` returns of a script's tokens is the script's tree, or why it has none.
use Rattle.std.proofs.Common.{◌≡◌, ◌≢◌, ◌<◌, ◌≤◌, ◌⊎◌, ⊎_elim, inl, inr, ℕ, List, Some, refl}
use Rattle.std.specs.Prelude.{Result, Ok, Err, IfOk, MatchResult}
use Rattle.std.proofs.lemmas.Bool.{cases_lt}
use Rattle.d_lexer.specs.declared.token.Token.{Token}
use Rattle.d_lexer.specs.Lexing.{IsLexed}
use Rattle.d_parser.specs.declared.fault.ParseFault.{ParseFault}
use Rattle.d_parser.specs.declared.fault.ParseFault.TheVariants as parse
use Rattle.d_parser.specs.declared.tree.Script.{Script}
use Rattle.d_parser.specs.Limits.{IsDeep, OnlyLimits, clauses}
use Rattle.d_parser.specs.Reading.{Gives}
use Rattle.d_parser.specs.Script.{IsScript}
use Rattle.d_parser.specs.Tree.{ItemTree, script_of}
use Rattle.consumer.specs.declared.refusal.Refusal.TheVariants.{Memory, Parse}
use Rattle.consumer.specs.Refusals.{plain_refusal}
use Rattle.consumer.specs.Scripts.{HasTokens, HasTree, IsUnread}

-- no limit is passed where neither is reported
within : (script : List ℕ) (ts : List Token) (r : Result Script ParseFault) → IsLexed script ts → (IsDeep ts → r ≡ Err parse.TooDeep) → (¬ IsDeep ts → 256 < clauses ts → r ≡ Err parse.TooManyClauses) → r ≢ Err parse.TooDeep → r ≢ Err parse.TooManyClauses → HasTokens script ts
within script ts r lexed deep many not_deep not_many =
    let shallow : ¬ IsDeep ts = λ d. not_deep (deep d) in
    record {
      lexed = lexed;
      shallow = shallow;
      few = ⊎_elim (λ (over : 256 < clauses ts). absurd (not_many (many shallow over))) (λ (le : clauses ts ≤ 256). le) (cases_lt 256 (clauses ts));
    }

pub read_or_not : (script : List ℕ) (ts : List Token) (r : Result Script ParseFault) → IsLexed script ts → (IsDeep ts → r ≡ Err parse.TooDeep) → (¬ IsDeep ts → 256 < clauses ts → r ≡ Err parse.TooManyClauses) → OnlyLimits ts r → IfOk r (λ s. IsScript (script_of s) ts) → (¬ IsDeep ts → clauses ts ≤ 256 → (items : List ItemTree) → IsScript items ts → Gives script_of r (Some items)) → MatchResult r (λ s. HasTree script (script_of s)) (λ f. (plain_refusal (Parse f) ≡ Memory) ⊎ IsUnread script (plain_refusal (Parse f)))
read_or_not script ts (Ok s) lexed deep many passed found only =
    record { tokens = ts; has = within script ts (Ok s) lexed deep many (λ e. cc) (λ e. cc); spelled = found }
read_or_not script ts (Err parse.TooDeep) lexed deep many passed found only = inr (ts, lexed, passed)
read_or_not script ts (Err parse.TooManyClauses) lexed deep many passed found only = inr (ts, lexed, (λ d. let e = deep d in cc), passed)
read_or_not script ts (Err (parse.Syntax line)) lexed deep many passed found only =
    let has = within script ts (Err (parse.Syntax line)) lexed deep many (λ e. cc) (λ e. cc) in
    inr (ts, has, λ items spelled. let e = only has.shallow has.few items spelled in cc)
read_or_not script ts (Err parse.Memory) lexed deep many passed found only = inl refl
