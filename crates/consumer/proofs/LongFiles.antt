-- The script in a file that is read until it is too long.
use Rattle.std.proofs.Common.{◌≡◌, ◌<◌, ◌≤◌, ⊎_elim, inl, inr, ℕ, List, Option, None, Some}
use Rattle.std.proofs.Common.{Result, Ok, Err, IfSome, OnOk, length, length-append, refl, ap, ◌∙◌, subst, arith}
use Rattle.std.proofs.Common.{rules}
use Rattle.d_lexer.specs.declared.fault.LexFault.{LexFault}
use Rattle.d_lexer.specs.declared.fault.LexFault.TheVariants as lex
use Rattle.d_lexer.specs.declared.token.Token.{Token}
use Rattle.d_lexer.specs.Lexing.{IsFirstFault, IsLexed, IsRefused}
use Rattle.d_parser.specs.declared.fault.ParseFault.{ParseFault}
use Rattle.d_parser.specs.declared.fault.ParseFault.TheVariants as parse
use Rattle.replay_core.specs.Layouts.{LayoutMeant}
use Rattle.streams.specs.Stream.{SinkSeen}
use Rattle.consumer.specs.declared.consuming.ConsumeFault.{ConsumeFault}
use Rattle.consumer.specs.declared.plan.Plan.{Plan}
use Rattle.consumer.specs.declared.plan.Replayed.{Replayed}
use Rattle.consumer.specs.declared.refusal.Refusal.{Refusal}
use Rattle.consumer.specs.declared.refusal.Refusal.TheVariants.{Lex, Parse, Typing, Trace, Group}
use Rattle.consumer.specs.declared.refusal.Refusal.TheVariants.{Memory}
use Rattle.consumer.specs.Consuming.{HoldsOfInput, WritesAnswer}
use Rattle.consumer.specs.Replaying.{IsRefusalUnder, IsReplay}
use Rattle.consumer.specs.{Steps.Judging.IsJudged, Vocabulary.TypedScript}
use Rattle.consumer.specs.Scripts.{IsParseFault}
use Rattle.consumer.specs.Steps.Files.{IsScriptIn}
use Rattle.consumer.proofs.Refusing.{refused}

-- ---- scripts that are too long are refused alike

module _ (script all : List ℕ) (long : 65536 < length script) (all_long : 65536 < length all) where
  unlexed : (tokens : List Token) → IsLexed script tokens → ⊥
  unlexed tokens is = let short = is.0 in omega arith

  refused_alike : (fault : LexFault) → IsRefused script fault → IsRefused all fault
  refused_alike fault r =
      ⊎_elim (λ (own : (fault ≡ lex.TooLong) × (65536 < length script)). inl (own.0, all_long))
      (λ (own : (length script ≤ 65536) × IsFirstFault script fault). let short = own.0 in absurd (omega arith)) r

  parsed_alike : (fault : ParseFault) → IsParseFault script fault → IsParseFault all fault
  parsed_alike parse.TooDeep p = absurd (unlexed p.0 p.1)
  parsed_alike parse.TooManyClauses p = absurd (unlexed p.0 p.1)
  parsed_alike (parse.Syntax line) p = absurd (unlexed p.0 p.1.lexed)
  parsed_alike parse.Memory p = p

  -- a script is judged as a longer one is
  pub judged_alike : (judged : Result TypedScript Refusal) (trace rest : List ℕ) → IsJudged script judged → IsJudged all judged × OnOk judged (trace ≡ rest)
  judged_alike (Ok typed) trace rest is = let tree = is.tree in absurd (unlexed tree.tokens tree.has.lexed)
  judged_alike (Err (Lex fault)) trace rest is = (refused_alike fault is, tt)
  judged_alike (Err (Parse fault)) trace rest is = (parsed_alike fault is, tt)
  judged_alike (Err (Typing fault)) trace rest is = let tree = is.tree in absurd (unlexed tree.tokens tree.has.lexed)
  judged_alike (Err (Trace fault)) trace rest is = absurd is
  judged_alike (Err (Group fault)) trace rest is = absurd is
  judged_alike (Err Memory) trace rest is = (tt, tt)

  reason_alike : (trace : List ℕ) (plan : Plan) (e : Refusal) → IsRefusalUnder plan script trace e → IsRefusalUnder plan all trace e
  reason_alike trace plan (Lex fault) is = refused_alike fault is
  reason_alike trace plan (Parse fault) is = parsed_alike fault is
  reason_alike trace plan (Typing fault) is = let tree = is.tree in absurd (unlexed tree.tokens tree.has.lexed)
  reason_alike trace plan (Trace fault) is = let tree = is.0.1.tree in absurd (unlexed tree.tokens tree.has.lexed)
  reason_alike trace plan (Group fault) is = let tree = is.2.accepted.tree in absurd (unlexed tree.tokens tree.has.lexed)
  reason_alike trace plan Memory is = tt

  replayed_alike : (shows : LayoutMeant) (trace : List ℕ) (plan : Plan) (answer : Result Replayed Refusal) → IsReplay shows script trace plan answer
      → IsReplay shows all trace plan answer
  replayed_alike shows trace plan (Ok r) is = let tree = is.answer.2.accepted.tree in absurd (unlexed tree.tokens tree.has.lexed)
  replayed_alike shows trace plan (Err e) is = refused shows all trace plan e (reason_alike trace plan e is.fault)

-- ---- what is written for a beginning that is too long is written for the file

module _ (shows : LayoutMeant) (script trace : List ℕ) (plan : Plan) (old new : SinkSeen) (result : Result Replayed ConsumeFault) where
  written_for : (all : List ℕ) → IsScriptIn all script → WritesAnswer shows script trace plan old new result → WritesAnswer shows all trace plan old new result
  written_for all (inl is) w = subst (λ s. WritesAnswer shows s trace plan old new result) is w
  written_for all (inr (long, rest, is)) w =
      let size = ap length is ∙ length-append script rest in
      let all_long : 65536 < length all = omega arith in
      record { answer = w.answer; is = replayed_alike script all long all_long shows trace plan w.answer w.is; out = w.out }

  pub holds_of_file : (holds : Option (List ℕ)) → IfSome holds (λ all. IsScriptIn all script) → WritesAnswer shows script trace plan old new result
      → HoldsOfInput holds (λ s. WritesAnswer shows s trace plan old new result)
  holds_of_file None is w = record { input = script; read = search rules; holds = w }
  holds_of_file (Some all) is w = record { input = all; read = refl; holds = written_for all is w }
