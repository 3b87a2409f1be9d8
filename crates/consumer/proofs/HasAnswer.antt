-- A script and a trace have an answer.
use Rattle.std.proofs.Common.{◌≡◌, ◌<◌, ◌≤◌, ⊎_elim, inl, inr, ℕ, Bool, true, false, List}
use Rattle.std.proofs.Common.{length, Option, Some, None, refl, subst}
use Rattle.std.specs.Prelude.{Result, Ok, Err}
use Rattle.std.proofs.lemmas.Bool.{cases_lt}
use Rattle.firings.specs.declared.firing.Firing.{Firing}
use Rattle.firing_reader.specs.declared.fault.TraceFault.{TraceFault}
use Rattle.firing_reader.specs.Trace.{trace_of}
use Rattle.d_lexer.specs.declared.fault.LexFault.{LexFault}
use Rattle.d_lexer.specs.declared.fault.LexFault.TheVariants as lex
use Rattle.d_lexer.specs.declared.token.Token.{Token}
use Rattle.d_lexer.specs.Lexing.{AreTokens, IsFirstFault, IsLexed}
use Rattle.d_lexer.proofs.Public as lexer
use Rattle.d_parser.specs.declared.fault.ParseFault.TheVariants as parse
use Rattle.d_parser.specs.Steps.Depth.{is_deep}
use Rattle.d_parser.specs.Limits.{clauses}
use Rattle.d_parser.specs.Steps.ReadingScripts as reading
use Rattle.d_parser.specs.Script.{IsScript}
use Rattle.d_parser.specs.Tree.{ItemTree}
use Rattle.d_parser.proofs.CompleteScripts as complete
use Rattle.d_parser.proofs.Deep.{deep_is, not_deep}
use Rattle.d_parser.proofs.Sound.{IfSome}
use Rattle.d_parser.proofs.SoundScripts as sound
use Rattle.d_types.specs.declared.fault.TypeFault.{TypeFault}
use Rattle.d_types.specs.Checking.{IsChecked}
use Rattle.d_types.specs.Typed.{ScriptMeant}
use Rattle.d_types.proofs.Checked as types
use Rattle.replay_core.specs.Exit.{exit_status, history_over}
use Rattle.replay_core.specs.Layouts.{LayoutMeant, IsDeterministic}
use Rattle.consumer.specs.declared.refusal.Refusal.{Refusal}
use Rattle.consumer.specs.declared.refusal.Refusal.TheVariants.{Lex, Parse, Typing, Trace}
use Rattle.consumer.specs.Answer.{IsAnswer, Output}
use Rattle.consumer.specs.Scripts.{HasTokens, HasTree, IsAccepted}

abbrev HasSome : LayoutMeant → (script trace : List ℕ) → Type 0
HasSome shows script trace = (a : Result Output Refusal) × IsAnswer shows script trace a

module _ (shows : LayoutMeant) (each : IsDeterministic shows) (script trace : List ℕ) where
  over_trace : (m : ScriptMeant) → IsAccepted script m → (r : Result (List Firing) TraceFault) → trace_of trace ≡ r → HasSome shows script trace
  over_trace m a (Ok fs) e =
      let out = each.some m (history_over m fs) in
      let shown : Output = record { bytes = out.0; status = exit_status (history_over m fs) } in
      (Ok shown, (m, fs, record { accepted = a; reads = e }, record { bytes = out.1; status = refl }))
  over_trace m a (Err f) e = (Err (Trace f), ((m, a), e))

  of_tree : (items : List ItemTree) → HasTree script items → (r : Result ScriptMeant TypeFault) → IsChecked items r → HasSome shows script trace
  of_tree items tree (Ok m) e =
      over_trace m (record { items = items; tree = tree; means = e }) (trace_of trace) refl
  of_tree items tree (Err fault) e = (Err (Typing fault), record { items = items; tree = tree; refused = e })

  read : (tokens : List Token) → HasTokens script tokens → (r : Option (List ItemTree)) → reading.script_reader tokens ≡ r → HasSome shows script trace
  read tokens has None e =
      (Err (Parse (parse.Syntax 1)), (tokens, has, λ items spelled. let is = complete.script_complete items tokens spelled in cc))
  read tokens has (Some items) e =
      let spelled : IsScript items tokens = subst (IfSome (λ all. IsScript all tokens)) e (sound.script_sound tokens) in
      let checked = types.has_answer items in
      of_tree items (record { tokens = tokens; has = has; spelled = spelled }) checked.0 checked.1

  of_tokens : (tokens : List Token) → IsLexed script tokens → (deep : Bool) → is_deep 0 0 tokens ≡ deep → HasSome shows script trace
  of_tokens tokens lexed true e = (Err (Parse parse.TooDeep), (tokens, lexed, deep_is tokens e))
  of_tokens tokens lexed false e = ⊎_elim
      (λ (many : 256 < clauses tokens). (Err (Parse parse.TooManyClauses), (tokens, lexed, not_deep tokens e, many)))
      (λ (few : clauses tokens ≤ 256). read tokens (record { lexed = lexed; shallow = not_deep tokens e; few = few }) (reading.script_reader tokens) refl)
      (cases_lt 256 (clauses tokens))

  of_bytes : length script ≤ 65536 → HasSome shows script trace
  of_bytes short = ⊎_elim
      (λ (t : (ts : List Token) × AreTokens script ts). of_tokens t.0 (short, t.1) (is_deep 0 0 t.0) refl)
      (λ (f : (fault : LexFault) × IsFirstFault script fault). (Err (Lex f.0), inr (short, f.1)))
      (lexer.has_one script)

  pub has_answer : HasSome shows script trace
  has_answer = ⊎_elim
      (λ (long : 65536 < length script). (Err (Lex lex.TooLong), inl (refl, long)))
      (λ (short : length script ≤ 65536). of_bytes short)
      (cases_lt 65536 (length script))
