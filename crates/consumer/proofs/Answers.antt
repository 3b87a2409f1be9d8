-- A script and a trace have one answer.
use Rattle.std.proofs.Common.{◌≡◌, ◌<◌, ◌≤◌, ⊎_elim, ℕ, List, length, refl, sym, ap, ◌∙◌, subst}
use Rattle.std.proofs.Common.{arith}
use Rattle.std.specs.Prelude.{Result, Ok, Err}
use Rattle.d_lexer.specs.declared.fault.LexFault.{LexFault}
use Rattle.d_lexer.specs.declared.fault.LexFault.TheVariants as lex
use Rattle.d_lexer.specs.declared.token.Token.{Token}
use Rattle.d_lexer.specs.Lexing.{IsFirstFault, IsLexed, IsRefused}
use Rattle.d_lexer.proofs.Public as lexer
use Rattle.d_parser.specs.declared.fault.ParseFault.{ParseFault}
use Rattle.d_parser.specs.declared.fault.ParseFault.TheVariants as parse
use Rattle.d_parser.specs.Limits.{IsDeep, clauses}
use Rattle.d_parser.specs.Script.{IsScript}
use Rattle.d_parser.specs.Tree.{ItemTree}
use Rattle.d_parser.proofs.CompleteScripts.{one_script}
use Rattle.d_types.specs.declared.fault.TypeFault.{TypeFault}
use Rattle.d_types.specs.Checking.{IsChecked}
use Rattle.d_types.specs.Typed.{ScriptMeant}
use Rattle.d_types.specs.Clauses.{Made}
use Rattle.firings.specs.declared.firing.Firing.{Firing}
use Rattle.d_types.proofs.Checked as types
use Rattle.replay_core.specs.Layouts.{LayoutMeant}
use Rattle.consumer.specs.declared.refusal.Refusal.{Refusal}
use Rattle.consumer.specs.declared.refusal.Refusal.TheVariants.{Lex, Parse, Typing, Trace, Group}
use Rattle.consumer.specs.declared.refusal.Refusal.TheVariants.{Memory}
use Rattle.consumer.specs.Answer.{IsAnswer, IsRefusal, IsSameAnswer, HasOutput, Denote, Output}
use Rattle.consumer.specs.Answer.{without_line}
use Rattle.consumer.specs.Scripts.{HasTree, IsAccepted, IsMistyped, IsParseFault, IsScriptFault}
use Rattle.consumer.specs.Scripts.{IsUnread}

-- ---- one tree

same_tokens : (script : List ℕ) (ts us : List Token) → IsLexed script ts → IsLexed script us → ts ≡ us
same_tokens script ts us a b = lexer.one_list script ts us a.1 b.1

lexed_not_refused : (script : List ℕ) (ts : List Token) (f : LexFault) → IsLexed script ts → ¬ IsRefused script f
lexed_not_refused script ts f a r =
    ⊎_elim (λ (long : (f ≡ lex.TooLong) × (65536 < length script)). let short = a.0 in let many = long.1 in absurd (omega arith))
    (λ (own : (length script ≤ 65536) × IsFirstFault script f). lexer.not_both script ts f a.1 own.1) r

same_lex_fault : (script : List ℕ) (f g : LexFault) → IsRefused script f → IsRefused script g → f ≡ g
same_lex_fault script f g a b =
    ⊎_elim
    (λ (x : (f ≡ lex.TooLong) × (65536 < length script)). ⊎_elim
    (λ (y : (g ≡ lex.TooLong) × (65536 < length script)). x.0 ∙ sym y.0)
    (λ (y : (length script ≤ 65536) × IsFirstFault script g). let long = x.1 in let short = y.0 in absurd (omega arith)) b)
    (λ (x : (length script ≤ 65536) × IsFirstFault script f). ⊎_elim
    (λ (y : (g ≡ lex.TooLong) × (65536 < length script)). let short = x.0 in let long = y.1 in absurd (omega arith))
    (λ (y : (length script ≤ 65536) × IsFirstFault script g). lexer.one_fault script f g x.1 y.1) b)
    a

same_tree : (script : List ℕ) (xs ys : List ItemTree) → HasTree script xs → HasTree script ys → xs ≡ ys
same_tree script xs ys a b =
    let tokens = same_tokens script b.tokens a.tokens b.has.lexed a.has.lexed in
    one_script a.tokens xs ys a.spelled (subst (IsScript ys) tokens b.spelled)

-- a script with a tree isn't refused
tree_not_refused : (script : List ℕ) (xs : List ItemTree) (e : Refusal) → HasTree script xs → ¬ IsUnread script e
tree_not_refused script xs (Lex f) a r = lexed_not_refused script a.tokens f a.has.lexed r
tree_not_refused script xs (Parse parse.TooDeep) a r =
    let tokens = same_tokens script r.0 a.tokens r.1 a.has.lexed in
    a.has.shallow (subst IsDeep tokens r.2)
tree_not_refused script xs (Parse parse.TooManyClauses) a r =
    let tokens = same_tokens script r.0 a.tokens r.1 a.has.lexed in
    let many : 256 < clauses a.tokens = subst (λ ts. 256 < clauses ts) tokens r.3 in
    let few = a.has.few in
    absurd (omega arith)
tree_not_refused script xs (Parse (parse.Syntax line)) a r =
    let tokens = same_tokens script a.tokens r.0 a.has.lexed r.1.lexed in
    r.2 xs (subst (IsScript xs) tokens a.spelled)
tree_not_refused script xs (Parse parse.Memory) a r = r
tree_not_refused script xs (Typing f) a r = r
tree_not_refused script xs (Trace f) a r = r
tree_not_refused script xs (Group f) a r = r
tree_not_refused script xs Memory a r = r

-- ---- one fault of the parser, but for the line

lexed_in : (script : List ℕ) (f : ParseFault) → IsParseFault script f → (ts : List Token) × IsLexed script ts
lexed_in script parse.TooDeep r = (r.0, r.1)
lexed_in script parse.TooManyClauses r = (r.0, r.1)
lexed_in script (parse.Syntax line) r = (r.0, r.1.lexed)
lexed_in script parse.Memory r = absurd r

deep_alone : (script : List ℕ) (ts us : List Token) → IsLexed script ts → IsLexed script us → IsDeep ts → ¬ IsDeep us → ⊥
deep_alone script ts us a b deep shallow = shallow (subst IsDeep (same_tokens script ts us a b) deep)

many_alone : (script : List ℕ) (ts us : List Token) → IsLexed script ts → IsLexed script us → 256 < clauses ts → clauses us ≤ 256 → ⊥
many_alone script ts us a b many few =
    let both : 256 < clauses us = subst (λ l. 256 < clauses l) (same_tokens script ts us a b) many in
    absurd (omega arith)

same_parse_fault : (script : List ℕ) (f g : ParseFault) → IsParseFault script f → IsParseFault script g → without_line (Parse f) ≡ without_line (Parse g)
same_parse_fault script parse.TooDeep parse.TooDeep a b = refl
same_parse_fault script parse.TooDeep parse.TooManyClauses a b = absurd (deep_alone script a.0 b.0 a.1 b.1 a.2 b.2)
same_parse_fault script parse.TooDeep (parse.Syntax line) a b = absurd (deep_alone script a.0 b.0 a.1 b.1.lexed a.2 b.1.shallow)
same_parse_fault script parse.TooDeep parse.Memory a b = absurd b
same_parse_fault script parse.TooManyClauses parse.TooDeep a b = absurd (deep_alone script b.0 a.0 b.1 a.1 b.2 a.2)
same_parse_fault script parse.TooManyClauses parse.TooManyClauses a b = refl
same_parse_fault script parse.TooManyClauses (parse.Syntax line) a b = absurd (many_alone script a.0 b.0 a.1 b.1.lexed a.3 b.1.few)
same_parse_fault script parse.TooManyClauses parse.Memory a b = absurd b
same_parse_fault script (parse.Syntax line) parse.TooDeep a b = absurd (deep_alone script b.0 a.0 b.1 a.1.lexed b.2 a.1.shallow)
same_parse_fault script (parse.Syntax line) parse.TooManyClauses a b = absurd (many_alone script b.0 a.0 b.1 a.1.lexed b.3 a.1.few)
same_parse_fault script (parse.Syntax line) (parse.Syntax other) a b = refl
same_parse_fault script (parse.Syntax line) parse.Memory a b = absurd b
same_parse_fault script parse.Memory g a b = absurd a

-- ---- one first fault of the types

accepted_not_mistyped : (script : List ℕ) (m : ScriptMeant) (f : TypeFault) → IsAccepted script m → ¬ IsMistyped script f
accepted_not_mistyped script m f a n =
    let refused = subst (λ all. IsChecked all (Err f)) (same_tree script n.items a.items n.tree a.tree) n.refused in
    let never = types.one_answer a.items (Ok m) (Err f) a.means refused in
    cc

same_type_fault : (script : List ℕ) (f g : TypeFault) → IsMistyped script f → IsMistyped script g → f ≡ g
same_type_fault script f g a b =
    let refused = subst (λ all. IsChecked all (Err g)) (same_tree script b.items a.items b.tree a.tree) b.refused in
    let same = types.one_answer a.items (Err f) (Err g) a.refused refused in
    cc

-- an accepted script isn't refused
accepted_not_refused : (script : List ℕ) (m : ScriptMeant) (e : Refusal) → IsAccepted script m → ¬ IsScriptFault script e
accepted_not_refused script m (Typing f) a r = accepted_not_mistyped script m f a r
accepted_not_refused script m (Lex f) a r = tree_not_refused script a.items (Lex f) a.tree r
accepted_not_refused script m (Parse f) a r = tree_not_refused script a.items (Parse f) a.tree r
accepted_not_refused script m (Trace f) a r = r
accepted_not_refused script m (Group f) a r = r
accepted_not_refused script m Memory a r = r

-- where something is refused there is no run
pub no_run : (script trace : List ℕ) (e : Refusal) → IsRefusal script trace e → (m : ScriptMeant) (firings : List Firing) → ¬ Denote script trace m firings
no_run script trace (Trace f) r m firings is = let read = is.reads in let refused = r.1 in cc
no_run script trace (Lex f) r m firings is = accepted_not_refused script m (Lex f) is.accepted r
no_run script trace (Parse f) r m firings is = accepted_not_refused script m (Parse f) is.accepted r
no_run script trace (Typing f) r m firings is = accepted_not_refused script m (Typing f) is.accepted r
no_run script trace (Group f) r m firings is = r
no_run script trace Memory r m firings is = r

-- ---- one run

pub same_meaning : (script : List ℕ) (m n : ScriptMeant) → IsAccepted script m → IsAccepted script n → m ≡ n
same_meaning script m n a b =
    let means = subst (λ all. IsChecked all (Ok n)) (same_tree script b.items a.items b.tree a.tree) b.means in
    let same = types.one_answer a.items (Ok m) (Ok n) a.means means in
    cc

-- each run is shown by one text at most
abbrev pub ShowsOne : LayoutMeant → Type 0
ShowsOne shows = (m : ScriptMeant) (run : List (Firing × Made)) (xs ys : List ℕ) → shows m run xs → shows m run ys → xs ≡ ys

same_shown : (shows : LayoutMeant) → ShowsOne shows → (script trace : List ℕ) (x y : Output) → IsAnswer shows script trace (Ok x) → IsAnswer shows script trace (Ok y) → IsSameAnswer (Ok x) (Ok y)
same_shown shows one script trace x y o p =
    let meaning = same_meaning script p.0 o.0 p.2.accepted o.2.accepted in
    let read = p.2.reads in
    let read' = o.2.reads in
    let firings : p.1 ≡ o.1 = cc in
    let shown : HasOutput shows o.0 o.1 y = subst (λ m. HasOutput shows m o.1 y) meaning (subst (λ fs. HasOutput shows p.0 fs y) firings p.3) in
    (one o.0 _ x.bytes y.bytes o.3.bytes shown.bytes, o.3.status ∙ sym shown.status)

-- ---- one answer

same_refusal : (script trace : List ℕ) (e f : Refusal) → IsRefusal script trace e → IsRefusal script trace f → without_line e ≡ without_line f
same_refusal script trace (Lex f) (Lex g) o p = ap Lex (same_lex_fault script f g o p)
same_refusal script trace (Lex f) (Parse g) o p = let l = lexed_in script g p in absurd (lexed_not_refused script l.0 f l.1 o)
same_refusal script trace (Lex f) (Typing g) o p = absurd (tree_not_refused script p.items (Lex f) p.tree o)
same_refusal script trace (Lex f) (Trace g) o p = absurd (accepted_not_refused script p.0.0 (Lex f) p.0.1 o)
same_refusal script trace (Lex f) (Group g) o p = absurd p
same_refusal script trace (Lex f) Memory o p = absurd p
same_refusal script trace (Parse f) (Lex g) o p = let l = lexed_in script f o in absurd (lexed_not_refused script l.0 g l.1 p)
same_refusal script trace (Parse f) (Parse g) o p = same_parse_fault script f g o p
same_refusal script trace (Parse f) (Typing g) o p = absurd (tree_not_refused script p.items (Parse f) p.tree o)
same_refusal script trace (Parse f) (Trace g) o p = absurd (accepted_not_refused script p.0.0 (Parse f) p.0.1 o)
same_refusal script trace (Parse f) (Group g) o p = absurd p
same_refusal script trace (Parse f) Memory o p = absurd p
same_refusal script trace (Typing f) (Lex g) o p = absurd (tree_not_refused script o.items (Lex g) o.tree p)
same_refusal script trace (Typing f) (Parse g) o p = absurd (tree_not_refused script o.items (Parse g) o.tree p)
same_refusal script trace (Typing f) (Typing g) o p = ap Typing (same_type_fault script f g o p)
same_refusal script trace (Typing f) (Trace g) o p = absurd (accepted_not_refused script p.0.0 (Typing f) p.0.1 o)
same_refusal script trace (Typing f) (Group g) o p = absurd p
same_refusal script trace (Typing f) Memory o p = absurd p
same_refusal script trace (Trace f) (Lex g) o p = absurd (accepted_not_refused script o.0.0 (Lex g) o.0.1 p)
same_refusal script trace (Trace f) (Parse g) o p = absurd (accepted_not_refused script o.0.0 (Parse g) o.0.1 p)
same_refusal script trace (Trace f) (Typing g) o p = absurd (accepted_not_refused script o.0.0 (Typing g) o.0.1 p)
same_refusal script trace (Trace f) (Trace g) o p =
    let refused = o.1 in
    let refused' = p.1 in
    let same : f ≡ g = cc in
    ap Trace same
same_refusal script trace (Trace f) (Group g) o p = absurd p
same_refusal script trace (Trace f) Memory o p = absurd p
same_refusal script trace (Group f) e o p = absurd o
same_refusal script trace Memory e o p = absurd o

pub one_answer : (shows : LayoutMeant) → ShowsOne shows → (script trace : List ℕ) (a b : Result Output Refusal) → IsAnswer shows script trace a → IsAnswer shows script trace b
    → IsSameAnswer a b
one_answer shows one script trace (Ok x) (Ok y) o p = same_shown shows one script trace x y o p
one_answer shows one script trace (Ok x) (Err f) o p = absurd (no_run script trace f p o.0 o.1 o.2)
one_answer shows one script trace (Err e) (Ok y) o p = absurd (no_run script trace e o p.0 p.1 p.2)
one_answer shows one script trace (Err e) (Err f) o p = same_refusal script trace e f o p
