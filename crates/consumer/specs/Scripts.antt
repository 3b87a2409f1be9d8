-- From the bytes of a script to its tree and its types, or why it has none.
use Rattle.std.specs.Prelude.{◌≤◌, ◌<◌, ℕ, List, Ok, Err}
use Rattle.d_parser.specs.{Limits.IsDeep, Limits.clauses, Script.IsScript, Tree.ItemTree}
use Rattle.d_types.specs.Checking.{IsChecked}
use Rattle.consumer.specs.Vocabulary.{Token, IsLexed, IsRefused, ParseFault, MAX_CLAUSES}
use Rattle.consumer.specs.Vocabulary.{TypeFault, ScriptMeant, Refusal, Lex, Parse, Typing}

-- these are the script's tokens, and no limit is passed
pub record HasTokens (script : List ℕ) (tokens : List Token) : Type 0 where
  pub lexed : IsLexed script tokens
  pub shallow : ¬ IsDeep tokens
  pub few : clauses tokens ≤ MAX_CLAUSES

-- this is the script's tree
pub record HasTree (script : List ℕ) (items : List ItemTree) : Type 0 where
  pub tokens : List Token
  pub has : HasTokens script tokens
  pub spelled : IsScript items tokens

-- why the tokens have no tree: a limit is passed, or else they spell none
abbrev pub IsParseFault : List ℕ → ParseFault → Type 0
IsParseFault script ParseFault.TooDeep =
    (tokens : List Token) × IsLexed script tokens × IsDeep tokens
IsParseFault script ParseFault.TooManyClauses =
    (tokens : List Token) × IsLexed script tokens
    × (¬ IsDeep tokens) × (MAX_CLAUSES < clauses tokens)
IsParseFault script (ParseFault.Syntax line) =
    (tokens : List Token) × HasTokens script tokens
    × ((items : List ItemTree) → ¬ IsScript items tokens)
IsParseFault script ParseFault.Memory = ⊥

-- why the script has no tree
abbrev pub IsUnread : List ℕ → Refusal → Type 0
IsUnread script (Lex f) = IsRefused script f
IsUnread script (Parse f) = IsParseFault script f
IsUnread script e = ⊥

-- ---- its types

-- the script has a tree, and this is the first fault of its types
pub record IsMistyped (script : List ℕ) (fault : TypeFault) : Type 0 where
  pub items : List ItemTree
  pub tree : HasTree script items
  pub refused : IsChecked items (Err fault)

-- the first reason for which the script is refused
abbrev pub IsScriptFault : List ℕ → Refusal → Type 0
IsScriptFault script (Typing f) = IsMistyped script f
IsScriptFault script e = IsUnread script e

-- the script is well typed with six registers, and this is what it means
pub record IsAccepted (script : List ℕ) (m : ScriptMeant) : Type 0 where
  pub items : List ItemTree
  pub tree : HasTree script items
  pub means : IsChecked items (Ok m)
