-- Which tokens spell an expression. A part is spelled at the front of a list of tokens; what comes
-- after it is left.
-- Source: Dynamic Tracing Guide, "Precedence" and "Associative Arrays".
use Rattle.std.specs.Prelude.{◌≡◌, ◌≤◌, ◌+◌, ℕ, zero, suc, List, ◌∷◌, ◌++◌, Some}
use Rattle.d_parser.specs.Vocabulary.{Mark, Token, TokenKind, Constant, DeclaredType, Variable}
use Rattle.d_parser.specs.Vocabulary.{WordKind, ASSIGNMENT, CONDITION, OR, UNARY}
use Rattle.d_parser.specs.Tree.{Tree, Known, Read, Call, Unary, Cast, Before, After, Binary, Choice}
use Rattle.d_parser.specs.Tree.{Assign, Trees, end, more}
use Rattle.d_parser.specs.Words.{word_kind, type_of_words}
use Rattle.d_parser.specs.Marks.{mark_and_level, assign_mark, unary_mark, step_mark}

-- what is at the front of a list, and what is left
abbrev pub Part : Type 1
Part = List Token → List Token → Type 0

-- one part, and then another
infixr 20 ◌⨟◌
abbrev pub ◌⨟◌ : Part → Part → Part
(P ⨟ Q) ts rest = (between : List Token) × P ts between × Q between rest

abbrev pub Nothing : Part
Nothing ts rest = ts ≡ rest

-- a token of this kind, on this line
pub record IsToken (k : TokenKind) (line : ℕ) (ts rest : List Token) : Type 0 where
  pub start : ℕ
  pub stop : ℕ
  pub is : ts ≡ record { kind = k; start = start; stop = stop; line = line } ∷ rest

-- this mark, on any line
pub record IsMark (mark : Mark) (ts rest : List Token) : Type 0 where
  pub line : ℕ
  pub begins : IsToken (TokenKind.Mark mark) line ts rest

-- a part between two marks
abbrev pub IsEnclosed : (opening closing : Mark) → Part → Part
IsEnclosed opening closing P = IsMark opening ⨟ P ⨟ IsMark closing

-- n pairs of parentheses round a part
abbrev pub Within : ℕ → Part → Part
Within zero P = P
Within (suc n) P = IsEnclosed Mark.OpenParenthesis Mark.CloseParenthesis (Within n P)

-- An expression of level k: parentheses round any expression, or without them what has that level
-- at least.
pub record IsOfLevel (Bare : Part) (own k : ℕ) (ts rest : List Token) : Type 0 where
  pub pairs : ℕ
  pub high : pairs ≡ 0 → k ≤ own
  pub within : Within pairs Bare ts rest

-- the level of a tree without parentheses
abbrev pub level : Tree → ℕ
level (Assign op x keys a) = ASSIGNMENT
level (Choice test a b) = CONDITION
level (Binary op a b) = (mark_and_level op).1
level (Unary line op a) = UNARY
level (Cast line to a) = UNARY
level (Before line step x keys) = UNARY
level t = UNARY + 1

abbrev pub constant_kind : Constant → TokenKind
constant_kind (Constant.Number value suffix) = TokenKind.Number value suffix
constant_kind (Constant.Text bytes) = TokenKind.TextConstant bytes

-- a word that stands for this, on this line
abbrev pub IsWord : WordKind → List ℕ → (line : ℕ) → Part
IsWord which word line ts rest =
    (word_kind word ≡ which) × IsToken (TokenKind.Word word) line ts rest

-- `self` or `this` on this line, an arrow and a word
abbrev pub IsMember : WordKind → List ℕ → (line : ℕ) → Part
IsMember which word line ts rest =
    (first : List ℕ) × (word_line : ℕ)
    × (IsWord which first line ⨟ IsMark Mark.Arrow ⨟ IsWord WordKind.Plain word word_line) ts rest

-- target = [ "self" "->" ] word [ "[" exprs "]" ] | "this" "->" word
abbrev pub IsTarget : Variable → Trees → (Keys : Part) → Part
IsTarget (Variable.Plain line name) keys Keys = IsWord WordKind.Plain name line ⨟ Keys
IsTarget (Variable.Thread line name) keys Keys = IsMember WordKind.Thread name line ⨟ Keys
IsTarget (Variable.Clause line name) keys Keys = λ ts rest.
    (keys ≡ end) × IsMember WordKind.Clause name line ts rest

-- words that spell the type
abbrev pub IsType : DeclaredType → Part
IsType t ts rest =
    (words : List Token) × (ts ≡ words ++ rest) × (type_of_words words ≡ Some t)

abbrev mutual
  -- The tokens spell the tree, with no parentheses round it. Above each clause is its line of the
  -- grammar (docs/GRAMMAR.md).
  pub Spells : Tree → Part
  -- post = number | text
  Spells (Known line constant) = IsToken (constant_kind constant) line
  -- post = target
  Spells (Read x keys) = IsTarget x keys (SpellsKeys keys)
  -- call = word "(" [ exprs ] ")"
  Spells (Call line name arguments) =
      IsWord WordKind.Plain name line
      ⨟ IsEnclosed Mark.OpenParenthesis Mark.CloseParenthesis (SpellsList arguments)
  -- unary = ( "!" | "~" | "-" | "+" ) unary
  Spells (Unary line op a) =
      IsToken (TokenKind.Mark (unary_mark op)) line ⨟ IsOfLevel (Spells a) (level a) UNARY
  -- unary = "(" int-type ")" unary
  Spells (Cast line to a) =
      IsToken (TokenKind.Mark Mark.OpenParenthesis) line ⨟ IsType (DeclaredType.Integer to)
      ⨟ IsMark Mark.CloseParenthesis ⨟ IsOfLevel (Spells a) (level a) UNARY
  -- unary = ( "++" | "--" ) target
  Spells (Before line step x keys) =
      IsToken (TokenKind.Mark (step_mark step)) line ⨟ IsTarget x keys (SpellsKeys keys)
  -- post = target ( "++" | "--" )
  Spells (After x keys step) = IsTarget x keys (SpellsKeys keys) ⨟ IsMark (step_mark step)
  -- binary, at the operator's level; all operators are left-associative
  Spells (Binary op a b) =
      IsOfLevel (Spells a) (level a) (mark_and_level op).1 ⨟ IsMark (mark_and_level op).0
      ⨟ IsOfLevel (Spells b) (level b) (suc (mark_and_level op).1)
  -- cond = binary "?" expr ":" cond
  Spells (Choice test a b) =
      IsOfLevel (Spells test) (level test) OR
      ⨟ IsMark Mark.Question ⨟ IsOfLevel (Spells a) (level a) ASSIGNMENT
      ⨟ IsMark Mark.Colon ⨟ IsOfLevel (Spells b) (level b) CONDITION
  -- expr = target assign-op expr
  Spells (Assign op x keys a) =
      IsTarget x keys (SpellsKeys keys) ⨟ IsMark (assign_mark op)
      ⨟ IsOfLevel (Spells a) (level a) ASSIGNMENT

  -- [ "[" exprs "]" ]
  pub SpellsKeys : Trees → Part
  SpellsKeys end = Nothing
  SpellsKeys (more a keys) =
      IsEnclosed Mark.OpenBracket Mark.CloseBracket
      (IsOfLevel (Spells a) (level a) ASSIGNMENT ⨟ SpellsMore keys)

  -- [ exprs ]
  pub SpellsList : Trees → Part
  SpellsList end = Nothing
  SpellsList (more a list) = IsOfLevel (Spells a) (level a) ASSIGNMENT ⨟ SpellsMore list

  -- { "," expr }
  pub SpellsMore : Trees → Part
  SpellsMore end = Nothing
  SpellsMore (more a list) =
      IsMark Mark.Comma ⨟ IsOfLevel (Spells a) (level a) ASSIGNMENT ⨟ SpellsMore list

abbrev pub IsExpression : Tree → Part
IsExpression t = IsOfLevel (Spells t) (level t) ASSIGNMENT
