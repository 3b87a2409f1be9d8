-- Which tokens spell a script: its declarations, and its clauses with their descriptions, predicate
-- and statements.
-- Source: Dynamic Tracing Guide, "D Program Structure".
use Rattle.std.specs.Prelude.{◌≡◌, ◌==◌, not, ℕ, true, false, List, [], ◌∷◌}
use Rattle.std.specs.Prelude.{◌++◌, replicate, Option, Some, None}
use Rattle.d_parser.specs.Vocabulary.{Mark, Token, TokenKind, DeclaredType, Description, WordKind}
use Rattle.d_parser.specs.Tree.{Tree, StmtTree, Expression, Aggregation, DeclarationTree}
use Rattle.d_parser.specs.Tree.{OfThread, OfClause, ClauseTree, ItemTree, Declared, Probing}
use Rattle.d_parser.specs.Grammar.{Part, ◌⨟◌, Nothing, IsToken, IsMark, IsEnclosed, IsWord, IsType}
use Rattle.d_parser.specs.Grammar.{IsExpression, SpellsKeys, SpellsList}
use Rattle.std.specs.{Str.byte, List.join_with_byte, List.filter_map}
pub use Rattle.std.specs.{List.list_all, Char.is_ascii_digit}

-- ---- lists

-- each with the mark before it
abbrev pub EachAfter : {A : Type 0} → Mark → (A → Part) → List A → Part
EachAfter mark Is [] = Nothing
EachAfter mark Is (x ∷ xs) = IsMark mark ⨟ Is x ⨟ EachAfter mark Is xs

-- one at least, with the mark between them
abbrev pub SeparatedBy : {A : Type 0} → Mark → (A → Part) → List A → Part
SeparatedBy mark Is [] = λ ts rest. ⊥
SeparatedBy mark Is (x ∷ xs) = Is x ⨟ EachAfter mark Is xs

-- ---- statements

abbrev pub IsStmt : StmtTree → Part
-- stmt = expr
IsStmt (Expression t) = IsExpression t
-- stmt = aggregation [ "[" exprs "]" ] "=" word "(" [ exprs ] ")"
IsStmt (Aggregation line name keys function arguments) = λ ts rest. (word_line : ℕ)
    × (IsToken (TokenKind.AggregationName name) line ⨟ SpellsKeys keys ⨟ IsMark Mark.Assign
    ⨟ IsToken (TokenKind.Word function) word_line
    ⨟ IsEnclosed Mark.OpenParenthesis Mark.CloseParenthesis (SpellsList arguments)) ts rest

-- [ stmt ]
abbrev pub IsOptionalStmt : Option StmtTree → Part
IsOptionalStmt None = Nothing
IsOptionalStmt (Some s) = IsStmt s

-- [ stmt ] { ";" [ stmt ] }: the statements that are there
abbrev pub AreStmts : List StmtTree → Part
AreStmts stmts ts rest =
    (optionals : List (Option StmtTree)) × (stmts ≡ filter_map (λ s. s) optionals)
    × SeparatedBy Mark.Semicolon IsOptionalStmt optionals ts rest

-- ---- clauses

-- One run, not of digits alone, that gives the last fields; those missing before them are empty.
pub record IsDescription (d : Description) (ts rest : List Token) : Type 0 where
  pub run : List ℕ
  pub line : ℕ
  pub missing : ℕ
  pub given : List (List ℕ)
  pub begins : IsToken (TokenKind.DescriptionRun run) line ts rest
  pub named : list_all is_ascii_digit run ≡ false
  pub is : run ≡ join_with_byte (byte ":") given
  pub apart : list_all (list_all (λ b. not (b == byte ":"))) given ≡ true
  pub are : (d.provider ∷ d.«module» ∷ d.function ∷ d.name ∷ []) ≡ replicate missing [] ++ given

-- [ "/" expr "/" ]
abbrev pub IsPredicate : Option Tree → Part
IsPredicate None = Nothing
IsPredicate (Some t) = IsEnclosed Mark.Slash Mark.ClosingSlash (IsExpression t)

-- clause = desc { "," desc } [ "/" expr "/" ] "{" [ stmt ] { ";" [ stmt ] } "}"
abbrev pub IsClause : ClauseTree → Part
IsClause c =
    SeparatedBy Mark.Comma IsDescription c.descriptions ⨟ IsPredicate c.predicate
    ⨟ IsEnclosed Mark.OpenBrace Mark.CloseBrace (AreStmts c.statements)

-- ---- declarations

-- [ "[" type { "," type } "]" ]
abbrev pub AreKeyTypes : List DeclaredType → Part
AreKeyTypes [] = Nothing
AreKeyTypes (t ∷ all) =
    IsEnclosed Mark.OpenBracket Mark.CloseBracket (SeparatedBy Mark.Comma IsType (t ∷ all))

-- `self` or `this` on this line, a type, a name that may be a reserved word, perhaps key types, and
-- a semicolon
abbrev pub IsDeclared : WordKind → ℕ → DeclaredType → List ℕ → List DeclaredType → Part
IsDeclared which line t name keys ts rest =
    (first : List ℕ) × (word_line : ℕ)
    × (IsWord which first line ⨟ IsType t ⨟ IsToken (TokenKind.Word name) word_line
    ⨟ AreKeyTypes keys ⨟ IsMark Mark.Semicolon) ts rest

abbrev pub IsDeclaration : DeclarationTree → Part
-- decl = "self" type word [ "[" type { "," type } "]" ] ";"
IsDeclaration (OfThread line t name keys) = IsDeclared WordKind.Thread line t name keys
-- decl = "this" type word ";"
IsDeclaration (OfClause line t name) = IsDeclared WordKind.Clause line t name []

-- ---- scripts

-- item = decl | clause
abbrev pub IsItem : ItemTree → Part
IsItem (Declared d) = IsDeclaration d
IsItem (Probing c) = IsClause c

-- script = { item }
abbrev pub IsScript : List ItemTree → List Token → Type 0
IsScript [] ts = ts ≡ []
IsScript (item ∷ items) ts = (rest : List Token) × IsItem item ts rest × IsScript items rest
