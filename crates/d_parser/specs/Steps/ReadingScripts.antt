-- The script that a list of tokens spells, read from left to right.
use Rattle.std.specs.Prelude.{ℕ, zero, suc, ◌+◌, Bool, true, if◌then◌else◌, List, [], ◌∷◌, ◌++◌}
use Rattle.std.specs.Prelude.{length, Option, Some, None}
use Rattle.d_parser.specs.Vocabulary.{Mark, Token, TokenKind, ASSIGNMENT, DeclaredType, Description}
use Rattle.d_parser.specs.Vocabulary.{WordKind}
use Rattle.d_parser.specs.Tree.{Tree, StmtTree, Expression, Aggregation, DeclarationTree, OfThread}
use Rattle.d_parser.specs.Tree.{OfClause, ClauseTree, ItemTree, Declared, Probing}
use Rattle.d_parser.specs.Words.{word_kind, type_of_words}
use Rattle.d_parser.specs.Steps.Words.{run, after_run}
use Rattle.d_parser.specs.Steps.Reading.{◌>>=◌, Reader, after_mark, readers, keys, arguments}
use Rattle.d_parser.specs.Steps.Script.{description_of}
use Rattle.d_parser.specs.Steps.Marks.{is_at, tail}

-- ---- statements

abbrev pub word_by : TokenKind → Reader (List ℕ)
word_by (TokenKind.Word word) ts = Some (word, ts)
word_by t ts = None

-- a word, reserved or not
unfoldable pub any_word : Reader (List ℕ)
any_word [] = None
any_word (t ∷ ts) = word_by t.kind ts

-- the word between `=` and an opening parenthesis
unfoldable pub aggregating_word : Reader (List ℕ)
aggregating_word ts =
    after_mark Mark.Assign ts >>= λ rest. any_word rest >>= λ word.
    after_mark Mark.OpenParenthesis word.1 >>= λ list. Some (word.0, list)

-- after the name of an aggregation
unfoldable pub aggregation : ℕ → ℕ → List ℕ → Reader StmtTree
aggregation n line name ts =
    keys (readers n) ts >>= λ keys. aggregating_word keys.1 >>= λ function.
    arguments (readers n) function.1 >>= λ all.
    Some (Aggregation line name keys.0 function.0 all.0, all.1)

abbrev pub expression : ℕ → Reader StmtTree
expression n ts = (readers n).expr ASSIGNMENT ts >>= λ x. Some (Expression x.0, x.1)

abbrev pub stmt_by : ℕ → TokenKind → ℕ → List Token → Reader StmtTree
stmt_by n (TokenKind.AggregationName name) line later ts = aggregation n line name later
stmt_by n t line later ts = expression n ts

unfoldable pub stmt : ℕ → Reader StmtTree
stmt n [] = None
stmt n (t ∷ ts) = stmt_by n t.kind t.line ts (t ∷ ts)

-- a semicolon or a brace ends a statement
abbrev pub ends_stmt : List Token → Bool
ends_stmt ts = if is_at Mark.Semicolon ts then true else is_at Mark.CloseBrace ts

-- these statements, and the one at the front if there is one
unfoldable pub optional_stmt : ℕ → List StmtTree → Reader (List StmtTree)
optional_stmt n all ts =
    if ends_stmt ts then Some (all, ts) else (stmt n ts >>= λ s. Some (all ++ s.0 ∷ [], s.1))

-- the statements after semicolons, `turns` of them at most
unfoldable pub stmts_tail : ℕ → ℕ → List StmtTree → Reader (List StmtTree)
stmts_tail n zero all ts = None
stmts_tail n (suc turns) all ts =
    if is_at Mark.CloseBrace ts
    then Some (all, tail ts)
    else (after_mark Mark.Semicolon ts >>= λ rest. optional_stmt n all rest >>= λ x.
    stmts_tail n turns x.0 x.1)

unfoldable pub stmts : ℕ → Reader (List StmtTree)
stmts n ts = optional_stmt n [] ts >>= λ x. stmts_tail n n x.0 x.1

-- ---- clauses

abbrev pub with_rest : {A : Type 0} → List Token → Option A → Option (A × List Token)
with_rest ts None = None
with_rest ts (Some x) = Some (x, ts)

abbrev pub description_by : TokenKind → Reader Description
description_by (TokenKind.DescriptionRun run) ts = with_rest ts (description_of run)
description_by t ts = None

unfoldable pub description : Reader Description
description [] = None
description (t ∷ ts) = description_by t.kind ts

-- the description after a comma, and then the next ones
unfoldable pub descriptions_tail_on : (List Description → Reader (List Description))
    → List Description → Reader (List Description)
descriptions_tail_on next all ts =
    if is_at Mark.Comma ts then (description (tail ts) >>= λ d. next (all ++ d.0 ∷ []) d.1)
    else Some (all, ts)

-- the descriptions after commas, `turns` of them at most
abbrev pub descriptions_tail : ℕ → List Description → Reader (List Description)
descriptions_tail zero all ts = None
descriptions_tail (suc turns) all ts = descriptions_tail_on (descriptions_tail turns) all ts

unfoldable pub descriptions_reader : ℕ → Reader (List Description)
descriptions_reader n ts = description ts >>= λ d. descriptions_tail n (d.0 ∷ []) d.1

unfoldable pub predicate_reader : ℕ → Reader (Option Tree)
predicate_reader n ts =
    if is_at Mark.Slash ts
    then ((readers n).expr ASSIGNMENT (tail ts) >>= λ x.
    after_mark Mark.ClosingSlash x.1 >>= λ rest. Some (Some x.0, rest))
    else Some (None, ts)

-- the statements in braces
abbrev pub block : ℕ → Reader (List StmtTree)
block n ts = after_mark Mark.OpenBrace ts >>= λ rest. stmts n rest

unfoldable pub clause_reader : ℕ → Reader ClauseTree
clause_reader n ts =
    descriptions_reader n ts >>= λ d. predicate_reader n d.1 >>= λ p. block n p.1 >>= λ s.
    Some (record { descriptions = d.0; predicate = p.0; statements = s.0 }, s.1)

-- ---- declarations

-- the type that the words at the front spell
unfoldable pub declared_type : Reader DeclaredType
declared_type ts = with_rest (after_run ts) (type_of_words (run ts))

-- the type after a comma, and then the next ones
unfoldable pub types_tail_on : (List DeclaredType → Reader (List DeclaredType)) → List DeclaredType
    → Reader (List DeclaredType)
types_tail_on next all ts =
    if is_at Mark.Comma ts
    then (declared_type (tail ts) >>= λ t. next (all ++ t.0 ∷ []) t.1)
    else (after_mark Mark.CloseBracket ts >>= λ rest. Some (all, rest))

-- the types after commas, `turns` of them at most
abbrev pub types_tail : ℕ → List DeclaredType → Reader (List DeclaredType)
types_tail zero all ts = None
types_tail (suc turns) all ts = types_tail_on (types_tail turns) all ts

unfoldable pub key_types : ℕ → Reader (List DeclaredType)
key_types n ts =
    if is_at Mark.OpenBracket ts then (declared_type (tail ts) >>= λ t. types_tail n (t.0 ∷ []) t.1)
    else Some ([], ts)

-- all words but the last, and the last
abbrev pub last_by : Token → Option (List Token × Token) → Option (List Token × Token)
last_by t None = Some ([], t)
last_by t (Some x) = Some (t ∷ x.0, x.1)

abbrev pub last_apart : List Token → Option (List Token × Token)
last_apart [] = None
last_apart (t ∷ ts) = last_by t (last_apart ts)

abbrev pub spelled_word : TokenKind → List ℕ
spelled_word (TokenKind.Word word) = word
spelled_word t = []

abbrev pub some_word : TokenKind → Option (List ℕ)
some_word t = Some (spelled_word t)

-- a type and a word
unfoldable pub typed_name : Reader (DeclaredType × List ℕ)
typed_name ts =
    last_apart (run ts) >>= λ x. type_of_words x.0 >>= λ t.
    Some ((t, spelled_word x.1.kind), after_run ts)

-- after `self`
unfoldable pub of_thread : ℕ → ℕ → Reader DeclarationTree
of_thread n line ts =
    typed_name ts >>= λ x. key_types n x.1 >>= λ k. after_mark Mark.Semicolon k.1 >>= λ rest.
    Some (OfThread line x.0.0 x.0.1 k.0, rest)

-- after `this`
unfoldable pub of_clause : ℕ → Reader DeclarationTree
of_clause line ts =
    typed_name ts >>= λ x. after_mark Mark.Semicolon x.1 >>= λ rest.
    Some (OfClause line x.0.0 x.0.1, rest)

-- a declaration, by the kind of its first word
abbrev pub declaration_by : WordKind → ℕ → ℕ → Reader DeclarationTree
declaration_by WordKind.Thread n line ts = of_thread n line ts
declaration_by WordKind.Clause n line ts = of_clause line ts
declaration_by k n line ts = None

-- ---- scripts

abbrev pub item_by : ℕ → TokenKind → ℕ → List Token → Reader ItemTree
item_by n (TokenKind.Word word) line later ts =
    declaration_by (word_kind word) n line later >>= λ d. Some (Declared d.0, d.1)
item_by n t line later ts = clause_reader n ts >>= λ c. Some (Probing c.0, c.1)

unfoldable pub item_reader : ℕ → Reader ItemTree
item_reader n [] = None
item_reader n (t ∷ ts) = item_by n t.kind t.line ts (t ∷ ts)

unfoldable pub items_reader : ℕ → ℕ → List ItemTree → List Token → Option (List ItemTree)
items_reader n zero all ts = None
items_reader n (suc turns) all [] = Some all
items_reader n (suc turns) all (t ∷ ts) = item_reader n (t ∷ ts) >>= λ x.
    items_reader n turns (all ++ x.0 ∷ []) x.1

-- the script that all tokens spell
unfoldable pub script_reader : List Token → Option (List ItemTree)
script_reader ts = items_reader (length ts + 1) (length ts + 1) [] ts
