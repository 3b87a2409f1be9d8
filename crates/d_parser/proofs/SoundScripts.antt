-- What is read as a script spells it.
use Rattle.std.proofs.Common.{◌≡◌, ℕ, zero, suc, ◌+◌, true, List, [], ◌∷◌, ◌++◌, length, Option}
use Rattle.std.proofs.Common.{Some, None, refl, sym, ap, subst, ◌∙◌, append_assoc, lit≤}
use Rattle.std.proofs.lemmas.List.{append-nil}
use Rattle.d_lexer.specs.declared.token.Mark.TheVariants as m
use Rattle.d_lexer.specs.declared.token.Token.{Token}
use Rattle.d_lexer.specs.declared.token.TokenKind.{TokenKind}
use Rattle.d_lexer.specs.declared.token.TokenKind.TheVariants as kind
use Rattle.d_parser.specs.declared.tree.DeclaredType.{DeclaredType}
use Rattle.d_parser.specs.declared.tree.Description.{Description}
use Rattle.d_parser.specs.declared.words.WordKind.{WordKind}
use Rattle.d_parser.specs.declared.words.WordKind.TheVariants as w
use Rattle.d_parser.specs.Tree.{Tree, StmtTree, Expression, Aggregation, DeclarationTree, OfThread}
use Rattle.d_parser.specs.Tree.{OfClause, ClauseTree, ItemTree, Declared, Probing}
use Rattle.d_parser.specs.Words.{word_kind, type_of_words}
use Rattle.d_parser.specs.Steps.Words.{is_word, run, after_run}
use Rattle.d_parser.specs.Steps.Marks.{is_at, tail}
use Rattle.d_parser.specs.Grammar.{◌⨟◌, IsToken, IsMark, IsEnclosed, IsType}
use Rattle.d_parser.specs.Script.{EachAfter, SeparatedBy, IsStmt, IsOptionalStmt, AreStmts}
use Rattle.d_parser.specs.Script.{IsDescription, IsPredicate, IsClause, AreKeyTypes, IsDeclaration}
use Rattle.d_parser.specs.Script.{IsItem, IsScript}
use Rattle.d_parser.specs.Steps.Script.{description_of}
use Rattle.d_parser.specs.Steps.Reading.{◌>>=◌, after_mark, readers, keys, arguments}
use Rattle.d_parser.specs.Steps.ReadingScripts.{word_by, any_word, aggregating_word, aggregation}
use Rattle.d_parser.specs.Steps.ReadingScripts.{stmt_by, stmt}
use Rattle.d_parser.specs.Steps.ReadingScripts.{ends_stmt}
use Rattle.d_parser.specs.Steps.ReadingScripts.{optional_stmt, stmts_tail, stmts, with_rest}
use Rattle.d_parser.specs.Steps.ReadingScripts.{description_by}
use Rattle.d_parser.specs.Steps.ReadingScripts.{description, descriptions_tail_on, descriptions_tail}
use Rattle.d_parser.specs.Steps.ReadingScripts.{descriptions_reader, predicate_reader}
use Rattle.d_parser.specs.Steps.ReadingScripts.{block, clause_reader}
use Rattle.d_parser.specs.Steps.ReadingScripts.{declared_type, types_tail_on}
use Rattle.d_parser.specs.Steps.ReadingScripts.{types_tail, key_types, last_by, last_apart}
use Rattle.d_parser.specs.Steps.ReadingScripts.{spelled_word}
use Rattle.d_parser.specs.Steps.ReadingScripts.{typed_name, of_thread, of_clause, declaration_by}
use Rattle.d_parser.specs.Steps.ReadingScripts.{item_by}
use Rattle.d_parser.specs.Steps.ReadingScripts.{item_reader, items_reader, script_reader}
use Rattle.d_parser.proofs.Complete.{sign_there}
use Rattle.d_parser.proofs.Descriptions.{describes}
use Rattle.d_parser.proofs.Sound.{IfSome, then_sound, test_sound, weaken, after_sound, ExprRead}
use Rattle.d_parser.proofs.Sound.{KeysOf, ArgumentsOf, SignOf, keys_sound, arguments_sound}
use Rattle.d_parser.proofs.Sound.{readers_sound}
use Rattle.d_parser.proofs.Runs.{AreWords, are_words, run_joined}
use Rattle.d_parser.proofs.Tokens.{token, present}

-- ---- statements

abbrev WordOf : List Token → List ℕ × List Token → Type 0
WordOf ts x = (line : ℕ) × IsToken (kind.Word x.0) line ts x.1

word_by_sound : (t : TokenKind) (start stop line : ℕ) (ts : List Token) → IfSome (WordOf (token t start stop line ∷ ts)) (word_by t ts)
word_by_sound (kind.Word word) start stop line ts = (line, record { start = start; stop = stop; is = refl })
word_by_sound (kind.DescriptionRun name) start stop line ts = tt
word_by_sound (kind.AggregationName name) start stop line ts = tt
word_by_sound (kind.Number value suffix) start stop line ts = tt
word_by_sound (kind.TextConstant bytes) start stop line ts = tt
word_by_sound (kind.Mark mark) start stop line ts = tt

word_sound : (ts : List Token) → IfSome (WordOf ts) (any_word ts)
unfolding any_word
word_sound [] = tt
word_sound (t ∷ ts) = word_by_sound t.kind t.start t.stop t.line ts

abbrev StmtOf : List Token → StmtTree × List Token → Type 0
StmtOf ts x = IsStmt x.0 ts x.1

opening_tail : (ts : List Token) (rest : List Token) → IsMark m.OpenParenthesis ts rest → tail ts ≡ rest
opening_tail ts rest h = ap tail h.begins.is

arguments_at : (n : ℕ) (open_at list : List Token) → IsMark m.OpenParenthesis open_at list → IfSome (ArgumentsOf open_at) (arguments (readers n) list)
arguments_at n open_at list s =
    let e = opening_tail open_at list s in
    subst (λ (xs : List Token). IfSome (ArgumentsOf open_at) (arguments (readers n) xs)) e (arguments_sound (readers n) (readers_sound n) open_at (subst (λ (xs : List Token). IsMark m.OpenParenthesis open_at xs) (sym e) s))

-- what is read between an aggregation's keys and its arguments
record NameOf (ts : List Token) (x : List ℕ × List Token) : Type 0 where
  at_word : List Token
  at_open : List Token
  word_line : ℕ
  assigns : IsMark m.Assign ts at_word
  word : IsToken (kind.Word x.0) word_line at_word at_open
  opens : IsMark m.OpenParenthesis at_open x.1

name_sound : (ts : List Token) → IfSome (NameOf ts) (aggregating_word ts)
unfolding aggregating_word
name_sound ts =
    then_sound (SignOf m.Assign ts) (NameOf ts) (after_mark m.Assign ts) (λ rest. any_word rest >>= λ word. after_mark m.OpenParenthesis word.1 >>= λ list. Some (word.0, list)) (after_sound m.Assign ts)
    (λ rest a. then_sound (WordOf rest) (NameOf ts) (any_word rest) (λ word. after_mark m.OpenParenthesis word.1 >>= λ list. Some (word.0, list)) (word_sound rest)
    (λ word f. then_sound (SignOf m.OpenParenthesis word.1) (NameOf ts) (after_mark m.OpenParenthesis word.1) (λ list. Some (word.0, list)) (after_sound m.OpenParenthesis word.1)
    (λ list o. record { at_word = rest; at_open = word.1; word_line = f.0; assigns = a; word = f.1; opens = o })))

aggregation_sound : (n line : ℕ) (name : List ℕ) (start ts : List Token) → IsToken (kind.AggregationName name) line start ts → IfSome (StmtOf start) (aggregation n line name ts)
unfolding aggregation
aggregation_sound n line name start ts h =
    then_sound (KeysOf ts) (StmtOf start) (keys (readers n) ts) (λ keys. aggregating_word keys.1 >>= λ function. arguments (readers n) function.1 >>= λ all. Some (Aggregation line name keys.0 function.0 all.0, all.1)) (keys_sound (readers n) (readers_sound n) ts)
    (λ keys k. then_sound (NameOf keys.1) (StmtOf start) (aggregating_word keys.1) (λ function. arguments (readers n) function.1 >>= λ all. Some (Aggregation line name keys.0 function.0 all.0, all.1)) (name_sound keys.1)
    (λ function f. then_sound (ArgumentsOf f.at_open) (StmtOf start) (arguments (readers n) function.1) (λ all. Some (Aggregation line name keys.0 function.0 all.0, all.1)) (arguments_at n f.at_open function.1 f.opens)
    (λ all g. (f.word_line, (ts, h, (keys.1, k, (f.at_word, f.assigns, (f.at_open, f.word, g))))))))

expression_sound : (n : ℕ) (ts : List Token) → IfSome (StmtOf ts) ((readers n).expr 1 ts >>= λ x. Some (Expression x.0, x.1))
expression_sound n ts = then_sound (ExprRead 1 ts) (StmtOf ts) ((readers n).expr 1 ts) (λ x. Some (Expression x.0, x.1)) ((readers_sound n).expr 1 ts (lit≤ tt) (lit≤ tt)) (λ x h. h.expr)

stmt_by_sound : (n : ℕ) (t : TokenKind) (start stop line : ℕ) (ts : List Token) → IfSome (StmtOf (token t start stop line ∷ ts)) (stmt_by n t line ts (token t start stop line ∷ ts))
stmt_by_sound n (kind.AggregationName name) start stop line ts = aggregation_sound n line name (token (kind.AggregationName name) start stop line ∷ ts) ts (record { start = start; stop = stop; is = refl })
stmt_by_sound n (kind.Word word) start stop line ts = expression_sound n (token (kind.Word word) start stop line ∷ ts)
stmt_by_sound n (kind.DescriptionRun name) start stop line ts = expression_sound n (token (kind.DescriptionRun name) start stop line ∷ ts)
stmt_by_sound n (kind.Number value suffix) start stop line ts = expression_sound n (token (kind.Number value suffix) start stop line ∷ ts)
stmt_by_sound n (kind.TextConstant bytes) start stop line ts = expression_sound n (token (kind.TextConstant bytes) start stop line ∷ ts)
stmt_by_sound n (kind.Mark mark) start stop line ts = expression_sound n (token (kind.Mark mark) start stop line ∷ ts)

stmt_sound : (n : ℕ) (ts : List Token) → IfSome (StmtOf ts) (stmt n ts)
unfolding stmt
stmt_sound n [] = tt
stmt_sound n (t ∷ ts) = stmt_by_sound n t.kind t.start t.stop t.line ts

-- an optional statement is read
pub record OptionalRead (all : List StmtTree) (ts : List Token) (x : List StmtTree × List Token) : Type 0 where
  pub optional_stmt : Option StmtTree
  pub spells : IsOptionalStmt optional_stmt ts x.1
  pub is : x.0 ≡ all ++ present (optional_stmt ∷ [])

optional_sound : (n : ℕ) (all : List StmtTree) (ts : List Token) → IfSome (OptionalRead all ts) (optional_stmt n all ts)
unfolding optional_stmt
optional_sound n all ts =
    test_sound (OptionalRead all ts) (ends_stmt ts) (Some (all, ts)) (stmt n ts >>= λ s. Some (all ++ s.0 ∷ [], s.1))
    (λ e. record { optional_stmt = None; spells = refl; is = sym (append-nil all) })
    (λ e. then_sound (StmtOf ts) (OptionalRead all ts) (stmt n ts) (λ s. Some (all ++ s.0 ∷ [], s.1)) (stmt_sound n ts) (λ s h. record { optional_stmt = Some s.0; spells = h; is = refl }))

-- the optional statements after the first are read, and the brace
pub record StmtsTail (all : List StmtTree) (ts : List Token) (x : List StmtTree × List Token) : Type 0 where
  pub optionals : List (Option StmtTree)
  pub close : List Token
  pub spells : EachAfter m.Semicolon IsOptionalStmt optionals ts close
  pub closes : IsMark m.CloseBrace close x.1
  pub is : x.0 ≡ all ++ present optionals

present_more : (optional_stmt : Option StmtTree) (optionals : List (Option StmtTree)) → present (optional_stmt ∷ optionals) ≡ present (optional_stmt ∷ []) ++ present optionals
present_more None optionals = refl
present_more (Some s) optionals = refl

stmts_tail_sound : (n turns : ℕ) (all : List StmtTree) (ts : List Token) → IfSome (StmtsTail all ts) (stmts_tail n turns all ts)
unfolding stmts_tail
stmts_tail_sound n zero all ts = tt
stmts_tail_sound n (suc turns) all ts =
    test_sound (StmtsTail all ts) (is_at m.CloseBrace ts) (Some (all, tail ts)) (after_mark m.Semicolon ts >>= λ rest. optional_stmt n all rest >>= λ x. stmts_tail n turns x.0 x.1)
    (λ e. record { optionals = []; close = ts; spells = refl; closes = sign_there m.CloseBrace ts e; is = sym (append-nil all) })
    (λ e. then_sound (SignOf m.Semicolon ts) (StmtsTail all ts) (after_mark m.Semicolon ts) (λ rest. optional_stmt n all rest >>= λ x. stmts_tail n turns x.0 x.1) (after_sound m.Semicolon ts)
    (λ rest s. then_sound (OptionalRead all rest) (StmtsTail all ts) (optional_stmt n all rest) (λ x. stmts_tail n turns x.0 x.1) (optional_sound n all rest)
    (λ x h. weaken (StmtsTail x.0 x.1) (StmtsTail all ts) (stmts_tail n turns x.0 x.1)
    (λ y g. record { optionals = h.optional_stmt ∷ g.optionals; close = g.close; spells = (rest, s, (x.1, h.spells, g.spells)); closes = g.closes; is = g.is ∙ (ap (λ (xs : List StmtTree). xs ++ present g.optionals) h.is ∙ (append_assoc all (present (h.optional_stmt ∷ [])) (present g.optionals) ∙ ap (λ (xs : List StmtTree). all ++ xs) (sym (present_more h.optional_stmt g.optionals)))) })
    (stmts_tail_sound n turns x.0 x.1))))

abbrev StmtsOf : List Token → List StmtTree × List Token → Type 0
StmtsOf ts x = (AreStmts x.0 ⨟ IsMark m.CloseBrace) ts x.1

stmts_sound : (n : ℕ) (ts : List Token) → IfSome (StmtsOf ts) (stmts n ts)
unfolding stmts
stmts_sound n ts =
    then_sound (OptionalRead [] ts) (StmtsOf ts) (optional_stmt n [] ts) (λ x. stmts_tail n n x.0 x.1) (optional_sound n [] ts)
    (λ x h. weaken (StmtsTail x.0 x.1) (StmtsOf ts) (stmts_tail n n x.0 x.1)
    (λ y g. (g.close, (h.optional_stmt ∷ g.optionals, g.is ∙ (ap (λ (xs : List StmtTree). xs ++ present g.optionals) h.is ∙ sym (present_more h.optional_stmt g.optionals)), (x.1, h.spells, g.spells)), g.closes))
    (stmts_tail_sound n n x.0 x.1))

-- ---- clauses

abbrev DescriptionOf : List Token → Description × List Token → Type 0
DescriptionOf ts x = IsDescription x.0 ts x.1

run_sound : (o : Option Description) (run : List ℕ) (start stop line : ℕ) (ts : List Token) → description_of run ≡ o → IfSome (DescriptionOf (token (kind.DescriptionRun run) start stop line ∷ ts)) (with_rest ts o)
run_sound None run start stop line ts e = tt
run_sound (Some d) run start stop line ts e =
    let h = describes run d e in
    record { run = run; line = line; missing = h.missing; given = h.given; begins = record { start = start; stop = stop; is = refl }; named = h.named; is = h.is; apart = h.apart; are = h.are }

description_by_sound : (t : TokenKind) (start stop line : ℕ) (ts : List Token) → IfSome (DescriptionOf (token t start stop line ∷ ts)) (description_by t ts)
description_by_sound (kind.DescriptionRun run) start stop line ts = run_sound (description_of run) run start stop line ts refl
description_by_sound (kind.Word word) start stop line ts = tt
description_by_sound (kind.AggregationName name) start stop line ts = tt
description_by_sound (kind.Number value suffix) start stop line ts = tt
description_by_sound (kind.TextConstant bytes) start stop line ts = tt
description_by_sound (kind.Mark mark) start stop line ts = tt

description_sound : (ts : List Token) → IfSome (DescriptionOf ts) (description ts)
unfolding description
description_sound [] = tt
description_sound (t ∷ ts) = description_by_sound t.kind t.start t.stop t.line ts

pub record DescriptionsTail (all : List Description) (ts : List Token) (x : List Description × List Token) : Type 0 where
  pub others : List Description
  pub spells : EachAfter m.Comma IsDescription others ts x.1
  pub is : x.0 ≡ all ++ others

descriptions_tail_sound : (turns : ℕ) (all : List Description) (ts : List Token) → IfSome (DescriptionsTail all ts) (descriptions_tail turns all ts)
unfolding descriptions_tail_on
descriptions_tail_sound zero all ts = tt
descriptions_tail_sound (suc turns) all ts =
    test_sound (DescriptionsTail all ts) (is_at m.Comma ts) (description (tail ts) >>= λ d. descriptions_tail turns (all ++ d.0 ∷ []) d.1) (Some (all, ts))
    (λ e. then_sound (DescriptionOf (tail ts)) (DescriptionsTail all ts) (description (tail ts)) (λ d. descriptions_tail turns (all ++ d.0 ∷ []) d.1) (description_sound (tail ts))
    (λ d h. weaken (DescriptionsTail (all ++ d.0 ∷ []) d.1) (DescriptionsTail all ts) (descriptions_tail turns (all ++ d.0 ∷ []) d.1)
    (λ x g. record { others = d.0 ∷ g.others; spells = (tail ts, sign_there m.Comma ts e, (d.1, h, g.spells)); is = g.is ∙ append_assoc all (d.0 ∷ []) g.others })
    (descriptions_tail_sound turns (all ++ d.0 ∷ []) d.1)))
    (λ e. record { others = []; spells = refl; is = sym (append-nil all) })

abbrev DescriptionsOf : List Token → List Description × List Token → Type 0
DescriptionsOf ts x = SeparatedBy m.Comma IsDescription x.0 ts x.1

descriptions_sound : (n : ℕ) (ts : List Token) → IfSome (DescriptionsOf ts) (descriptions_reader n ts)
unfolding descriptions_reader
descriptions_sound n ts =
    then_sound (DescriptionOf ts) (DescriptionsOf ts) (description ts) (λ d. descriptions_tail n (d.0 ∷ []) d.1) (description_sound ts)
    (λ d h. weaken (DescriptionsTail (d.0 ∷ []) d.1) (DescriptionsOf ts) (descriptions_tail n (d.0 ∷ []) d.1)
    (λ x g. subst (λ (ds : List Description). SeparatedBy m.Comma IsDescription ds ts x.1) (sym g.is) (d.1, h, g.spells))
    (descriptions_tail_sound n (d.0 ∷ []) d.1))

abbrev PredicateOf : List Token → Option Tree × List Token → Type 0
PredicateOf ts x = IsPredicate x.0 ts x.1

predicate_sound : (n : ℕ) (ts : List Token) → IfSome (PredicateOf ts) (predicate_reader n ts)
unfolding predicate_reader
predicate_sound n ts =
    test_sound (PredicateOf ts) (is_at m.Slash ts) ((readers n).expr 1 (tail ts) >>= λ x. after_mark m.ClosingSlash x.1 >>= λ rest. Some (Some x.0, rest)) (Some (None, ts))
    (λ e. then_sound (ExprRead 1 (tail ts)) (PredicateOf ts) ((readers n).expr 1 (tail ts)) (λ x. after_mark m.ClosingSlash x.1 >>= λ rest. Some (Some x.0, rest)) ((readers_sound n).expr 1 (tail ts) (lit≤ tt) (lit≤ tt))
    (λ x h. then_sound (SignOf m.ClosingSlash x.1) (PredicateOf ts) (after_mark m.ClosingSlash x.1) (λ rest. Some (Some x.0, rest)) (after_sound m.ClosingSlash x.1)
    (λ rest s. (tail ts, sign_there m.Slash ts e, (x.1, h.expr, s)))))
    (λ e. refl)

abbrev ClauseOf : List Token → ClauseTree × List Token → Type 0
ClauseOf ts x = IsClause x.0 ts x.1

abbrev BlockOf : List Token → List StmtTree × List Token → Type 0
BlockOf ts x = IsEnclosed m.OpenBrace m.CloseBrace (AreStmts x.0) ts x.1

block_sound : (n : ℕ) (ts : List Token) → IfSome (BlockOf ts) (block n ts)
block_sound n ts =
    then_sound (SignOf m.OpenBrace ts) (BlockOf ts) (after_mark m.OpenBrace ts) (stmts n) (after_sound m.OpenBrace ts)
    (λ rest o. weaken (StmtsOf rest) (BlockOf ts) (stmts n rest) (λ s k. (rest, o, k)) (stmts_sound n rest))

pub clause_sound : (n : ℕ) (ts : List Token) → IfSome (ClauseOf ts) (clause_reader n ts)
unfolding clause_reader
clause_sound n ts =
    then_sound (DescriptionsOf ts) (ClauseOf ts) (descriptions_reader n ts) (λ d. predicate_reader n d.1 >>= λ p. block n p.1 >>= λ s. Some (record { descriptions = d.0; predicate = p.0; statements = s.0 }, s.1)) (descriptions_sound n ts)
    (λ d h. then_sound (PredicateOf d.1) (ClauseOf ts) (predicate_reader n d.1) (λ p. block n p.1 >>= λ s. Some (record { descriptions = d.0; predicate = p.0; statements = s.0 }, s.1)) (predicate_sound n d.1)
    (λ p g. then_sound (BlockOf p.1) (ClauseOf ts) (block n p.1) (λ s. Some (record { descriptions = d.0; predicate = p.0; statements = s.0 }, s.1)) (block_sound n p.1)
    (λ s b. (d.1, h, (p.1, g, b)))))

-- ---- declarations

abbrev TypeOf : List Token → DeclaredType × List Token → Type 0
TypeOf ts x = IsType x.0 ts x.1

type_by_sound : (o : Option DeclaredType) (ts : List Token) → type_of_words (run ts) ≡ o → IfSome (TypeOf ts) (with_rest (after_run ts) o)
type_by_sound None ts e = tt
type_by_sound (Some t) ts e = (run ts, run_joined ts, e)

type_sound : (ts : List Token) → IfSome (TypeOf ts) (declared_type ts)
unfolding declared_type
type_sound ts = type_by_sound (type_of_words (run ts)) ts refl

pub record Typed (all : List DeclaredType) (ts : List Token) (x : List DeclaredType × List Token) : Type 0 where
  pub others : List DeclaredType
  pub close : List Token
  pub spells : EachAfter m.Comma IsType others ts close
  pub closes : IsMark m.CloseBracket close x.1
  pub is : x.0 ≡ all ++ others

types_tail_sound : (turns : ℕ) (all : List DeclaredType) (ts : List Token) → IfSome (Typed all ts) (types_tail turns all ts)
unfolding types_tail_on
types_tail_sound zero all ts = tt
types_tail_sound (suc turns) all ts =
    test_sound (Typed all ts) (is_at m.Comma ts) (declared_type (tail ts) >>= λ t. types_tail turns (all ++ t.0 ∷ []) t.1) (after_mark m.CloseBracket ts >>= λ rest. Some (all, rest))
    (λ e. then_sound (TypeOf (tail ts)) (Typed all ts) (declared_type (tail ts)) (λ t. types_tail turns (all ++ t.0 ∷ []) t.1) (type_sound (tail ts))
    (λ t h. weaken (Typed (all ++ t.0 ∷ []) t.1) (Typed all ts) (types_tail turns (all ++ t.0 ∷ []) t.1)
    (λ x g. record { others = t.0 ∷ g.others; close = g.close; spells = (tail ts, sign_there m.Comma ts e, (t.1, h, g.spells)); closes = g.closes; is = g.is ∙ append_assoc all (t.0 ∷ []) g.others })
    (types_tail_sound turns (all ++ t.0 ∷ []) t.1)))
    (λ e. then_sound (SignOf m.CloseBracket ts) (Typed all ts) (after_mark m.CloseBracket ts) (λ rest. Some (all, rest)) (after_sound m.CloseBracket ts)
    (λ rest s. record { others = []; close = ts; spells = refl; closes = s; is = sym (append-nil all) }))

abbrev KeyTypesOf : List Token → List DeclaredType × List Token → Type 0
KeyTypesOf ts x = AreKeyTypes x.0 ts x.1

key_types_sound : (n : ℕ) (ts : List Token) → IfSome (KeyTypesOf ts) (key_types n ts)
unfolding key_types
key_types_sound n ts =
    test_sound (KeyTypesOf ts) (is_at m.OpenBracket ts) (declared_type (tail ts) >>= λ t. types_tail n (t.0 ∷ []) t.1) (Some ([], ts))
    (λ e. then_sound (TypeOf (tail ts)) (KeyTypesOf ts) (declared_type (tail ts)) (λ t. types_tail n (t.0 ∷ []) t.1) (type_sound (tail ts))
    (λ t h. weaken (Typed (t.0 ∷ []) t.1) (KeyTypesOf ts) (types_tail n (t.0 ∷ []) t.1)
    (λ x g. subst (λ (all : List DeclaredType). AreKeyTypes all ts x.1) (sym g.is) (tail ts, sign_there m.OpenBracket ts e, (g.close, (t.1, h, g.spells), g.closes)))
    (types_tail_sound n (t.0 ∷ []) t.1)))
    (λ e. refl)

-- all but the last, and the last
abbrev Apart : List Token → List Token × Token → Type 0
Apart ts x = ts ≡ x.0 ++ x.1 ∷ []

last_some : (t : Token) (o : Option (List Token × Token)) → last_by t o ≡ None → ⊥
last_some t None e = absurd cc
last_some t (Some x) e = absurd cc

last_none : (ts : List Token) → last_apart ts ≡ None → ts ≡ []
last_none [] e = refl
last_none (t ∷ ts) e = absurd (last_some t (last_apart ts) e)

apart_by : (t : Token) (ts : List Token) (o : Option (List Token × Token)) → (o ≡ None → ts ≡ []) → IfSome (Apart ts) o → IfSome (Apart (t ∷ ts)) (last_by t o)
apart_by t ts None e h = ap (λ (xs : List Token). t ∷ xs) (e refl)
apart_by t ts (Some x) e h = ap (λ (xs : List Token). t ∷ xs) h

apart_sound : (ts : List Token) → IfSome (Apart ts) (last_apart ts)
apart_sound [] = tt
apart_sound (t ∷ ts) = apart_by t ts (last_apart ts) (last_none ts) (apart_sound ts)

last_word : (words : List Token) (t : Token) → AreWords (words ++ t ∷ []) → is_word t.kind ≡ true
last_word [] t h = h.0
last_word (w ∷ words) t h = last_word words t h.1

word_is : (t : TokenKind) → is_word t ≡ true → t ≡ kind.Word (spelled_word t)
word_is (kind.Word word) h = refl
word_is (kind.DescriptionRun name) h = absurd cc
word_is (kind.AggregationName name) h = absurd cc
word_is (kind.Number value suffix) h = absurd cc
word_is (kind.TextConstant bytes) h = absurd cc
word_is (kind.Mark mark) h = absurd cc

-- a type and a word, up to the rest
pub record TypedName (ts : List Token) (x : (DeclaredType × List ℕ) × List Token) : Type 0 where
  pub at_name : List Token
  pub line : ℕ
  pub spells : IsType x.0.0 ts at_name
  pub word : IsToken (kind.Word x.0.1) line at_name x.1

some_type : (o : Option DeclaredType) (words : List Token) → type_of_words words ≡ o → IfSome (λ t. type_of_words words ≡ Some t) o
some_type None words e = tt
some_type (Some t) words e = e

named_type : (ts words : List Token) (last : Token) (t : DeclaredType) → run ts ≡ words ++ last ∷ [] → type_of_words words ≡ Some t → TypedName ts ((t, spelled_word last.kind), after_run ts)
named_type ts words last t e h =
    let word = last_word words last (subst AreWords e (are_words ts)) in
    let whole : ts ≡ words ++ (last ∷ after_run ts) = run_joined ts ∙ (ap (λ (xs : List Token). xs ++ after_run ts) e ∙ append_assoc words (last ∷ []) (after_run ts)) in
    record {
      at_name = last ∷ after_run ts;
      line = last.line;
      spells = (words, whole, h);
      word = record { start = last.start; stop = last.stop; is = ap (λ (k : TokenKind). token k last.start last.stop last.line ∷ after_run ts) (word_is last.kind word) };
    }

typed_name_sound : (ts : List Token) → IfSome (TypedName ts) (typed_name ts)
unfolding typed_name
typed_name_sound ts =
    then_sound (Apart (run ts)) (TypedName ts) (last_apart (run ts)) (λ x. type_of_words x.0 >>= λ t. Some ((t, spelled_word x.1.kind), after_run ts)) (apart_sound (run ts))
    (λ x e. then_sound (λ t. type_of_words x.0 ≡ Some t) (TypedName ts) (type_of_words x.0) (λ t. Some ((t, spelled_word x.1.kind), after_run ts)) (some_type (type_of_words x.0) x.0 refl)
    (λ t h. named_type ts x.0 x.1 t e h))

abbrev DeclarationOf : List Token → DeclarationTree × List Token → Type 0
DeclarationOf ts x = IsDeclaration x.0 ts x.1

thread_sound : (n line : ℕ) (name : List ℕ) (start ts : List Token) → word_kind name ≡ w.Thread → IsToken (kind.Word name) line start ts → IfSome (DeclarationOf start) (declaration_by w.Thread n line ts)
unfolding of_thread
thread_sound n line name start ts e h =
    then_sound (TypedName ts) (DeclarationOf start) (typed_name ts) (λ x. key_types n x.1 >>= λ k. after_mark m.Semicolon k.1 >>= λ rest. Some (OfThread line x.0.0 x.0.1 k.0, rest)) (typed_name_sound ts)
    (λ x g. then_sound (KeyTypesOf x.1) (DeclarationOf start) (key_types n x.1) (λ k. after_mark m.Semicolon k.1 >>= λ rest. Some (OfThread line x.0.0 x.0.1 k.0, rest)) (key_types_sound n x.1)
    (λ k a. then_sound (SignOf m.Semicolon k.1) (DeclarationOf start) (after_mark m.Semicolon k.1) (λ rest. Some (OfThread line x.0.0 x.0.1 k.0, rest)) (after_sound m.Semicolon k.1)
    (λ rest s. (name, g.line, (ts, (e, h), (g.at_name, g.spells, (x.1, g.word, (k.1, a, s))))))))

clause_local_sound : (n line : ℕ) (name : List ℕ) (start ts : List Token) → word_kind name ≡ w.Clause → IsToken (kind.Word name) line start ts → IfSome (DeclarationOf start) (declaration_by w.Clause n line ts)
unfolding of_clause
clause_local_sound n line name start ts e h =
    then_sound (TypedName ts) (DeclarationOf start) (typed_name ts) (λ x. after_mark m.Semicolon x.1 >>= λ rest. Some (OfClause line x.0.0 x.0.1, rest)) (typed_name_sound ts)
    (λ x g. then_sound (SignOf m.Semicolon x.1) (DeclarationOf start) (after_mark m.Semicolon x.1) (λ rest. Some (OfClause line x.0.0 x.0.1, rest)) (after_sound m.Semicolon x.1)
    (λ rest s. (name, g.line, (ts, (e, h), (g.at_name, g.spells, (x.1, g.word, (x.1, refl, s)))))))

declared_sound : (word : WordKind) (n line : ℕ) (name : List ℕ) (start ts : List Token) → word_kind name ≡ word → IsToken (kind.Word name) line start ts → IfSome (DeclarationOf start) (declaration_by word n line ts)
declared_sound w.Thread n line name start ts e h = thread_sound n line name start ts e h
declared_sound w.Clause n line name start ts e h = clause_local_sound n line name start ts e h
declared_sound w.Plain n line name start ts e h = tt
declared_sound w.Text n line name start ts e h = tt
declared_sound w.Char n line name start ts e h = tt
declared_sound w.Short n line name start ts e h = tt
declared_sound w.Int n line name start ts e h = tt
declared_sound w.Long n line name start ts e h = tt
declared_sound w.Signed n line name start ts e h = tt
declared_sound w.Unsigned n line name start ts e h = tt
declared_sound (w.Fixed t) n line name start ts e h = tt

-- ---- scripts

abbrev ItemOf : List Token → ItemTree × List Token → Type 0
ItemOf ts x = IsItem x.0 ts x.1

probing_sound : (n : ℕ) (ts : List Token) → IfSome (ItemOf ts) (clause_reader n ts >>= λ c. Some (Probing c.0, c.1))
probing_sound n ts = then_sound (ClauseOf ts) (ItemOf ts) (clause_reader n ts) (λ c. Some (Probing c.0, c.1)) (clause_sound n ts) (λ c h. h)

item_by_sound : (n : ℕ) (t : TokenKind) (start stop line : ℕ) (ts : List Token) → IfSome (ItemOf (token t start stop line ∷ ts)) (item_by n t line ts (token t start stop line ∷ ts))
item_by_sound n (kind.Word word) start stop line ts =
    then_sound (DeclarationOf (token (kind.Word word) start stop line ∷ ts)) (ItemOf (token (kind.Word word) start stop line ∷ ts)) (declaration_by (word_kind word) n line ts) (λ d. Some (Declared d.0, d.1))
    (declared_sound (word_kind word) n line word (token (kind.Word word) start stop line ∷ ts) ts refl (record { start = start; stop = stop; is = refl })) (λ d h. h)
item_by_sound n (kind.AggregationName name) start stop line ts = probing_sound n (token (kind.AggregationName name) start stop line ∷ ts)
item_by_sound n (kind.DescriptionRun name) start stop line ts = probing_sound n (token (kind.DescriptionRun name) start stop line ∷ ts)
item_by_sound n (kind.Number value suffix) start stop line ts = probing_sound n (token (kind.Number value suffix) start stop line ∷ ts)
item_by_sound n (kind.TextConstant bytes) start stop line ts = probing_sound n (token (kind.TextConstant bytes) start stop line ∷ ts)
item_by_sound n (kind.Mark mark) start stop line ts = probing_sound n (token (kind.Mark mark) start stop line ∷ ts)

item_sound : (n : ℕ) (ts : List Token) → IfSome (ItemOf ts) (item_reader n ts)
unfolding item_reader
item_sound n [] = tt
item_sound n (t ∷ ts) = item_by_sound n t.kind t.start t.stop t.line ts

pub record Itemised (all : List ItemTree) (ts : List Token) (x : List ItemTree) : Type 0 where
  pub others : List ItemTree
  pub spells : IsScript others ts
  pub is : x ≡ all ++ others

items_sound : (n turns : ℕ) (all : List ItemTree) (ts : List Token) → IfSome (Itemised all ts) (items_reader n turns all ts)
unfolding items_reader
items_sound n zero all ts = tt
items_sound n (suc turns) all [] = record { others = []; spells = refl; is = sym (append-nil all) }
items_sound n (suc turns) all (t ∷ ts) =
    then_sound (ItemOf (t ∷ ts)) (Itemised all (t ∷ ts)) (item_reader n (t ∷ ts)) (λ x. items_reader n turns (all ++ x.0 ∷ []) x.1) (item_sound n (t ∷ ts))
    (λ x h. weaken (Itemised (all ++ x.0 ∷ []) x.1) (Itemised all (t ∷ ts)) (items_reader n turns (all ++ x.0 ∷ []) x.1)
    (λ y g. record { others = x.0 ∷ g.others; spells = (x.1, h, g.spells); is = g.is ∙ append_assoc all (x.0 ∷ []) g.others })
    (items_sound n turns (all ++ x.0 ∷ []) x.1))

pub script_sound : (ts : List Token) → IfSome (λ all. IsScript all ts) (script_reader ts)
unfolding script_reader
script_sound ts =
    weaken (Itemised [] ts) (λ all. IsScript all ts) (items_reader (length ts + 1) (length ts + 1) [] ts) (λ x g. subst (λ (all : List ItemTree). IsScript all ts) (sym g.is) g.spells) (items_sound (length ts + 1) (length ts + 1) [] ts)
