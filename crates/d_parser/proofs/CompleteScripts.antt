-- What spells a script is read as that script.
use Rattle.std.proofs.Common.{◌≡◌, ℕ, zero, suc, ◌+◌, ◌<◌, ◌≤◌, Bool, true, false, List, [], ◌∷◌}
use Rattle.std.proofs.Common.{◌++◌, length, Option, Some, None, refl, sym, ap, subst, ◌∙◌, arith}
use Rattle.std.proofs.Common.{append_assoc}
use Rattle.std.proofs.lemmas.List.{append-nil}
use Rattle.d_lexer.specs.declared.token.Mark.{Mark}
use Rattle.d_lexer.specs.declared.token.Mark.TheVariants as m
use Rattle.d_lexer.specs.declared.token.Token.{Token}
use Rattle.d_lexer.specs.declared.token.TokenKind.{TokenKind}
use Rattle.d_lexer.specs.declared.token.TokenKind.TheVariants as kind
use Rattle.d_parser.specs.declared.marks.Prefix.TheVariants as p
use Rattle.d_parser.specs.declared.marks.Follow.TheVariants as f
use Rattle.d_parser.specs.declared.tree.DeclaredType.{DeclaredType}
use Rattle.d_parser.specs.declared.tree.Description.{Description}
use Rattle.d_parser.specs.declared.words.WordKind.{WordKind}
use Rattle.d_parser.specs.declared.words.WordKind.TheVariants as w
use Rattle.d_parser.specs.Tree.{Tree, Trees, StmtTree, Expression, Aggregation, DeclarationTree}
use Rattle.d_parser.specs.Tree.{OfThread, OfClause, ClauseTree, ItemTree, Declared, Probing}
use Rattle.d_parser.specs.Words.{word_kind}
use Rattle.d_parser.specs.Steps.Words.{run, after_run}
use Rattle.d_parser.specs.Steps.Marks.{prefix_of, is_at, same_mark, tail}
use Rattle.d_parser.specs.Grammar.{IsToken, IsMark, IsType}
use Rattle.d_parser.specs.Script.{EachAfter, SeparatedBy, IsStmt, IsOptionalStmt, AreStmts}
use Rattle.d_parser.specs.Script.{IsDescription, IsPredicate, IsClause, AreKeyTypes, IsDeclared}
use Rattle.d_parser.specs.Script.{IsItem, IsScript}
use Rattle.d_parser.specs.Steps.Reading.{◌>>=◌, readers, arguments, unary, unary_at_mark, binary}
use Rattle.d_parser.specs.Steps.Reading.{expr_on}
use Rattle.d_parser.specs.Steps.ReadingScripts.{any_word, aggregating_word, aggregation, stmt_by}
use Rattle.d_parser.specs.Steps.ReadingScripts.{stmt, ends_stmt}
use Rattle.d_parser.specs.Steps.ReadingScripts.{optional_stmt}
use Rattle.d_parser.specs.Steps.ReadingScripts.{stmts_tail, stmts, description, descriptions_tail_on}
use Rattle.d_parser.specs.Steps.ReadingScripts.{descriptions_tail, descriptions_reader}
use Rattle.d_parser.specs.Steps.ReadingScripts.{predicate_reader, clause_reader}
use Rattle.d_parser.specs.Steps.ReadingScripts.{declared_type, types_tail_on, types_tail, key_types}
use Rattle.d_parser.specs.Steps.ReadingScripts.{last_apart, typed_name, of_thread, of_clause}
use Rattle.d_parser.specs.Steps.ReadingScripts.{declaration_by, item_reader, items_reader}
use Rattle.d_parser.specs.Steps.ReadingScripts.{script_reader}
use Rattle.d_parser.proofs.Takes.{sign_one, word_one, type_takes, keys_take, between_takes}
use Rattle.d_parser.proofs.Counts.{stmt_one, predicate_uses, descriptions_use, declaration_uses}
use Rattle.d_parser.proofs.Complete.{reach, opens_of, sign_there, sign_follow, sign_tail, sign_at}
use Rattle.d_parser.proofs.Complete.{sign_reach, after_sign, reads, reads_all, expr_of, keys_read}
use Rattle.d_parser.proofs.Complete.{arguments_read}
use Rattle.d_parser.proofs.Descriptions.{described}
use Rattle.d_parser.proofs.Runs.{run_is, later_is}
use Rattle.d_parser.proofs.Types.{type_words}
use Rattle.d_parser.proofs.Tokens.{token, present}

-- ---- statements

-- no expression begins with such a mark
mark_none : (n k : ℕ) (mark : Mark) (ts rest : List Token) → prefix_of mark ≡ p.Other → same_mark mark m.OpenParenthesis ≡ false → IsMark mark ts rest → (readers n).expr k ts ≡ None
unfolding expr_on binary unary unary_at_mark
mark_none zero k mark ts rest e o h = refl
mark_none (suc n) k mark ts rest e o h = rw h.begins.is (rw (o, e) refl)

not_at_by : (found : Bool) (n : ℕ) (mark : Mark) (ts : List Token) (x : Tree × List Token) → prefix_of mark ≡ p.Other → same_mark mark m.OpenParenthesis ≡ false → is_at mark ts ≡ found → (readers n).expr 1 ts ≡ Some x → found ≡ false
not_at_by true n mark ts x e o h r = let none = mark_none n 1 mark ts (tail ts) e o (sign_there mark ts h) in absurd cc
not_at_by false n mark ts x e o h r = refl

not_at : (n : ℕ) (mark : Mark) (ts : List Token) (x : Tree × List Token) → prefix_of mark ≡ p.Other → same_mark mark m.OpenParenthesis ≡ false → (readers n).expr 1 ts ≡ Some x → is_at mark ts ≡ false
not_at n mark ts x e o r = not_at_by (is_at mark ts) n mark ts x e o refl r

expression_by : (n : ℕ) (k : TokenKind) (start stop line : ℕ) (ts : List Token) (x : Tree × List Token) → (readers n).expr 1 (token k start stop line ∷ ts) ≡ Some x → stmt_by n k line ts (token k start stop line ∷ ts) ≡ Some (Expression x.0, x.1)
unfolding expr_on binary unary
expression_by zero k start stop line ts x e = absurd cc
expression_by (suc n) (kind.AggregationName name) start stop line ts x e = absurd cc
expression_by (suc n) (kind.Word name) start stop line ts x e = rw e refl
expression_by (suc n) (kind.DescriptionRun name) start stop line ts x e = absurd cc
expression_by (suc n) (kind.Number value suffix) start stop line ts x e = rw e refl
expression_by (suc n) (kind.TextConstant bytes) start stop line ts x e = rw e refl
expression_by (suc n) (kind.Mark mark) start stop line ts x e = rw e refl

expression_stmt : (n : ℕ) (ts : List Token) (x : Tree × List Token) → (readers n).expr 1 ts ≡ Some x → stmt n ts ≡ Some (Expression x.0, x.1)
unfolding stmt expr_on binary unary
expression_stmt zero [] x e = absurd cc
expression_stmt (suc n) [] x e = absurd cc
expression_stmt n (t ∷ ts) x e = expression_by n t.kind t.start t.stop t.line ts x e

word_read : (word : List ℕ) (line : ℕ) (ts rest : List Token) → IsToken (kind.Word word) line ts rest → any_word ts ≡ Some (word, rest)
unfolding any_word
word_read word line ts rest h = rw h.is refl

aggregation_read : (n line : ℕ) (name : List ℕ) (all : Trees) (function : List ℕ) (list : Trees) (ts rest : List Token) → IsStmt (Aggregation line name all function list) ts rest → length ts ≤ n → stmt n ts ≡ Some (Aggregation line name all function list, rest)
unfolding stmt aggregation aggregating_word
aggregation_read n line name all function list ts rest h len =
    let at_keys = h.1 in
    let at_assign = at_keys.2 in
    let at_word = at_assign.2 in
    let at_open = at_word.2 in
    let one : length ts ≡ suc (length at_keys.0) = ap length at_keys.1.is in
    let two = keys_take all at_keys.0 at_assign.0 at_assign.1 in
    let three = sign_one m.Assign at_assign.0 at_word.0 at_word.1 in
    let four : length at_word.0 ≡ suc (length at_open.0) = ap length at_open.1.is in
    let inside = at_open.2 in
    let open_tail = sign_tail m.OpenParenthesis at_open.0 inside.0 inside.1 in
    let args = subst (λ (xs : List Token). arguments (readers n) xs ≡ Some (list, rest)) open_tail (arguments_read n list (reads_all list) at_open.0 rest inside (omega arith)) in
    rw at_keys.1.is (rw (keys_read n all (reads_all all) at_keys.0 at_assign.0 at_assign.1 (omega arith) (ap opens_of (sign_follow m.Assign at_assign.0 at_word.0 at_word.1)))
    (rw (after_sign m.Assign at_assign.0 at_word.0 refl at_word.1) (rw (word_read function h.0 at_word.0 at_open.0 at_open.1)
    (rw (after_sign m.OpenParenthesis at_open.0 inside.0 refl inside.1) (rw args refl)))))

aggregation_starts : (line : ℕ) (name : List ℕ) (mark : Mark) (ts rest : List Token) → IsToken (kind.AggregationName name) line ts rest → is_at mark ts ≡ false
aggregation_starts line name mark ts rest h = ap (is_at mark) h.is

-- what an optional statement needs after it
pub record Stops (ts : List Token) : Type 0 where
  pub ends : ends_stmt ts ≡ true
  pub quiet : reach ts ≡ 0

brace_stops : (ts rest : List Token) → IsMark m.CloseBrace ts rest → Stops ts
brace_stops ts rest s = record { ends = rw (sign_at m.CloseBrace m.Semicolon ts rest s, sign_at m.CloseBrace m.CloseBrace ts rest s) refl; quiet = sign_reach m.CloseBrace ts rest f.Other s refl }

stmts_tail_stops : (optionals : List (Option StmtTree)) (ts close rest : List Token) → EachAfter m.Semicolon IsOptionalStmt optionals ts close → IsMark m.CloseBrace close rest → Stops ts
stmts_tail_stops [] ts close rest h s = subst Stops (sym h) (brace_stops close rest s)
stmts_tail_stops (o ∷ optionals) ts close rest h s = record { ends = rw (sign_at m.Semicolon m.Semicolon ts h.0 h.1) refl; quiet = sign_reach m.Semicolon ts h.0 f.Other h.1 refl }

stmt_read : (n : ℕ) (s : StmtTree) (ts rest : List Token) → IsStmt s ts rest → length ts < n → reach rest ≡ 0 → (stmt n ts ≡ Some (s, rest)) × (ends_stmt ts ≡ false)
stmt_read n (Expression t) ts rest h len e =
    let r = expr_of t (reads t) n 1 ts rest h len (omega arith) in
    (expression_stmt n ts (t, rest) r, rw (not_at n m.Semicolon ts (t, rest) refl refl r, not_at n m.CloseBrace ts (t, rest) refl refl r) refl)
stmt_read n (Aggregation line name all function list) ts rest h len e =
    (aggregation_read n line name all function list ts rest h (omega arith), rw (aggregation_starts line name m.Semicolon ts h.1.0 h.1.1, aggregation_starts line name m.CloseBrace ts h.1.0 h.1.1) refl)

optional_read : (n : ℕ) (all : List StmtTree) (o : Option StmtTree) (ts later : List Token) → IsOptionalStmt o ts later → Stops later → length ts < n → optional_stmt n all ts ≡ Some (all ++ present (o ∷ []), later)
unfolding optional_stmt
optional_read n all None ts later h s len = rw (h, s.ends, append-nil all) refl
optional_read n all (Some t) ts later h s len = let r = stmt_read n t ts later h len s.quiet in rw r.1 (rw r.0 refl)

optional_takes : (o : Option StmtTree) (ts rest : List Token) → IsOptionalStmt o ts rest → length rest ≤ length ts
optional_takes None ts rest h = let e : length ts ≡ length rest = ap length h in omega arith
optional_takes (Some s) ts rest h = let less = stmt_one s ts rest h in omega arith

present_more : (o : Option StmtTree) (optionals : List (Option StmtTree)) → present (o ∷ []) ++ present optionals ≡ present (o ∷ optionals)
present_more None optionals = refl
present_more (Some s) optionals = refl

stmts_tail_read : (optionals : List (Option StmtTree)) (n turns : ℕ) (all : List StmtTree) (ts close rest : List Token) → EachAfter m.Semicolon IsOptionalStmt optionals ts close → IsMark m.CloseBrace close rest → length ts < n → length ts < turns → stmts_tail n turns all ts ≡ Some (all ++ present optionals, rest)
unfolding stmts_tail
stmts_tail_read optionals n zero all ts close rest h s len t = absurd (omega arith)
stmts_tail_read [] n (suc turns) all ts close rest h s len t = rw h (rw (sign_at m.CloseBrace m.CloseBrace close rest s, sign_tail m.CloseBrace close rest s, append-nil all) refl)
stmts_tail_read (o ∷ optionals) n (suc turns) all ts close rest h s len t =
    let one = sign_one m.Semicolon ts h.0 h.1 in
    let two = optional_takes o h.0 h.2.0 h.2.1 in
    let first = optional_read n all o h.0 h.2.0 h.2.1 (stmts_tail_stops optionals h.2.0 close rest h.2.2 s) (omega arith) in
    let others = stmts_tail_read optionals n turns (all ++ present (o ∷ [])) h.2.0 close rest h.2.2 s (omega arith) (omega arith) in
    rw (sign_at m.Semicolon m.CloseBrace ts h.0 h.1) (rw (after_sign m.Semicolon ts h.0 refl h.1) (rw first (others ∙ ap (λ (xs : List StmtTree). Some (xs, rest)) (append_assoc all (present (o ∷ [])) (present optionals) ∙ ap (λ (xs : List StmtTree). all ++ xs) (present_more o optionals)))))

optionals_read : (optionals : List (Option StmtTree)) (n : ℕ) (ts close rest : List Token) → SeparatedBy m.Semicolon IsOptionalStmt optionals ts close → IsMark m.CloseBrace close rest → length ts < n → stmts n ts ≡ Some (present optionals, rest)
unfolding stmts
optionals_read [] n ts close rest h s len = absurd h
optionals_read (o ∷ optionals) n ts close rest h s len =
    let two = optional_takes o ts h.0 h.1 in
    rw (optional_read n [] o ts h.0 h.1 (stmts_tail_stops optionals h.0 close rest h.2 s) len)
    (stmts_tail_read optionals n n (present (o ∷ [])) h.0 close rest h.2 s (omega arith) (omega arith) ∙ ap (λ (xs : List StmtTree). Some (xs, rest)) (present_more o optionals))

stmts_read : (n : ℕ) (all : List StmtTree) (ts close rest : List Token) → AreStmts all ts close → IsMark m.CloseBrace close rest → length ts < n → stmts n ts ≡ Some (all, rest)
stmts_read n all ts close rest h s len = optionals_read h.0 n ts close rest h.2 s len ∙ ap (λ (xs : List StmtTree). Some (xs, rest)) (sym h.1)

-- ---- clauses

description_read : (d : Description) (ts rest : List Token) → IsDescription d ts rest → description ts ≡ Some (d, rest)
unfolding description
description_read d ts rest h = rw h.begins.is (rw (described d ts rest h) refl)

descriptions_read : (ds : List Description) (turns : ℕ) (all : List Description) (ts rest : List Token) → EachAfter m.Comma IsDescription ds ts rest → is_at m.Comma rest ≡ false → length ts < turns → descriptions_tail turns all ts ≡ Some (all ++ ds, rest)
unfolding descriptions_tail_on
descriptions_read ds zero all ts rest h e len = absurd (omega arith)
descriptions_read [] (suc turns) all ts rest h e len = rw (h, e, append-nil all) refl
descriptions_read (d ∷ ds) (suc turns) all ts rest h e len =
    let one = sign_one m.Comma ts h.0 h.1 in
    let two : length h.0 ≡ suc (length h.2.0) = ap length h.2.1.begins.is in
    rw (sign_at m.Comma m.Comma ts h.0 h.1, sign_tail m.Comma ts h.0 h.1) (rw (description_read d h.0 h.2.0 h.2.1)
    (descriptions_read ds turns (all ++ d ∷ []) h.2.0 rest h.2.2 e (omega arith) ∙ ap (λ (xs : List Description). Some (xs, rest)) (append_assoc all (d ∷ []) ds)))

all_descriptions_read : (n : ℕ) (ds : List Description) (ts rest : List Token) → SeparatedBy m.Comma IsDescription ds ts rest → is_at m.Comma rest ≡ false → length ts < n → descriptions_reader n ts ≡ Some (ds, rest)
unfolding descriptions_reader
all_descriptions_read n [] ts rest h e len = absurd h
all_descriptions_read n (d ∷ ds) ts rest h e len =
    let one : length ts ≡ suc (length h.0) = ap length h.1.begins.is in
    rw (description_read d ts h.0 h.1) (descriptions_read ds n (d ∷ []) h.0 rest h.2 e (omega arith))

descriptions_take : (ds : List Description) (ts rest : List Token) → SeparatedBy m.Comma IsDescription ds ts rest → length rest < length ts
descriptions_take [] ts rest h = absurd h
descriptions_take (d ∷ ds) ts rest h =
    let used = descriptions_use (d ∷ ds) ts rest h in
    omega arith

predicate_read : (n : ℕ) (o : Option Tree) (ts rest more : List Token) → IsPredicate o ts rest → IsMark m.OpenBrace rest more → length ts < n → predicate_reader n ts ≡ Some (o, rest)
unfolding predicate_reader
predicate_read n None ts rest more h s len = rw (h, sign_at m.OpenBrace m.Slash rest more s) refl
predicate_read n (Some t) ts rest more h s len =
    let one = sign_one m.Slash ts h.0 h.1 in
    let quiet = sign_reach m.ClosingSlash h.2.0 rest f.Other h.2.2 refl in
    rw (sign_at m.Slash m.Slash ts h.0 h.1, sign_tail m.Slash ts h.0 h.1) (rw (expr_of t (reads t) n 1 h.0 h.2.0 h.2.1 (omega arith) (omega arith)) (rw (after_sign m.ClosingSlash h.2.0 rest refl h.2.2) refl))

predicate_starts : (o : Option Tree) (ts rest more : List Token) → IsPredicate o ts rest → IsMark m.OpenBrace rest more → is_at m.Comma ts ≡ false
predicate_starts None ts rest more h s = rw (h, sign_at m.OpenBrace m.Comma rest more s) refl
predicate_starts (Some t) ts rest more h s = sign_at m.Slash m.Comma ts h.0 h.1

clause_read : (n : ℕ) (c : ClauseTree) (ts rest : List Token) → IsClause c ts rest → length ts < n → clause_reader n ts ≡ Some (c, rest)
unfolding clause_reader
clause_read n c ts rest h len =
    let body = h.2.2 in
    let one = descriptions_take c.descriptions ts h.0 h.1 in
    let two = predicate_uses c.predicate h.0 h.2.0 h.2.1 in
    let three = sign_one m.OpenBrace h.2.0 body.0 body.1 in
    rw (all_descriptions_read n c.descriptions ts h.0 h.1 (predicate_starts c.predicate h.0 h.2.0 body.0 h.2.1 body.1) len)
    (rw (predicate_read n c.predicate h.0 h.2.0 body.0 h.2.1 body.1 (omega arith))
    (rw (after_sign m.OpenBrace h.2.0 body.0 refl body.1) (rw (stmts_read n c.statements body.0 body.2.0 rest body.2.1 body.2.2 (omega arith)) refl)))

clause_takes : (c : ClauseTree) (ts rest : List Token) → IsClause c ts rest → length rest < length ts
clause_takes c ts rest h =
    let body = h.2.2 in
    let one = descriptions_take c.descriptions ts h.0 h.1 in
    let two = predicate_uses c.predicate h.0 h.2.0 h.2.1 in
    let three = sign_one m.OpenBrace h.2.0 body.0 body.1 in
    let four = between_takes m.Semicolon IsOptionalStmt optional_takes body.2.1.0 body.0 body.2.0 body.2.1.2 in
    let five = sign_one m.CloseBrace body.2.0 rest body.2.2 in
    omega arith

-- ---- declarations

-- no word comes next
pub record NoWord (ts : List Token) : Type 0 where
  pub none : run ts ≡ []
  pub same : after_run ts ≡ ts

sign_no_word : (mark : Mark) (ts rest : List Token) → IsMark mark ts rest → NoWord ts
unfolding run after_run
sign_no_word mark ts rest h = record { none = ap run h.begins.is; same = rw h.begins.is refl }

type_read : (t : DeclaredType) (ts rest : List Token) → IsType t ts rest → NoWord rest → declared_type ts ≡ Some (t, rest)
unfolding declared_type
type_read t ts rest h quiet =
    let words = type_words h.0 t h.2 in
    let own : run ts ≡ h.0 = ap run h.1 ∙ (run_is h.0 rest words ∙ (ap (λ (xs : List Token). h.0 ++ xs) quiet.none ∙ append-nil h.0)) in
    let later : after_run ts ≡ rest = ap after_run h.1 ∙ (later_is h.0 rest words ∙ quiet.same) in
    rw (own, later, h.2) refl

tail_no_word : (all : List DeclaredType) (ts close rest : List Token) → EachAfter m.Comma IsType all ts close → IsMark m.CloseBracket close rest → NoWord ts
tail_no_word [] ts close rest h s = subst NoWord (sym h) (sign_no_word m.CloseBracket close rest s)
tail_no_word (t ∷ all) ts close rest h s = sign_no_word m.Comma ts h.0 h.1

types_read : (others : List DeclaredType) (turns : ℕ) (all : List DeclaredType) (ts close rest : List Token) → EachAfter m.Comma IsType others ts close → IsMark m.CloseBracket close rest → length ts < turns → types_tail turns all ts ≡ Some (all ++ others, rest)
unfolding types_tail_on
types_read others zero all ts close rest h s len = absurd (omega arith)
types_read [] (suc turns) all ts close rest h s len = rw h (rw (sign_at m.CloseBracket m.Comma close rest s) (rw (after_sign m.CloseBracket close rest refl s, append-nil all) refl))
types_read (t ∷ others) (suc turns) all ts close rest h s len =
    let one = sign_one m.Comma ts h.0 h.1 in
    let two = type_takes t h.0 h.2.0 h.2.1 in
    rw (sign_at m.Comma m.Comma ts h.0 h.1, sign_tail m.Comma ts h.0 h.1) (rw (type_read t h.0 h.2.0 h.2.1 (tail_no_word others h.2.0 close rest h.2.2 s))
    (types_read others turns (all ++ t ∷ []) h.2.0 close rest h.2.2 s (omega arith) ∙ ap (λ (xs : List DeclaredType). Some (xs, rest)) (append_assoc all (t ∷ []) others)))

key_types_read : (n : ℕ) (all : List DeclaredType) (ts rest more : List Token) → AreKeyTypes all ts rest → IsMark m.Semicolon rest more → length ts < n → key_types n ts ≡ Some (all, rest)
unfolding key_types
key_types_read n [] ts rest more h s len = rw (h, sign_at m.Semicolon m.OpenBracket rest more s) refl
key_types_read n (t ∷ all) ts rest more h s len =
    let one = sign_one m.OpenBracket ts h.0 h.1 in
    let types = h.2.1 in
    let two = type_takes t h.0 types.0 types.1 in
    rw (sign_at m.OpenBracket m.OpenBracket ts h.0 h.1, sign_tail m.OpenBracket ts h.0 h.1) (rw (type_read t h.0 types.0 types.1 (tail_no_word all types.0 h.2.0 rest types.2 h.2.2))
    (types_read all n (t ∷ []) types.0 h.2.0 rest types.2 h.2.2 (omega arith)))

keys_no_word : (all : List DeclaredType) (ts rest more : List Token) → AreKeyTypes all ts rest → IsMark m.Semicolon rest more → NoWord ts
keys_no_word [] ts rest more h s = subst NoWord (sym h) (sign_no_word m.Semicolon rest more s)
keys_no_word (t ∷ all) ts rest more h s = sign_no_word m.OpenBracket ts h.0 h.1

last_read : (words : List Token) (t : Token) → last_apart (words ++ t ∷ []) ≡ Some (words, t)
last_read [] t = refl
last_read (a ∷ words) t = rw (last_read words t) refl

word_run : (name : List ℕ) (line : ℕ) (ts rest : List Token) (h : IsToken (kind.Word name) line ts rest) → NoWord rest → (run ts ≡ token (kind.Word name) h.start h.stop line ∷ []) × (after_run ts ≡ rest)
unfolding run after_run
word_run name line ts rest h quiet = (ap run h.is ∙ ap (λ (xs : List Token). token (kind.Word name) h.start h.stop line ∷ xs) quiet.none, ap after_run h.is ∙ quiet.same)

typed_name_read : (t : DeclaredType) (name : List ℕ) (line : ℕ) (ts at_name rest : List Token) → IsType t ts at_name → IsToken (kind.Word name) line at_name rest → NoWord rest → typed_name ts ≡ Some ((t, name), rest)
unfolding typed_name
typed_name_read t name line ts at_name rest h b quiet =
    let last = word_run name line at_name rest b quiet in
    let words = type_words h.0 t h.2 in
    let own : run ts ≡ h.0 ++ token (kind.Word name) b.start b.stop line ∷ [] = ap run h.1 ∙ (run_is h.0 at_name words ∙ ap (λ (xs : List Token). h.0 ++ xs) last.0) in
    let later : after_run ts ≡ rest = ap after_run h.1 ∙ (later_is h.0 at_name words ∙ last.1) in
    rw (own, later) (rw (last_read h.0 (token (kind.Word name) b.start b.stop line)) (rw h.2 refl))

declared_length : (which : WordKind) (line : ℕ) (t : DeclaredType) (name : List ℕ) (all : List DeclaredType) (ts rest : List Token) (h : IsDeclared which line t name all ts rest) → length h.2.2.2.0 < length ts
declared_length which line t name all ts rest h =
    let one = word_one which h.0 line ts h.2.0 h.2.1 in
    let two = type_takes t h.2.0 h.2.2.0 h.2.2.1 in
    let three : length h.2.2.0 ≡ suc (length h.2.2.2.0) = ap length h.2.2.2.1.is in
    omega arith

thread_read : (n line : ℕ) (t : DeclaredType) (name : List ℕ) (all : List DeclaredType) (ts rest : List Token) (h : IsDeclared w.Thread line t name all ts rest) → length ts < n → of_thread n line h.2.0 ≡ Some (OfThread line t name all, rest)
unfolding of_thread
thread_read n line t name all ts rest h len =
    let less = declared_length w.Thread line t name all ts rest h in
    let at_name = h.2.2 in
    let keys = at_name.2 in
    rw (typed_name_read t name h.1 h.2.0 at_name.0 keys.0 at_name.1 keys.1 (keys_no_word all keys.0 keys.2.0 rest keys.2.1 keys.2.2))
    (rw (key_types_read n all keys.0 keys.2.0 rest keys.2.1 keys.2.2 (omega arith)) (rw (after_sign m.Semicolon keys.2.0 rest refl keys.2.2) refl))

clause_local_read : (line : ℕ) (t : DeclaredType) (name : List ℕ) (ts rest : List Token) (h : IsDeclared w.Clause line t name [] ts rest) → of_clause line h.2.0 ≡ Some (OfClause line t name, rest)
unfolding of_clause
clause_local_read line t name ts rest h =
    let at_name = h.2.2 in
    let keys = at_name.2 in
    rw (typed_name_read t name h.1 h.2.0 at_name.0 keys.0 at_name.1 keys.1 (keys_no_word [] keys.0 keys.2.0 rest keys.2.1 keys.2.2))
    (rw keys.2.1 (rw (after_sign m.Semicolon keys.2.0 rest refl keys.2.2) refl))

-- ---- scripts

declared_item : (n line : ℕ) (first : List ℕ) (which : WordKind) (d : DeclarationTree) (ts later rest : List Token) → IsToken (kind.Word first) line ts later → word_kind first ≡ which → declaration_by which n line later ≡ Some (d, rest) → item_reader n ts ≡ Some (Declared d, rest)
unfolding item_reader
declared_item n line first which d ts later rest h w e = rw h.is (rw w (rw e refl))

probing_item : (n line : ℕ) (run : List ℕ) (ts later : List Token) → IsToken (kind.DescriptionRun run) line ts later → item_reader n ts ≡ (clause_reader n ts >>= λ c. Some (Probing c.0, c.1))
unfolding item_reader
probing_item n line run ts later h = rw h.is refl

first_run : (n : ℕ) (ds : List Description) (ts rest : List Token) → SeparatedBy m.Comma IsDescription ds ts rest → item_reader n ts ≡ (clause_reader n ts >>= λ c. Some (Probing c.0, c.1))
first_run n [] ts rest h = absurd h
first_run n (d ∷ ds) ts rest h = probing_item n h.1.line h.1.run ts h.0 h.1.begins

item_read : (n : ℕ) (i : ItemTree) (ts rest : List Token) → IsItem i ts rest → length ts < n → item_reader n ts ≡ Some (i, rest)
item_read n (Declared (OfThread line t name all)) ts rest h len = declared_item n line h.0 w.Thread (OfThread line t name all) ts h.2.0 rest h.2.1.1 h.2.1.0 (thread_read n line t name all ts rest h len)
item_read n (Declared (OfClause line t name)) ts rest h len = declared_item n line h.0 w.Clause (OfClause line t name) ts h.2.0 rest h.2.1.1 h.2.1.0 (clause_local_read line t name ts rest h)
item_read n (Probing c) ts rest h len = first_run n c.descriptions ts h.0 h.1 ∙ rw (clause_read n c ts rest h len) refl

item_takes : (n : ℕ) (i : ItemTree) (ts rest : List Token) → IsItem i ts rest → length rest < length ts
item_takes n (Declared d) ts rest h = let used = declaration_uses d ts rest h in omega arith
item_takes n (Probing c) ts rest h = clause_takes c ts rest h

items_goes : (n turns : ℕ) (all : List ItemTree) (ts : List Token) (x : ItemTree × List Token) → item_reader n ts ≡ Some x → items_reader n (suc turns) all ts ≡ items_reader n turns (all ++ x.0 ∷ []) x.1
unfolding items_reader item_reader
items_goes n turns all [] x e = absurd cc
items_goes n turns all (t ∷ ts) x e = rw e refl

items_read : (l : List ItemTree) (n turns : ℕ) (all : List ItemTree) (ts : List Token) → IsScript l ts → length ts < n → length ts < turns → items_reader n turns all ts ≡ Some (all ++ l)
unfolding items_reader
items_read l n zero all ts h len t = absurd (omega arith)
items_read [] n (suc turns) all ts h len t = rw (h, append-nil all) refl
items_read (i ∷ l) n (suc turns) all ts h len t =
    let less = item_takes n i ts h.0 h.1 in
    items_goes n turns all ts (i, h.0) (item_read n i ts h.0 h.1 len) ∙ (items_read l n turns (all ++ i ∷ []) h.0 h.2 (omega arith) (omega arith) ∙ ap (λ (xs : List ItemTree). Some xs) (append_assoc all (i ∷ []) l))

pub script_complete : (l : List ItemTree) (ts : List Token) → IsScript l ts → script_reader ts ≡ Some l
unfolding script_reader
script_complete l ts h = items_read l (length ts + 1) (length ts + 1) [] ts h (omega arith) (omega arith)

-- a list has one script at most
pub one_script : (ts : List Token) (k l : List ItemTree) → IsScript k ts → IsScript l ts → k ≡ l
one_script ts k l h g = let both : Some k ≡ Some l = sym (script_complete k ts h) ∙ script_complete l ts g in cc
