-- Each description, statement, declaration and place of a variable has a token of its own.
use Rattle.std.proofs.Common.{◌≡◌, ℕ, suc, ◌+◌, ◌≤◌, max, List, [], ◌∷◌, length, Option}
use Rattle.std.proofs.Common.{Some, None, refl, ap, arith}
use Rattle.d_lexer.specs.declared.token.Mark.TheVariants as m
use Rattle.d_lexer.specs.declared.token.Token.{Token}
use Rattle.d_parser.specs.declared.tree.DeclaredType.{DeclaredType}
use Rattle.d_parser.specs.declared.tree.Description.{Description}
use Rattle.d_parser.specs.Tree.{Tree}
use Rattle.d_parser.specs.Tree.{StmtTree, Expression, Aggregation, DeclarationTree, OfThread}
use Rattle.d_parser.specs.Tree.{OfClause, ClauseTree, ItemTree, Declared, Probing}
use Rattle.d_parser.specs.declared.words.WordKind.{WordKind}
use Rattle.d_parser.specs.declared.words.WordKind.TheVariants as w
use Rattle.d_parser.specs.Grammar.{IsType}
use Rattle.d_parser.specs.Script.{EachAfter, SeparatedBy, IsStmt, IsOptionalStmt, AreStmts}
use Rattle.d_parser.specs.Script.{IsDescription, IsPredicate, IsClause, AreKeyTypes, IsDeclared}
use Rattle.d_parser.specs.Script.{IsDeclaration, IsItem, IsScript}
use Rattle.d_parser.specs.Sizes.{in_all, in_predicate, in_stmt, variables}
use Rattle.d_parser.specs.Sizes.{descriptions, statements, IsWithin}
use Rattle.d_parser.proofs.Takes.{Uses, sign_one, word_one, type_takes, keys_use, list_uses}
use Rattle.d_parser.proofs.Takes.{expr_uses, between_takes}
use Rattle.d_parser.proofs.Tokens.{present}

same : (ts rest : List Token) → ts ≡ rest → length ts ≡ length rest
same ts rest e = ap length e

-- ---- statements

-- a token for each place of a variable, and one at least
stmt_uses : (s : StmtTree) → Uses (max 1 (in_stmt s)) (IsStmt s)
stmt_uses (Expression t) ts rest h = expr_uses t 1 ts rest h
stmt_uses (Aggregation line name keys function arguments) ts rest h =
    let at_assign = h.1.2 in
    let at_word = at_assign.2 in
    let at_open = at_word.2 in
    let inside = at_open.2 in
    let one : length ts ≡ suc (length h.1.0) = ap length h.1.1.is in
    let two = keys_use keys h.1.0 at_assign.0 at_assign.1 in
    let three = sign_one m.Assign at_assign.0 at_word.0 at_word.1 in
    let four : length at_word.0 ≡ suc (length at_open.0) = ap length at_open.1.is in
    let five = sign_one m.OpenParenthesis at_open.0 inside.0 inside.1 in
    let six = list_uses arguments inside.0 inside.2.0 inside.2.1 in
    let seven = sign_one m.CloseParenthesis inside.2.0 rest inside.2.2 in
    omega arith

stmt_places : (s : StmtTree) → Uses (in_stmt s) (IsStmt s)
stmt_places s ts rest h = let used = stmt_uses s ts rest h in omega arith

pub stmt_one : (s : StmtTree) → Uses 1 (IsStmt s)
stmt_one s ts rest h = let used = stmt_uses s ts rest h in omega arith

-- a count of which each statement takes no more than tokens
abbrev Counts : (StmtTree → ℕ) → Type 0
Counts f = (s : StmtTree) → Uses (f s) (IsStmt s)

stmts_tail_use : (f : StmtTree → ℕ) → Counts f → (optionals : List (Option StmtTree)) → Uses (in_all f (present optionals)) (EachAfter m.Semicolon IsOptionalStmt optionals)
stmts_tail_use f c [] ts rest h = let e = same ts rest h in omega arith
stmts_tail_use f c (None ∷ optionals) ts rest h =
    let one = sign_one m.Semicolon ts h.0 h.1 in
    let two = same h.0 h.2.0 h.2.1 in
    let three = stmts_tail_use f c optionals h.2.0 rest h.2.2 in
    omega arith
stmts_tail_use f c (Some s ∷ optionals) ts rest h =
    let one = sign_one m.Semicolon ts h.0 h.1 in
    let two = c s h.0 h.2.0 h.2.1 in
    let three = stmts_tail_use f c optionals h.2.0 rest h.2.2 in
    omega arith

optionals_use : (f : StmtTree → ℕ) → Counts f → (optionals : List (Option StmtTree)) → Uses (in_all f (present optionals)) (SeparatedBy m.Semicolon IsOptionalStmt optionals)
optionals_use f c [] ts rest h = absurd h
optionals_use f c (None ∷ optionals) ts rest h = let one = same ts h.0 h.1 in let two = stmts_tail_use f c optionals h.0 rest h.2 in omega arith
optionals_use f c (Some s ∷ optionals) ts rest h = let one = c s ts h.0 h.1 in let two = stmts_tail_use f c optionals h.0 rest h.2 in omega arith

stmts_use : (f : StmtTree → ℕ) → Counts f → (all : List StmtTree) → Uses (in_all f all) (AreStmts all)
stmts_use f c all ts rest h = rw h.1 (optionals_use f c h.0 ts rest h.2)

-- each counted once
one_each : {A : Type 0} (xs : List A) → in_all (λ x. 1) xs ≡ length xs
one_each [] = refl
one_each (x ∷ xs) = let below = one_each xs in omega arith

-- ---- clauses and declarations

descriptions_tail_use : (ds : List Description) → Uses (length ds) (EachAfter m.Comma IsDescription ds)
descriptions_tail_use [] ts rest h = let e = same ts rest h in omega arith
descriptions_tail_use (d ∷ ds) ts rest h =
    let one = sign_one m.Comma ts h.0 h.1 in
    let two : length h.0 ≡ suc (length h.2.0) = ap length h.2.1.begins.is in
    let three = descriptions_tail_use ds h.2.0 rest h.2.2 in
    omega arith

pub descriptions_use : (ds : List Description) → Uses (length ds) (SeparatedBy m.Comma IsDescription ds)
descriptions_use [] ts rest h = absurd h
descriptions_use (d ∷ ds) ts rest h =
    let two : length ts ≡ suc (length h.0) = ap length h.1.begins.is in
    let three = descriptions_tail_use ds h.0 rest h.2 in
    omega arith

pub predicate_uses : (p : Option Tree) → Uses (in_predicate p) (IsPredicate p)
predicate_uses None ts rest h = let e = same ts rest h in omega arith
predicate_uses (Some t) ts rest h =
    let one = sign_one m.Slash ts h.0 h.1 in
    let two = expr_uses t 1 h.0 h.2.0 h.2.1 in
    let three = sign_one m.ClosingSlash h.2.0 rest h.2.2 in
    omega arith

key_types_use : (all : List DeclaredType) → Uses 0 (AreKeyTypes all)
key_types_use [] ts rest h = let e = same ts rest h in omega arith
key_types_use (t ∷ all) ts rest h =
    let one = sign_one m.OpenBracket ts h.0 h.1 in
    let two = between_takes m.Comma IsType type_takes (t ∷ all) h.0 h.2.0 h.2.1 in
    let three = sign_one m.CloseBracket h.2.0 rest h.2.2 in
    omega arith

declared_uses : (which : WordKind) (line : ℕ) (t : DeclaredType) (name : List ℕ) (keys : List DeclaredType) → Uses 1 (IsDeclared which line t name keys)
declared_uses which line t name keys ts rest h =
    let at_name = h.2.2 in
    let at_keys = at_name.2 in
    let one = word_one which h.0 line ts h.2.0 h.2.1 in
    let two = type_takes t h.2.0 at_name.0 at_name.1 in
    let three : length at_name.0 ≡ suc (length at_keys.0) = ap length at_keys.1.is in
    let four = key_types_use keys at_keys.0 at_keys.2.0 at_keys.2.1 in
    let five = sign_one m.Semicolon at_keys.2.0 rest at_keys.2.2 in
    omega arith

pub declaration_uses : (d : DeclarationTree) → Uses 1 (IsDeclaration d)
declaration_uses (OfThread line t name keys) ts rest h = declared_uses w.Thread line t name keys ts rest h
declaration_uses (OfClause line t name) ts rest h = declared_uses w.Clause line t name [] ts rest h

-- ---- scripts

clause_uses : (c : ClauseTree) (ts rest : List Token) → IsClause c ts rest → (length c.descriptions + length rest ≤ length ts) × (length c.statements + length rest ≤ length ts) × (in_predicate c.predicate + in_all in_stmt c.statements + length rest ≤ length ts)
clause_uses c ts rest h =
    let body = h.2.2 in
    let one = descriptions_use c.descriptions ts h.0 h.1 in
    let two = predicate_uses c.predicate h.0 h.2.0 h.2.1 in
    let three = sign_one m.OpenBrace h.2.0 body.0 body.1 in
    let four = stmts_use in_stmt stmt_places c.statements body.0 body.2.0 body.2.1 in
    let five = stmts_use (λ s. 1) stmt_one c.statements body.0 body.2.0 body.2.1 in
    let six = one_each c.statements in
    let seven = sign_one m.CloseBrace body.2.0 rest body.2.2 in
    (omega arith, omega arith, omega arith)

item_uses : (i : ItemTree) (ts rest : List Token) → IsItem i ts rest → (descriptions i + length rest ≤ length ts) × (statements i + length rest ≤ length ts) × (variables i + length rest ≤ length ts)
item_uses (Declared d) ts rest h = let one = declaration_uses d ts rest h in (omega arith, omega arith, one)
item_uses (Probing c) ts rest h = clause_uses c ts rest h

script_uses : (s : List ItemTree) (ts : List Token) → IsScript s ts → IsWithin (length ts) s
script_uses [] ts h = record { few_descriptions = omega arith; few_statements = omega arith; few_variables = omega arith }
script_uses (i ∷ s) ts h =
    let one = item_uses i ts h.0 h.1 in
    let two = script_uses s h.0 h.2 in
    let d = one.0 in
    let e = two.few_descriptions in
    let f = one.1 in
    let g = two.few_statements in
    let j = one.2 in
    let k = two.few_variables in
    record { few_descriptions = omega arith; few_statements = omega arith; few_variables = omega arith }

pub script_within : (s : List ItemTree) (ts : List Token) (n : ℕ) → length ts ≤ n → IsScript s ts → IsWithin n s
script_within s ts n le h =
    let w = script_uses s ts h in
    let d = w.few_descriptions in
    let e = w.few_statements in
    let f = w.few_variables in
    record { few_descriptions = omega arith; few_statements = omega arith; few_variables = omega arith }
