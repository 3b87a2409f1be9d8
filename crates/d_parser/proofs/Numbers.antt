-- A tree of tokens whose numbers are small has small numbers.
use Rattle.std.proofs.Common.{◌≡◌, ℕ, zero, suc, List, [], ◌∷◌, ◌++◌, Option, Some, None, Result}
use Rattle.std.proofs.Common.{Ok, Err, sym, subst}
use Rattle.std.specs.Prelude.{IfOk}
use Rattle.d_lexer.specs.Small as token
use Rattle.d_lexer.specs.declared.token.Mark.{Mark}
use Rattle.d_lexer.specs.declared.token.Mark.TheVariants as m
use Rattle.d_lexer.specs.declared.token.Token.{Token}
use Rattle.d_lexer.specs.declared.token.TokenKind.{TokenKind}
use Rattle.d_parser.specs.declared.fault.ParseFault.{ParseFault}
use Rattle.d_parser.specs.declared.tree.Constant.{Constant}
use Rattle.d_parser.specs.declared.tree.Constant.TheVariants as c
use Rattle.d_parser.specs.declared.tree.DeclaredType.{DeclaredType}
use Rattle.d_parser.specs.declared.tree.DeclaredType.TheVariants as d
use Rattle.d_parser.specs.declared.tree.Description.{Description}
use Rattle.d_parser.specs.declared.tree.Script.{Script}
use Rattle.d_parser.specs.declared.tree.Variable.{Variable}
use Rattle.d_parser.specs.declared.tree.Variable.TheVariants as v
use Rattle.d_parser.specs.declared.words.WordKind.{WordKind}
use Rattle.d_parser.specs.declared.words.WordKind.TheVariants as w
use Rattle.d_parser.specs.Tree.{Tree, Known, Read, Call, Unary, Cast, Before, After, Binary, Choice}
use Rattle.d_parser.specs.Tree.{Assign, Trees, end, more}
use Rattle.d_parser.specs.Tree.{StmtTree, Expression, Aggregation, DeclarationTree, OfThread}
use Rattle.d_parser.specs.Tree.{OfClause, ClauseTree, ItemTree, Declared, Probing, script_of}
use Rattle.d_parser.specs.Grammar.{Part, IsToken, IsMark, Within, IsOfLevel, level, constant_kind}
use Rattle.d_parser.specs.Grammar.{IsWord, IsMember, IsTarget, IsType, Spells, SpellsKeys}
use Rattle.d_parser.specs.Grammar.{SpellsList, SpellsMore}
use Rattle.d_parser.specs.Steps.Marks.{level_of}
use Rattle.d_parser.specs.Numbers.{IsSmall, HasSmall, HaveSmall, InPredicate, InStatement}
use Rattle.d_parser.specs.Numbers.{InStatements, AreSmall}
use Rattle.d_parser.specs.Script.{EachAfter, SeparatedBy, IsStmt, IsOptionalStmt, AreStmts}
use Rattle.d_parser.specs.Script.{IsDescription, IsPredicate, IsClause, AreKeyTypes, IsDeclared}
use Rattle.d_parser.specs.Script.{IsDeclaration, IsScript}
use Rattle.d_parser.proofs.Tokens.{present}

abbrev Small : List Token → Type 0
Small = token.HaveSmallNumbers

-- what is spelled by small tokens is as Q says, and leaves small tokens
abbrev Keeps : Type 0 → Part → Type 0
Keeps Q P = (ts rest : List Token) → Small ts → P ts rest → Q × Small rest

-- it leaves small tokens
abbrev Leaves : Part → Type 0
Leaves P = (ts rest : List Token) → Small ts → P ts rest → Small rest

begins_small : (k : TokenKind) (line : ℕ) → Keeps (token.HasSmallNumber k) (IsToken k line)
begins_small k line ts rest s h = subst Small h.is s

sign_small : (mark : Mark) → Leaves (IsMark mark)
sign_small mark ts rest s h = (begins_small _ h.line ts rest s h.begins).1

same_small : (ts rest : List Token) → Small ts → ts ≡ rest → Small rest
same_small ts rest s e = subst Small e s

later_small : (ts rest : List Token) → Small (ts ++ rest) → Small rest
later_small [] rest s = s
later_small (t ∷ ts) rest s = later_small ts rest s.1

within_small : (Q : Type 0) (n : ℕ) (P : Part) → Keeps Q P → Keeps Q (Within n P)
within_small Q zero P f ts rest s h = f ts rest s h
within_small Q (suc n) P f ts rest s h =
    let inside = within_small Q n P f h.0 h.2.0 (sign_small _ ts h.0 s h.1) h.2.1 in
    (inside.0, sign_small _ h.2.0 rest inside.1 h.2.2)

expr_small : (t : Tree) (k : ℕ) → Keeps (HasSmall t) (Spells t) → Keeps (HasSmall t) (IsOfLevel (Spells t) (level t) k)
expr_small t k f ts rest s h = within_small (HasSmall t) h.pairs (Spells t) f ts rest s h.within

word_small : (which : WordKind) (word : List ℕ) (line : ℕ) → Leaves (IsWord which word line)
word_small which word line ts rest s h = (begins_small _ line ts rest s h.1).1

member_small : (which : WordKind) (word : List ℕ) (line : ℕ) → Leaves (IsMember which word line)
member_small which word line ts rest s h =
    let arrow = h.2.2 in
    let first = word_small which h.0 line ts h.2.0 s h.2.1 in
    word_small w.Plain word h.1 arrow.0 rest (sign_small _ h.2.0 arrow.0 first arrow.1) arrow.2

target_small : (x : Variable) (all : Trees) → Keeps (HaveSmall all) (SpellsKeys all) → Keeps (HaveSmall all) (IsTarget x all (SpellsKeys all))
target_small (v.Plain line name) all f ts rest s h = f h.0 rest (word_small w.Plain name line ts h.0 s h.1) h.2
target_small (v.Thread line name) all f ts rest s h = f h.0 rest (member_small w.Thread name line ts h.0 s h.1) h.2
target_small (v.Clause line name) all f ts rest s h = (subst HaveSmall (sym h.0) tt, member_small w.Clause name line ts rest s h.1)

type_small : (t : DeclaredType) → Leaves (IsType t)
type_small t ts rest s h = later_small h.0 rest (subst Small h.1 s)

constant_small : (k : Constant) → token.HasSmallNumber (constant_kind k) → IsSmall k
constant_small (c.Number value suffix) h = h
constant_small (c.Text bytes) h = tt

mutual
  spells_small : (t : Tree) → Keeps (HasSmall t) (Spells t)
  spells_small (Known line k) ts rest s h = let all = begins_small (constant_kind k) line ts rest s h in (constant_small k all.0, all.1)
  spells_small (Read x keys) ts rest s h = target_small x keys (keys_small keys) ts rest s h
  spells_small (Call line name arguments) ts rest s h =
      let named = word_small w.Plain name line ts h.0 s h.1 in
      let openings = sign_small _ h.0 h.2.0 named h.2.1 in
      let inside = list_small arguments h.2.0 h.2.2.0 openings h.2.2.1 in
      (inside.0, sign_small _ h.2.2.0 rest inside.1 h.2.2.2)
  spells_small (Unary line op a) ts rest s h = expr_small a 14 (spells_small a) h.0 rest (begins_small _ line ts h.0 s h.1).1 h.2
  spells_small (Cast line to a) ts rest s h =
      let openings = (begins_small _ line ts h.0 s h.1).1 in
      let typed = type_small (d.Integer to) h.0 h.2.0 openings h.2.1 in
      expr_small a 14 (spells_small a) h.2.2.0 rest (sign_small _ h.2.0 h.2.2.0 typed h.2.2.1) h.2.2.2
  spells_small (Before line step x keys) ts rest s h = target_small x keys (keys_small keys) h.0 rest (begins_small _ line ts h.0 s h.1).1 h.2
  spells_small (After x keys step) ts rest s h =
      let all = target_small x keys (keys_small keys) ts h.0 s h.1 in
      (all.0, sign_small _ h.0 rest all.1 h.2)
  spells_small (Binary op a b) ts rest s h =
      let left = expr_small a (level_of op) (spells_small a) ts h.0 s h.1 in
      let right = expr_small b (suc (level_of op)) (spells_small b) h.2.0 rest (sign_small _ h.0 h.2.0 left.1 h.2.1) h.2.2 in
      ((left.0, right.0), right.1)
  spells_small (Choice test a b) ts rest s h =
      let first = h.2.2 in
      let second = first.2 in
      let one = expr_small test 3 (spells_small test) ts h.0 s h.1 in
      let two = expr_small a 1 (spells_small a) h.2.0 first.0 (sign_small _ h.0 h.2.0 one.1 h.2.1) first.1 in
      let three = expr_small b 2 (spells_small b) second.0 rest (sign_small _ first.0 second.0 two.1 second.1) second.2 in
      ((one.0, two.0, three.0), three.1)
  spells_small (Assign op x keys a) ts rest s h =
      let one = target_small x keys (keys_small keys) ts h.0 s h.1 in
      let two = expr_small a 1 (spells_small a) h.2.0 rest (sign_small _ h.0 h.2.0 one.1 h.2.1) h.2.2 in
      ((one.0, two.0), two.1)

  keys_small : (l : Trees) → Keeps (HaveSmall l) (SpellsKeys l)
  keys_small end ts rest s h = (tt, same_small ts rest s h)
  keys_small (more a l) ts rest s h =
      let inside = h.2.1 in
      let one = expr_small a 1 (spells_small a) h.0 inside.0 (sign_small _ ts h.0 s h.1) inside.1 in
      let two = more_small l inside.0 h.2.0 one.1 inside.2 in
      ((one.0, two.0), sign_small _ h.2.0 rest two.1 h.2.2)

  list_small : (l : Trees) → Keeps (HaveSmall l) (SpellsList l)
  list_small end ts rest s h = (tt, same_small ts rest s h)
  list_small (more a l) ts rest s h =
      let one = expr_small a 1 (spells_small a) ts h.0 s h.1 in
      let two = more_small l h.0 rest one.1 h.2 in
      ((one.0, two.0), two.1)

  more_small : (l : Trees) → Keeps (HaveSmall l) (SpellsMore l)
  more_small end ts rest s h = (tt, same_small ts rest s h)
  more_small (more a l) ts rest s h =
      let one = expr_small a 1 (spells_small a) h.0 h.2.0 (sign_small _ ts h.0 s h.1) h.2.1 in
      let two = more_small l h.2.0 rest one.1 h.2.2 in
      ((one.0, two.0), two.1)

-- ---- lists

each_small : {A : Type 0} (mark : Mark) (Is : A → Part) → ((x : A) → Leaves (Is x)) → (xs : List A) → Leaves (EachAfter mark Is xs)
each_small mark Is f [] ts rest s h = same_small ts rest s h
each_small mark Is f (x ∷ xs) ts rest s h = each_small mark Is f xs h.2.0 rest (f x h.0 h.2.0 (sign_small mark ts h.0 s h.1) h.2.1) h.2.2

between_small : {A : Type 0} (mark : Mark) (Is : A → Part) → ((x : A) → Leaves (Is x)) → (xs : List A) → Leaves (SeparatedBy mark Is xs)
between_small mark Is f [] ts rest s h = absurd h
between_small mark Is f (x ∷ xs) ts rest s h = each_small mark Is f xs h.0 rest (f x ts h.0 s h.1) h.2

-- ---- statements

stmt_small : (t : StmtTree) → Keeps (InStatement t) (IsStmt t)
stmt_small (Expression t) ts rest s h = expr_small t 1 (spells_small t) ts rest s h
stmt_small (Aggregation line name keys function arguments) ts rest s h =
    let at_assign = h.1.2 in
    let at_word = at_assign.2 in
    let at_open = at_word.2 in
    let inside = at_open.2 in
    let named = (begins_small _ line ts h.1.0 s h.1.1).1 in
    let one = keys_small keys h.1.0 at_assign.0 named at_assign.1 in
    let called = (begins_small _ h.0 at_word.0 at_open.0 (sign_small _ at_assign.0 at_word.0 one.1 at_word.1) at_open.1).1 in
    let two = list_small arguments inside.0 inside.2.0 (sign_small _ at_open.0 inside.0 called inside.1) inside.2.1 in
    ((one.0, two.0), sign_small _ inside.2.0 rest two.1 inside.2.2)

stmts_tail_small : (optionals : List (Option StmtTree)) → Keeps (InStatements (present optionals)) (EachAfter m.Semicolon IsOptionalStmt optionals)
stmts_tail_small [] ts rest s h = (tt, same_small ts rest s h)
stmts_tail_small (None ∷ optionals) ts rest s h =
    stmts_tail_small optionals h.2.0 rest (same_small h.0 h.2.0 (sign_small _ ts h.0 s h.1) h.2.1) h.2.2
stmts_tail_small (Some t ∷ optionals) ts rest s h =
    let one = stmt_small t h.0 h.2.0 (sign_small _ ts h.0 s h.1) h.2.1 in
    let two = stmts_tail_small optionals h.2.0 rest one.1 h.2.2 in
    ((one.0, two.0), two.1)

optionals_small : (optionals : List (Option StmtTree)) → Keeps (InStatements (present optionals)) (SeparatedBy m.Semicolon IsOptionalStmt optionals)
optionals_small [] ts rest s h = absurd h
optionals_small (None ∷ optionals) ts rest s h = stmts_tail_small optionals h.0 rest (same_small ts h.0 s h.1) h.2
optionals_small (Some t ∷ optionals) ts rest s h =
    let one = stmt_small t ts h.0 s h.1 in
    let two = stmts_tail_small optionals h.0 rest one.1 h.2 in
    ((one.0, two.0), two.1)

stmts_small : (all : List StmtTree) → Keeps (InStatements all) (AreStmts all)
stmts_small all ts rest s h =
    let found = optionals_small h.0 ts rest s h.2 in
    (subst InStatements (sym h.1) found.0, found.1)

-- ---- clauses and declarations

description_small : (d : Description) → Leaves (IsDescription d)
description_small d ts rest s h = (begins_small _ h.line ts rest s h.begins).1

predicate_small : (p : Option Tree) → Keeps (InPredicate p) (IsPredicate p)
predicate_small None ts rest s h = (tt, same_small ts rest s h)
predicate_small (Some t) ts rest s h =
    let one = expr_small t 1 (spells_small t) h.0 h.2.0 (sign_small _ ts h.0 s h.1) h.2.1 in
    (one.0, sign_small _ h.2.0 rest one.1 h.2.2)

key_types_small : (all : List DeclaredType) → Leaves (AreKeyTypes all)
key_types_small [] ts rest s h = same_small ts rest s h
key_types_small (t ∷ all) ts rest s h =
    let inside = between_small m.Comma IsType type_small (t ∷ all) h.0 h.2.0 (sign_small _ ts h.0 s h.1) h.2.1 in
    sign_small _ h.2.0 rest inside h.2.2

declared_small : (which : WordKind) (line : ℕ) (t : DeclaredType) (name : List ℕ) (keys : List DeclaredType) → Leaves (IsDeclared which line t name keys)
declared_small which line t name keys ts rest s h =
    let at_name = h.2.2 in
    let at_keys = at_name.2 in
    let typed = type_small t h.2.0 at_name.0 (word_small which h.0 line ts h.2.0 s h.2.1) at_name.1 in
    let named = (begins_small _ h.1 at_name.0 at_keys.0 typed at_keys.1).1 in
    sign_small _ at_keys.2.0 rest (key_types_small keys at_keys.0 at_keys.2.0 named at_keys.2.1) at_keys.2.2

declaration_small : (d : DeclarationTree) → Leaves (IsDeclaration d)
declaration_small (OfThread line t name keys) ts rest s h = declared_small _ line t name keys ts rest s h
declaration_small (OfClause line t name) ts rest s h = declared_small _ line t name [] ts rest s h

clause_small : (k : ClauseTree) → Keeps (InPredicate k.predicate × InStatements k.statements) (IsClause k)
clause_small k ts rest s h =
    let body = h.2.2 in
    let described = between_small m.Comma IsDescription description_small k.descriptions ts h.0 s h.1 in
    let one = predicate_small k.predicate h.0 h.2.0 described h.2.1 in
    let two = stmts_small k.statements body.0 body.2.0 (sign_small _ h.2.0 body.0 one.1 body.1) body.2.1 in
    ((one.0, two.0), sign_small _ body.2.0 rest two.1 body.2.2)

-- ---- scripts

pub script_small : (items : List ItemTree) (ts : List Token) → Small ts → IsScript items ts → AreSmall items
script_small [] ts s h = tt
script_small (Declared d ∷ items) ts s h = script_small items h.0 (declaration_small d ts h.0 s h.1) h.2
script_small (Probing k ∷ items) ts s h =
    let one = clause_small k ts h.0 s h.1 in
    (one.0.0, one.0.1, script_small items h.0 one.1 h.2)

pub small_of : (r : Result Script ParseFault) (ts : List Token) → Small ts → IfOk r (λ x. IsScript (script_of x) ts) → IfOk r (λ x. AreSmall (script_of x))
small_of (Ok x) ts s h = script_small (script_of x) ts s h
small_of (Err e) ts s h = tt
