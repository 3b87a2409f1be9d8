-- What spells a tree is read as that tree.
use Rattle.std.proofs.Common.{◌≡◌, ℕ, zero, suc, ◌<◌, ◌≤◌, max, Bool, true, false, List, [], ◌∷◌}
use Rattle.std.proofs.Common.{◌++◌, length, Some, None, refl, sym, ap, ◌∙◌, arith, rules}
use Rattle.std.proofs.Common.{inl, inr, lit≤, lit<}
use Rattle.std.proofs.lemmas.List.{append-nil}
use Rattle.std.proofs.lemmas.Bool.{cases_lt, le-leb, lt-leb}
use denote.Enum.Bare.{same_true}
use Rattle.d_lexer.specs.contracts.token.Mark.{the_type}
use Rattle.d_lexer.specs.declared.token.Mark.{Mark}
use Rattle.d_lexer.specs.declared.token.Mark.TheVariants as m
use Rattle.d_lexer.specs.declared.token.Token.{Token}
use Rattle.d_lexer.specs.declared.token.TokenKind.{TokenKind}
use Rattle.d_lexer.specs.declared.token.TokenKind.TheVariants as kind
use Rattle.d_parser.specs.declared.operators.UnaryOperator.{UnaryOperator}
use Rattle.d_parser.specs.declared.operators.BinaryOperator.{BinaryOperator}
use Rattle.d_parser.specs.declared.operators.BinaryOperator.TheVariants as b
use Rattle.d_parser.specs.declared.operators.LogicOperator.TheVariants as lo
use Rattle.d_values.specs.declared.operators.ArithmeticOperator.TheVariants as ar
use Rattle.d_values.specs.declared.operators.ShiftOperator.TheVariants as sh
use Rattle.d_values.specs.declared.operators.ComparisonOperator.TheVariants as cm
use Rattle.d_parser.specs.declared.operators.AssignOperator.{AssignOperator}
use Rattle.d_parser.specs.declared.operators.Step.{Step}
use Rattle.d_parser.specs.declared.tree.IntegerType.{IntegerType}
use Rattle.d_parser.specs.declared.tree.Constant.{Constant}
use Rattle.d_parser.specs.declared.tree.Constant.TheVariants as c
use Rattle.d_parser.specs.declared.tree.Variable.{Variable}
use Rattle.d_parser.specs.declared.tree.Variable.TheVariants as v
use Rattle.d_parser.specs.declared.words.WordKind.{WordKind}
use Rattle.d_parser.specs.declared.words.WordKind.TheVariants as w
use Rattle.d_parser.specs.declared.marks.Prefix.{Prefix}
use Rattle.d_parser.specs.declared.marks.Prefix.TheVariants as p
use Rattle.d_parser.specs.declared.marks.Follow.{Follow}
use Rattle.d_parser.specs.declared.marks.Follow.TheVariants as f
use Rattle.d_parser.specs.Tree.{Tree, Known, Read, Call, Unary, Cast, Before, After, Binary, Choice}
use Rattle.d_parser.specs.Tree.{Assign, Trees, end, more}
use Rattle.d_parser.specs.Steps.Tree.{add}
use Rattle.d_parser.specs.declared.tree.DeclaredType.TheVariants as d
use Rattle.d_parser.specs.Words.{word_kind, word_kind_of}
use Rattle.d_parser.specs.Steps.Words.{begins_type, is_word, run, after_run, type_from}
use Rattle.d_parser.specs.Steps.Words.{only_integer, integer_type}
use Rattle.d_parser.specs.Marks.{assign_mark, unary_mark, step_mark}
use Rattle.d_parser.specs.{Symbols.binary_mark, Steps.Marks.level_of}
use Rattle.d_parser.specs.Steps.Marks.{prefix_of, follow_of, follow_at, kind_is, is_at, same_mark}
use Rattle.d_parser.specs.Steps.Marks.{tail}
use Rattle.d_parser.specs.Grammar.{IsToken, IsMark, Within, IsOfLevel, level, IsWord, IsMember}
use Rattle.d_parser.specs.Grammar.{IsTarget, IsEnclosed, Spells, SpellsKeys, SpellsList, SpellsMore}
use Rattle.d_parser.specs.Steps.Reading.{after_mark, plain_word, member, variable, typed_by}
use Rattle.d_parser.specs.Steps.Reading.{is_typed}
use Rattle.d_parser.specs.Steps.Reading.{cast_type, calls, begins_call, readers, closed_list}
use Rattle.d_parser.specs.Steps.Reading.{keys_by}
use Rattle.d_parser.specs.Steps.Reading.{keys, arguments, with_keys, target, target_tail_by, target_tail}
use Rattle.d_parser.specs.Steps.Reading.{post_at_name, unary_at_cast, unary_in_parentheses}
use Rattle.d_parser.specs.Steps.Reading.{unary_at_step}
use Rattle.d_parser.specs.Steps.Reading.{unary_at_mark, unary_by, unary, binary_tail_by, binary_tail_on, cond_tail_by}
use Rattle.d_parser.specs.Steps.Reading.{alternatives, cond_tail, binary, expr_on, exprs_tail_on}
use Rattle.d_parser.proofs.Takes.{sign_one, word_one, member_takes, type_takes, takes, expr_takes}
use Rattle.d_parser.proofs.Takes.{target_takes}
use Rattle.d_parser.proofs.Signs.{unary_prefix, step_prefix, step_follow, assign_follow}
use Rattle.d_parser.proofs.Signs.{binary_follow}
use Rattle.d_parser.proofs.Runs.{AreWords, run_is, later_is}
use Rattle.d_parser.proofs.Types.{type_is, type_words}
use Rattle.d_parser.proofs.Tokens.{token}

-- ---- what follows

-- an expression of a level above this ends before the first token
abbrev pub reach_of : Follow → ℕ
reach_of (f.Infix op) = level_of op
reach_of (f.Assign op) = 1
reach_of (f.Step step) = 15
reach_of f.Question = 2
reach_of f.Bracket = 15
reach_of f.Parenthesis = 15
reach_of f.Other = 0

abbrev pub reach : List Token → ℕ
reach ts = reach_of (follow_at ts)

abbrev pub opens_of : Follow → Bool
opens_of f.Bracket = true
opens_of f.Parenthesis = true
opens_of follow = false

pub level_high : (op : BinaryOperator) → 3 ≤ level_of op
level_high (b.Arithmetic ar.Multiply) = lit≤ tt
level_high (b.Shift sh.Left) = lit≤ tt
level_high (b.Compare cm.Less) = lit≤ tt
level_high (b.Logic lo.And) = lit≤ tt
level_high op = lit≤ tt

pub level_below : (op : BinaryOperator) → level_of op ≤ 13
level_below (b.Arithmetic ar.Multiply) = lit≤ tt
level_below (b.Shift sh.Left) = lit≤ tt
level_below (b.Compare cm.Less) = lit≤ tt
level_below (b.Logic lo.And) = lit≤ tt
level_below op = lit≤ tt

pub sign_follow : (mark : Mark) (ts rest : List Token) → IsMark mark ts rest → follow_at ts ≡ follow_of mark
sign_follow mark ts rest h = ap follow_at h.begins.is

pub sign_tail : (mark : Mark) (ts rest : List Token) → IsMark mark ts rest → tail ts ≡ rest
sign_tail mark ts rest h = ap tail h.begins.is

pub sign_at : (mark other : Mark) (ts rest : List Token) → IsMark mark ts rest → is_at other ts ≡ same_mark mark other
sign_at mark other ts rest h = ap (is_at other) h.begins.is

pub after_sign : (mark : Mark) (ts rest : List Token) → same_mark mark mark ≡ true → IsMark mark ts rest → after_mark mark ts ≡ Some rest
after_sign mark ts rest s h = rw (sign_at mark mark ts rest h, s, sign_tail mark ts rest h) refl

pub sign_reach : (mark : Mark) (ts rest : List Token) (f : Follow) → IsMark mark ts rest → follow_of mark ≡ f → reach ts ≡ reach_of f
sign_reach mark ts rest f h e = ap reach_of (sign_follow mark ts rest h ∙ e)

-- nothing but what opens or steps goes on a unary expression
below_unary : (f : Follow) → reach_of f < 15 → reach_of f < 14
below_unary (f.Infix op) h = let low = level_below op in omega arith
below_unary (f.Assign op) h = lit< tt
below_unary (f.Step step) h = absurd (omega arith)
below_unary f.Question h = lit< tt
below_unary f.Bracket h = absurd (omega arith)
below_unary f.Parenthesis h = absurd (omega arith)
below_unary f.Other h = lit< tt

-- ---- steps

binary_tail_stays : (n k : ℕ) (f : Follow) (t : Tree) (ts : List Token) → reach_of f < k → binary_tail_by (readers n) f k t ts ≡ Some (t, ts)
binary_tail_stays n k (f.Infix op) t ts h = rw (lt-leb k (level_of op) h) refl
binary_tail_stays n k (f.Assign op) t ts h = refl
binary_tail_stays n k (f.Step step) t ts h = refl
binary_tail_stays n k f.Question t ts h = refl
binary_tail_stays n k f.Bracket t ts h = refl
binary_tail_stays n k f.Parenthesis t ts h = refl
binary_tail_stays n k f.Other t ts h = refl

binary_tail_ends : (n k : ℕ) (t : Tree) (ts : List Token) → 0 < n → reach ts < k → (readers n).binary_tail k t ts ≡ Some (t, ts)
unfolding binary_tail_on
binary_tail_ends zero k t ts h e = absurd (omega arith)
binary_tail_ends (suc n) k t ts h e = binary_tail_stays n k (follow_at ts) t ts e

question_by : (n : ℕ) (f : Follow) (t : Tree) (ts : List Token) → reach_of f < 2 → cond_tail_by (readers n) f t ts ≡ Some (t, ts)
question_by n (f.Infix op) t ts h = refl
question_by n (f.Assign op) t ts h = refl
question_by n (f.Step step) t ts h = refl
question_by n f.Question t ts h = absurd (omega arith)
question_by n f.Bracket t ts h = refl
question_by n f.Parenthesis t ts h = refl
question_by n f.Other t ts h = refl

cond_tail_stays : (n k : ℕ) (t : Tree) (ts : List Token) → reach ts < k → cond_tail (readers n) k t ts ≡ Some (t, ts)
unfolding cond_tail
cond_tail_stays n k t ts h =
    elim (cases_lt 2 k) [
      | inl high ↦ rw (lt-leb k 2 high) refl
      | inr low ↦ rw (le-leb k 2 low) (question_by n (follow_at ts) t ts (omega arith))
    ]

expr_on_of : (n k : ℕ) (ts : List Token) (t : Tree) (rest : List Token) → binary (readers n) k ts ≡ Some (t, rest) → (readers (suc n)).expr k ts ≡ cond_tail (readers n) k t rest
unfolding expr_on
expr_on_of n k ts t rest e = rw e refl

binary_of : (n k : ℕ) (ts : List Token) (t : Tree) (rest : List Token) → unary (readers n) k ts ≡ Some (t, rest) → binary (readers n) k ts ≡ (readers n).binary_tail (max k 3) t rest
unfolding binary
binary_of n k ts t rest e = rw e refl

-- a unary expression that nothing goes on is an expression
unary_ends : (n k : ℕ) (ts : List Token) (t : Tree) (rest : List Token) → unary (readers n) k ts ≡ Some (t, rest) → length rest < n → reach rest < k → (readers (suc n)).expr k ts ≡ Some (t, rest)
unary_ends n k ts t rest e len h =
    expr_on_of n k ts t rest (binary_of n k ts t rest e ∙ binary_tail_ends n (max k 3) t rest (omega arith) (omega arith)) ∙ cond_tail_stays n k t rest h

-- ---- what a tree owes

-- its operators are joined up to here, with enough levels left
pub record BinaryTail (n k : ℕ) (t : Tree) (ts rest : List Token) : Type 0 where
  pub left : ℕ
  pub enough : length rest < left
  pub within : left ≤ n
  pub is : binary (readers n) k ts ≡ (readers left).binary_tail (max k 3) t rest

abbrev ReadsBinary : Tree → Type 0
ReadsBinary t = (n k l : ℕ) (ts rest : List Token) → Spells t ts rest → 3 ≤ l → l ≤ 13 → l ≤ level t → k ≤ l → length ts ≤ n → reach rest ≤ l → (reach rest ≡ 1 → 2 ≤ k) → BinaryTail n k t ts rest

abbrev ReadsExpr : Tree → Type 0
ReadsExpr t = (n k : ℕ) (ts rest : List Token) → Spells t ts rest → k ≤ level t → length ts < n → reach rest < k → (readers n).expr k ts ≡ Some (t, rest)

pub record Reads (t : Tree) : Type 0 where
  pub reads_binary : ReadsBinary t
  pub reads_expr : ReadsExpr t

level_least : (t : Tree) → 1 ≤ level t
level_least (Known line constant) = lit≤ tt
level_least (Read x keys) = lit≤ tt
level_least (Call line name arguments) = lit≤ tt
level_least (Unary line op a) = lit≤ tt
level_least (Cast line to a) = lit≤ tt
level_least (Before line step x keys) = lit≤ tt
level_least (After x keys step) = lit≤ tt
level_least (Binary op a b) = let h = level_high op in omega arith
level_least (Choice test a b) = lit≤ tt
level_least (Assign op x keys a) = lit≤ tt

-- ---- parentheses

typed_kind : (n k : ℕ) (word : WordKind) (follow : Follow) (name : List ℕ) (line : ℕ) (ts : List Token) → begins_type word ≡ true → (calls word follow ≡ false) × (variable word name line ts ≡ None)
unfolding variable
typed_kind n k w.Plain follow name line ts h = absurd cc
typed_kind n k w.Thread follow name line ts h = absurd cc
typed_kind n k w.Clause follow name line ts h = absurd cc
typed_kind n k w.Text follow name line ts h = (refl, refl)
typed_kind n k w.Char follow name line ts h = (refl, refl)
typed_kind n k w.Short follow name line ts h = (refl, refl)
typed_kind n k w.Int follow name line ts h = (refl, refl)
typed_kind n k w.Long follow name line ts h = (refl, refl)
typed_kind n k w.Signed follow name line ts h = (refl, refl)
typed_kind n k w.Unsigned follow name line ts h = (refl, refl)
typed_kind n k (w.Fixed t) follow name line ts h = (refl, refl)

typed_unary : (n k : ℕ) (t : TokenKind) (line : ℕ) (ts : List Token) → typed_by t ≡ true → unary_by (readers n) k t line ts ≡ None
unfolding post_at_name target
typed_unary n k (kind.Word name) line ts h = let e = typed_kind n k (word_kind name) (follow_at ts) name line ts h in rw (e.0, e.1) refl
typed_unary n k (kind.DescriptionRun name) line ts h = refl
typed_unary n k (kind.AggregationName name) line ts h = refl
typed_unary n k (kind.Number value suffix) line ts h = absurd cc
typed_unary n k (kind.TextConstant bytes) line ts h = absurd cc
typed_unary n k (kind.Mark mark) line ts h = absurd cc

-- no expression begins with a word of a type
typed_none : (n k : ℕ) (ts : List Token) → is_typed ts ≡ true → (readers n).expr k ts ≡ None
unfolding expr_on binary unary
typed_none zero k ts h = refl
typed_none (suc n) k [] h = absurd cc
typed_none (suc n) k (t ∷ ts) h = rw (typed_unary n k t.kind t.line ts h) refl

untyped_by : (b : Bool) (n k : ℕ) (ts : List Token) (x : Tree × List Token) → is_typed ts ≡ b → (readers n).expr k ts ≡ Some x → b ≡ false
untyped_by true n k ts x h e = let none = typed_none n k ts h in absurd cc
untyped_by false n k ts x h e = refl

parens_read : (n k line : ℕ) (t : Tree) (inner close rest : List Token) → (readers n).expr 1 inner ≡ Some (t, close) → IsMark m.CloseParenthesis close rest → unary_at_mark (readers n) m.OpenParenthesis line inner ≡ Some (t, rest)
unfolding unary_at_mark unary_in_parentheses
parens_read n k line t inner close rest e h =
    rw (untyped_by (is_typed inner) n 1 inner (t, close) refl e) (rw e (rw (after_sign m.CloseParenthesis close rest refl h) refl))

parens_unary : (n k : ℕ) (t : Tree) (ts inner close rest : List Token) → IsMark m.OpenParenthesis ts inner → (readers n).expr 1 inner ≡ Some (t, close) → IsMark m.CloseParenthesis close rest → unary (readers n) k ts ≡ Some (t, rest)
unfolding unary
parens_unary n k t ts inner close rest o e h = rw o.begins.is (parens_read n k o.line t inner close rest e h)

close_reach : (ts rest : List Token) → IsMark m.CloseParenthesis ts rest → reach ts ≡ 0
close_reach ts rest h = sign_reach m.CloseParenthesis ts rest f.Other h refl

inside : (t : Tree) → Reads t → (p n : ℕ) (ts rest : List Token) → Within p (Spells t) ts rest → length ts < n → reach rest < 1 → (readers n).expr 1 ts ≡ Some (t, rest)
inside t r zero n ts rest h len e = r.reads_expr n 1 ts rest h (level_least t) len e
inside t r (suc p) zero ts rest h len e = absurd (omega arith)
inside t r (suc p) (suc n) ts rest h len e =
    let one = sign_one m.OpenParenthesis ts h.0 h.1 in
    let two = sign_one m.CloseParenthesis h.2.0 rest h.2.2 in
    let less = expr_takes t 1 h.0 h.2.0 (record { pairs = p; high = λ e. level_least t; within = h.2.1 }) in
    let zero_reach = close_reach h.2.0 rest h.2.2 in
    unary_ends n 1 ts t rest (parens_unary n 1 t ts h.0 h.2.0 rest h.1 (inside t r p n h.0 h.2.0 h.2.1 (omega arith) (omega arith)) h.2.2) (omega arith) e

wrapped_unary : (t : Tree) → Reads t → (p n k : ℕ) (ts rest : List Token) → Within (suc p) (Spells t) ts rest → length ts ≤ n → unary (readers n) k ts ≡ Some (t, rest)
wrapped_unary t r p n k ts rest h len =
    let one = sign_one m.OpenParenthesis ts h.0 h.1 in
    let zero_reach = close_reach h.2.0 rest h.2.2 in
    parens_unary n k t ts h.0 h.2.0 rest h.1 (inside t r p n h.0 h.2.0 h.2.1 (omega arith) (omega arith)) h.2.2

expr_by : (t : Tree) → Reads t → (p n k : ℕ) (ts rest : List Token) → (p ≡ 0 → k ≤ level t) → Within p (Spells t) ts rest → length rest < length ts → length ts < n → reach rest < k → (readers n).expr k ts ≡ Some (t, rest)
expr_by t r zero n k ts rest high h less len e = r.reads_expr n k ts rest h (high refl) len e
expr_by t r (suc p) zero k ts rest high h less len e = absurd (omega arith)
expr_by t r (suc p) (suc n) k ts rest high h less len e = unary_ends n k ts t rest (wrapped_unary t r p n k ts rest h (omega arith)) (omega arith) e

pub expr_of : (t : Tree) → Reads t → (n k : ℕ) (ts rest : List Token) → IsOfLevel (Spells t) (level t) k ts rest → length ts < n → reach rest < k → (readers n).expr k ts ≡ Some (t, rest)
expr_of t r n k ts rest h len e = expr_by t r h.pairs n k ts rest h.high h.within (expr_takes t k ts rest h) len e

binary_of_unary : (n k : ℕ) (t : Tree) (ts rest : List Token) → length rest < n → unary (readers n) k ts ≡ Some (t, rest) → BinaryTail n k t ts rest
binary_of_unary n k t ts rest len e = record { left = n; enough = len; within = omega arith; is = binary_of n k ts t rest e }

reads_binary_by : (t : Tree) → Reads t → (p n k l : ℕ) (ts rest : List Token) → (p ≡ 0 → l ≤ level t) → Within p (Spells t) ts rest → length rest < length ts → 3 ≤ l → l ≤ 13 → k ≤ l → length ts ≤ n → reach rest ≤ l → (reach rest ≡ 1 → 2 ≤ k) → BinaryTail n k t ts rest
reads_binary_by t r zero n k l ts rest high h less low most le len e free = r.reads_binary n k l ts rest h low most (high refl) le len e free
reads_binary_by t r (suc p) n k l ts rest high h less low most le len e free = binary_of_unary n k t ts rest (omega arith) (wrapped_unary t r p n k ts rest h len)

reads_binary_of : (t : Tree) → Reads t → (n k l : ℕ) (ts rest : List Token) → IsOfLevel (Spells t) (level t) l ts rest → 3 ≤ l → l ≤ 13 → k ≤ l → length ts ≤ n → reach rest ≤ l → (reach rest ≡ 1 → 2 ≤ k) → BinaryTail n k t ts rest
reads_binary_of t r n k l ts rest h low most le len e free = reads_binary_by t r h.pairs n k l ts rest h.high h.within (expr_takes t l ts rest h) low most le len e free

-- ---- from one statement to the other

expr_of_binary : (t : Tree) → 3 ≤ level t → level t ≤ 13 → ReadsBinary t → ReadsExpr t
expr_of_binary t high most reads_binary zero k ts rest s le len e = absurd (omega arith)
expr_of_binary t high most reads_binary (suc n) k ts rest s le len e =
    let up = reads_binary n k (max k 3) ts rest s (omega arith) (omega arith) (omega arith) (omega arith) (omega arith) (omega arith) (λ one. omega arith) in
    expr_on_of n k ts t rest (up.is ∙ binary_tail_ends up.left (max k 3) t rest (let h = up.enough in omega arith) (omega arith)) ∙ cond_tail_stays n k t rest e

reads_joined : (t : Tree) → 3 ≤ level t → level t ≤ 13 → ReadsBinary t → Reads t
reads_joined t high most reads_binary = record { reads_binary = reads_binary; reads_expr = expr_of_binary t high most reads_binary }

-- what is one part, whatever comes after it
abbrev IsUnary : Tree → Type 0
IsUnary t = (n k : ℕ) (ts rest : List Token) → Spells t ts rest → length ts ≤ n → reach rest < 15 → (reach rest ≡ 1 → 2 ≤ k) → unary (readers n) k ts ≡ Some (t, rest)

unary_reads_expr : (t : Tree) → level t ≤ 15 → IsUnary t → ReadsExpr t
unary_reads_expr t low is_unary zero k ts rest s le len e = absurd (omega arith)
unary_reads_expr t low is_unary (suc n) k ts rest s le len e =
    let less = takes t ts rest s in
    unary_ends n k ts t rest (is_unary n k ts rest s (omega arith) (omega arith) (λ one. omega arith)) (omega arith) e

unary_reads_binary : (t : Tree) → IsUnary t → ReadsBinary t
unary_reads_binary t is_unary n k l ts rest s low most high le len e free =
    let less = takes t ts rest s in
    binary_of_unary n k t ts rest (omega arith) (is_unary n k ts rest s len (omega arith) free)

reads_unary : (t : Tree) → level t ≤ 15 → IsUnary t → Reads t
reads_unary t low is_unary = record { reads_binary = unary_reads_binary t is_unary; reads_expr = unary_reads_expr t low is_unary }

reads_low : (t : Tree) → level t < 3 → ReadsExpr t → Reads t
reads_low t low reads_expr = record { reads_binary = λ n k l ts rest s h1 h2 h3. absurd (omega arith); reads_expr = reads_expr }

-- ---- constants

known_unary : (line : ℕ) (constant : Constant) → IsUnary (Known line constant)
unfolding unary
known_unary line (c.Number value suffix) n k ts rest s len e free = rw s.is refl
known_unary line (c.Text bytes) n k ts rest s len e free = rw s.is refl

reads_known : (line : ℕ) (constant : Constant) → Reads (Known line constant)
reads_known line constant = reads_unary (Known line constant) (lit≤ tt) (known_unary line constant)

-- ---- unary expressions

open_is : (b : Bool) (mark : Mark) (x : Prefix) → same_mark mark m.OpenParenthesis ≡ b → prefix_of mark ≡ x → (x ≡ p.Other → ⊥) → b ≡ false
open_is true mark x e h other = absurd (let same : mark ≡ m.OpenParenthesis = same_true the_type (search rules) mark m.OpenParenthesis e in other (sym h ∙ ap prefix_of same))
open_is false mark x e h other = refl

not_open : (mark : Mark) (x : Prefix) → prefix_of mark ≡ x → (x ≡ p.Other → ⊥) → same_mark mark m.OpenParenthesis ≡ false
not_open mark x h other = open_is (same_mark mark m.OpenParenthesis) mark x refl h other

prefixed_unary : (line : ℕ) (op : UnaryOperator) (a : Tree) → Reads a → IsUnary (Unary line op a)
unfolding unary unary_at_mark
prefixed_unary line op a r n k ts rest s len e free =
    let one : length ts ≡ suc (length s.0) = ap length s.1.is in
    rw (s.1.is, not_open (unary_mark op) (p.Unary op) (unary_prefix op) (λ h. absurd cc), unary_prefix op) (rw (expr_of a r n 14 s.0 rest s.2 (omega arith) (omega (arith, below_unary (follow_at rest) e))) refl)

cast_read : (to : IntegerType) (words close rest : List Token) → AreWords words → integer_type words ≡ Some to → IsMark m.CloseParenthesis close rest → cast_type (words ++ close) ≡ Some (to, rest)
unfolding cast_type run after_run
cast_read to words close rest h t s =
    let run_close : run close ≡ [] = rw s.begins.is refl in
    let later_close : after_run close ≡ close = rw s.begins.is refl in
    rw (run_is words close h ∙ (ap (λ (xs : List Token). words ++ xs) run_close ∙ append-nil words), later_is words close h ∙ later_close, t, after_sign m.CloseParenthesis close rest refl s) refl

typed_from : (word : WordKind) (ts : List Token) (to : IntegerType) → only_integer (type_from word ts) ≡ Some to → begins_type word ≡ true
typed_from w.Plain [] to h = absurd cc
typed_from w.Plain (a ∷ []) to h = absurd cc
typed_from w.Plain (a ∷ (b ∷ [])) to h = absurd cc
typed_from w.Plain (a ∷ (b ∷ (c ∷ ts))) to h = absurd cc
typed_from w.Thread [] to h = absurd cc
typed_from w.Thread (a ∷ []) to h = absurd cc
typed_from w.Thread (a ∷ (b ∷ [])) to h = absurd cc
typed_from w.Thread (a ∷ (b ∷ (c ∷ ts))) to h = absurd cc
typed_from w.Clause [] to h = absurd cc
typed_from w.Clause (a ∷ []) to h = absurd cc
typed_from w.Clause (a ∷ (b ∷ [])) to h = absurd cc
typed_from w.Clause (a ∷ (b ∷ (c ∷ ts))) to h = absurd cc
typed_from w.Text ts to h = refl
typed_from w.Char ts to h = refl
typed_from w.Short ts to h = refl
typed_from w.Int ts to h = refl
typed_from w.Long ts to h = refl
typed_from w.Signed ts to h = refl
typed_from w.Unsigned ts to h = refl
typed_from (w.Fixed t) ts to h = refl

typed_word : (t : TokenKind) → is_word t ≡ true → begins_type (word_kind_of t) ≡ true → typed_by t ≡ true
typed_word (kind.Word name) h e = e
typed_word (kind.DescriptionRun name) h e = absurd cc
typed_word (kind.AggregationName name) h e = absurd cc
typed_word (kind.Number value suffix) h e = absurd cc
typed_word (kind.TextConstant bytes) h e = absurd cc
typed_word (kind.Mark mark) h e = absurd cc

typed_words : (words close : List Token) (to : IntegerType) → AreWords words → integer_type words ≡ Some to → is_typed (words ++ close) ≡ true
typed_words [] close to h e = absurd cc
typed_words (t ∷ ts) close to h e = typed_word t.kind h.0 (typed_from (word_kind_of t.kind) ts to (sym (ap only_integer (type_is t ts)) ∙ e))

cast_unary : (line : ℕ) (to : IntegerType) (a : Tree) → Reads a → IsUnary (Cast line to a)
unfolding unary unary_at_mark unary_in_parentheses unary_at_cast
cast_unary line to a r n k ts rest s len e free =
    let one : length ts ≡ suc (length s.0) = ap length s.1.is in
    let two = type_takes (d.Integer to) s.0 s.2.0 s.2.1 in
    let three = sign_one m.CloseParenthesis s.2.0 s.2.2.0 s.2.2.1 in
    let words = type_words s.2.1.0 (d.Integer to) s.2.1.2 in
    let spells : integer_type s.2.1.0 ≡ Some to = ap only_integer s.2.1.2 in
    rw (s.1.is, s.2.1.1, typed_words s.2.1.0 s.2.0 to words spells, cast_read to s.2.1.0 s.2.0 s.2.2.0 words spells s.2.2.1)
    (rw (expr_of a r n 14 s.2.2.0 rest s.2.2.2 (omega arith) (omega (arith, below_unary (follow_at rest) e))) refl)

-- ---- lists

-- the second added one by one
abbrev pub join : Trees → Trees → Trees
join front end = front
join front (more a rest) = join (add front a) rest

join_push : (b : Tree) (front rest : Trees) → join (more b front) rest ≡ more b (join front rest)
join_push b front end = refl
join_push b front (more a rest) = join_push b (add front a) rest

join_end : (rest : Trees) → join end rest ≡ rest
join_end end = refl
join_end (more a rest) = join_push a end rest ∙ ap (more a) (join_end rest)

pub join_more : (a : Tree) (rest : Trees) → join (more a end) rest ≡ more a rest
join_more a rest = join_push a end rest ∙ ap (more a) (join_end rest)

abbrev ReadsTail : Trees → Type 0
ReadsTail l = (n : ℕ) (acc : Trees) (ts rest : List Token) → SpellsMore l ts rest → length ts < n → is_at m.Comma rest ≡ false → reach rest ≡ 0 → (readers n).exprs_tail acc ts ≡ Some (join acc l, rest)

abbrev Parts : Trees → Type 0
Parts end = Unit {0}
Parts (more a l) = Reads a × ReadsTail l

pub record ReadsAll (l : Trees) : Type 0 where
  pub reads_tail : ReadsTail l
  pub parts : Parts l

-- nothing goes on an expression before a comma, or where the list ends
more_reach : (l : Trees) (ts rest : List Token) → SpellsMore l ts rest → reach rest ≡ 0 → reach ts ≡ 0
more_reach end ts rest h e = ap reach h ∙ e
more_reach (more a l) ts rest h e = sign_reach m.Comma ts h.0 f.Other h.1 refl

exprs_tail_end : (n : ℕ) (acc : Trees) (ts : List Token) → 0 < n → is_at m.Comma ts ≡ false → (readers n).exprs_tail acc ts ≡ Some (acc, ts)
unfolding exprs_tail_on
exprs_tail_end zero acc ts pos h = absurd (omega arith)
exprs_tail_end (suc n) acc ts pos h = rw h refl

exprs_tail_goes : (n : ℕ) (acc : Trees) (a : Tree) (ts first later : List Token) → IsMark m.Comma ts first → (readers n).expr 1 first ≡ Some (a, later) → (readers (suc n)).exprs_tail acc ts ≡ (readers n).exprs_tail (add acc a) later
unfolding exprs_tail_on
exprs_tail_goes n acc a ts first later s e = rw (sign_at m.Comma m.Comma ts first s, sign_tail m.Comma ts first s) (rw e refl)

reads_tail_end : ReadsTail end
reads_tail_end n acc ts rest s len h e = rw s (exprs_tail_end n acc rest (omega arith) h)

reads_tail_more : (a : Tree) (l : Trees) → Reads a → ReadsTail l → ReadsTail (more a l)
reads_tail_more a l r g zero acc ts rest s len h e = absurd (omega arith)
reads_tail_more a l r g (suc n) acc ts rest s len h e =
    let one = sign_one m.Comma ts s.0 s.1 in
    let less = expr_takes a 1 s.0 s.2.0 s.2.1 in
    let quiet = more_reach l s.2.0 rest s.2.2 e in
    exprs_tail_goes n acc a ts s.0 s.2.0 s.1 (expr_of a r n 1 s.0 s.2.0 s.2.1 (omega arith) (omega arith)) ∙ g n (add acc a) s.2.0 rest s.2.2 (omega arith) h e

listed_read : (n : ℕ) (close : Mark) (a : Tree) (l : Trees) (ts later closing rest : List Token) → Reads a → ReadsTail l → IsOfLevel (Spells a) (level a) 1 ts later → SpellsMore l later closing → IsMark close closing rest → same_mark close close ≡ true → same_mark close m.Comma ≡ false → follow_of close ≡ f.Other → length ts < n → closed_list (readers n) close ts ≡ Some (more a l, rest)
unfolding closed_list
listed_read n close a l ts later closing rest r g h hs s self comma other len =
    let less = expr_takes a 1 ts later h in
    let ends = sign_reach close closing rest f.Other s other in
    let quiet = more_reach l later closing hs ends in
    let first = expr_of a r n 1 ts later h len (omega arith) in
    let all = g n (more a end) later closing hs (omega arith) (sign_at close m.Comma closing rest s ∙ comma) ends in
    rw first (rw all (rw (after_sign close closing rest self s, join_more a l) refl))

keys_none : (n : ℕ) (follow : Follow) (ts : List Token) → opens_of follow ≡ false → keys_by (readers n) follow ts ≡ Some (end, ts)
keys_none n (f.Infix op) ts h = refl
keys_none n (f.Assign op) ts h = refl
keys_none n (f.Step step) ts h = refl
keys_none n f.Question ts h = refl
keys_none n f.Bracket ts h = absurd cc
keys_none n f.Parenthesis ts h = absurd cc
keys_none n f.Other ts h = refl

pub keys_read : (n : ℕ) (all : Trees) → ReadsAll all → (ts rest : List Token) → SpellsKeys all ts rest → length ts ≤ n → opens_of (follow_at rest) ≡ false → keys (readers n) ts ≡ Some (all, rest)
unfolding keys
keys_read n end r ts rest s len h = rw s (keys_none n (follow_at rest) rest h)
keys_read n (more a l) r ts rest s len h =
    let one = sign_one m.OpenBracket ts s.0 s.1 in
    rw (sign_follow m.OpenBracket ts s.0 s.1, sign_tail m.OpenBracket ts s.0 s.1)
    (listed_read n m.CloseBracket a l s.0 s.2.1.0 s.2.0 rest r.parts.0 r.parts.1 s.2.1.1 s.2.1.2 s.2.2 refl refl refl (omega arith))

-- no expression begins with a closing parenthesis
close_none : (n k : ℕ) (ts rest : List Token) → IsMark m.CloseParenthesis ts rest → (readers n).expr k ts ≡ None
unfolding expr_on binary unary unary_at_mark
close_none zero k ts rest h = refl
close_none (suc n) k ts rest h = rw h.begins.is refl

mark_there : (t : TokenKind) (mark : Mark) → kind_is mark t ≡ true → t ≡ kind.Mark mark
mark_there (kind.Word name) mark h = absurd cc
mark_there (kind.DescriptionRun name) mark h = absurd cc
mark_there (kind.AggregationName name) mark h = absurd cc
mark_there (kind.Number value suffix) mark h = absurd cc
mark_there (kind.TextConstant bytes) mark h = absurd cc
mark_there (kind.Mark found) mark h = ap kind.Mark (same_true the_type (search rules) found mark h)

pub sign_there : (mark : Mark) (ts : List Token) → is_at mark ts ≡ true → IsMark mark ts (tail ts)
sign_there mark [] h = absurd cc
sign_there mark (t ∷ ts) h = record { line = t.line; begins = record { start = t.start; stop = t.stop; is = ap (λ (k : TokenKind). token k t.start t.stop t.line ∷ ts) (mark_there t.kind mark h) } }

not_close_by : (found : Bool) (n : ℕ) (ts : List Token) (x : Tree × List Token) → is_at m.CloseParenthesis ts ≡ found → (readers n).expr 1 ts ≡ Some x → found ≡ false
not_close_by true n ts x h e = let none = close_none n 1 ts (tail ts) (sign_there m.CloseParenthesis ts h) in absurd cc
not_close_by false n ts x h e = refl

first_not_close : (n : ℕ) (ts : List Token) (x : Tree × List Token) → (readers n).expr 1 ts ≡ Some x → is_at m.CloseParenthesis ts ≡ false
first_not_close n ts x e = not_close_by (is_at m.CloseParenthesis ts) n ts x refl e

pub arguments_read : (n : ℕ) (all : Trees) → ReadsAll all → (list rest : List Token) → IsEnclosed m.OpenParenthesis m.CloseParenthesis (SpellsList all) list rest → length list ≤ n → arguments (readers n) (tail list) ≡ Some (all, rest)
unfolding arguments
arguments_read n end r list rest s len =
    let start : tail list ≡ s.2.0 = sign_tail m.OpenParenthesis list s.0 s.1 ∙ s.2.1 in
    rw (start, sign_at m.CloseParenthesis m.CloseParenthesis s.2.0 rest s.2.2, sign_tail m.CloseParenthesis s.2.0 rest s.2.2) refl
arguments_read n (more a l) r list rest s len =
    let one = sign_one m.OpenParenthesis list s.0 s.1 in
    let inside = s.2.1 in
    let less = expr_takes a 1 s.0 inside.0 inside.1 in
    let ends = close_reach s.2.0 rest s.2.2 in
    let quiet = more_reach l inside.0 s.2.0 inside.2 ends in
    let first = expr_of a r.parts.0 n 1 s.0 inside.0 inside.1 (omega arith) (omega arith) in
    rw (sign_tail m.OpenParenthesis list s.0 s.1, first_not_close n s.0 (a, inside.0) first)
    (listed_read n m.CloseParenthesis a l s.0 inside.0 s.2.0 rest r.parts.0 r.parts.1 inside.1 inside.2 s.2.2 refl refl refl (omega arith))

-- ---- targets

-- the first word of a target, and that it is read as one
pub record TargetAt (n : ℕ) (x : Variable) (all : Trees) (ts rest : List Token) : Type 0 where
  pub name : List ℕ
  pub line : ℕ
  pub later : List Token
  pub begins : IsToken (kind.Word name) line ts later
  pub no_call : begins_call name later ≡ false
  pub read : target (readers n) (word_kind name) name line later ≡ Some ((x, all), rest)

plain_read : (name : List ℕ) (line : ℕ) (ts rest : List Token) → IsWord w.Plain name line ts rest → plain_word ts ≡ Some (name, rest)
unfolding plain_word
plain_read name line ts rest h = rw h.1.is (rw h.0 refl)

member_read : (which : WordKind) (name : List ℕ) (line : ℕ) (ts rest : List Token) (h : IsMember which name line ts rest) → member h.2.0 ≡ Some (name, rest)
unfolding member
member_read which name line ts rest h = rw (after_sign m.Arrow h.2.0 h.2.2.0 refl h.2.2.1) (plain_read name h.1 h.2.2.0 rest h.2.2.2)

plain_no_call : (follow : Follow) → opens_of follow ≡ false → calls w.Plain follow ≡ false
plain_no_call (f.Infix op) h = refl
plain_no_call (f.Assign op) h = refl
plain_no_call (f.Step step) h = refl
plain_no_call f.Question h = refl
plain_no_call f.Bracket h = refl
plain_no_call f.Parenthesis h = absurd cc
plain_no_call f.Other h = refl

keys_follow : (all : Trees) (ts rest : List Token) → SpellsKeys all ts rest → opens_of (follow_at rest) ≡ false → calls w.Plain (follow_at ts) ≡ false
keys_follow end ts rest s h = rw s (plain_no_call (follow_at rest) h)
keys_follow (more a l) ts rest s h = rw (sign_follow m.OpenBracket ts s.0 s.1) refl

target_at : (n : ℕ) (x : Variable) (all : Trees) → ReadsAll all → (ts rest : List Token) → IsTarget x all (SpellsKeys all) ts rest → length ts ≤ suc n → opens_of (follow_at rest) ≡ false → TargetAt n x all ts rest
unfolding target with_keys variable
target_at n (v.Plain line name) all r ts rest s len h =
    let one = word_one w.Plain name line ts s.0 s.1 in
    record {
      name = name;
      line = line;
      later = s.0;
      begins = s.1.1;
      no_call = rw s.1.0 (keys_follow all s.0 rest s.2 h);
      read = rw s.1.0 (rw (keys_read n all r s.0 rest s.2 (omega arith) h) refl);
    }
target_at n (v.Thread line name) all r ts rest s len h =
    let less = member_takes w.Thread name line ts s.0 s.1 in
    record {
      name = s.1.0;
      line = line;
      later = s.1.2.0;
      begins = s.1.2.1.1;
      no_call = rw s.1.2.1.0 refl;
      read = rw s.1.2.1.0 (rw (member_read w.Thread name line ts s.0 s.1) (rw (keys_read n all r s.0 rest s.2 (omega arith) h) refl));
    }
target_at n (v.Clause line name) all r ts rest s len h =
    record {
      name = s.1.0;
      line = line;
      later = s.1.2.0;
      begins = s.1.2.1.1;
      no_call = rw s.1.2.1.0 refl;
      read = rw s.1.2.1.0 (rw (member_read w.Clause name line ts rest s.1) (rw s.0 refl));
    }

-- a unary expression that begins with a target
named_read : (n k : ℕ) (x : Variable) (all : Trees) (ts rest : List Token) → TargetAt n x all ts rest → unary (readers n) k ts ≡ target_tail (readers n) k (x, all) rest
unfolding unary post_at_name
named_read n k x all ts rest h = rw (h.begins.is, h.no_call) (rw h.read refl)

free_follow : (follow : Follow) → reach_of follow < 15 → opens_of follow ≡ false
free_follow (f.Infix op) h = refl
free_follow (f.Assign op) h = refl
free_follow (f.Step step) h = refl
free_follow f.Question h = refl
free_follow f.Bracket h = absurd (omega arith)
free_follow f.Parenthesis h = absurd (omega arith)
free_follow f.Other h = refl

read_stays : (n k : ℕ) (follow : Follow) (x : Variable) (all : Trees) (ts : List Token) → reach_of follow < 15 → (reach_of follow ≡ 1 → 2 ≤ k) → target_tail_by (readers n) follow k (x, all) ts ≡ Some (Read x all, ts)
read_stays n k (f.Infix op) x all ts h free = refl
read_stays n k (f.Assign op) x all ts h free = rw (lt-leb k 1 (free refl)) refl
read_stays n k (f.Step step) x all ts h free = absurd (omega arith)
read_stays n k f.Question x all ts h free = refl
read_stays n k f.Bracket x all ts h free = refl
read_stays n k f.Parenthesis x all ts h free = refl
read_stays n k f.Other x all ts h free = refl

read_unary : (x : Variable) (all : Trees) → ReadsAll all → IsUnary (Read x all)
unfolding target_tail
read_unary x all r n k ts rest s len e free =
    named_read n k x all ts rest (target_at n x all r ts rest s (omega arith) (free_follow (follow_at rest) e)) ∙ read_stays n k (follow_at rest) x all rest e free

after_unary : (x : Variable) (all : Trees) (step : Step) → ReadsAll all → IsUnary (After x all step)
unfolding target_tail
after_unary x all step r n k ts rest s len e free =
    let there = sign_follow (step_mark step) s.0 rest s.2 ∙ step_follow step in
    named_read n k x all ts s.0 (target_at n x all r ts s.0 s.1 (omega arith) (ap opens_of there)) ∙ rw (there, sign_tail (step_mark step) s.0 rest s.2) refl

stepped_read : (n line : ℕ) (step : Step) (x : Variable) (all : Trees) (ts rest : List Token) → TargetAt n x all ts rest → unary_at_step (readers n) line step ts ≡ Some (Before line step x all, rest)
unfolding unary_at_step
stepped_read n line step x all ts rest h = rw h.begins.is (rw h.read refl)

before_unary : (line : ℕ) (step : Step) (x : Variable) (all : Trees) → ReadsAll all → IsUnary (Before line step x all)
unfolding unary unary_at_mark
before_unary line step x all r n k ts rest s len e free =
    let one : length ts ≡ suc (length s.0) = ap length s.1.is in
    rw (s.1.is, not_open (step_mark step) (p.Step step) (step_prefix step) (λ h. absurd cc), step_prefix step) (stepped_read n line step x all s.0 rest (target_at n x all r s.0 rest s.2 (omega arith) (free_follow (follow_at rest) e)))

call_unary : (line : ℕ) (name : List ℕ) (all : Trees) → ReadsAll all → IsUnary (Call line name all)
unfolding unary post_at_name
call_unary line name all r n k ts rest s len e free =
    let one = word_one w.Plain name line ts s.0 s.1 in
    let there = sign_follow m.OpenParenthesis s.0 s.2.0 s.2.1 in
    rw s.1.1.is (rw (s.1.0, there) (rw (arguments_read n all r s.0 rest s.2 (omega arith)) refl))

-- ---- assignment

assign_unary : (op : AssignOperator) (x : Variable) (all : Trees) (a : Tree) → ReadsAll all → Reads a → (n k : ℕ) (ts rest : List Token) → Spells (Assign op x all a) ts rest → k ≤ 1 → length ts ≤ n → reach rest < k → unary (readers n) k ts ≡ Some (Assign op x all a, rest)
unfolding target_tail
assign_unary op x all a r ra n k ts rest s le len e =
    let there = sign_follow (assign_mark op) s.0 s.2.0 s.2.1 ∙ assign_follow op in
    let one = sign_one (assign_mark op) s.0 s.2.0 s.2.1 in
    let less = target_takes x all ts s.0 s.1 in
    named_read n k x all ts s.0 (target_at n x all r ts s.0 s.1 (omega arith) (ap opens_of there))
    ∙ rw (there, le-leb k 1 le, sign_tail (assign_mark op) s.0 s.2.0 s.2.1) (rw (expr_of a ra n 1 s.2.0 rest s.2.2 (omega arith) (omega arith)) refl)

assign_reads_expr : (op : AssignOperator) (x : Variable) (all : Trees) (a : Tree) → ReadsAll all → Reads a → ReadsExpr (Assign op x all a)
assign_reads_expr op x all a r ra zero k ts rest s le len e = absurd (omega arith)
assign_reads_expr op x all a r ra (suc n) k ts rest s le len e =
    let less = takes (Assign op x all a) ts rest s in
    unary_ends n k ts (Assign op x all a) rest (assign_unary op x all a r ra n k ts rest s le (omega arith) e) (omega arith) e

-- ---- operators

binary_tail_goes : (n k : ℕ) (op : BinaryOperator) (a b : Tree) (ts right rest : List Token) → IsMark (binary_mark op) ts right → k ≤ level_of op → (readers n).expr (suc (level_of op)) right ≡ Some (b, rest) → (readers (suc n)).binary_tail k a ts ≡ (readers n).binary_tail k (Binary op a b) rest
unfolding binary_tail_on
binary_tail_goes n k op a b ts right rest s le e = rw (sign_follow (binary_mark op) ts right s, binary_follow op, sign_tail (binary_mark op) ts right s, le-leb k (level_of op) le) (rw e refl)

binary_tail_of : (left n k : ℕ) (op : BinaryOperator) (a b : Tree) (ts rest middle right : List Token) → Reads b → IsMark (binary_mark op) middle right → IsOfLevel (Spells b) (level b) (suc (level_of op)) right rest → k ≤ level_of op → reach rest ≤ level_of op → length middle < left → left ≤ n → binary (readers n) k ts ≡ (readers left).binary_tail (max k 3) a middle → BinaryTail n k (Binary op a b) ts rest
binary_tail_of zero n k op a b ts rest middle right rb s h le e len within is = absurd (omega arith)
binary_tail_of (suc left) n k op a b ts rest middle right rb s h le e len within is =
    let one = sign_one (binary_mark op) middle right s in
    let less = expr_takes b (suc (level_of op)) right rest h in
    let high = level_high op in
    record {
      left = left;
      enough = omega arith;
      within = omega arith;
      is = is ∙ binary_tail_goes left (max k 3) op a b middle right rest s (omega arith) (expr_of b rb left (suc (level_of op)) right rest h (omega arith) (omega arith));
    }

binary_reads : (op : BinaryOperator) (a b : Tree) → Reads a → Reads b → ReadsBinary (Binary op a b)
binary_reads op a b ra rb n k l ts rest s low most high le len e free =
    let there = sign_reach (binary_mark op) s.0 s.2.0 (f.Infix op) s.2.1 (binary_follow op) in
    let lowest = level_high op in
    let highest = level_below op in
    let first = reads_binary_of a ra n k (level_of op) ts s.0 s.1 lowest highest (omega arith) len (omega arith) (λ one. absurd (omega arith)) in
    binary_tail_of first.left n k op a b ts rest s.0 s.2.0 rb s.2.1 s.2.2 (omega arith) (omega arith) first.enough first.within first.is

-- ---- choice

cond_tail_goes : (n k : ℕ) (test a b : Tree) (question first colon second rest : List Token) → k ≤ 2 → IsMark m.Question question first → (readers n).expr 1 first ≡ Some (a, colon) → IsMark m.Colon colon second → (readers n).expr 2 second ≡ Some (b, rest) → cond_tail (readers n) k test question ≡ Some (Choice test a b, rest)
unfolding cond_tail alternatives
cond_tail_goes n k test a b question first colon second rest le q e s g =
    rw (le-leb k 2 le, sign_follow m.Question question first q, sign_tail m.Question question first q) (rw e (rw (after_sign m.Colon colon second refl s) (rw g refl)))

cond_reads_expr : (test a b : Tree) → Reads test → Reads a → Reads b → ReadsExpr (Choice test a b)
cond_reads_expr test a b rt ra rb zero k ts rest s le len e = absurd (omega arith)
cond_reads_expr test a b rt ra rb (suc n) k ts rest s le len e =
    let u = s.2.2 in
    let v = u.2 in
    let at_question = sign_reach m.Question s.0 s.2.0 f.Question s.2.1 refl in
    let at_colon = sign_reach m.Colon u.0 v.0 f.Other v.1 refl in
    let one = expr_takes test 3 ts s.0 s.1 in
    let two = sign_one m.Question s.0 s.2.0 s.2.1 in
    let three = expr_takes a 1 s.2.0 u.0 u.1 in
    let four = sign_one m.Colon u.0 v.0 v.1 in
    let head = reads_binary_of test rt n k 3 ts s.0 s.1 (lit≤ tt) (lit≤ tt) (omega arith) (omega arith) (omega arith) (λ h. absurd (omega arith)) in
    let enough = head.enough in
    let first = expr_of a ra n 1 s.2.0 u.0 u.1 (omega arith) (omega arith) in
    let second = expr_of b rb n 2 v.0 rest v.2 (omega arith) (omega arith) in
    expr_on_of n k ts test s.0 (head.is ∙ binary_tail_ends head.left (max k 3) test s.0 (omega arith) (omega arith)) ∙ cond_tail_goes n k test a b s.0 s.2.0 u.0 v.0 rest le s.2.1 first v.1 second

-- ---- all

mutual
  pub reads : (t : Tree) → Reads t
  reads (Known line constant) = reads_known line constant
  reads (Read x keys) = reads_unary (Read x keys) (lit≤ tt) (read_unary x keys (reads_all keys))
  reads (Call line name all) = reads_unary (Call line name all) (lit≤ tt) (call_unary line name all (reads_all all))
  reads (Unary line op a) = reads_unary (Unary line op a) (lit≤ tt) (prefixed_unary line op a (reads a))
  reads (Cast line to a) = reads_unary (Cast line to a) (lit≤ tt) (cast_unary line to a (reads a))
  reads (Before line step x keys) = reads_unary (Before line step x keys) (lit≤ tt) (before_unary line step x keys (reads_all keys))
  reads (After x keys step) = reads_unary (After x keys step) (lit≤ tt) (after_unary x keys step (reads_all keys))
  reads (Binary op a b) = reads_joined (Binary op a b) (level_high op) (level_below op) (binary_reads op a b (reads a) (reads b))
  reads (Choice test a b) = reads_low (Choice test a b) (lit< tt) (cond_reads_expr test a b (reads test) (reads a) (reads b))
  reads (Assign op x keys a) = reads_low (Assign op x keys a) (lit< tt) (assign_reads_expr op x keys a (reads_all keys) (reads a))

  pub reads_all : (l : Trees) → ReadsAll l
  reads_all end = record { reads_tail = reads_tail_end; parts = tt }
  reads_all (more a l) = record { reads_tail = reads_tail_more a l (reads a) (reads_all l).reads_tail; parts = (reads a, (reads_all l).reads_tail) }
