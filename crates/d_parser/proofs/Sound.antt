-- What is read as a tree spells that tree.
use Rattle.std.proofs.Common.{◌≡◌, ℕ, zero, suc, ◌<◌, ◌≤◌, max, Bool, true, false, cond, List, []}
use Rattle.std.proofs.Common.{◌∷◌, Option, Some, None, refl, sym, ap, subst, ◌∙◌, arith, rules, inl}
use Rattle.std.proofs.Common.{inr, lit≤, lit<}
use Rattle.std.proofs.lemmas.Bool.{cases_lt, le-leb, lt-leb}
use denote.Enum.Bare.{same_true}
use Rattle.d_lexer.specs.contracts.token.Mark.{the_type}
use Rattle.d_lexer.specs.declared.token.Mark.{Mark}
use Rattle.d_lexer.specs.declared.token.Mark.TheVariants as m
use Rattle.d_lexer.specs.declared.token.Token.{Token}
use Rattle.d_lexer.specs.declared.token.TokenKind.{TokenKind}
use Rattle.d_lexer.specs.declared.token.TokenKind.TheVariants as kind
use Rattle.d_parser.specs.declared.operators.BinaryOperator.{BinaryOperator}
use Rattle.d_parser.specs.declared.operators.AssignOperator.{AssignOperator}
use Rattle.d_parser.specs.declared.operators.Step.{Step}
use Rattle.d_parser.specs.declared.tree.DeclaredType.{DeclaredType}
use Rattle.d_parser.specs.declared.tree.DeclaredType.TheVariants as d
use Rattle.d_parser.specs.declared.tree.IntegerType.{IntegerType}
use Rattle.d_parser.specs.declared.tree.Constant.TheVariants as c
use Rattle.d_parser.specs.declared.tree.Variable.{Variable}
use Rattle.d_parser.specs.declared.tree.Variable.TheVariants as v
use Rattle.d_parser.specs.declared.words.WordKind.{WordKind}
use Rattle.d_parser.specs.declared.words.WordKind.TheVariants as w
use Rattle.d_parser.specs.declared.marks.Prefix.{Prefix}
use Rattle.d_parser.specs.declared.marks.Prefix.TheVariants as p
use Rattle.d_parser.specs.declared.marks.Follow.{Follow}
use Rattle.d_parser.specs.declared.marks.Follow.TheVariants as f
use Rattle.d_parser.specs.Tree.{Tree, Known, Read, Call, Unary, Cast, Before, After, Binary, Choice}
use Rattle.d_parser.specs.Tree.{Assign, Trees, end, more}
use Rattle.d_parser.specs.Steps.Tree.{add}
use Rattle.d_parser.specs.Words.{word_kind, type_of_words}
use Rattle.d_parser.specs.Steps.Words.{run, after_run, only_integer, integer_type}
use Rattle.d_parser.specs.{Marks.step_mark, Steps.Marks.level_of}
use Rattle.d_parser.specs.Steps.Marks.{prefix_of, follow_kind, follow_at, is_at, same_mark, tail}
use Rattle.d_parser.specs.Grammar.{Part, ◌⨟◌, IsToken, IsMark, IsOfLevel, level, IsWord}
use Rattle.d_parser.specs.Grammar.{IsMember, IsTarget, IsType, IsEnclosed, Spells, SpellsKeys}
use Rattle.d_parser.specs.Grammar.{SpellsList, SpellsMore}
use Rattle.d_parser.specs.Steps.Reading.{◌>>=◌, after_mark, if_plain, plain_word, plain_by, member}
use Rattle.d_parser.specs.Steps.Reading.{variable, is_typed, cast_type, calls, begins_call, Readers}
use Rattle.d_parser.specs.Steps.Reading.{readers, closed_list, keys_by, keys, arguments, with_keys}
use Rattle.d_parser.specs.Steps.Reading.{target, target_tail_by, target_tail, post_at_name, unary_at_cast}
use Rattle.d_parser.specs.Steps.Reading.{followed, unary_in_parentheses, unary_at_step_by, unary_at_step}
use Rattle.d_parser.specs.Steps.Reading.{prefixed_by}
use Rattle.d_parser.specs.Steps.Reading.{unary_at_mark, unary_by, unary, binary_tail_by, binary_tail_on, cond_tail_by}
use Rattle.d_parser.specs.Steps.Reading.{alternatives, cond_tail, binary, expr_on, exprs_tail_on}
use Rattle.d_parser.proofs.Complete.{level_high, level_below, sign_there, join, join_more}
use Rattle.d_parser.proofs.Runs.{run_joined}
use Rattle.d_parser.proofs.Signs.{prefix_mark, prefix_mark_is, sign_of, sign_is}
use Rattle.d_parser.proofs.Tokens.{token}

-- what an answer meets, if there is one
abbrev pub IfSome : {A : Type 0} → (A → Type 0) → Option A → Type 0
IfSome P None = Unit {0}
IfSome P (Some x) = P x

pub then_sound : {A B : Type 0} (P : A → Type 0) (Q : B → Type 0) (r : Option A) (g : A → Option B) → IfSome P r → ((x : A) → P x → IfSome Q (g x)) → IfSome Q (r >>= g)
then_sound P Q None g h k = tt
then_sound P Q (Some x) g h k = k x h

pub test_sound : {A : Type 0} (Q : A → Type 0) (b : Bool) (x y : Option A) → (b ≡ true → IfSome Q x) → (b ≡ false → IfSome Q y) → IfSome Q (cond b x y)
test_sound Q true x y f g = f refl
test_sound Q false x y f g = g refl

pub after_sound : (mark : Mark) (ts : List Token) → IfSome (λ rest. IsMark mark ts rest) (after_mark mark ts)
after_sound mark ts = test_sound (λ rest. IsMark mark ts rest) (is_at mark ts) (Some (tail ts)) None (λ h. sign_there mark ts h) (λ h. tt)

-- ---- what follows

abbrev pub joins_of : Follow → ℕ
joins_of (f.Infix op) = level_of op
joins_of f.Question = 2
joins_of follow = 0

abbrev pub joins : List Token → ℕ
joins ts = joins_of (follow_at ts)

joins_below : (follow : Follow) → joins_of follow ≤ 13
joins_below (f.Infix op) = level_below op
joins_below (f.Assign op) = lit≤ tt
joins_below (f.Step step) = lit≤ tt
joins_below f.Question = lit≤ tt
joins_below f.Bracket = lit≤ tt
joins_below f.Parenthesis = lit≤ tt
joins_below f.Other = lit≤ tt

-- no operator has the level 1
joins_gap : (follow : Follow) → joins_of follow < 2 → joins_of follow < 1
joins_gap (f.Infix op) h = let high = level_high op in absurd (omega arith)
joins_gap (f.Assign op) h = lit< tt
joins_gap (f.Step step) h = lit< tt
joins_gap f.Question h = absurd (omega arith)
joins_gap f.Bracket h = lit< tt
joins_gap f.Parenthesis h = lit< tt
joins_gap f.Other h = lit< tt

follow_kind_sound : (t : TokenKind) (follow : Follow) → follow_kind t ≡ follow → (follow ≡ f.Other → ⊥) → t ≡ kind.Mark (sign_of follow)
follow_kind_sound (kind.Mark mark) follow h other = ap kind.Mark (sign_is follow mark h other)
follow_kind_sound (kind.Word name) follow h other = absurd (other (sym h))
follow_kind_sound (kind.DescriptionRun name) follow h other = absurd (other (sym h))
follow_kind_sound (kind.AggregationName name) follow h other = absurd (other (sym h))
follow_kind_sound (kind.Number value suffix) follow h other = absurd (other (sym h))
follow_kind_sound (kind.TextConstant bytes) follow h other = absurd (other (sym h))

follow_sound : (follow : Follow) (ts : List Token) → follow_at ts ≡ follow → (follow ≡ f.Other → ⊥) → IsMark (sign_of follow) ts (tail ts)
follow_sound follow [] h other = absurd (other (sym h))
follow_sound follow (t ∷ ts) h other =
    record { line = t.line; begins = record { start = t.start; stop = t.stop; is = ap (λ (x : TokenKind). token x t.start t.stop t.line ∷ ts) (follow_kind_sound t.kind follow h other) } }

-- ---- expressions

bare : (t : Tree) (k : ℕ) (ts rest : List Token) → Spells t ts rest → k ≤ level t → IsOfLevel (Spells t) (level t) k ts rest
bare t k ts rest s h = record { pairs = 0; high = λ e. h; within = s }

lower : (t : Tree) (j k : ℕ) (ts rest : List Token) → j ≤ k → IsOfLevel (Spells t) (level t) k ts rest → IsOfLevel (Spells t) (level t) j ts rest
lower t j k ts rest le h = record { pairs = h.pairs; high = λ e. let high = h.high e in omega arith; within = h.within }

in_parens : (t : Tree) (j k : ℕ) (ts inner close rest : List Token) → IsMark m.OpenParenthesis ts inner → IsOfLevel (Spells t) (level t) j inner close → IsMark m.CloseParenthesis close rest → IsOfLevel (Spells t) (level t) k ts rest
in_parens t j k ts inner close rest o h s = record { pairs = suc h.pairs; high = λ e. absurd (omega arith); within = (inner, o, (close, h.within, s)) }

-- what is read as an expression of level k, and that no operator that it could take follows
pub record ExprRead (k : ℕ) (ts : List Token) (x : Tree × List Token) : Type 0 where
  pub expr : IsOfLevel (Spells x.0) (level x.0) k ts x.1
  pub stops : joins x.1 < k

-- two expressions with a colon between
record Alternatives (ts : List Token) (x : (Tree × Tree) × List Token) : Type 0 where
  pub at_colon : List Token
  pub after : List Token
  pub first : ExprRead 1 ts (x.0.0, at_colon)
  pub colon : IsMark m.Colon at_colon after
  pub second : ExprRead 2 after (x.0.1, x.1)

-- what is read so far, and that an operator that follows takes it
pub record Fits (j : ℕ) (ts : List Token) (x : Tree × List Token) : Type 0 where
  pub expr : IsOfLevel (Spells x.0) (level x.0) j ts x.1
  pub fits : 1 ≤ joins x.1 → IsOfLevel (Spells x.0) (level x.0) (max 3 (joins x.1)) ts x.1

pub record BinaryTail (j k : ℕ) (ts : List Token) (x : Tree × List Token) : Type 0 where
  pub fits : Fits j ts x
  pub stops : joins x.1 < k

-- more of a list
pub record ExprsTail (acc : Trees) (ts : List Token) (x : Trees × List Token) : Type 0 where
  pub list : Trees
  pub is : x.0 ≡ join acc list
  pub spells : SpellsMore list ts x.1

pub record Sound (down : Readers) : Type 0 where
  pub expr : (k : ℕ) (ts : List Token) → 1 ≤ k → k ≤ 14 → IfSome (ExprRead k ts) (down.expr k ts)
  pub binary_tail : (j k : ℕ) (left : Tree) (start ts : List Token) → 3 ≤ k → j ≤ k → Fits j start (left, ts) → IfSome (BinaryTail j k start) (down.binary_tail k left ts)
  pub exprs_tail : (acc : Trees) (ts : List Token) → IfSome (ExprsTail acc ts) (down.exprs_tail acc ts)

-- what is an expression of every level up to 14
any_fits : (t : Tree) (j : ℕ) (ts rest : List Token) → j ≤ 14 → ((l : ℕ) → l ≤ 14 → IsOfLevel (Spells t) (level t) l ts rest) → Fits j ts (t, rest)
any_fits t j ts rest le h = record { expr = h j le; fits = λ one. h (max 3 (joins rest)) (let low = joins_below (follow_at rest) in omega arith) }

bare_fits : (t : Tree) (j : ℕ) (ts rest : List Token) → j ≤ 14 → 14 ≤ level t → Spells t ts rest → Fits j ts (t, rest)
bare_fits t j ts rest le high s = any_fits t j ts rest le (λ l h. bare t l ts rest s (omega arith))

-- ---- words and variables

plain_kind_sound : (word : WordKind) (name : List ℕ) (line start stop : ℕ) (ts : List Token) → word_kind name ≡ word → IfSome (λ x. IsWord w.Plain x.0 line (token (kind.Word name) start stop line ∷ ts) x.1) (if_plain word name ts)
plain_kind_sound w.Plain name line start stop ts e = (e, record { start = start; stop = stop; is = refl })
plain_kind_sound w.Thread name line start stop ts e = tt
plain_kind_sound w.Clause name line start stop ts e = tt
plain_kind_sound w.Text name line start stop ts e = tt
plain_kind_sound w.Char name line start stop ts e = tt
plain_kind_sound w.Short name line start stop ts e = tt
plain_kind_sound w.Int name line start stop ts e = tt
plain_kind_sound w.Long name line start stop ts e = tt
plain_kind_sound w.Signed name line start stop ts e = tt
plain_kind_sound w.Unsigned name line start stop ts e = tt
plain_kind_sound (w.Fixed t) name line start stop ts e = tt

abbrev AnyPlain : List Token → List ℕ × List Token → Type 0
AnyPlain ts x = (line : ℕ) × IsWord w.Plain x.0 line ts x.1

plain_by_sound : (t : TokenKind) (line start stop : ℕ) (ts : List Token) → IfSome (λ x. IsWord w.Plain x.0 line (token t start stop line ∷ ts) x.1) (plain_by t ts)
plain_by_sound (kind.Word name) line start stop ts = plain_kind_sound (word_kind name) name line start stop ts refl
plain_by_sound (kind.DescriptionRun name) line start stop ts = tt
plain_by_sound (kind.AggregationName name) line start stop ts = tt
plain_by_sound (kind.Number value suffix) line start stop ts = tt
plain_by_sound (kind.TextConstant bytes) line start stop ts = tt
plain_by_sound (kind.Mark mark) line start stop ts = tt

pub weaken : {A : Type 0} (P Q : A → Type 0) (r : Option A) → ((x : A) → P x → Q x) → IfSome P r → IfSome Q r
weaken P Q None k h = tt
weaken P Q (Some x) k h = k x h

plain_sound : (ts : List Token) → IfSome (AnyPlain ts) (plain_word ts)
unfolding plain_word
plain_sound [] = tt
plain_sound (t ∷ ts) = weaken (λ x. IsWord w.Plain x.0 t.line (t ∷ ts) x.1) (AnyPlain (t ∷ ts)) (plain_by t.kind ts) (λ x h. (t.line, h)) (plain_by_sound t.kind t.line t.start t.stop ts)

abbrev Member : List Token → List ℕ × List Token → Type 0
Member ts x = (line : ℕ) × (IsMark m.Arrow ⨟ IsWord w.Plain x.0 line) ts x.1

member_sound : (ts : List Token) → IfSome (Member ts) (member ts)
unfolding member
member_sound ts = then_sound (λ rest. IsMark m.Arrow ts rest) (Member ts) (after_mark m.Arrow ts) (λ rest. plain_word rest) (after_sound m.Arrow ts)
    (λ rest s. weaken (AnyPlain rest) (Member ts) (plain_word rest) (λ x h. (h.0, (rest, s, h.1))) (plain_sound rest))

-- the words of a variable
abbrev IsVariable : Variable → Part
IsVariable (v.Plain line name) = IsWord w.Plain name line
IsVariable (v.Thread line name) = IsMember w.Thread name line
IsVariable (v.Clause line name) = IsMember w.Clause name line

variable_sound : (word : WordKind) (name : List ℕ) (line : ℕ) (start ts : List Token) → word_kind name ≡ word → IsToken (kind.Word name) line start ts → IfSome (λ x. IsVariable x.0 start x.1) (variable word name line ts)
unfolding variable
variable_sound w.Plain name line start ts e h = (e, h)
variable_sound w.Thread name line start ts e h =
    then_sound (Member ts) (λ x. IsVariable x.0 start x.1) (member ts) (λ x. Some (v.Thread line x.0, x.1)) (member_sound ts)
    (λ x g. (name, g.0, (ts, (e, h), g.1)))
variable_sound w.Clause name line start ts e h =
    then_sound (Member ts) (λ x. IsVariable x.0 start x.1) (member ts) (λ x. Some (v.Clause line x.0, x.1)) (member_sound ts)
    (λ x g. (name, g.0, (ts, (e, h), g.1)))
variable_sound w.Text name line start ts e h = tt
variable_sound w.Char name line start ts e h = tt
variable_sound w.Short name line start ts e h = tt
variable_sound w.Int name line start ts e h = tt
variable_sound w.Long name line start ts e h = tt
variable_sound w.Signed name line start ts e h = tt
variable_sound w.Unsigned name line start ts e h = tt
variable_sound (w.Fixed t) name line start ts e h = tt

integer_by : (o : Option DeclaredType) (ts : List Token) → type_of_words (run ts) ≡ o → IfSome (λ to. type_of_words (run ts) ≡ Some (d.Integer to)) (only_integer o)
integer_by None ts e = tt
integer_by (Some (d.Integer to)) ts e = e
integer_by (Some d.Text) ts e = tt

-- the type of a cast, and the parenthesis after it
abbrev CastOf : List Token → IntegerType × List Token → Type 0
CastOf ts x = (IsType (d.Integer x.0) ⨟ IsMark m.CloseParenthesis) ts x.1

cast_sound : (ts : List Token) → IfSome (CastOf ts) (cast_type ts)
unfolding cast_type
cast_sound ts =
    then_sound (λ to. type_of_words (run ts) ≡ Some (d.Integer to)) (CastOf ts) (integer_type (run ts)) (λ to. after_mark m.CloseParenthesis (after_run ts) >>= λ rest. Some (to, rest)) (integer_by (type_of_words (run ts)) ts refl)
    (λ to e. then_sound (λ rest. IsMark m.CloseParenthesis (after_run ts) rest) (CastOf ts) (after_mark m.CloseParenthesis (after_run ts)) (λ rest. Some (to, rest)) (after_sound m.CloseParenthesis (after_run ts))
    (λ rest s. (after_run ts, (run ts, run_joined ts, e), s)))

-- ---- marks

calls_sound : (word : WordKind) (follow : Follow) → calls word follow ≡ true → (word ≡ w.Plain) × (follow ≡ f.Parenthesis)
calls_sound w.Plain f.Parenthesis e = (refl, refl)
calls_sound word follow e = absurd cc

-- ---- below one level

-- an expression and what comes after commas, up to the mark
pub record Listed (close : Mark) (ts : List Token) (x : Trees × List Token) : Type 0 where
  pub first : Tree
  pub others : Trees
  pub later : List Token
  pub closing : List Token
  pub is : x.0 ≡ more first others
  pub expr : IsOfLevel (Spells first) (level first) 1 ts later
  pub spells : SpellsMore others later closing
  pub closes : IsMark close closing x.1

abbrev pub KeysOf : List Token → Trees × List Token → Type 0
KeysOf ts x = SpellsKeys x.0 ts x.1

abbrev pub ArgumentsOf : List Token → Trees × List Token → Type 0
ArgumentsOf ts x = IsEnclosed m.OpenParenthesis m.CloseParenthesis (SpellsList x.0) ts x.1

abbrev TargetOf : List Token → (Variable × Trees) × List Token → Type 0
TargetOf ts x = IsTarget x.0.0 x.0.1 (SpellsKeys x.0.1) ts x.1

abbrev pub SignOf : Mark → List Token → List Token → Type 0
SignOf mark ts rest = IsMark mark ts rest

abbrev VariableOf : List Token → Variable × List Token → Type 0
VariableOf ts x = IsVariable x.0 ts x.1

module _ (down : Readers) (sound : Sound down) where
  listed_sound : (close : Mark) (ts : List Token) → IfSome (Listed close ts) (closed_list down close ts)
  unfolding closed_list
  listed_sound close ts =
      then_sound (ExprRead 1 ts) (Listed close ts) (down.expr 1 ts) (λ first. down.exprs_tail (more first.0 end) first.1 >>= λ all. after_mark close all.1 >>= λ rest. Some (all.0, rest)) (sound.expr 1 ts (lit≤ tt) (lit≤ tt))
      (λ first h. then_sound (ExprsTail (more first.0 end) first.1) (Listed close ts) (down.exprs_tail (more first.0 end) first.1) (λ all. after_mark close all.1 >>= λ rest. Some (all.0, rest)) (sound.exprs_tail (more first.0 end) first.1)
      (λ all g. then_sound (SignOf close all.1) (Listed close ts) (after_mark close all.1) (λ rest. Some (all.0, rest)) (after_sound close all.1)
      (λ rest s. record { first = first.0; others = g.list; later = first.1; closing = all.1; is = g.is ∙ join_more first.0 g.list; expr = h.expr; spells = g.spells; closes = s })))

  keys_by_sound : (follow : Follow) (ts : List Token) → follow_at ts ≡ follow → IfSome (KeysOf ts) (keys_by down follow ts)
  keys_by_sound f.Bracket ts e =
      weaken (Listed m.CloseBracket (tail ts)) (KeysOf ts) (closed_list down m.CloseBracket (tail ts))
      (λ x h. subst (λ (l : Trees). SpellsKeys l ts x.1) (sym h.is) (tail ts, follow_sound f.Bracket ts e (λ h. absurd cc), (h.closing, (h.later, h.expr, h.spells), h.closes)))
      (listed_sound m.CloseBracket (tail ts))
  keys_by_sound (f.Infix op) ts e = refl
  keys_by_sound (f.Assign op) ts e = refl
  keys_by_sound (f.Step step) ts e = refl
  keys_by_sound f.Question ts e = refl
  keys_by_sound f.Parenthesis ts e = refl
  keys_by_sound f.Other ts e = refl

  pub keys_sound : (ts : List Token) → IfSome (KeysOf ts) (keys down ts)
  unfolding keys
  keys_sound ts = keys_by_sound (follow_at ts) ts refl

  pub arguments_sound : (list : List Token) → IsMark m.OpenParenthesis list (tail list) → IfSome (ArgumentsOf list) (arguments down (tail list))
  unfolding arguments
  arguments_sound list s =
      test_sound (ArgumentsOf list) (is_at m.CloseParenthesis (tail list)) (Some (end, tail (tail list))) (closed_list down m.CloseParenthesis (tail list))
      (λ h. (tail list, s, (tail list, refl, sign_there m.CloseParenthesis (tail list) h)))
      (λ h. weaken (Listed m.CloseParenthesis (tail list)) (ArgumentsOf list) (closed_list down m.CloseParenthesis (tail list))
      (λ x g. (tail list, s, (g.closing, subst (λ (l : Trees). SpellsList l (tail list) g.closing) (sym g.is) (g.later, g.expr, g.spells), g.closes)))
      (listed_sound m.CloseParenthesis (tail list)))

  with_keys_sound : (x : Variable) (start ts : List Token) → IsVariable x start ts → IfSome (TargetOf start) (with_keys down x ts)
  unfolding with_keys
  with_keys_sound (v.Plain line name) start ts h = then_sound (KeysOf ts) (TargetOf start) (keys down ts) (λ k. Some ((v.Plain line name, k.0), k.1)) (keys_sound ts) (λ k g. (ts, h, g))
  with_keys_sound (v.Thread line name) start ts h = then_sound (KeysOf ts) (TargetOf start) (keys down ts) (λ k. Some ((v.Thread line name, k.0), k.1)) (keys_sound ts) (λ k g. (ts, h, g))
  with_keys_sound (v.Clause line name) start ts h = (refl, h)

  target_sound : (name : List ℕ) (line : ℕ) (start ts : List Token) → IsToken (kind.Word name) line start ts → IfSome (TargetOf start) (target down (word_kind name) name line ts)
  unfolding target
  target_sound name line start ts h =
      then_sound (VariableOf start) (TargetOf start) (variable (word_kind name) name line ts) (λ x. with_keys down x.0 x.1) (variable_sound (word_kind name) name line start ts refl h) (λ x g. with_keys_sound x.0 start x.1 g)

  read_sound : (j : ℕ) (x : Variable × Trees) (start ts : List Token) → j ≤ 14 → TargetOf start (x, ts) → Fits j start (Read x.0 x.1, ts)
  read_sound j x start ts le h = bare_fits (Read x.0 x.1) j start ts le (lit≤ tt) h

  assign_sound : (j : ℕ) (x : Variable × Trees) (op : AssignOperator) (start ts : List Token) → j ≤ 1 → TargetOf start (x, ts) → follow_at ts ≡ f.Assign op → IfSome (Fits j start) (down.expr 1 (tail ts) >>= λ value. Some (Assign op x.0 x.1 value.0, value.1))
  assign_sound j x op start ts low h e =
      let s = follow_sound (f.Assign op) ts e (λ h. absurd cc) in
      then_sound (ExprRead 1 (tail ts)) (Fits j start) (down.expr 1 (tail ts)) (λ value. Some (Assign op x.0 x.1 value.0, value.1)) (sound.expr 1 (tail ts) (lit≤ tt) (lit≤ tt))
      (λ value g. record {
        expr = bare (Assign op x.0 x.1 value.0) j start value.1 (ts, h, (tail ts, s, g.expr)) low;
        fits = λ one. absurd (let stop = g.stops in omega arith);
      })

  target_tail_by_sound : (follow : Follow) (j : ℕ) (x : Variable × Trees) (start ts : List Token) → j ≤ 14 → TargetOf start (x, ts) → follow_at ts ≡ follow → IfSome (Fits j start) (target_tail_by down follow j x ts)
  target_tail_by_sound (f.Step step) j x start ts le h e =
      let s = follow_sound (f.Step step) ts e (λ h. absurd cc) in
      bare_fits (After x.0 x.1 step) j start (tail ts) le (lit≤ tt) (ts, h, s)
  target_tail_by_sound (f.Assign op) j x start ts le h e =
      elim (cases_lt 1 j) [
        | inl high ↦ rw (lt-leb j 1 high) (read_sound j x start ts le h)
        | inr low ↦ rw (le-leb j 1 low) (assign_sound j x op start ts low h e)
      ]
  target_tail_by_sound (f.Infix op) j x start ts le h e = read_sound j x start ts le h
  target_tail_by_sound f.Question j x start ts le h e = read_sound j x start ts le h
  target_tail_by_sound f.Bracket j x start ts le h e = read_sound j x start ts le h
  target_tail_by_sound f.Parenthesis j x start ts le h e = read_sound j x start ts le h
  target_tail_by_sound f.Other j x start ts le h e = read_sound j x start ts le h

  target_tail_sound : (j : ℕ) (x : Variable × Trees) (start ts : List Token) → j ≤ 14 → TargetOf start (x, ts) → IfSome (Fits j start) (target_tail down j x ts)
  unfolding target_tail
  target_tail_sound j x start ts le h = target_tail_by_sound (follow_at ts) j x start ts le h refl

  call_sound : (j : ℕ) (name : List ℕ) (line : ℕ) (start ts : List Token) → j ≤ 14 → IsToken (kind.Word name) line start ts → begins_call name ts ≡ true → IfSome (Fits j start) (arguments down (tail ts) >>= λ all. Some (Call line name all.0, all.1))
  call_sound j name line start ts le h e =
      let both = calls_sound (word_kind name) (follow_at ts) e in
      then_sound (ArgumentsOf ts) (Fits j start) (arguments down (tail ts)) (λ all. Some (Call line name all.0, all.1)) (arguments_sound ts (follow_sound f.Parenthesis ts both.1 (λ h. absurd cc)))
      (λ all g. bare_fits (Call line name all.0) j start all.1 le (lit≤ tt) (ts, (both.0, h), g))

  named_sound : (j : ℕ) (name : List ℕ) (line : ℕ) (start ts : List Token) → j ≤ 14 → IsToken (kind.Word name) line start ts → IfSome (Fits j start) (post_at_name down j name line ts)
  unfolding post_at_name
  named_sound j name line start ts le h =
      test_sound (Fits j start) (begins_call name ts) (arguments down (tail ts) >>= λ all. Some (Call line name all.0, all.1)) (target down (word_kind name) name line ts >>= λ x. target_tail down j x.0 x.1)
      (λ e. call_sound j name line start ts le h e)
      (λ e. then_sound (TargetOf start) (Fits j start) (target down (word_kind name) name line ts) (λ x. target_tail down j x.0 x.1) (target_sound name line start ts h) (λ x g. target_tail_sound j x.0 start x.1 le g))

  casted_sound : (j line : ℕ) (start ts : List Token) → j ≤ 14 → IsToken (kind.Mark m.OpenParenthesis) line start ts → IfSome (Fits j start) (unary_at_cast down line ts)
  unfolding unary_at_cast
  casted_sound j line start ts le h =
      then_sound (CastOf ts) (Fits j start) (cast_type ts) (λ to. down.expr 14 to.1 >>= λ a. Some (Cast line to.0 a.0, a.1)) (cast_sound ts)
      (λ to g. then_sound (ExprRead 14 to.1) (Fits j start) (down.expr 14 to.1) (λ a. Some (Cast line to.0 a.0, a.1)) (sound.expr 14 to.1 (lit≤ tt) (lit≤ tt))
      (λ a k. bare_fits (Cast line to.0 a.0) j start a.1 le (lit≤ tt) (ts, h, (g.0, g.1, (to.1, g.2, k.expr)))))

  parens_sound : (j line : ℕ) (start ts : List Token) → j ≤ 14 → IsToken (kind.Mark m.OpenParenthesis) line start ts → IfSome (Fits j start) (unary_in_parentheses down line ts)
  unfolding unary_in_parentheses
  parens_sound j line start ts le h =
      test_sound (Fits j start) (is_typed ts) (unary_at_cast down line ts) (down.expr 1 ts >>= λ inner. after_mark m.CloseParenthesis inner.1 >>= λ rest. Some (inner.0, rest))
      (λ e. casted_sound j line start ts le h)
      (λ e. then_sound (ExprRead 1 ts) (Fits j start) (down.expr 1 ts) (λ inner. after_mark m.CloseParenthesis inner.1 >>= λ rest. Some (inner.0, rest)) (sound.expr 1 ts (lit≤ tt) (lit≤ tt))
      (λ inner g. then_sound (SignOf m.CloseParenthesis inner.1) (Fits j start) (after_mark m.CloseParenthesis inner.1) (λ rest. Some (inner.0, rest)) (after_sound m.CloseParenthesis inner.1)
      (λ rest s. any_fits inner.0 j start rest le (λ l high. in_parens inner.0 1 l start ts inner.1 rest (record { line = line; begins = h }) g.expr s))))

  stepped_by_sound : (t : TokenKind) (begin stop word_line : ℕ) (j line : ℕ) (step : Step) (start ts : List Token) → j ≤ 14 → IsToken (kind.Mark (step_mark step)) line start (token t begin stop word_line ∷ ts) → IfSome (Fits j start) (unary_at_step_by down line step t word_line ts)
  stepped_by_sound (kind.Word name) begin stop word_line j line step start ts le h =
      then_sound (TargetOf (token (kind.Word name) begin stop word_line ∷ ts)) (Fits j start) (target down (word_kind name) name word_line ts) (λ x. Some (Before line step x.0.0 x.0.1, x.1)) (target_sound name word_line (token (kind.Word name) begin stop word_line ∷ ts) ts (record { start = begin; stop = stop; is = refl }))
      (λ x g. bare_fits (Before line step x.0.0 x.0.1) j start x.1 le (lit≤ tt) (token (kind.Word name) begin stop word_line ∷ ts, h, g))
  stepped_by_sound (kind.DescriptionRun name) begin stop word_line j line step start ts le h = tt
  stepped_by_sound (kind.AggregationName name) begin stop word_line j line step start ts le h = tt
  stepped_by_sound (kind.Number value suffix) begin stop word_line j line step start ts le h = tt
  stepped_by_sound (kind.TextConstant bytes) begin stop word_line j line step start ts le h = tt
  stepped_by_sound (kind.Mark found) begin stop word_line j line step start ts le h = tt

  stepped_sound : (j line : ℕ) (step : Step) (start ts : List Token) → j ≤ 14 → IsToken (kind.Mark (step_mark step)) line start ts → IfSome (Fits j start) (unary_at_step down line step ts)
  unfolding unary_at_step
  stepped_sound j line step start [] le h = tt
  stepped_sound j line step start (t ∷ ts) le h = stepped_by_sound t.kind t.start t.stop t.line j line step start ts le h

  prefixed_sound : (x : Prefix) (j line : ℕ) (mark : Mark) (start ts : List Token) → j ≤ 14 → IsToken (kind.Mark (prefix_mark x mark)) line start ts → IfSome (Fits j start) (prefixed_by down x line ts)
  prefixed_sound (p.Unary op) j line mark start ts le h =
      then_sound (ExprRead 14 ts) (Fits j start) (down.expr 14 ts) (λ a. Some (Unary line op a.0, a.1)) (sound.expr 14 ts (lit≤ tt) (lit≤ tt))
      (λ a g. bare_fits (Unary line op a.0) j start a.1 le (lit≤ tt) (ts, h, g.expr))
  prefixed_sound (p.Step step) j line mark start ts le h = stepped_sound j line step start ts le h
  prefixed_sound p.Other j line mark start ts le h = tt

  marked_sound : (j line : ℕ) (mark : Mark) (start ts : List Token) → j ≤ 14 → IsToken (kind.Mark mark) line start ts → IfSome (Fits j start) (unary_at_mark down mark line ts)
  unfolding unary_at_mark
  marked_sound j line mark start ts le h =
      test_sound (Fits j start) (same_mark mark m.OpenParenthesis) (unary_in_parentheses down line ts) (prefixed_by down (prefix_of mark) line ts)
      (λ e. parens_sound j line start ts le (subst (λ (k : Mark). IsToken (kind.Mark k) line start ts) (same_true the_type (search rules) mark m.OpenParenthesis e) h))
      (λ e. prefixed_sound (prefix_of mark) j line mark start ts le (subst (λ (k : Mark). IsToken (kind.Mark k) line start ts) (sym (prefix_mark_is mark)) h))

  unary_by_sound : (t : TokenKind) (begin stop line : ℕ) (j : ℕ) (ts : List Token) → j ≤ 14 → IfSome (Fits j (token t begin stop line ∷ ts)) (unary_by down j t line ts)
  unary_by_sound (kind.Number value suffix) begin stop line j ts le = bare_fits (Known line (c.Number value suffix)) j (token (kind.Number value suffix) begin stop line ∷ ts) ts le (lit≤ tt) (record { start = begin; stop = stop; is = refl })
  unary_by_sound (kind.TextConstant bytes) begin stop line j ts le = bare_fits (Known line (c.Text bytes)) j (token (kind.TextConstant bytes) begin stop line ∷ ts) ts le (lit≤ tt) (record { start = begin; stop = stop; is = refl })
  unary_by_sound (kind.Word name) begin stop line j ts le = named_sound j name line (token (kind.Word name) begin stop line ∷ ts) ts le (record { start = begin; stop = stop; is = refl })
  unary_by_sound (kind.Mark mark) begin stop line j ts le = marked_sound j line mark (token (kind.Mark mark) begin stop line ∷ ts) ts le (record { start = begin; stop = stop; is = refl })
  unary_by_sound (kind.DescriptionRun name) begin stop line j ts le = tt
  unary_by_sound (kind.AggregationName name) begin stop line j ts le = tt

  unary_sound : (j : ℕ) (ts : List Token) → j ≤ 14 → IfSome (Fits j ts) (unary down j ts)
  unfolding unary
  unary_sound j [] le = tt
  unary_sound j (t ∷ ts) le = unary_by_sound t.kind t.start t.stop t.line j ts le

  -- ---- operators

  joined_sound : (j k : ℕ) (op : BinaryOperator) (left : Tree) (start ts : List Token) → 3 ≤ k → j ≤ k → k ≤ level_of op → Fits j start (left, ts) → follow_at ts ≡ f.Infix op → IfSome (BinaryTail j k start) (down.expr (suc (level_of op)) (tail ts) >>= λ right. down.binary_tail k (Binary op left right.0) right.1)
  joined_sound j k op left start ts high le low h e =
      let s = follow_sound (f.Infix op) ts e (λ h. absurd cc) in
      let is : joins ts ≡ level_of op = ap joins_of e in
      let least = level_high op in
      let most = level_below op in
      let max_is : max 3 (joins ts) ≡ level_of op = omega arith in
      let first = subst (λ (l : ℕ). IsOfLevel (Spells left) (level left) l start ts) max_is (h.fits (omega arith)) in
      then_sound (ExprRead (suc (level_of op)) (tail ts)) (BinaryTail j k start) (down.expr (suc (level_of op)) (tail ts)) (λ right. down.binary_tail k (Binary op left right.0) right.1) (sound.expr (suc (level_of op)) (tail ts) (omega arith) (omega arith))
      (λ right g.
      let spelled : Spells (Binary op left right.0) start right.1 = (ts, first, (tail ts, s, g.expr)) in
      sound.binary_tail j k (Binary op left right.0) start right.1 high le
      (record { expr = bare (Binary op left right.0) j start right.1 spelled (omega arith); fits = λ one. bare (Binary op left right.0) (max 3 (joins right.1)) start right.1 spelled (let stop = g.stops in omega arith) }))

  binary_tail_by_sound : (follow : Follow) (j k : ℕ) (left : Tree) (start ts : List Token) → 3 ≤ k → j ≤ k → Fits j start (left, ts) → follow_at ts ≡ follow → IfSome (BinaryTail j k start) (binary_tail_by down follow k left ts)
  binary_tail_by_sound (f.Infix op) j k left start ts high le h e =
      elim (cases_lt (level_of op) k) [
        | inl less ↦ rw (lt-leb k (level_of op) less) (record { fits = h; stops = rw (ap joins_of e) less })
        | inr low ↦ rw (le-leb k (level_of op) low) (joined_sound j k op left start ts high le low h e)
      ]
  binary_tail_by_sound (f.Assign op) j k left start ts high le h e = record { fits = h; stops = rw (ap joins_of e) (omega arith) }
  binary_tail_by_sound (f.Step step) j k left start ts high le h e = record { fits = h; stops = rw (ap joins_of e) (omega arith) }
  binary_tail_by_sound f.Question j k left start ts high le h e = record { fits = h; stops = rw (ap joins_of e) (omega arith) }
  binary_tail_by_sound f.Bracket j k left start ts high le h e = record { fits = h; stops = rw (ap joins_of e) (omega arith) }
  binary_tail_by_sound f.Parenthesis j k left start ts high le h e = record { fits = h; stops = rw (ap joins_of e) (omega arith) }
  binary_tail_by_sound f.Other j k left start ts high le h e = record { fits = h; stops = rw (ap joins_of e) (omega arith) }

  pub binary_tail_on_sound : (j k : ℕ) (left : Tree) (start ts : List Token) → 3 ≤ k → j ≤ k → Fits j start (left, ts) → IfSome (BinaryTail j k start) (binary_tail_on down k left ts)
  unfolding binary_tail_on
  binary_tail_on_sound j k left start ts high le h = binary_tail_by_sound (follow_at ts) j k left start ts high le h refl

  -- ---- choice

  alternatives_sound : (ts : List Token) → IfSome (Alternatives ts) (alternatives down ts)
  unfolding alternatives
  alternatives_sound ts =
      then_sound (ExprRead 1 ts) (Alternatives ts) (down.expr 1 ts) (λ x. followed m.Colon x.0 x.1 >>= λ first. down.expr 2 first.1 >>= λ second. Some ((first.0, second.0), second.1)) (sound.expr 1 ts (lit≤ tt) (lit≤ tt))
      (λ x g. then_sound (λ first. (first.0 ≡ x.0) × SignOf m.Colon x.1 first.1) (Alternatives ts) (followed m.Colon x.0 x.1) (λ first. down.expr 2 first.1 >>= λ second. Some ((first.0, second.0), second.1))
      (then_sound (SignOf m.Colon x.1) (λ first. (first.0 ≡ x.0) × SignOf m.Colon x.1 first.1) (after_mark m.Colon x.1) (λ rest. Some (x.0, rest)) (after_sound m.Colon x.1) (λ rest s. (refl, s)))
      (λ first s. then_sound (ExprRead 2 first.1) (Alternatives ts) (down.expr 2 first.1) (λ second. Some ((first.0, second.0), second.1)) (sound.expr 2 first.1 (lit≤ tt) (lit≤ tt))
      (λ second d. record { at_colon = x.1; after = first.1; first = subst (λ t. ExprRead 1 ts (t, x.1)) (sym s.0) g; colon = s.1; second = d })))

  cond_tail_of_sound : (k : ℕ) (test : Tree) (start ts : List Token) → k ≤ 2 → 1 ≤ k → Fits k start (test, ts) → follow_at ts ≡ f.Question
      → IfSome (ExprRead k start) (alternatives down (tail ts) >>= λ x. Some (Choice test x.0.0 x.0.1, x.1))
  cond_tail_of_sound k test start ts le pos h e =
      let s = follow_sound f.Question ts e (λ h. absurd cc) in
      let is : joins ts ≡ 2 = ap joins_of e in
      let max_is : max 3 (joins ts) ≡ 3 = omega arith in
      let head = subst (λ (l : ℕ). IsOfLevel (Spells test) (level test) l start ts) max_is (h.fits (omega arith)) in
      then_sound (Alternatives (tail ts)) (ExprRead k start) (alternatives down (tail ts)) (λ x. Some (Choice test x.0.0 x.0.1, x.1)) (alternatives_sound (tail ts))
      (λ x a. record {
        expr = bare (Choice test x.0.0 x.0.1) k start x.1 (ts, head, (tail ts, s, (a.at_colon, a.first.expr, (a.after, a.colon, a.second.expr)))) le;
        stops = let gap = joins_gap (follow_at x.1) a.second.stops in omega arith;
      })

  cond_tail_by_sound : (follow : Follow) (k : ℕ) (test : Tree) (start ts : List Token) → k ≤ 2 → 1 ≤ k → BinaryTail k 3 start (test, ts) → follow_at ts ≡ follow → IfSome (ExprRead k start) (cond_tail_by down follow test ts)
  cond_tail_by_sound f.Question k test start ts le pos h e = cond_tail_of_sound k test start ts le pos h.fits e
  cond_tail_by_sound (f.Infix op) k test start ts le pos h e = absurd (let stop = h.stops in let is : joins ts ≡ level_of op = ap joins_of e in let high = level_high op in omega arith)
  cond_tail_by_sound (f.Assign op) k test start ts le pos h e = record { expr = h.fits.expr; stops = rw (ap joins_of e) pos }
  cond_tail_by_sound (f.Step step) k test start ts le pos h e = record { expr = h.fits.expr; stops = rw (ap joins_of e) pos }
  cond_tail_by_sound f.Bracket k test start ts le pos h e = record { expr = h.fits.expr; stops = rw (ap joins_of e) pos }
  cond_tail_by_sound f.Parenthesis k test start ts le pos h e = record { expr = h.fits.expr; stops = rw (ap joins_of e) pos }
  cond_tail_by_sound f.Other k test start ts le pos h e = record { expr = h.fits.expr; stops = rw (ap joins_of e) pos }

  cond_tail_sound : (k : ℕ) (test : Tree) (start ts : List Token) → 1 ≤ k → BinaryTail k (max k 3) start (test, ts) → IfSome (ExprRead k start) (cond_tail down k test ts)
  unfolding cond_tail
  cond_tail_sound k test start ts pos h =
      elim (cases_lt 2 k) [
        | inl high ↦ rw (lt-leb k 2 high) (record { expr = h.fits.expr; stops = let stop = h.stops in omega arith })
        | inr low ↦ rw (le-leb k 2 low) (cond_tail_by_sound (follow_at ts) k test start ts low pos (record { fits = h.fits; stops = let stop = h.stops in omega arith }) refl)
      ]

  binary_sound : (k : ℕ) (ts : List Token) → k ≤ 14 → IfSome (BinaryTail k (max k 3) ts) (binary down k ts)
  unfolding binary
  binary_sound k ts le =
      then_sound (Fits k ts) (BinaryTail k (max k 3) ts) (unary down k ts) (λ first. down.binary_tail (max k 3) first.0 first.1) (unary_sound k ts le)
      (λ first h. sound.binary_tail k (max k 3) first.0 ts first.1 (omega arith) (omega arith) h)

  pub expr_on_sound : (k : ℕ) (ts : List Token) → 1 ≤ k → k ≤ 14 → IfSome (ExprRead k ts) (expr_on down k ts)
  unfolding expr_on
  expr_on_sound k ts pos le =
      then_sound (BinaryTail k (max k 3) ts) (ExprRead k ts) (binary down k ts) (λ joined. cond_tail down k joined.0 joined.1) (binary_sound k ts le)
      (λ joined h. cond_tail_sound k joined.0 ts joined.1 pos h)

  -- ---- lists

  exprs_tail_by_sound : (acc : Trees) (ts : List Token) → is_at m.Comma ts ≡ true → IfSome (ExprsTail acc ts) (down.expr 1 (tail ts) >>= λ next. down.exprs_tail (add acc next.0) next.1)
  exprs_tail_by_sound acc ts e =
      then_sound (ExprRead 1 (tail ts)) (ExprsTail acc ts) (down.expr 1 (tail ts)) (λ next. down.exprs_tail (add acc next.0) next.1) (sound.expr 1 (tail ts) (lit≤ tt) (lit≤ tt))
      (λ next h. weaken (ExprsTail (add acc next.0) next.1) (ExprsTail acc ts) (down.exprs_tail (add acc next.0) next.1)
      (λ x g. record { list = more next.0 g.list; is = g.is; spells = (tail ts, sign_there m.Comma ts e, (next.1, h.expr, g.spells)) })
      (sound.exprs_tail (add acc next.0) next.1))

  pub exprs_tail_on_sound : (acc : Trees) (ts : List Token) → IfSome (ExprsTail acc ts) (exprs_tail_on down acc ts)
  unfolding exprs_tail_on
  exprs_tail_on_sound acc ts =
      test_sound (ExprsTail acc ts) (is_at m.Comma ts) (down.expr 1 (tail ts) >>= λ next. down.exprs_tail (add acc next.0) next.1) (Some (acc, ts))
      (λ e. exprs_tail_by_sound acc ts e)
      (λ e. record { list = end; is = refl; spells = refl })

pub readers_sound : (n : ℕ) → Sound (readers n)
readers_sound zero = record { expr = λ k ts pos le. tt; binary_tail = λ j k left start ts high le h. tt; exprs_tail = λ acc ts. tt }
readers_sound (suc n) =
    let below = readers_sound n in
    record { expr = expr_on_sound (readers n) below; binary_tail = binary_tail_on_sound (readers n) below; exprs_tail = exprs_tail_on_sound (readers n) below }
