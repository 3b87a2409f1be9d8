-- Expressions as they are read: what is taken off the front of the tokens, level by level.
use Rattle.std.specs.Prelude.{ℕ, zero, suc, max, nat_le, Bool, true, false, if◌then◌else◌}
use Rattle.std.specs.Prelude.{List, [], ◌∷◌, Option, Some, None}
use Rattle.d_parser.specs.Vocabulary.{Mark, Token, TokenKind, Step, IntegerType, Constant, Variable}
use Rattle.d_parser.specs.Vocabulary.{WordKind, ASSIGNMENT, CONDITION, OR, UNARY, Prefix, Follow}
use Rattle.d_parser.specs.Tree.{Tree, Known, Read, Call, Unary, Cast, Before, After, Binary, Choice}
use Rattle.d_parser.specs.Tree.{Assign, Trees, end, more}
use Rattle.d_parser.specs.Steps.Tree.{add}
use Rattle.d_parser.specs.Words.{word_kind}
use Rattle.d_parser.specs.Steps.Words.{begins_type, run, after_run, integer_type}
use Rattle.d_parser.specs.Steps.Marks.{level_of, prefix_of, follow_at, is_at, same_mark, tail}

infixl 10 ◌>>=◌
abbrev pub ◌>>=◌ : {A B : Type 0} → Option A → (A → Option B) → Option B
None >>= f = None
(Some x) >>= f = f x

abbrev pub Reader : Type 0 → Type 0
Reader A = List Token → Option (A × List Token)

-- the tokens after the mark
abbrev pub after_mark : Mark → List Token → Option (List Token)
after_mark mark ts = if is_at mark ts then Some (tail ts) else None

-- ---- words

abbrev pub if_plain : WordKind → List ℕ → Reader (List ℕ)
if_plain WordKind.Plain name ts = Some (name, ts)
if_plain k name ts = None

abbrev pub plain_by : TokenKind → Reader (List ℕ)
plain_by (TokenKind.Word name) ts = if_plain (word_kind name) name ts
plain_by k ts = None

-- a word that isn't reserved
unfoldable pub plain_word : Reader (List ℕ)
plain_word [] = None
plain_word (t ∷ ts) = plain_by t.kind ts

-- the word after an arrow
unfoldable pub member : Reader (List ℕ)
member ts = after_mark Mark.Arrow ts >>= λ rest. plain_word rest

-- the variable that a word begins
unfoldable pub variable : WordKind → List ℕ → ℕ → Reader Variable
variable WordKind.Plain name line ts = Some (Variable.Plain line name, ts)
variable WordKind.Thread name line ts = member ts >>= λ x. Some (Variable.Thread line x.0, x.1)
variable WordKind.Clause name line ts = member ts >>= λ x. Some (Variable.Clause line x.0, x.1)
variable k name line ts = None

abbrev pub typed_by : TokenKind → Bool
typed_by (TokenKind.Word word) = begins_type (word_kind word)
typed_by k = false

-- a word of a type is at the front
abbrev pub is_typed : List Token → Bool
is_typed [] = false
is_typed (t ∷ ts) = typed_by t.kind

-- the type in a cast, after its opening parenthesis
unfoldable pub cast_type : Reader IntegerType
cast_type ts =
    integer_type (run ts) >>= λ to. after_mark Mark.CloseParenthesis (after_run ts) >>= λ rest.
    Some (to, rest)

abbrev pub calls : WordKind → Follow → Bool
calls WordKind.Plain Follow.Parenthesis = true
calls k follow = false

-- a word and a parenthesis begin a call
abbrev pub begins_call : List ℕ → List Token → Bool
begins_call name ts = calls (word_kind name) (follow_at ts)

abbrev pub is_clause_local : Variable → Bool
is_clause_local (Variable.Clause line name) = true
is_clause_local x = false

-- ---- expressions

-- an expression that a mark has to follow
abbrev pub followed : Mark → Tree → Reader Tree
followed mark inner ts = after_mark mark ts >>= λ rest. Some (inner, rest)

-- What reads expressions of a level, what operators of a level or more join to a left operand, and
-- the rest of a list.
pub record Readers : Type 0 where
  pub expr : ℕ → Reader Tree
  pub binary_tail : ℕ → Tree → Reader Tree
  pub exprs_tail : Trees → Reader Trees

-- Below, `down` reads what lies one level deeper.
module _ (down : Readers) where
  -- expressions with commas between, and the mark that closes them
  unfoldable pub closed_list : Mark → Reader Trees
  closed_list close ts =
      down.expr ASSIGNMENT ts >>= λ first. down.exprs_tail (more first.0 end) first.1 >>= λ all.
      after_mark close all.1 >>= λ rest. Some (all.0, rest)

  abbrev pub keys_by : Follow → Reader Trees
  keys_by Follow.Bracket ts = closed_list Mark.CloseBracket (tail ts)
  keys_by follow ts = Some (end, ts)

  unfoldable pub keys : Reader Trees
  keys ts = keys_by (follow_at ts) ts

  -- after the opening parenthesis of a call
  unfoldable pub arguments : Reader Trees
  arguments ts =
      if is_at Mark.CloseParenthesis ts then Some (end, tail ts)
      else closed_list Mark.CloseParenthesis ts

  -- a variable with the keys that it may have
  unfoldable pub with_keys : Variable → Reader (Variable × Trees)
  with_keys x ts =
      if is_clause_local x then Some ((x, end), ts) else (keys ts >>= λ k. Some ((x, k.0), k.1))

  -- a target, by its first word
  unfoldable pub target : WordKind → List ℕ → ℕ → Reader (Variable × Trees)
  target k name line ts = variable k name line ts >>= λ x. with_keys x.0 x.1

  abbrev pub target_tail_by : Follow → ℕ → Variable × Trees → Reader Tree
  target_tail_by (Follow.Step step) k x ts = Some (After x.0 x.1 step, tail ts)
  target_tail_by (Follow.Assign op) k x ts =
      if nat_le k ASSIGNMENT
      then (down.expr ASSIGNMENT (tail ts) >>= λ value. Some (Assign op x.0 x.1 value.0, value.1))
      else Some (Read x.0 x.1, ts)
  target_tail_by follow k x ts = Some (Read x.0 x.1, ts)

  -- what follows a target
  unfoldable pub target_tail : ℕ → Variable × Trees → Reader Tree
  target_tail k x ts = target_tail_by (follow_at ts) k x ts

  -- a call, or what a target begins
  unfoldable pub post_at_name : ℕ → List ℕ → ℕ → Reader Tree
  post_at_name k name line ts =
      if begins_call name ts
      then (arguments (tail ts) >>= λ all. Some (Call line name all.0, all.1))
      else (target (word_kind name) name line ts >>= λ x. target_tail k x.0 x.1)

  -- after the opening parenthesis of a cast
  unfoldable pub unary_at_cast : ℕ → Reader Tree
  unary_at_cast line ts =
      cast_type ts >>= λ to. down.expr UNARY to.1 >>= λ a. Some (Cast line to.0 a.0, a.1)

  -- after an opening parenthesis
  unfoldable pub unary_in_parentheses : ℕ → Reader Tree
  unary_in_parentheses line ts =
      if is_typed ts
      then unary_at_cast line ts
      else (down.expr ASSIGNMENT ts >>= λ inner. followed Mark.CloseParenthesis inner.0 inner.1)

  abbrev pub unary_at_step_by : ℕ → Step → TokenKind → ℕ → Reader Tree
  unary_at_step_by line step (TokenKind.Word name) word_line ts =
      target (word_kind name) name word_line ts >>= λ x. Some (Before line step x.0.0 x.0.1, x.1)
  unary_at_step_by line step k word_line ts = None

  -- the target after `++` or `--`
  unfoldable pub unary_at_step : ℕ → Step → Reader Tree
  unary_at_step line step [] = None
  unary_at_step line step (t ∷ ts) = unary_at_step_by line step t.kind t.line ts

  abbrev pub prefixed_by : Prefix → ℕ → Reader Tree
  prefixed_by (Prefix.Unary op) line ts =
      down.expr UNARY ts >>= λ a. Some (Unary line op a.0, a.1)
  prefixed_by (Prefix.Step step) line ts = unary_at_step line step ts
  prefixed_by Prefix.Other line ts = None

  -- after a mark that begins a unary expression
  unfoldable pub unary_at_mark : Mark → ℕ → Reader Tree
  unary_at_mark mark line ts =
      if same_mark mark Mark.OpenParenthesis then unary_in_parentheses line ts
      else prefixed_by (prefix_of mark) line ts

  abbrev pub unary_by : ℕ → TokenKind → ℕ → Reader Tree
  unary_by k (TokenKind.Number value suffix) line ts =
      Some (Known line (Constant.Number value suffix), ts)
  unary_by k (TokenKind.TextConstant bytes) line ts = Some (Known line (Constant.Text bytes), ts)
  unary_by k (TokenKind.Word name) line ts = post_at_name k name line ts
  unary_by k (TokenKind.Mark mark) line ts = unary_at_mark mark line ts
  unary_by k other line ts = None

  -- a unary expression or, if the level allows it, an assignment
  unfoldable pub unary : ℕ → Reader Tree
  unary k [] = None
  unary k (t ∷ ts) = unary_by k t.kind t.line ts

  abbrev pub binary_tail_by : Follow → ℕ → Tree → Reader Tree
  binary_tail_by (Follow.Infix op) k left ts =
      if nat_le k (level_of op)
      then (down.expr (suc (level_of op)) (tail ts) >>= λ right.
      down.binary_tail k (Binary op left right.0) right.1)
      else Some (left, ts)
  binary_tail_by follow k left ts = Some (left, ts)

  -- the left operand, joined by the operators of level k or above to what follows it
  unfoldable pub binary_tail_on : ℕ → Tree → Reader Tree
  binary_tail_on k left ts = binary_tail_by (follow_at ts) k left ts

  -- the two expressions after the question mark
  unfoldable pub alternatives : Reader (Tree × Tree)
  alternatives ts =
      down.expr ASSIGNMENT ts >>= λ x. followed Mark.Colon x.0 x.1 >>= λ first.
      down.expr CONDITION first.1 >>= λ second. Some ((first.0, second.0), second.1)

  abbrev pub cond_tail_by : Follow → Tree → Reader Tree
  cond_tail_by Follow.Question test ts =
      alternatives (tail ts) >>= λ x. Some (Choice test x.0.0 x.0.1, x.1)
  cond_tail_by follow test ts = Some (test, ts)

  -- a condition goes on with a question mark
  unfoldable pub cond_tail : ℕ → Tree → Reader Tree
  cond_tail k test ts =
      if nat_le k CONDITION then cond_tail_by (follow_at ts) test ts else Some (test, ts)

  -- a first operand, and what operators join to it
  unfoldable pub binary : ℕ → Reader Tree
  binary k ts = unary k ts >>= λ first. down.binary_tail (max k OR) first.0 first.1

  -- an expression of level k
  unfoldable pub expr_on : ℕ → Reader Tree
  expr_on k ts = binary k ts >>= λ joined. cond_tail k joined.0 joined.1

  -- the expressions after a comma
  unfoldable pub exprs_tail_on : Trees → Reader Trees
  exprs_tail_on all ts =
      if is_at Mark.Comma ts
      then (down.expr ASSIGNMENT (tail ts) >>= λ next. down.exprs_tail (add all next.0) next.1)
      else Some (all, ts)

-- with at most n levels below
abbrev pub readers : ℕ → Readers
readers zero = record {
  expr = λ k ts. None;
  binary_tail = λ k left ts. None;
  exprs_tail = λ all ts. None;
}
readers (suc n) = record {
  expr = expr_on (readers n);
  binary_tail = binary_tail_on (readers n);
  exprs_tail = exprs_tail_on (readers n);
}
