-- How many registers an expression needs.
-- Source: docs/GRAMMAR.md, "Registers".
use Rattle.std.specs.Prelude.{ℕ, ◌+◌, max}
use Rattle.d_types.specs.Vocabulary.{LogicOperator}
use Rattle.d_types.specs.Typed.{Typed, Constant, Text, Fixed, Read, Unary, Operate, Compare}
use Rattle.d_types.specs.Typed.{CompareText, Logic, Choice, Convert, Assign, Update, Count, Strlen}
use Rattle.d_types.specs.Typed.{Strjoin, Typeds, end, more}

-- how many expressions there are
abbrev pub count : Typeds → ℕ
count end = 0
count (more x rest) = 1 + count rest

-- the first value waits while the second is made
abbrev pub need_of_two : ℕ → ℕ → ℕ
need_of_two a b = max a (1 + b)

-- && and || go on with nothing kept
abbrev pub need_of_logic : LogicOperator → ℕ → ℕ → ℕ
need_of_logic LogicOperator.Xor a b = need_of_two a b
need_of_logic op a b = max a b

abbrev mutual
  -- how many registers the expression needs
  pub need : Typed → ℕ
  need (Constant t v) = 1
  need (Text w) = 1
  need (Fixed b) = 1
  need (Read v keys) = max (need_of_keys 0 keys) 1
  need (Unary o t a) = need a
  need (Operate o a b) = need_of_two (need a) (need b)
  need (Compare o t a b) = need_of_two (need a) (need b)
  need (CompareText o a b) = need_of_two (need a) (need b)
  need (Logic o a b) = need_of_logic o (need a) (need b)
  need (Choice t c a b) = max (need c) (max (need a) (need b))
  need (Convert t u a) = need a
  need (Assign v keys a) = max (need_of_keys 0 keys) (count keys + need a)
  need (Update o v keys a) = max (need_of_keys 0 keys) (count keys + 1 + need a)
  need (Count step answer v keys) = max (need_of_keys 0 keys) (count keys + 1)
  need (Strlen a) = need a
  need (Strjoin a b) = need_of_two (need a) (need b)

  -- the keys, while n values wait
  pub need_of_keys : ℕ → Typeds → ℕ
  need_of_keys n end = 0
  need_of_keys n (more x rest) = max (n + need x) (need_of_keys (n + 1) rest)
