-- How large a typed script is.
use Rattle.std.specs.Prelude.{ℕ, suc, ◌+◌, ◌*◌, ◌≤◌, length, Option, Some, None}
use Rattle.d_parser.specs.Sizes.{in_all}
use Rattle.d_types.specs.Typed.{Typed, Constant, Text, Fixed, Read, Unary, Operate, Compare}
use Rattle.d_types.specs.Typed.{CompareText, Logic, Choice, Convert, Assign, Update, Count, Strlen}
use Rattle.d_types.specs.Typed.{Strjoin, Typeds, end, more}
use Rattle.d_types.specs.Typed.{Action, Evaluate, Trace, Print, Exit, Aggregate, ClauseMeant}
use Rattle.d_types.specs.Typed.{ScriptMeant}

-- the places of variables in an expression
abbrev mutual
  pub place_count : Typed → ℕ
  place_count (Constant t word) = 0
  place_count (Text bytes) = 0
  place_count (Fixed b) = 0
  place_count (Read x keys) = suc (place_count_in keys)
  place_count (Unary o t a) = place_count a
  place_count (Operate o a b) = place_count a + place_count b
  place_count (Compare o t a b) = place_count a + place_count b
  place_count (CompareText o a b) = place_count a + place_count b
  place_count (Logic o a b) = place_count a + place_count b
  place_count (Choice t c a b) = place_count c + place_count a + place_count b
  place_count (Convert t u a) = place_count a
  place_count (Assign x keys a) = suc (place_count_in keys) + place_count a
  place_count (Update o x keys a) = suc (place_count_in keys) + place_count a
  place_count (Count step answer x keys) = suc (place_count_in keys)
  place_count (Strlen a) = place_count a
  place_count (Strjoin a b) = place_count a + place_count b

  pub place_count_in : Typeds → ℕ
  place_count_in end = 0
  place_count_in (more a rest) = place_count a + place_count_in rest

abbrev pub in_option : Option Typed → ℕ
in_option None = 0
in_option (Some x) = place_count x

abbrev pub in_action : Action → ℕ
in_action (Evaluate x) = place_count x
in_action (Trace t x) = place_count x
in_action (Print format types args) = place_count_in args
in_action (Exit x) = place_count x
in_action (Aggregate index keys argument) = place_count_in keys + in_option argument

abbrev pub description_count : ClauseMeant → ℕ
description_count c = length c.descriptions

abbrev pub statement_count : ClauseMeant → ℕ
statement_count c = length c.statements

abbrev pub variable_count : ClauseMeant → ℕ
variable_count c = in_option c.predicate + in_all in_action c.statements

-- each is at most n in all clauses together
pub record HasAtMost (n : ℕ) (m : ScriptMeant) : Type 0 where
  pub few_descriptions : in_all description_count m.clauses ≤ n
  pub few_statements : in_all statement_count m.clauses ≤ n
  pub few_variables : in_all variable_count m.clauses ≤ n

-- how many of a clause's statements run if each of its descriptions matches a firing
abbrev pub most_runs : ClauseMeant → ℕ
most_runs c = description_count c * statement_count c
