-- Comparisons by the order of their operands.
-- Source: Dynamic Tracing Guide, "Relational Operators".
use Rattle.std.specs.Prelude.{Bool}
use Rattle.std.specs.Ordering.{is_lt, is_le, is_gt, is_ge, is_eq, is_ne}
use Rattle.d_values.specs.Vocabulary.{Ordering, ComparisonOperator}
use Rattle.d_values.specs.declared.operators.ComparisonOperator.TheVariants.{Less, LessEqual}
use Rattle.d_values.specs.declared.operators.ComparisonOperator.TheVariants.{Greater, GreaterEqual}
use Rattle.d_values.specs.declared.operators.ComparisonOperator.TheVariants.{Equal, NotEqual}

-- the comparison holds between two operands in this order
abbrev pub holds_of : ComparisonOperator → Ordering → Bool
holds_of Less order = is_lt order
holds_of LessEqual order = is_le order
holds_of Greater order = is_gt order
holds_of GreaterEqual order = is_ge order
holds_of Equal order = is_eq order
holds_of NotEqual order = is_ne order
