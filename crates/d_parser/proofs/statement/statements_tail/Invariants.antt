use Rattle.std.proofs.Common.{◌≡◌, ◌-◌}
use Rattle.d_parser.specs.Tree.{stmts_of}
use Rattle.d_parser.specs.Steps.ReadingScripts.{stmts_tail}
use Rattle.d_parser.proofs.statement.statements_tail.Given as goal

-- what is left to read
abbrev pub invariant-loop : goal.invariant-loop
invariant-loop l = stmts_tail l.fuel (l.fuel - l.counter) (stmts_of l.all.items) l.rest ≡ stmts_tail l.fuel l.fuel (stmts_of l.fn.all.items) l.tokens
