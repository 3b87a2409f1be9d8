use Rattle.std.proofs.Common.{◌≡◌, ◌-◌, map, []}
use Rattle.d_parser.specs.Tree.{item_of}
use Rattle.d_parser.specs.Steps.ReadingScripts.{items_reader}
use Rattle.d_parser.proofs.script.items.Given as goal

-- what is left to read
abbrev pub invariant-loop : goal.invariant-loop
invariant-loop l = items_reader l.fuel (l.fuel - l.counter) (map item_of l.all.items) l.rest ≡ items_reader l.fuel l.fuel [] l.tokens
