-- The tree at the front of a list, and what is left, read from left to right.
use Rattle.std.specs.Prelude.{◌≡◌, Option, Some, None, Result, Ok, Err}
use Rattle.d_parser.specs.Vocabulary.{ParseFault}

-- What a function returned, seen by view, is what reading gives, unless memory ran out.
abbrev pub Fails : {Y : Type 0} → ParseFault → Option Y → Type 0
Fails ParseFault.Memory read = Unit {0}
Fails (ParseFault.Syntax line) read = read ≡ None
Fails ParseFault.TooDeep read = ⊥
Fails ParseFault.TooManyClauses read = ⊥

abbrev pub Gives : {X Y : Type 0} → (X → Y) → Result X ParseFault → Option Y → Type 0
Gives view (Ok x) read = read ≡ Some (view x)
Gives view (Err e) read = Fails e read
