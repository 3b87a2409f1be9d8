-- The line of a construct, which is that of its first token.
use Rattle.std.specs.Prelude.{ℕ}
use Rattle.d_parser.specs.declared.tree.Variable.{Variable}
use Rattle.d_types.specs.Vocabulary.{Tree}

-- the line of a variable's first token
abbrev pub line_of_variable : Variable → ℕ
line_of_variable (Variable.Plain line name) = line
line_of_variable (Variable.Thread line name) = line
line_of_variable (Variable.Clause line name) = line

-- the line of the first token
abbrev pub line_of : Tree → ℕ
line_of (Tree.Known line c) = line
line_of (Tree.Read v keys) = line_of_variable v
line_of (Tree.Call line f args) = line
line_of (Tree.Unary line op a) = line
line_of (Tree.Cast line t a) = line
line_of (Tree.Before line by v keys) = line
line_of (Tree.After v keys by) = line_of_variable v
line_of (Tree.Binary op a b) = line_of a
line_of (Tree.Choice c a b) = line_of c
line_of (Tree.Assign op v keys a) = line_of_variable v
