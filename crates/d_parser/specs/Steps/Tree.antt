-- Targets as trees, and one tree more at the end of a list.
use Rattle.d_parser.specs.Vocabulary.{Variable, Target}
use Rattle.d_parser.specs.Tree.{Tree, Trees, more, end, trees_of}

abbrev pub target_of : Target → Variable × Trees
target_of t = (t.variable, trees_of t.keys.items)

-- with one more at the end
abbrev pub add : Trees → Tree → Trees
add end a = more a end
add (more b rest) a = more b (add rest a)
