-- The variables of expressions, by their storage. Those that were never
-- assigned have zero or the empty text.
-- Source: Dynamic Tracing Guide, "Variables".
use Rattle.std.specs.Prelude.{List}
use Rattle.d_types.specs.Vocabulary.{KeyPart, Var, Value, Space, Variable}
use Rattle.d_types.specs.Variables.{kind_of_type}
use Rattle.d_values.specs.Stores.{with_local, with_own}
pub use Rattle.d_values.specs.Storage.{Variables, variables, word_of, bytes_of, as_kind}

abbrev pub var_of : Variable → Var
var_of x = record { slot = x.slot; kind = kind_of_type x.holds }

abbrev pub value_in_space : Space → Variables → Var → List KeyPart → Value
value_in_space Space.Thread vars var key = vars.own var key
value_in_space Space.Clause vars var key = vars.locals var

-- the value of a variable at the key, which is empty for a scalar
abbrev pub value_of_variable : Variables → Variable → List KeyPart → Value
value_of_variable vars x key = value_in_space x.space vars (var_of x) key

abbrev pub set_in : Space → Variables → Var → List KeyPart → Value → Variables
set_in Space.Thread vars var key value = record vars { own = with_own vars.own var key value }
set_in Space.Clause vars var key value = record vars { locals = with_local vars.locals var value }

-- the variables once one was given a value of its kind at the key
abbrev pub set : Variables → Variable → List KeyPart → Value → Variables
set vars x key value = set_in x.space vars (var_of x) key (as_kind (kind_of_type x.holds) value)
