use Rattle.std.proofs.Common.{ap, ◌∙◌}
use Rattle.d_parser.specs.Tree.{tree_of}
use Rattle.d_types.proofs.Trees.{call_is}
use Rattle.d_types.proofs.action.action.Goals as goal

pub call_statement-requires : goal.call_statement-requires
call_statement-requires c =
    rw (c.as_slice.ensures, c.deref.ensures.value) (ap tree_of c.in-Call.is ∙ call_is c.in-Call.line c.in-Call.function c.in-Call.arguments)

pub returns-in-Call : goal.returns-in-Call
returns-in-Call c =
    rw (ap tree_of c.in-Call.is ∙ call_is c.in-Call.line c.in-Call.function c.in-Call.arguments, ← c.as_slice.ensures, ← c.deref.ensures.value) c.call_statement.ensures
