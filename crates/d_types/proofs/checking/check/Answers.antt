use Rattle.d_parser.specs.Tree.{script_of}
use Rattle.d_types.proofs.Checked.{check_is_answer}
use Rattle.d_types.proofs.checking.check.Goals as goal

pub returns : goal.returns
returns c = check_is_answer (script_of c.args.script) c.typed_script.result c.typed_script.ensures
