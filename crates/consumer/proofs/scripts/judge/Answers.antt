use Rattle.std.proofs.lemmas.Result.{err_from_is_err_and}
use Rattle.d_parser.specs.Tree as tree
use Rattle.consumer.proofs.Refusing.{types_refused, unread_refused}
use Rattle.consumer.proofs.scripts.judge.Goals as goal

pub returns-in_err-tree : goal.returns-in_err-tree
returns-in_err-tree c =
    let p = err_from_is_err_and c.from_residual.result c.from_residual.ensures.1 in
    rw (p.1, p.2) (unread_refused c.args.script.now c.in_err-tree.field-0.0 c.in_err-tree.ensures.read)

pub returns-in_err-typed : goal.returns-in_err-typed
returns-in_err-typed c =
    let p = err_from_is_err_and c.from_residual-in_err-typed.result c.from_residual-in_err-typed.ensures.1 in
    rw (p.1, p.2)
    (types_refused c.args.script.now (tree.script_of c.in_ok-tree.tree) c.in_ok-tree.ensures.read c.in_err-typed.field-0.0 c.in_err-typed.ensures)

pub returns : goal.returns
returns c = record {
  items = tree.script_of c.in_ok-tree.tree;
  tree = c.in_ok-tree.ensures.read;
  means = c.in_ok-typed.ensures;
}
