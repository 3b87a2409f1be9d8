use Rattle.std.specs.Prelude.{Err}
use Rattle.std.proofs.Common.{subst, sym}
use Rattle.std.proofs.lemmas.Result.{err_from_is_err_and}
use Rattle.d_lexer.specs.Lexing.{IsLexed}
use Rattle.consumer.proofs.Trees.{read_or_not}
use Rattle.consumer.proofs.scripts.read_script.Goals as goal

pub returns-in_err-tree-clause-read : goal.returns-in_err-tree-clause-read
returns-in_err-tree-clause-read c =
    let p = err_from_is_err_and c.from_residual-in_err-tree.result c.from_residual-in_err-tree.ensures.1 in
    let e = c.in_err-tree.ensures in
    let lexed = subst (IsLexed c.args.script.now) (sym c.deref.ensures.value) c.in_ok-tokens.ensures.ok in
    rw (p.1, p.2)
    (read_or_not c.args.script.now c.deref.result.now (Err c.in_err-tree.field-0.0) lexed e.deep e.many e.passed e.found e.only)
