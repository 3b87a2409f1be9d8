use Rattle.std.proofs.Common.{ap, ◌∙◌, rules, map}
use Rattle.d_types.specs.Typed.{typeds_of}
use Rattle.dif_codegen.proofs.Listed.{returns_are}
use Rattle.dif_codegen.proofs.clauses.compile_printf.Goals as goal

pub returns : goal.returns
returns c =
    let types = ap (map (λ x. x.returns)) c.in_ok-arguments.ensures ∙ returns_are (typeds_of c.args.arguments.now) in
    search (rules, types)
