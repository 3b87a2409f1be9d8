use Rattle.std.specs.List.{list_any}
use Rattle.std.proofs.Common.{ap, ◌∙◌}
use Rattle.d_types.specs.Typed.{is_exit}
use Rattle.dif_codegen.specs.Programs.{action_code}
use Rattle.dif_codegen.proofs.Exiting.{program_exits, written_exits}
use Rattle.dif_codegen.proofs.program.Program.exits.Goals as goal

pub returns-clause-actions : goal.returns-clause-actions
returns-clause-actions c =
    c.any_exits.ensures
    ∙ ap (λ l. list_any (λ c. list_any (λ a. is_exit (action_code a)) c.actions.items) l) c.clauses.ensures
    ∙ written_exits c.args.self.now.clauses.items

pub returns-clause-script : goal.returns-clause-script
returns-clause-script c = λ m is.
    let p = c.args.self.now in
    c.any_exits.ensures
    ∙ ap (λ l. list_any (λ c. list_any (λ a. is_exit (action_code a)) c.actions.items) l) c.clauses.ensures
    ∙ written_exits p.clauses.items
    ∙ program_exits m p.clauses.items p.functions.items is
