use Rattle.std.specs.List.{list_any}
use Rattle.std.proofs.Common.{ap, ◌∙◌}
use Rattle.d_types.specs.Typed.{action_of, is_exit}
use Rattle.d_types.proofs.Exiting.{exits_alike}
use Rattle.d_types.proofs.typed_script.TypedScript.exits.Goals as goal

pub returns : goal.returns
returns c =
    let s = c.args.self.now in
    c.any_exits.ensures
    ∙ ap (λ l. list_any (λ c. list_any (λ a. is_exit (action_of a)) c.statements.items) l) c.clauses.ensures
    ∙ exits_alike s.clauses.items s.aggregations.items s.slots.items
