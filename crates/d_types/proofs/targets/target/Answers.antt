use Rattle.std.proofs.Common.{◌≡◌, ap, ◌∙◌}
use Rattle.d_types.specs.Words.{built_in}
use Rattle.d_types.specs.Steps.Variables.{rows_of_entries}
use Rattle.d_types.proofs.targets.target.Goals as goal

pub returns-in-Plain : goal.returns-in-Plain
returns-in-Plain c =
    let named : c.built_in.result ≡ built_in c.in-Plain.name = c.built_in.ensures ∙ ap built_in c.as_slice.ensures in
    rw (c.in-Plain.is, ← named) (c.plain_target.ensures (rows_of_entries c.args.table.now.items))
