use Rattle.std.proofs.Common.{◌≡◌, rules, subst}
use Rattle.std.specs.List.{flat_map}
use Rattle.aggregations.specs.Table.{functions_of}
use Rattle.report.specs.Steps.Output.{AppendsTables}
use Rattle.report.proofs.Outputs.{output_after}
use Rattle.report.proofs.rendering.render.Goals as goal

pub returns : goal.returns
returns g c contributions stands =
    let texts = c.args.whole.now.events.items in
    let functions = functions_of c.args.whole.now.table in
    let bytes = c.put_tables.new.out.items in
    let first : c.put_texts.new.out.items ≡ flat_map (λ text. text.1) texts = search rules in
    output_after contributions functions texts bytes
    (subst (λ l. AppendsTables functions contributions l bytes) first (c.in_ok-put_tables.ensures contributions stands))
