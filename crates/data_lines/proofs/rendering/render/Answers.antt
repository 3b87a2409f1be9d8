use Rattle.std.proofs.Common.{◌≡◌, ◌++◌, length, map, sym, subst, ap, ◌∙◌, rules}
use Rattle.std.specs.List.{enumerate_from, flat_map, sum_by}
use Rattle.d_types.specs.Typed.{aggs_of}
use Rattle.data_lines.specs.Lines.{first_line, last_line, text_line}
use Rattle.data_lines.specs.Runs.{run_from}
use Rattle.data_lines.specs.Steps.Runs.{AppendsListed}
use Rattle.data_lines.proofs.Listed.{data_of}
use Rattle.data_lines.proofs.rendering.render.Goals as goal

pub put_aggregations-requires : goal.put_aggregations-requires
put_aggregations-requires c = c.requires ∙ ap (λ all. map (λ a. a.function) (aggs_of all)) (sym c.aggs.ensures)

pub returns : goal.returns
returns c contributions stands =
    let run = run_from c.args.whole.now contributions in
    let before = c.put_texts.new.out.items in
    let between = c.put_aggregations.new.out.items in
    let after = c.put_last_line.new.out.items in
    let front : before ≡ first_line ++ flat_map text_line run.texts = search rules in
    let end : after ≡ between ++ last_line run.exit run.firings =
    c.in_ok-put_last_line.ensures ∙ ap (λ n. between ++ last_line run.exit n) (c.firings.ensures ∙ ap (sum_by (λ group. length group.items)) c.deref-2.ensures.value) in
    data_of (aggs_of c.args.script.now.aggregations.items) run before between after front
    (subst (λ all. AppendsListed (enumerate_from 0 (aggs_of all)) contributions before between) c.aggs.ensures (c.in_ok-put_aggregations.ensures contributions stands)) end
