use Rattle.std.proofs.Common.{rules, ◌++◌, ◌∷◌, [], arith, map, take, ap, sym, ◌∙◌}
use Rattle.std.specs.Prelude.{slice_index}
use Rattle.std.proofs.lemmas.List.{map-append, take_more, take_more_set}
use Rattle.firings.specs.Stored.{row_before}
use Rattle.firings.proofs.firing_rows.rows_before.Goals as goal

pub loop-at-preserved : goal.loop-at-preserved
loop-at-preserved c =
    let i = c.loop-at.at in
    let indices = c.args.indices.now in
    let index = slice_index indices i in
    let rows = c.args.rows.now in
    record {
      size = search rules;
      rows = take_more_set c.loop-at.found i c.one_before.result (omega arith) ∙ ap (λ l. l ++ c.one_before.result ∷ []) c.loop-at.invariant.rows
          ∙ ap (λ r. map (row_before rows) (take i indices) ++ r ∷ []) c.one_before.ensures
          ∙ sym (map-append (row_before rows) (take i indices) (index ∷ [])) ∙ ap (map (row_before rows)) (sym (take_more indices i 0 (omega arith)));
    }
