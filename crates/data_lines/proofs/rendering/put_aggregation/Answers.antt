use Rattle.std.proofs.Common.{◌≡◌, ◌++◌, ◌∷◌, [], map, ap, sym, ◌∙◌, append-nil, refl}
use Rattle.std.specs.List.{flat_map}
use Rattle.std.specs.Map.Iter.{deref_pair}
use Rattle.std.proofs.lemmas.List.Elements.{All-nil, All-cons}
use Rattle.std.proofs.lemmas.List.Folds.{flat_map-map}
use Rattle.std.proofs.lemmas.Result.{on_ok_weaker}
use Rattle.d_types.specs.Typed.{agg_of}
use Rattle.data_lines.specs.Lines.{entry_head, entry_line}
use Rattle.data_lines.specs.Runs.{HasItsEntries, Listed}
use Rattle.data_lines.proofs.rendering.put_aggregation.Goals as goal

pub returns : goal.returns
returns c contributions stands =
    let old = c.args.out.now.items in
    let index = c.args.index in
    let aggregation = agg_of c.args.aggregation.now in
    let head = entry_head index aggregation.name aggregation.function in
    let entries = c.in_ok-entries.entries.items in
    let one : Listed = record { index = index; aggregation = aggregation; entries = map deref_pair entries } in
    let lent : c.deref.result.now ≡ head = c.deref.ensures.value ∙ c.in_ok-head.ensures ∙ ap (λ name. entry_head index name aggregation.function) c.as_slice.ensures in
    on_ok_weaker c.put_entries.result (λ put. record {
      listed = one ∷ [];
      are = record {
        each = refl;
        entries = All-cons (HasItsEntries contributions) one [] (c.in_ok-entries.ensures contributions aggregation.function stands c.requires) (All-nil (HasItsEntries contributions));
      };
      joined = put ∙ ap (λ h. old ++ flat_map (λ e. entry_line h (deref_pair e)) c.deref-2.result.now) lent
          ∙ ap (λ es. old ++ flat_map (λ e. entry_line head (deref_pair e)) es) c.deref-2.ensures.value
          ∙ ap (λ l. old ++ l) (sym (flat_map-map (entry_line head) deref_pair entries) ∙ sym (append-nil (flat_map (entry_line head) (map deref_pair entries))));
    }) c.put_entries.ensures
