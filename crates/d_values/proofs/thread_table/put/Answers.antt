use Rattle.std.specs.Prelude.{◌≡◌, Some, option_map}
use Rattle.std.proofs.Common.{sym, ap, ◌∙◌}
use Rattle.std.proofs.lemmas.Map.Made.{lookup_key_same}
use Rattle.std.proofs.lemmas.Option.{same_Some, slice_get-map}
use Rattle.std.proofs.lemmas.Result.{on_err_weaker, on_ok_weaker}
use Rattle.indexmap.specs.IndexMap.{with_value_at}
use Rattle.indexmap.proofs.CallerLemmas.{updates-with_value_at}
use Rattle.d_values.specs.Stores.{value_to_keep}
use Rattle.d_values.specs.Tables.{elements_of}
use Rattle.d_values.specs.Variables.{same_var_decides, same_var_equiv}
use Rattle.d_values.proofs.Storing.{holds_by, pairs_of-set_value_at, sets_by}
use Rattle.d_values.proofs.thread_table.put.Goals as goal

pub returns-in-Some-get_index_mut : goal.returns-in-Some-get_index_mut
returns-in-Some-get_index_mut c =
    let old = c.args.variables.now in
    let i = c.in-Some.index in
    let var = c.args.var in
    let keeps = value_to_keep c.args.value in
    let held = c.in-Some.field-0-2.now in
    let is_var = lookup_key_same same_var_decides var old.entries c.in-Some.field-0-1.now (sym c.in-Some.ensures.key) in
    let entry = c.in-Some.ensures.entry ∙ ap (λ k. Some (k, held)) (sym is_var) in
    let was = c.in-Some-get_index_mut.held.now in
    let is = c.set.new.self in
    let same : was ≡ held = same_Some was held (c.in-Some-get_index_mut.ensures.value ∙ slice_get-map (λ p. p.1) old.entries i ∙ ap (option_map (λ p. p.1)) entry) in
    let puts = updates-with_value_at old i is same_var_equiv c.get_index_mut.ensures.unique var held entry in
    record {
      ok = on_ok_weaker c.set.result (λ holds. sets_by old.entries (with_value_at old i is).entries var c.args.key.now keeps is puts.0 (holds_by old.entries var c.args.key.now keeps held was is (sym c.in-Some.ensures.value) same holds)) c.set.ensures.ok;
      err = on_err_weaker c.set.result (λ stays. pairs_of-set_value_at old.entries i var held is entry (stays ∙ ap elements_of same)) c.set.ensures.err;
    }
