use Rattle.std.proofs.Common.{◌≡◌, [], map, rules, arith, ap, ◌∙◌, subst, sym}
use Rattle.aggregations.specs.Table.{functions_of, count_held, StandsFor}
use Rattle.aggregations.proofs.TableLemmas.{none_held, stands-without_entries, without_entries}
use Rattle.aggregations.proofs.table.AggTable.with_hash_key.Goals as goal

pub invariant_of-result : goal.invariant_of-result
invariant_of-result c =
    let all : c.in_ok-aggregations.aggregations.items ≡ map without_entries c.args.functions.items = search rules in
    let none = ap count_held all ∙ (none_held c.args.functions.items).1 in
    (omega arith, search rules)

pub returns : goal.returns
returns c =
    let all : c.in_ok-aggregations.aggregations.items ≡ map without_entries c.args.functions.items = search rules in
    let none = none_held c.args.functions.items in
    record {
      functions = ap functions_of all ∙ none.0;
      stands = subst (λ t. StandsFor t []) (sym all) (stands-without_entries c.args.functions.items);
      held = ap count_held all ∙ none.1;
    }
