use Rattle.std.proofs.Common.{◌≡◌, Some, cond, sym, subst, ap, ◌∙◌, rules, arith}
use Rattle.std.specs.Map.{lookup}
use Rattle.d_values.specs.Keys.{same_key}
use Rattle.d_values.specs.KeyLaws.{same_key_equiv}
use Rattle.aggregations.specs.Table.{entry_at}
use Rattle.aggregations.specs.Steps.Entries.{Joins}
use Rattle.aggregations.proofs.TableLemmas.{count_pushed}
use Rattle.aggregations.proofs.MergeLemmas.{joins_first}
use Rattle.aggregations.proofs.entries.Entries.take.Goals as goal

pub returns : goal.returns
returns c =
    let key = c.args.key in
    let more = c.args.more in
    let now = c.args.self.now in
    let map = c.self.inside.map in
    let absent = c.in_default.ensures in
    let is = c.self.view_is in
    let up = c.in_ok-insert.ensures.updates.0 in
    let there : lookup (same_key key) c.insert.new.self.entries ≡ Some more = up key ∙ ap (λ b. cond b (Some more) (lookup (same_key key) map.entries)) (same_key_equiv.refl key) in
    let joins = subst (λ o. Joins now.function o (Some more) (Some more)) (sym absent) (joins_first now.function more) in
    let sums = count_pushed map c.self.inside.function now key more c.insert.new.self.entries is c.in_ok-insert.ensures.entries absent in
    record {
      function = search rules;
      ok = record {
        here = subst (λ o. Joins now.function (entry_at key now) (Some more) o) (sym there) joins;
        others = λ q e. up q ∙ ap (λ b. cond b (Some more) (lookup (same_key q) map.entries)) e ∙ ap (entry_at q) is;
      };
      count = omega arith;
    }
