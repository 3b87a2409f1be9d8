use Rattle.std.proofs.Common.{◌≡◌, ◌∙◌, ◌<◌, All, IsSomeAnd, List, length, ap, sym, subst, arith}
use Rattle.firings.specs.declared.firing.Firing.{Firing}
use Rattle.shard_queue.specs.Threads.{run_threads}
use Rattle.shard_queue.specs.Groupings.{Grouping, is_group}
use Rattle.shard_queue.specs.Groups.{grouping, indices_from}
use Rattle.shard_queue.proofs.Indices.{all_grouped}
use Rattle.shard_queue.proofs.groups.Groups.with_numbers.Goals as goal

pub returns-clause-of : goal.returns-clause-of
returns-clause-of c =
    let trace = c.args.trace.now in
    let made = c.fill.new.self in
    let filled = c.in_ok-fill.ensures in
    let same : length c.args.numbers.items ≡ length c.args.threads.items = let a = c.requires.numbers.0 in let n = c.args.numbers.ok.0 in let m = c.args.threads.ok.0 in omega arith in record {
      each = subst (λ (s : Grouping). All (λ t. IsSomeAnd (s.group t) (λ g. g < s.count)) (run_threads trace)) (sym filled.grouping)
          (all_grouped trace c.args.threads.items c.args.numbers.items c.args.own (λ t. (c.requires.threads.same t).1) same c.requires.numbers.1);
      indices = λ g. filled.indices g ∙ ap (λ (s : Grouping). indices_from (λ t. is_group g (s.group t)) 0 (run_threads c.firings.result.now)) (sym filled.grouping)
          ∙ ap (λ (fs : List Firing). indices_from (λ t. is_group g ((grouping made).group t)) 0 (run_threads fs)) c.firings.ensures.value;
    }
