use Rattle.std.proofs.Common.{◌≡◌, ◌∙◌, ◌<◌, ◌%◌, ℕ, List, All, map, length, option_map, ap, sym}
use Rattle.std.proofs.Common.{subst, arith}
use Rattle.std.specs.Ordering.{int_eq}
use Rattle.std.specs.List.{position_from, zip}
use Rattle.std.specs.Map.{lookup}
use Rattle.std.proofs.lemmas.List.FromFn.{length-map-range_with_len}
use Rattle.shard_queue.specs.Numbers.{below}
use Rattle.shard_queue.specs.Groupings.{with_own_group}
use Rattle.shard_queue.proofs.Lists.{fun_ext}
use Rattle.shard_queue.proofs.Indices.{dealt_lookup, dealt_below}
use Rattle.shard_queue.proofs.groups.Groups.deal.Goals as goal

pub with_numbers-requires-clause-numbers : goal.with_numbers-requires-clause-numbers
with_numbers-requires-clause-numbers c =
    let threads = c.in_ok-threads.threads in
    let n = c.args.groups in
    let numbers = c.in_ok-numbers.numbers in
    let is = c.in_ok-numbers.ensures in
    let size = ap length is ∙ length-map-range_with_len (λ i. i % n) 0 c.len.result in
    let same = c.len.ensures in
    ((let x = numbers.ok.0 in omega arith), subst (λ (l : List ℕ). All (λ g. g < n) l) (sym is) (dealt_below n (below c.len.result) c.requires.0))

pub returns-clause-dealt : goal.returns-clause-dealt
returns-clause-dealt c =
    let threads = c.in_ok-threads.threads in
    let n = c.args.groups in
    let numbers = c.in_ok-numbers.numbers.items in
    let size : c.len.result ≡ length threads.items = let same = c.len.ensures in let x = threads.ok.0 in omega arith in
    let is : numbers ≡ map (λ i. i % n) (below (length threads.items)) = c.in_ok-numbers.ensures ∙ ap (λ k. map (λ i. i % n) (below k)) size in (
      threads.items,
      record { ascending = c.in_ok-threads.ensures.ascending; same = c.in_ok-threads.ensures.same },
      c.in_ok-dealt.ensures.grouping
          ∙ ap (with_own_group n) (fun_ext (λ t. lookup (int_eq t) (zip threads.items numbers)) (λ t. option_map (λ i. i % n) (position_from (int_eq t) 0 threads.items))
          (λ t. ap (λ (ns : List ℕ). lookup (int_eq t) (zip threads.items ns)) is ∙ dealt_lookup n 0 threads.items t)),
    )
