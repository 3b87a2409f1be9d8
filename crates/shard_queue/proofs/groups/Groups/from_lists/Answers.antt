use Rattle.std.proofs.Common.{◌≡◌, ℕ, ◌∙◌, ◌≤◌, [], Some, None, List, map, length, ap, refl, subst}
use Rattle.std.proofs.Common.{arith, inl, inr, ⊎_elim}
use Rattle.std.specs.Prelude.{ℤ}
use Rattle.std.specs.Ordering.{int_eq}
use Rattle.std.specs.List.{zip}
use Rattle.std.specs.Map.{lookup}
use Rattle.std.proofs.lemmas.List.{length-map}
use Rattle.std.proofs.lemmas.Result.{err_from_is_err_and}
use Rattle.shard_queue.specs.Groupings.{list_of}
use Rattle.shard_queue.specs.Faults.{all_of, first_wrong, thread_fault}
use Rattle.shard_queue.specs.Steps.Faults.{first_missing}
use Rattle.shard_queue.proofs.Listed.{numbers_below}
use Rattle.shard_queue.proofs.Wrongs.{thread_fault-right, listed_lookup, listed_is}
use Rattle.shard_queue.proofs.groups.Groups.from_lists.Goals as goal

pub returns-then-lists-clause-fault : goal.returns-then-lists-clause-fault
returns-then-lists-clause-fault c =
    inr (inl (let n = length-map c.args.lists.now (λ v. v.items) in let many = c.if-lists.true in omega arith, refl))

pub returns-in_err-numbers-clause-fault : goal.returns-in_err-numbers-clause-fault
returns-in_err-numbers-clause-fault c =
    let lists = map (λ v. v.items) c.args.lists.now in
    let few : length lists ≤ 4096 = let n = length-map c.args.lists.now (λ v. v.items) in let m = c.if-lists.false in omega arith in
    let p = err_from_is_err_and c.from_residual-in_err-numbers.result c.from_residual-in_err-numbers.ensures.1 in
    rw (p.1, p.2) (⊎_elim (λ memory. inl memory)
    (λ fault. inr (inr (
      few,
      (
        c.in_ok-threads.threads.items,
        record { ascending = c.in_ok-threads.ensures.ascending; same = c.in_ok-threads.ensures.same },
        subst (λ (ts : List ℤ). thread_fault ts lists ≡ Some c.in_err-numbers.field-0.0) c.deref.ensures.value fault,
      ),
    )))
    c.in_err-numbers.ensures.fault)

-- each of the trace's threads has the number of its list
numbers_are : (threads found : List ℤ) (lists : List (List ℤ)) (numbers : List ℕ) → found ≡ threads → map Some numbers ≡ map (list_of lists) found → map Some numbers ≡ map (list_of lists) threads
numbers_are threads found lists numbers same are = are ∙ ap (map (list_of lists)) same

pub with_numbers-requires-clause-numbers : goal.with_numbers-requires-clause-numbers
with_numbers-requires-clause-numbers c =
    let threads = c.in_ok-threads.threads in
    let numbers = c.in_ok-numbers.numbers in
    let lists = map (λ v. v.items) c.args.lists.now in
    let are = numbers_are threads.items c.deref.result.now lists numbers.items c.deref.ensures.value c.in_ok-numbers.ensures.numbers in
    let len = ap length are in
    let a = length-map numbers.items Some in
    let b = length-map threads.items (list_of lists) in
    let n = length-map c.args.lists.now (λ v. v.items) in
    let most = c.max-own.ensures in
    ((let x = numbers.ok.0 in let y = threads.ok.0 in omega arith), numbers_below lists threads.items numbers.items c.max-own.result are (omega arith))

pub returns-clause-listed : goal.returns-clause-listed
returns-clause-listed c =
    let threads = c.in_ok-threads.threads.items in
    let numbers = c.in_ok-numbers.numbers.items in
    let lists = map (λ v. v.items) c.args.lists.now in
    let n = length-map c.args.lists.now (λ v. v.items) in
    let same = c.deref.ensures.value in
    let are = numbers_are threads c.deref.result.now lists numbers same c.in_ok-numbers.ensures.numbers in
    let right = subst (λ (ts : List ℤ). first_wrong ts [] (all_of lists) ≡ None) same c.in_ok-numbers.ensures.right in
    let whole = subst (λ (ts : List ℤ). first_missing ts (all_of lists) ≡ None) same c.in_ok-numbers.ensures.whole in record {
      few = let few = c.if-lists.false in omega arith;
      threads = threads;
      fired = record { ascending = c.in_ok-threads.ensures.ascending; same = c.in_ok-threads.ensures.same };
      faultless = thread_fault-right threads lists None right whole;
      is = c.in_ok-listed.ensures.grouping
          ∙ listed_is lists c.max-own.result (λ t. lookup (int_eq t) (zip threads numbers)) (let most = c.max-own.ensures in omega arith) (λ t. listed_lookup threads lists numbers t right are);
    }
