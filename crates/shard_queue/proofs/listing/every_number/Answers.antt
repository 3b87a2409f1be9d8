use Rattle.std.proofs.Common.{◌≡◌, ◌∙◌, ◌∷◌, ◌++◌, [], Some, None, ap, sym, arith, rules, map}
use Rattle.std.proofs.Common.{get_or, inr}
use Rattle.std.specs.Prelude.{pos}
use Rattle.std.proofs.lemmas.Int.{to_z-of_z}
use Rattle.std.proofs.lemmas.List.{map-append, get_or_default}
use mir.Val.{SFits}
use mir.Syntax.{w32}
use Rattle.shard_queue.proofs.Lists.{take_next}
use Rattle.shard_queue.proofs.Wrongs.{unfound_next, unfound_here}
use Rattle.shard_queue.proofs.listing.every_number.Goals as goal

pub loop-index-preserved : goal.loop-index-preserved
loop-index-preserved c =
    let i = c.loop-index.invariant in
    let found = c.args.found.now in
    let k = c.loop-index.index in
    let n = c.in-Some.number in
    let p = c.push_reserved.ensures in
    let lt = c.loop-index-test.true in
    let item : get_or found k (Some n) ≡ Some n = get_or_default found k (Some n) None lt ∙ c.in-Some.is in record {
      items = ap (map Some) p.items ∙ map-append Some c.loop-index.numbers.items (n ∷ []) ∙ ap (λ l. l ++ Some n ∷ []) i.items ∙ sym (take_next found k (Some n) lt item);
      len = let a = p.len in let b = i.len in omega arith;
      room = let a = p.capacity in let b = i.room in omega arith;
      rest = i.rest ∙ unfound_next c.args.threads.now found k n (let same = c.requires in omega arith) lt item;
    }

pub returns-in_default-clause-missing : goal.returns-in_default-clause-missing
returns-in_default-clause-missing c =
    let threads = c.args.threads.now in
    let k = c.loop-index.index in
    let lt = c.loop-index-test.true in
    let fits : SFits w32 (get_or threads k (pos 0)) = search rules in
    simp to_z-of_z (inr (c.loop-index.invariant.rest ∙ unfound_here threads c.args.found.now k (let same = c.requires in omega arith) lt c.in_default.is))
