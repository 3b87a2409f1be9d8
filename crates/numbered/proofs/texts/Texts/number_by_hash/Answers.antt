use Rattle.std.proofs.Common.{arith, rules}
use Rattle.std.proofs.lemmas.Grind.{common_steps}
use Rattle.numbered.proofs.Numbered.{distinct_numbers}
use Rattle.numbered.proofs.texts.Texts.number_by_hash.Goals as goal

pub invariant_of-self-2 : goal.invariant_of-self-2
invariant_of-self-2 c = distinct_numbers _ c.insert_full.ensures.unique

pub returns : goal.returns
returns c = record {
  number = search rules;
  kept = record {
    long = first_of (search rules, grind (arith, common_steps));
    same = first_of (search rules, grind (arith, common_steps));
    distinct = λ before. distinct_numbers _ c.insert_full.ensures.unique;
  };
  distinct = distinct_numbers _ c.insert_full.ensures.unique;
  err = tt;
}
