use Rattle.std.specs.Prelude.{FitsSigned, get_or, length, pos}
use Rattle.std.specs.Int.{w64}
use Rattle.std.proofs.Common.{ap, arith, inl, inr, rules, subst, sym}
use Rattle.std.proofs.lemmas.Bool.{cases_lt}
use Rattle.std.proofs.lemmas.List.{get_or_past}
use Rattle.d_types.specs.declared.typed.BuiltIn.TheVariants as bi
use Rattle.d_types.proofs.FiringValues.{int_is, long_is, time_is}
use Rattle.d_types.proofs.meaning.built_ins_are_of_their_types.Goals as goal
use borrow.Author.Count.{below_more}

pub loop-number-preserved : goal.loop-number-preserved
loop-number-preserved c =
    let fits : FitsSigned w64 c.nth.result = search rules in
    below_more (λ i. FitsSigned w64 (get_or c.args.firing.now.args i (pos 0))) c.loop-number.number c.loop-number.invariant (subst (FitsSigned w64) c.nth.ensures fits)

pub returns : goal.returns
returns c (bi.Argument n) = elim (cases_lt n 10) [
  | inl inside ↦ long_is (get_or c.args.firing.now.args n (pos 0)) (c.loop-number.invariant n (omega arith))
  | inr past ↦ let ten = ap length c.stored.ensures.ten in
      long_is (get_or c.args.firing.now.args n (pos 0)) (subst (FitsSigned w64) (sym (get_or_past c.args.firing.now.args n (pos 0) (omega (arith, ten)))) (omega arith))
]
returns c bi.Timestamp = time_is c.args.firing.now.time (omega arith)
returns c bi.Cpu = int_is c.args.firing.now.cpu (omega arith)
returns c bi.Pid = int_is c.args.firing.now.pid (omega arith)
returns c bi.Tid = int_is c.args.firing.now.thread (omega arith)
returns c bi.Execname = omega (arith, c.count.ensures.value)
returns c bi.Probeprov = omega (arith, c.count-2.ensures.value)
returns c bi.Probemod = omega (arith, c.count-3.ensures.value)
returns c bi.Probefunc = omega (arith, c.count-4.ensures.value)
returns c bi.Probename = omega (arith, c.count-5.ensures.value)
