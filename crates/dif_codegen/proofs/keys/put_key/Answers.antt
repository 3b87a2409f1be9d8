use Rattle.std.proofs.Common.{sym, ap, subst, arith, ◌≤◌, ◌+◌, drop}
use Rattle.d_types.specs.Needs.{count}
use Rattle.d_types.specs.Typed.{typeds_of}
use Rattle.d_types.proofs.Tables.{front}
use Rattle.dif_codegen.specs.Steps.Code.{pushing}
use Rattle.dif_codegen.specs.Steps.Drafts.{Adds}
use Rattle.dif_codegen.proofs.Adding.{pushed_all, both_adds}
use Rattle.dif_codegen.proofs.keys.put_key.Goals as goal

pub loop-key-preserved : goal.loop-key-preserved
loop-key-preserved c =
    let e = ap typeds_of (front c.args.keys.now c.loop-key.key-index c.key-item.result c.loop-key-test.true c.key-item.is) in
    let rest = typeds_of (drop (c.loop-key.key-index + 1) c.args.keys.now) in
    let few : c.loop-key.q + (1 + count rest) ≤ 8 = subst (λ ks. c.loop-key.q + count ks ≤ 8) e c.loop-key.invariant.0 in (
      omega arith,
      λ z h. c.loop-key.invariant.1 z (subst (λ ks. Adds (pushing ks c.loop-key.q) c.loop-key.draft z) (sym e)
          (both_adds _ _ _ _ _ (rw (c.push_of.ensures, c.type_of.ensures, c.register.ensures) at c.in_ok-put.ensures) h)),
    )

pub returns : goal.returns
returns c = c.loop-key.invariant.1 _ (pushed_all _ _ _ _ c.loop-key-test.false)
