use Rattle.std.proofs.Common.{◌+◌, ◌<◌, ◌++◌, ◌∙◌, rules, arith, length, take, drop, ap, sym, subst}
use Rattle.std.proofs.Common.{take-add, length-drop}
use Rattle.std.proofs.lemmas.List.{take_rest, drop-drop}
use Rattle.std.specs.Io.KnownBytes.{Appends}
use Rattle.std.proofs.KnownBytes.{Appends-trans}
use Rattle.streams.proofs.writing.emit.Goals as goal

-- one more call: k bytes were out, and now n more
pub loop-rest-preserved : goal.loop-rest-preserved
loop-rest-preserved g c =
    let (k, within, rest, written, few, unfailed) = c.loop-rest.invariant in
    let n = c.in-Ok.taken in
    let some : 0 < n = c.in-Ok.ensures.progress (search rules) in
    let bytes = c.args.bytes.now in
    let both = Appends-trans _ _ _ _ _ written c.in-Ok.ensures.bytes in
    let joined = ap (λ l. take k bytes ++ take n l) rest ∙ sym (take-add k n bytes) in (
      k + n,
      omega (arith, length-drop k bytes, ap length rest, c.in-Ok.ensures.bound),
      take_rest _ n ∙ ap (drop n) rest ∙ drop-drop n k bytes,
      subst (Appends _ _) joined both,
      omega (arith, c.in-Ok.ensures.counted),
      search rules,
    )
