use Rattle.std.specs.Prelude.{◌≡◌, None, take}
use Rattle.std.proofs.Common.{ap, arith, ◌≤◌, length, ◌∙◌}
use Rattle.std.proofs.Math.Seq.{take-length}
use Rattle.dif_machine.specs.Frames.{start}
use Rattle.dif_machine.specs.Machine.{found_of, key_in}
use Rattle.dif_machine.specs.Steps.Lasting.{restarted}
use Rattle.dif_machine.proofs.Holding.{first_kept, found_kept, keeps_refl}
use Rattle.dif_machine.proofs.machine.Machine.restart.Goals as goal

pub returns : goal.returns
returns c =
    let i = c.self.inside in
    let long = c.len-self-inside in
    let least : i.lasting ≤ long.result = omega (arith, c.self.invariant.inside, long.ensures) in
    let most : long.result ≤ length i.texts = omega (arith, long.ensures) in
    let more = first_kept i.texts c.self.invariant.distinct i.lasting c.self.invariant.inside i.texts (keeps_refl i.texts) long.result least most in
    let known : found_of (take long.result i.texts) i.numbers ≡ found_of (take i.lasting i.texts) i.numbers = found_kept (take i.lasting i.texts) (take long.result i.texts) more i.numbers c.self.invariant.numbers in
    let lasting : take long.result i.texts ≡ i.texts = ap (λ n. take n i.texts) long.ensures ∙ take-length i.texts in
    (λ j. record { texts = i.texts; lasting = lasting j; frame = record { pc = 0; registers = start.registers; comparison = None; tuple = key_in i.texts (c.clear.ensures j) }; known = known j })
    ∙ ap restarted c.self.view_is
