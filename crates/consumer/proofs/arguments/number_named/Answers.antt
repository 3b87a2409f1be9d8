use Rattle.std.proofs.Common.{inl, inr, arith}
use Rattle.clap.specs.Words.{found_of}
use Rattle.consumer.proofs.Options.{is_in, is_that, is_written, none_written}
use Rattle.consumer.proofs.arguments.number_named.Goals as goal

pub returns-in_err-number-clause-none : goal.returns-in_err-number-clause-none
returns-in_err-number-clause-none c none n =
    none_written (found_of c.args.matches.now) c.args.id.now c.args.low c.args.high n c.ranges.high.fits c.in_err-number.ensures.value

pub returns-then-number-high-clause-some : goal.returns-then-number-high-clause-some
returns-then-number-high-clause-some c =
    let f = found_of c.args.matches.now in
    is_in f c.args.id.now c.args.low c.args.high c.in_ok-number.number c.if-low-number.true c.if-number-high.true
    (is_written f c.args.id.now c.in_ok-number.number c.in_ok-number.ensures.none c.in_ok-number.ensures.value)

pub returns-else-low-number-clause-none : goal.returns-else-low-number-clause-none
returns-else-low-number-clause-none c none n is =
    let f = found_of c.args.matches.now in
    let same = is_that f c.args.id.now c.args.low c.args.high c.in_ok-number.number n
    (is_written f c.args.id.now c.in_ok-number.number c.in_ok-number.ensures.none c.in_ok-number.ensures.value) is in
    elim c.else-low-number.either [
      | inl h ↦ omega arith
      | inr h ↦ omega arith
    ]
