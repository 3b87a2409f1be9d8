use Rattle.std.proofs.Common.{rules, ◌≡◌, ◌-◌, arith}
use Rattle.firing_reader.proofs.PlainArguments.{none_so_far, one_so_far, value_last, alike_last}
use Rattle.firing_reader.proofs.plain.arguments.read_arguments.Goals as goal

pub loop-n-init : goal.loop-n-init
loop-n-init c =
    let first : c.in_ok-first.first ≡ c.len.result = search rules in
    record { read = none_so_far c.args.bytes.now c.args.all.now.items; first = omega (arith, first, c.len.ensures, c.args.all.now.ok.0) }

pub returns-in-Some : goal.returns-in-Some
returns-in-Some c =
    let (field, is, closes) = c.in-Some.ensures in
    alike_last c.loop-n.n (10 - c.loop-n.n) field c.args.bytes.now c.loop-n.rest.now c.in-Some.end.now c.args.all.now.items c.loop-n.all.items c.in_ok-first.first is c.loop-n.invariant.read closes
    (omega arith) c.loop-n.invariant.first

pub loop-n-preserved : goal.loop-n-preserved
loop-n-preserved c =
    let (field, value, passes, read, pushed) = c.in_ok-rest.ensures in
    record {
      read = one_so_far c.loop-n.n c.args.bytes.now c.loop-n.rest.now c.in_ok-rest.rest.now c.args.all.now.items c.loop-n.all.items c.keep_next.new.all.items field value c.loop-n.invariant.read passes read pushed;
      first = c.loop-n.invariant.first;
    }

pub returns : goal.returns
returns c =
    let (field, value, closes, read, pushed) = c.in_ok-end.ensures in
    value_last c.loop-n.n c.args.bytes.now c.loop-n.rest.now c.in_ok-end.end.now c.args.all.now.items c.loop-n.all.items c.keep_last.new.all.items c.in_ok-first.first field value (omega arith)
    c.loop-n.invariant.read closes read pushed c.loop-n.invariant.first
