use Rattle.std.proofs.Common.{refl, rules, subst}
use Rattle.streams.specs.Stream.{IsSent}
use Rattle.consumer.proofs.consuming.write_out.Goals as goal

pub returns-in-Ok-send-clause-out : goal.returns-in-Ok-send-clause-out
returns-in-Ok-send-clause-out g c = rw c.in-Ok.is (
  refl,
  search rules,
  subst (λ bytes. IsSent bytes (g.S.Sink.seen c.args.sink.now) (g.S.Sink.seen c.send.new.sink)) c.deref.ensures.value c.in-Ok-send.ensures.sent,
)

pub returns-in-Err-send-clause-out : goal.returns-in-Err-send-clause-out
returns-in-Err-send-clause-out g c = rw c.in-Ok.is (
  c.in-Err-send.ensures.fault.0 refl,
  subst (λ bytes. IsSent bytes (g.S.Sink.seen c.args.sink.now) (g.S.Sink.seen c.send.new.sink)) c.deref.ensures.value c.in-Err-send.ensures.sent,
)

pub returns-in-Err-clause-out : goal.returns-in-Err-clause-out
returns-in-Err-clause-out g c = rw c.in-Err.is (refl, refl)
