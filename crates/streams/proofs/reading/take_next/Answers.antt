use Rattle.std.proofs.Common.{◌≡◌, ◌∙◌, [], ap, append-nil, arith, drop, length, rules, subst, sym, take}
use Rattle.std.proofs.Common.{take_at}
use Rattle.std.specs.Io.KnownBytes.{Consumes}
use Rattle.streams.proofs.reading.take_next.Goals as goal

pub returns-then-given-eq0 : goal.returns-then-given-eq0
returns-then-given-eq0 g c =
    let none : take c.in-Ok.given c.get.new.buffer ≡ [] = ap (λ n. take n c.get.new.buffer) c.if-given-eq0.true in
    record {
      counted = search rules;
      given = search rules;
      failed = search rules;
      memory = search rules;
      bytes = [];
      gave = subst (Consumes _ _) none c.in-Ok.ensures.bytes.0;
      taken = sym (append-nil _);
    }

pub returns : goal.returns
returns g c =
    let buffer = c.args.reading.now.buffer in
    let size : length c.get.new.buffer ≡ buffer.len = omega (arith, c.get.auto.buffer, c.deref_mut.ensures.len) in
    let same : c.get.new.buffer ≡ c.deref.result.now = sym (take_at c.get.new.buffer (drop (length c.get.new.buffer) buffer.items) buffer.len size) ∙ sym c.deref.ensures.value in
    record {
      counted = search rules;
      given = search rules;
      failed = search rules;
      memory = search rules;
      bytes = take c.in-Ok.given c.deref.result.now;
      gave = subst (λ all. Consumes (g.F.Feed.seen c.args.feed.now).remaining (g.F.Feed.seen c.get.new.self).remaining (take c.in-Ok.given all)) same c.in-Ok.ensures.bytes.0;
      taken = search rules;
    }
