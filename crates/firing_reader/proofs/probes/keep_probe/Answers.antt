use Rattle.firings.specs.declared.unit.ProbeEntry.{ProbeEntry}
use Rattle.firings.specs.Probing.{probe_of}
use Rattle.firings.specs.Units.{probe_in}
use Rattle.firing_reader.proofs.Shared.{AreLong, AreTexts, probe_is, probe_kept, probe_texts_in}
use Rattle.firing_reader.proofs.Shared.{seen_kept}
use Rattle.firing_reader.proofs.probes.keep_probe.Goals as goal

pub intern-requires : goal.intern-requires
intern-requires c =
    let bytes = c.in_ok-bytes.bytes.items in
    let p = probe_of c.args.firing.now in
    let e : ProbeEntry = record { provider = c.count.result; probemod = c.count-2.result; probefunc = c.count-3.result; name = c.count-4.result } in
    let long : AreLong e p = record { provider = c.count.ensures.value; probemod = c.count-2.ensures.value; probefunc = c.count-3.ensures.value; name = c.count-4.ensures.value } in
    let texts : AreTexts p = record { provider = c.count.ensures.text; probemod = c.count-2.ensures.text; probefunc = c.count-3.ensures.text; name = c.count-4.ensures.text } in
    rw c.deref.ensures.value (probe_texts_in bytes e p (probe_kept bytes e p c.in_ok-bytes.ensures long texts))

pub returns : goal.returns
returns c =
    let bytes = c.in_ok-bytes.bytes.items in
    let p = probe_of c.args.firing.now in
    let e : ProbeEntry = record { provider = c.count.result; probemod = c.count-2.result; probefunc = c.count-3.result; name = c.count-4.result } in
    let long : AreLong e p = record { provider = c.count.ensures.value; probemod = c.count-2.ensures.value; probefunc = c.count-3.ensures.value; name = c.count-4.ensures.value } in
    let texts : AreTexts p = record { provider = c.count.ensures.text; probemod = c.count-2.ensures.text; probefunc = c.count-3.ensures.text; name = c.count-4.ensures.text } in
    let same = probe_is bytes e p (probe_kept bytes e p c.in_ok-bytes.ensures long texts) in
    (c.intern.ensures.0, seen_kept probe_in c.intern.new.self (bytes, e) p c.intern.result same (rw c.deref.ensures.value at c.intern.ensures.1))
