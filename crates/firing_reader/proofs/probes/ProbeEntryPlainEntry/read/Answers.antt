use Rattle.std.proofs.Common.{rules, ◌≡◌, ◌∙◌, [], true, false, sym}
use Rattle.std.specs.Prelude.{codes}
use Rattle.std.proofs.lemmas.Bool.{eqb-true}
use Rattle.std.proofs.lemmas.List.{nil_from_length}
use Rattle.firing_reader.specs.Vocabulary.{bytes_eq}
use Rattle.firings.specs.declared.unit.ProbeEntry.{ProbeEntry}
use Rattle.firings.specs.declared.unit.Probe.{Probe}
use Rattle.firing_reader.proofs.Shared.{AreLong, probe_parsed, probe_split, probe_texts_in}
use Rattle.firing_reader.proofs.probes.ProbeEntryPlainEntry.read.Goals as goal

pub returns : goal.returns
returns c =
    let p : Probe = record { provider = c.in_ok-provider.provider; probemod = c.in_ok-probemod.probemod; probefunc = c.in_ok-probefunc.probefunc; name = c.in_ok-name.name } in
    let e : ProbeEntry = record { provider = c.count.result; probemod = c.count-2.result; probefunc = c.count-3.result; name = c.count-4.result } in
    let long : AreLong e p = record { provider = c.count.ensures.value; probemod = c.count-2.ensures.value; probefunc = c.count-3.ensures.value; name = c.count-4.ensures.value } in
    let empty : c.is_empty.result ≡ true = search rules in
    let none : c.in_ok-name.rest.now ≡ [] = nil_from_length _ (eqb-true _ _ (sym c.is_empty.ensures ∙ empty)) in
    let free : bytes_eq c.in_ok-provider.provider (codes "dtrace") ≡ false = search rules in
    let has = probe_split c.args.key.now c.in_ok-provider.rest.now c.in_ok-probemod.rest.now c.in_ok-probefunc.rest.now c.in_ok-name.rest.now e p c.in_ok-provider.ensures c.in_ok-probemod.ensures
    c.in_ok-probefunc.ensures c.in_ok-name.ensures long in
    record {
      inside = probe_texts_in c.args.key.now e p has;
      reads = probe_parsed c.args.key.now c.in_ok-provider.rest.now c.in_ok-probemod.rest.now c.in_ok-probefunc.rest.now c.in_ok-name.rest.now e p c.in_ok-provider.ensures c.in_ok-probemod.ensures c.in_ok-probefunc.ensures
          c.in_ok-name.ensures has none free;
    }
