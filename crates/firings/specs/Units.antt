-- What rows share, as a trace stores it: units with the bytes that they were read from, and the
-- owner or the probe of each.
use Rattle.std.specs.Prelude.{◌≡◌, ◌≤◌, ◌+◌, ℕ, List, Some, length, take, drop}
use Rattle.firings.specs.declared.unit.OwnerEntry.{OwnerEntry}
use Rattle.firings.specs.declared.unit.ProbeEntry.{ProbeEntry}
use Rattle.firings.specs.declared.unit.Owner.{Owner}
use Rattle.firings.specs.declared.unit.Probe.{Probe}
use Rattle.firings.specs.declared.units.Known.{Known}
use Rattle.firings.specs.Texts.{text_of}

-- this many elements from an index on
abbrev pub part : {X : Type 0} → List X → ℕ → ℕ → List X
part xs begin count = take count (drop begin xs)

-- a unit's own bytes among those of all, and its entry
abbrev pub unit_in : {E : Type 0} → List ℕ → Known E → List ℕ × E
unit_in bytes k = (part bytes k.begin k.count, k.entry)

-- its bytes are there, and its entry is theirs
pub record IsUnitIn {E : Type 0} (In : E → List ℕ → Type 0) (bytes : List ℕ) (k : Known E)
    : Type 0 where
  pub inside : k.begin + k.count ≤ length bytes
  pub is_in : In k.entry (part bytes k.begin k.count)

-- there are this many bytes from this index on, and they are a text
pub record IsTextIn (bytes : List ℕ) (begin count : ℕ) : Type 0 where
  pub inside : begin + count ≤ length bytes
  pub text : text_of (part bytes begin count) ≡ Some (part bytes begin count)

-- the owner of a unit
abbrev pub owner_in : List ℕ × OwnerEntry → Owner
owner_in u = record {
  cpu = u.1.cpu;
  thread = u.1.thread;
  pid = u.1.pid;
  execname = part u.0 u.1.from u.1.count;
}

-- where the texts of a probe begin after the first: there is one byte after each
abbrev pub probemod_at : ProbeEntry → ℕ
probemod_at p = p.provider + 1

abbrev pub probefunc_at : ProbeEntry → ℕ
probefunc_at p = probemod_at p + p.probemod + 1

abbrev pub name_at : ProbeEntry → ℕ
name_at p = probefunc_at p + p.probefunc + 1

-- the probe of a unit
abbrev pub probe_in : List ℕ × ProbeEntry → Probe
probe_in u = record {
  provider = part u.0 0 u.1.provider;
  probemod = part u.0 (probemod_at u.1) u.1.probemod;
  probefunc = part u.0 (probefunc_at u.1) u.1.probefunc;
  name = part u.0 (name_at u.1) u.1.name;
}

-- its texts are there
pub record IsProbeIn (p : ProbeEntry) (bytes : List ℕ) : Type 0 where
  pub provider : IsTextIn bytes 0 p.provider
  pub probemod : IsTextIn bytes (probemod_at p) p.probemod
  pub probefunc : IsTextIn bytes (probefunc_at p) p.probefunc
  pub name : IsTextIn bytes (name_at p) p.name
