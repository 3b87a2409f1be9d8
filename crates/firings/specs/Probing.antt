-- Which probe each firing is of.
use Rattle.std.specs.Prelude.{ℕ, List}
use Rattle.firings.specs.declared.firing.Firing.{Firing}
use Rattle.firings.specs.declared.unit.Probe.{Probe}

-- the probe that fired
abbrev pub probe_of : Firing → Probe
probe_of f = record {
  provider = f.provider;
  probemod = f.probemod;
  probefunc = f.probefunc;
  name = f.name;
}

-- probes, and of each firing the index of its own among them
pub record IndicesSeen : Type 0 where
  pub probes : List Probe
  pub indices : List ℕ
