-- Firings as a trace stores them: rows of small fixed size, and apart from them what rows share and
-- their arguments.
use Rattle.std.specs.Prelude.{◌≡◌, ◌<◌, ◌≤◌, ◌+◌, ℕ, zero, suc, ℤ, pos, List, [], ◌++◌}
use Rattle.std.specs.Prelude.{Option, None, Some, length, get_or, slice_get, map}
use Rattle.firings.specs.Arguments.{ten}
use Rattle.firings.specs.declared.firing.Firing.{Firing}
use Rattle.firings.specs.declared.stored_row.Row.{Row}
use Rattle.firings.specs.declared.unit.Owner.{Owner}
use Rattle.firings.specs.declared.unit.Probe.{Probe}
use Rattle.firings.specs.Units.{part}

-- a list that goes on where another ends
abbrev pub Extends : {X : Type 0} → List X → List X → Type 0
Extends {X} old new = (more : List X) × (new ≡ old ++ more)

-- what stands for an owner or a probe that there is none of at an index
abbrev pub no_owner : Owner
no_owner = record { cpu = pos 0; thread = pos 0; pid = pos 0; execname = [] }

abbrev pub no_probe : Probe
no_probe = record { provider = []; probemod = []; probefunc = []; name = [] }

-- the firing of a row
abbrev pub firing_in : List Owner → List Probe → List ℤ → Row → Firing
firing_in owners probes args r = record {
  number = r.number;
  cpu = (get_or owners r.owner no_owner).cpu;
  thread = (get_or owners r.owner no_owner).thread;
  pid = (get_or owners r.owner no_owner).pid;
  execname = (get_or owners r.owner no_owner).execname;
  time = r.time;
  provider = (get_or probes r.probe no_probe).provider;
  probemod = (get_or probes r.probe no_probe).probemod;
  probefunc = (get_or probes r.probe no_probe).probefunc;
  name = (get_or probes r.probe no_probe).name;
  args = ten (part args r.first r.count);
}

-- what a row names is there
pub record IsRowIn (owners : List Owner) (probes : List Probe) (args : List ℤ) (r : Row)
    : Type 0 where
  pub owner : r.owner < length owners
  pub probe : r.probe < length probes
  pub inside : r.first + r.count ≤ length args

-- the indices where these others are, one for each
abbrev pub AreIndices : {X : Type 0} → List X → List ℕ → List X → Type 0
AreIndices all indices others = map (slice_get all) indices ≡ map (λ x. Some x) others

-- the element one before an index: none before the first, and none past the last
abbrev pub row_before : {X : Type 0} → List X → ℕ → Option X
row_before xs zero = None
row_before xs (suc i) = slice_get xs i
