-- BEGIN and END, which a run fires before and after the rows of its trace.
-- Source: Dynamic Tracing Guide, "dtrace Provider" (BEGIN, END).
use Rattle.std.specs.Prelude.{ℕ, ◌+◌, ◌-◌, List, [], ◌∷◌, ◌++◌, length, slice_get, replicate, pos}
use Rattle.std.specs.Prelude.{codes}
use Rattle.std.specs.Option.{option_map_or}
use Rattle.firings.specs.declared.firing.Firing.{Firing}
use Rattle.firings.specs.Firings.{last_number, time_of}

-- a firing of dreplay's own, on thread 0
abbrev pub own_firing : ℕ → ℕ → List ℕ → Firing
own_firing number time name = record {
  number = number;
  cpu = pos 0;
  thread = pos 0;
  pid = pos 0;
  execname = codes "dtrace";
  time = time;
  provider = codes "dtrace";
  probemod = [];
  probefunc = [];
  name = name;
  args = replicate 10 (pos 0);
}

-- before the rows, at the time of the first, or 0 if there are none
abbrev pub begin_of : List Firing → Firing
begin_of trace = own_firing 0 (option_map_or time_of (slice_get trace 0) 0) (codes "BEGIN")

-- after the rows, at the time of the last
abbrev pub end_of : List Firing → Firing
end_of trace = own_firing (last_number trace + 1)
    (option_map_or time_of (slice_get trace (length trace - 1)) 0) (codes "END")

-- these firings between BEGIN and END of the trace
abbrev pub with_ends : (trace firings : List Firing) → List Firing
with_ends trace firings = begin_of trace ∷ (firings ++ end_of trace ∷ [])
