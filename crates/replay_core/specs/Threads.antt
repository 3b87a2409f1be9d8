-- What contracts see of the variables of a lane's threads.
use Rattle.std.specs.Prelude.{ℤ, List, Option, None, Some, if◌then◌else◌}
use Rattle.d_values.specs.Stores.{Own}
use Rattle.replay_core.specs.Vocabulary.{KeyPart, Value, Var, Variables, blank, int_eq}
use Rattle.replay_core.specs.Vocabulary.{lookup, own_of, variables}
use Rattle.replay_core.specs.declared.lanes.tables.Tables.{Tables}
use Rattle.replay_core.specs.Meaning.{Threads}

-- the thread whose firing runs, what the clauses of that firing see, and what other threads keep
pub record StoreSeen : Type 0 where
  pub at : ℤ
  pub present : Variables
  pub others : Threads

abbrev pub threads_of : StoreSeen → Threads
threads_of s thread = if int_eq thread s.at then s.present.own else s.others thread

-- ---- tables

-- a thread without a table has assigned nothing
abbrev pub own_in : Option Own → Var → List KeyPart → Value
own_in None var key = blank var.kind
own_in (Some t) var key = own_of t var key

abbrev pub tables_seen : Tables → StoreSeen
tables_seen t = record {
  at = t.thread;
  present = variables t.locals t.own;
  others = λ thread. own_in (lookup (int_eq thread) t.others.entries);
}
