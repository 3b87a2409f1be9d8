-- The threads of a trace.
use Rattle.std.specs.Prelude.{ℤ, pos, Bool, Vec, List, [], ◌∷◌, ◌++◌, map, Contains, ◌↔◌}
use Rattle.shard_queue.specs.Vocabulary.{Firing, Global, IsStrictlySortedBy, int_cmp, int_eq}
use Rattle.shard_queue.specs.Vocabulary.{list_any, thread_of}

-- the thread of BEGIN and END
abbrev pub thread_zero : ℤ
thread_zero = pos 0

-- the threads of a run's firings: that of BEGIN, those of the trace's rows, that of END
abbrev pub run_threads : List Firing → List ℤ
run_threads trace = thread_zero ∷ (map thread_of trace ++ thread_zero ∷ [])

-- whether a thread is among these
abbrev pub has : List ℤ → ℤ → Bool
has threads t = list_any (int_eq t) threads

-- what is in each of these lists
abbrev pub items_of : List (Vec ℤ Global) → List (List ℤ)
items_of lists = map (λ v. v.items) lists

-- the threads that fired, each once and ascending
pub record AreThreads (trace : List Firing) (threads : List ℤ) : Type 0 where
  pub ascending : IsStrictlySortedBy int_cmp threads
  pub same : (t : ℤ) → Contains threads t ↔ Contains (map thread_of trace) t
