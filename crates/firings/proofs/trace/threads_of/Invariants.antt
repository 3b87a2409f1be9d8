use Rattle.std.proofs.Common.{◌≡◌, ◌<◌, ◌≤◌, Some, true, false, drop, get_or, map, length, ℕ, ◌||◌}
use Rattle.std.specs.Prelude.{ℤ, slice_get}
use Rattle.std.specs.Ordering.{int_cmp}
use Rattle.std.specs.BTreeSet.{contains}
use Rattle.firings.specs.Firings.{thread_of}
use Rattle.firings.proofs.Threads.{is_among}
use Rattle.firings.proofs.trace.threads_of.Given as goal

abbrev pub invariant-loop-at : goal.invariant-loop-at
invariant-loop-at l = record {
  seen : (q : ℤ) → (contains int_cmp l.seen q || is_among q (drop l.at (map thread_of l.firings))) ≡ is_among q (map thread_of l.firings);
  sized : length l.noted.items ≡ length l.indices.0;
  within : l.front ≤ length l.indices.0;
  passed : (o : ℕ) → o < l.front → get_or l.noted.items o false ≡ true;
  noted : (o : ℕ) → get_or l.noted.items o false ≡ true → (t : ℤ) → slice_get l.indices.0 o ≡ Some t → contains int_cmp l.seen t ≡ true;
}
