-- What clauses read of a watched reader or writer.
use Rattle.std.specs.Prelude.{ℕ, ◌+◌, Bool, List, Option, if◌then◌else◌}
use Rattle.streams.specs.Stream.{FeedSeen, SinkSeen}
use Rattle.streams.specs.declared.watched.Watched.{Watched}

-- the reader or writer itself
abbrev pub watched_inner : {T : Type 0} → Watched T → T
watched_inner w = w.inner

-- how many calls were made: those that went well, and the one that failed
abbrev pub watched_calls : {T : Type 0} → Watched T → ℕ
watched_calls w = w.good_calls + (if w.has_failed then 1 else 0)

-- whether a call has failed
abbrev pub watched_has_failed : {T : Type 0} → Watched T → Bool
watched_has_failed w = w.has_failed

-- whether the last read reported the end
abbrev pub watched_has_ended : {T : Type 0} → Watched T → Bool
watched_has_ended w = w.has_ended

-- whether the last call was a flush, and went well
abbrev pub watched_is_flushed : {T : Type 0} → Watched T → Bool
watched_is_flushed w = w.is_flushed

-- a watched writer as a sink, with the bytes that the writer holds
abbrev pub watched_sink : {T : Type 0} → (T → Option (List ℕ)) → Watched T → SinkSeen
watched_sink contents w = record {
  bytes = contents (watched_inner w);
  calls = watched_calls w;
  has_failed = watched_has_failed w;
  is_flushed = watched_is_flushed w;
}

-- a watched reader as a feed, with the bytes that the reader has left
abbrev pub watched_feed : {T : Type 0} → (T → Option (List ℕ)) → Watched T → FeedSeen
watched_feed remaining w = record {
  remaining = remaining (watched_inner w);
  calls = watched_calls w;
  has_failed = watched_has_failed w;
  has_ended = watched_has_ended w;
}
