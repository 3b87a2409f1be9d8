-- The bytes of a pattern that stand for themselves.
use Rattle.std.specs.Prelude.{◌==◌, ◌&&◌, ℕ, Bool, not}
pub use Rattle.firings.specs.Probing.{probe_of}
use Rattle.std.specs.Str.{byte}

-- ---- the same as tests

-- neither a star nor a question mark
abbrev pub is_plain : ℕ → Bool
is_plain p = not (p == byte "*") && not (p == byte "?")
