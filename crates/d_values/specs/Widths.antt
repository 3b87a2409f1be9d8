-- The widths of integers.
-- Source: Dynamic Tracing Guide, "Data Types and Sizes".
use Rattle.std.specs.Prelude.{ℕ, Bool, ◌==◌, ◌||◌}

-- how many bits an integer may have
abbrev pub is_width : ℕ → Bool
is_width w = w == 8 || w == 16 || w == 32 || w == 64
