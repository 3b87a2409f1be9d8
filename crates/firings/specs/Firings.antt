-- What a trace and each of its firings keep.
use Rattle.std.specs.Prelude.{◌≡◌, ◌≢◌, ◌<◌, ◌≤◌, ◌≤ℤ◌, ◌^◌, ℕ, ℤ, pos, List, length, codes, All}
use Rattle.std.specs.Prelude.{Contains, IsUtf8, FitsSigned, ◌-◌, map, slice_get}
use Rattle.std.specs.Int.{w64}
use Rattle.std.specs.List.Sorted.{IsStrictlyIncreasing}
use Rattle.std.specs.Option.{option_map_or}
use Rattle.firings.specs.declared.firing.Firing.{Firing}
use Rattle.firings.specs.declared.limits.TheConstants.{MAX_TEXT}
use Rattle.firings.specs.declared.limits.TheConstants.{MAX_ROWS}

-- its place among the firings
abbrev pub number_of : Firing → ℕ
number_of f = f.number

-- when it fired
abbrev pub time_of : Firing → ℕ
time_of f = f.time

-- the thread that fired
abbrev pub thread_of : Firing → ℤ
thread_of f = f.thread

-- the number of the last of these firings, or 0 before the first
abbrev pub last_number : List Firing → ℕ
last_number fs = option_map_or number_of (slice_get fs (length fs - 1)) 0

-- a number of 31 bits that is at least this
abbrev pub IsIntFrom : ℕ → ℤ → Type 0
IsIntFrom least z = (pos least ≤ℤ z) × (z ≤ℤ pos 0x7FFF_FFFF)

-- a text: UTF-8 of at most 255 bytes, none of them zero
pub record IsText (bytes : List ℕ) : Type 0 where
  pub short : length bytes ≤ MAX_TEXT
  pub no_zero : ¬ (Contains bytes 0)
  pub utf8 : IsUtf8 bytes

-- the ranges of a firing's fields, of a row's firing and of BEGIN and END
pub record HasRanges (f : Firing) : Type 0 where
  pub number : f.number < 2 ^ 64
  pub cpu : IsIntFrom 0 f.cpu
  pub thread : IsIntFrom 0 f.thread
  pub pid : IsIntFrom 0 f.pid
  pub execname : IsText f.execname
  pub time : f.time < 2 ^ 64
  pub provider : IsText f.provider
  pub probemod : IsText f.probemod
  pub probefunc : IsText f.probefunc
  pub name : IsText f.name
  pub ten : length f.args ≡ 10
  pub args : All (FitsSigned w64) f.args

-- a row's firing: its number and its thread are from 1, and its provider isn't dreplay's own
pub record IsFiring (f : Firing) : Type 0 where
  pub ranges : HasRanges f
  pub number : (1 ≤ f.number) × (f.number ≤ 2 ^ 62)
  pub thread : IsIntFrom 1 f.thread
  pub unreserved : f.provider ≢ codes "dtrace"

-- what a trace keeps
pub record IsTrace (fs : List Firing) : Type 0 where
  pub rises : IsStrictlyIncreasing (map number_of fs)
  pub few : length fs ≤ MAX_ROWS
  pub firings : All IsFiring fs
