-- The ranges of BEGIN and END.
use Rattle.std.specs.Prelude.{◌≡◌, ◌<◌, ◌≤◌, ◌^◌, ◌+◌, ◌-◌, ◌==◌, ℕ, zero, suc, pos, false, true}
use Rattle.std.specs.Prelude.{nat_lt, List, [], ◌∷◌, length, slice_get, codes, replicate, All}
use Rattle.std.specs.Prelude.{FitsSigned, Some}
use Rattle.std.proofs.Common.{refl, arith, get_or}
use Rattle.std.specs.Int.{w64}
use Rattle.std.specs.List.{list_all, list_any}
use Rattle.std.specs.Option.{option_map_or}
use Rattle.std.specs.Str.{IsAscii}
use Rattle.std.proofs.lemmas.Bool.{and_parts, ltb-true}
use Rattle.std.proofs.lemmas.Int.{ints}
use Rattle.std.proofs.lemmas.Str.{IsUtf8-from_ascii}
use Rattle.std.proofs.lemmas.List.Elements.{All-cons, All-nil, All-get_or}
use Rattle.std.proofs.lemmas.Option.{slice_get-get_or}
use Rattle.firings.specs.declared.firing.Firing.{Firing}
use Rattle.firings.specs.Firings.{HasRanges, IsFiring, IsText, IsTrace, last_number, number_of}
use Rattle.firings.specs.Firings.{time_of}
use Rattle.firings.specs.Texts.{text_of}
use Rattle.firings.specs.Ends.{own_firing}
use Rattle.firings.proofs.Texts.{some_text, empty_text, text_is}

ascii : (bytes : List ℕ) → list_all (λ b. nat_lt b 128) bytes ≡ true → IsAscii bytes
ascii [] all i = omega arith
ascii (b ∷ bytes) all zero = ltb-true b 128 (and_parts _ _ all).0
ascii (b ∷ bytes) all (suc i) = ascii bytes (and_parts _ _ all).1 i

ascii_text : (bytes : List ℕ) → length bytes ≤ 255 → false ≡ list_any (λ b. b == 0) bytes → list_all (λ b. nat_lt b 128) bytes ≡ true
    → text_of bytes ≡ Some bytes
ascii_text bytes short no_zero all = some_text bytes short no_zero (IsUtf8-from_ascii bytes (ascii bytes all))

pub dtrace_text : text_of (codes "dtrace") ≡ Some (codes "dtrace")
dtrace_text = ascii_text (codes "dtrace") (omega arith) refl refl

pub begin_text : text_of (codes "BEGIN") ≡ Some (codes "BEGIN")
begin_text = ascii_text (codes "BEGIN") (omega arith) refl refl

pub end_text : text_of (codes "END") ≡ Some (codes "END")
end_text = ascii_text (codes "END") (omega arith) refl refl

is_text : (bytes : List ℕ) → text_of bytes ≡ Some bytes → IsText bytes
is_text bytes e = (text_is bytes bytes e).1

zeros_fit : All (FitsSigned w64) (replicate 10 (pos 0))
zeros_fit = many 10
  where
    many : (n : ℕ) → All (FitsSigned w64) (replicate n (pos 0))
    many zero = All-nil (FitsSigned w64)
    many (suc n) = All-cons (FitsSigned w64) (pos 0) (replicate n (pos 0)) (omega arith) (many n)

pub own_ranges : (number time : ℕ) (name : List ℕ) → number < 2 ^ 64 → time < 2 ^ 64 → text_of name ≡ Some name → HasRanges (own_firing number time name)
own_ranges number time name small early text = record {
  number = small;
  cpu = (omega (arith, ints), omega (arith, ints));
  thread = (omega (arith, ints), omega (arith, ints));
  pid = (omega (arith, ints), omega (arith, ints));
  execname = is_text _ dtrace_text;
  time = early;
  provider = is_text _ dtrace_text;
  probemod = is_text _ empty_text;
  probefunc = is_text _ empty_text;
  name = is_text name text;
  ten = refl;
  args = zeros_fit;
}

-- ---- over a trace

abbrev first_time : List Firing → ℕ
first_time fs = option_map_or time_of (slice_get fs 0) 0

abbrev last_time : List Firing → ℕ
last_time fs = option_map_or time_of (slice_get fs (length fs - 1)) 0

first_early : (fs : List Firing) → All IsFiring fs → first_time fs < 2 ^ 64
first_early [] all = omega arith
first_early (f ∷ fs) all = (All-get_or IsFiring (f ∷ fs) 0 f (omega arith) all).ranges.time

at_last_is : (what : Firing → ℕ) (most : ℕ) (fs : List Firing) → ((f : Firing) → IsFiring f → what f < most) → 0 < most → All IsFiring fs
    → option_map_or what (slice_get fs (length fs - 1)) 0 < most
at_last_is what most [] small some all = some
at_last_is what most (f ∷ fs) small some all =
    let last = length (f ∷ fs) - 1 in
    let inside : last < length (f ∷ fs) = omega arith in
    let there = slice_get-get_or (f ∷ fs) last f inside in
    rw there (small (get_or (f ∷ fs) last f) (All-get_or IsFiring (f ∷ fs) last f inside all))

pub ends : (fs : List Firing) → IsTrace fs → HasRanges (own_firing 0 (first_time fs) (codes "BEGIN")) × HasRanges (own_firing (last_number fs + 1) (last_time fs) (codes "END"))
ends fs is = (
  own_ranges 0 (first_time fs) (codes "BEGIN") (omega arith) (first_early fs is.firings) begin_text,
  own_ranges (last_number fs + 1) (last_time fs) (codes "END") (omega (arith, at_last_is number_of (2 ^ 62 + 1) fs (λ f is. omega (arith, is.number.1)) (omega arith) is.firings))
      (at_last_is time_of (2 ^ 64) fs (λ f is. is.ranges.time) (omega arith) is.firings) end_text,
)
