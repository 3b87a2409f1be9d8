-- What reads as a trace is what writes one.
use Rattle.std.proofs.Common.{◌≡◌, ◌≢◌, ◌≤◌, ◌<◌, ◌+◌, ◌-◌, ◌^◌, ℕ, zero, List, [], ◌∷◌, length, map}
use Rattle.std.proofs.Common.{Bool, true, false, cond, Some, Ok, Err, refl, sym, ap, ◌∙◌, arith}
use Rattle.std.specs.Prelude.{◌≤ℤ◌, ◌↔◌, ◌==◌, ℤ, pos, codes, Contains, IfSome, option_map, slice_get}
use Rattle.std.specs.List.{AllZip, AllByRecursion, list_any}
use Rattle.std.specs.List.Sorted.{IsStrictlyIncreasing}
use Rattle.std.specs.Str.{bytes_eq}
use Rattle.std.proofs.lemmas.Bool.{eqb-true, false_from_ne_true, le-leb}
use Rattle.std.proofs.lemmas.Int.{ints}
use Rattle.std.proofs.lemmas.List.{Elements.recursion_from_All, Folds.Any-from_list_any}
use Rattle.std.proofs.lemmas.Slice.Eq.{bytes_eq-Decides}
use Rattle.csv.specs.Reading.{records, default_config, strip_bom}
use Rattle.firings.specs.declared.firing.Firing.{Firing}
use Rattle.firing_reader.specs.Column.{Whole, Words, columns, field, number_from, value_of}
use Rattle.firing_reader.specs.Faults.{IsRowOf}
use Rattle.firings.specs.Firings.{IsFiring, IsText, number_of}
use Rattle.firing_reader.specs.declared.fault.TraceFault.TheVariants.{Header}
use Rattle.firing_reader.specs.Trace.{is_header, next_of, rows_of, trace_in, trace_of}
use Rattle.firing_reader.specs.Written.{WritesFiring, WritesTrace}
use Rattle.firings.proofs.Texts.{some_text}
use Rattle.firing_reader.proofs.Fields.{AreNumbers, in_range, mapped}
use Rattle.firing_reader.proofs.Kept.{rises_after, rises_more, rows_trace, rows_written}
use Rattle.firing_reader.proofs.RowFaults.{AreTexts, next_is, numbers_of}
use Rattle.firing_reader.proofs.Rows.{has_header}

-- ---- a row's numbers

whole_taken : (least most n : ℕ) (bytes : List ℕ) → option_map pos (number_from 0 (2 ^ 64 - 1) bytes) ≡ Some (pos n) → least ≤ n → n ≤ most → value_of (Whole least most) bytes ≡ Some (pos n)
whole_taken least most n bytes e low high =
    let (k, read, is) = mapped pos _ (pos n) e in
    let (decimal, value, _, _) = in_range 0 (2 ^ 64 - 1) bytes k read in
    let same : k ≡ n = cc in
    rw (decimal, value, same, le-leb least n low, le-leb n most high) refl

int_taken : (least : ℕ) (z : ℤ) (bytes : List ℕ) → option_map pos (number_from 0 (2 ^ 64 - 1) bytes) ≡ Some z → pos least ≤ℤ z → z ≤ℤ pos 0x7FFF_FFFF → value_of (Whole least (2 ^ 31 - 1)) bytes ≡ Some z
int_taken least z bytes e low high =
    let (k, read, is) = mapped pos _ z e in
    let (decimal, value, _, _) = in_range 0 (2 ^ 64 - 1) bytes k read in
    rw (decimal, value, le-leb least k (omega (arith, ints)), le-leb k (2 ^ 31 - 1) (omega (arith, ints)), is) refl

zero_found : (bytes : List ℕ) → list_any (λ b. b == 0) bytes ≡ true → Contains bytes 0
zero_found bytes e =
    let (k, x, within, here, is) = Any-from_list_any (λ b. b == 0) bytes e in
    (k, within, rw (eqb-true x 0 is) at here)

text_taken : (bytes text : List ℕ) → text ≡ bytes → IsText text → value_of Words bytes ≡ Some (pos 0)
text_taken bytes text same is =
    let none : list_any (λ b. b == 0) text ≡ false = false_from_ne_true _ (λ some. is.no_zero (zero_found text some)) in
    rw (← same, some_text text is.short (sym none) is.utf8) refl

numbers_are : (fields : List (List ℕ)) (f : Firing) → IsRowOf fields f → IsFiring f → AreNumbers fields columns (numbers_of f)
numbers_are fields f a is = rw (
  whole_taken 1 (2 ^ 62) f.number (field fields 1) a.number is.number.0 is.number.1,
  int_taken 0 f.cpu (field fields 2) a.cpu is.ranges.cpu.0 is.ranges.cpu.1,
  int_taken 1 f.thread (field fields 3) a.thread is.thread.0 is.thread.1,
  int_taken 0 f.pid (field fields 4) a.pid is.ranges.pid.0 is.ranges.pid.1,
  text_taken (field fields 5) f.execname a.execname is.ranges.execname,
  whole_taken 0 (2 ^ 64 - 1) f.time (field fields 6) a.time (omega arith) (omega (arith, is.ranges.time)),
  text_taken (field fields 7) f.provider a.provider is.ranges.provider,
  text_taken (field fields 8) f.probemod a.probemod is.ranges.probemod,
  text_taken (field fields 9) f.probefunc a.probefunc is.ranges.probefunc,
  text_taken (field fields 10) f.name a.name is.ranges.name,
) (ap (λ os. Some (pos f.number) ∷ Some f.cpu ∷ Some f.thread ∷ Some f.pid ∷ Some (pos 0) ∷ Some (pos f.time) ∷ Some (pos 0) ∷ Some (pos 0) ∷ Some (pos 0) ∷ Some (pos 0) ∷ os) a.args)

-- ---- it is read

unreserved : (provider : List ℕ) → provider ≢ codes "dtrace" → bytes_eq provider (codes "dtrace") ≡ false
unreserved provider other = false_from_ne_true _ (λ is. other ((bytes_eq-Decides provider (codes "dtrace")).0 is))

next_taken : (row last : ℕ) (fields : List (List ℕ)) (f : Firing) → WritesFiring fields f → IsFiring f → row ≤ 1_000_000 → last < f.number → next_of row last fields ≡ Ok f
next_taken row last fields f w is few up =
    let v = w.values in
    let texts : AreTexts fields f = record { execname = v.execname; provider = v.provider; probemod = v.probemod; probefunc = v.probefunc; name = v.name } in
    next_is row last fields f w.columns (numbers_are fields f v is) texts (unreserved f.provider is.unreserved) few up

rises_from : (last : ℕ) (fs : List Firing) → IfSome (option_map number_of (slice_get fs 0)) (λ n. last < n) → IsStrictlyIncreasing (map number_of fs) → IsStrictlyIncreasing (last ∷ map number_of fs)
rises_from last [] first rises = λ k within. absurd (omega arith)
rises_from last (f ∷ fs) first rises = rises_more last f.number (map number_of fs) first rises

first_rises : (a b : ℕ) (xs : List ℕ) → IsStrictlyIncreasing (a ∷ b ∷ xs) → a < b
first_rises a b xs all = all zero (omega arith)

rows_taken : (row last : ℕ) (rows : List (List (List ℕ))) (fs : List Firing) → AllZip WritesFiring rows fs → AllByRecursion IsFiring fs → IsStrictlyIncreasing (last ∷ map number_of fs)
    → length fs + row ≤ 1_000_001 → rows_of row last rows ≡ Ok fs
unfolding rows_of
rows_taken row last [] [] each all rises few = refl
rows_taken row last [] (f ∷ fs) each all rises few = absurd each
rows_taken row last (fields ∷ rows) [] each all rises few = absurd each
rows_taken row last (fields ∷ rows) (f ∷ fs) each all rises few =
    let next = next_taken row last fields f each.0 all.0 (omega arith) (first_rises last f.number (map number_of fs) rises) in
    let rest = rows_taken (row + 1) f.number rows fs each.1 all.1 (rises_after last (f.number ∷ map number_of fs) rises) (omega arith) in
    rw (next, rest) refl

-- rows that read well by themselves do after firings whose numbers they go on from
pub rows_moved : (row last : ℕ) (rows : List (List (List ℕ))) (fs : List Firing) → rows_of 1 0 rows ≡ Ok fs → IfSome (option_map number_of (slice_get fs 0)) (λ n. last < n) → length fs + row ≤ 1_000_001 → rows_of row last rows ≡ Ok fs
rows_moved row last rows fs read first few =
    let trace = rows_trace rows fs read in
    rows_taken row last rows fs (rows_written rows fs read) (recursion_from_All IsFiring fs trace.firings) (rises_from last fs first trace.rises) few

from_zero : (fs : List Firing) → AllByRecursion IsFiring fs → IsStrictlyIncreasing (map number_of fs) → IsStrictlyIncreasing (0 ∷ map number_of fs)
from_zero [] all rises = rises_from 0 [] tt rises
from_zero (f ∷ fs) all rises = rises_from 0 (f ∷ fs) (omega (arith, all.0.number)) rises

trace_written : (bytes : List ℕ) (fs : List Firing) → WritesTrace bytes fs → trace_of bytes ≡ Ok fs
trace_written bytes fs w =
    let all = recursion_from_All IsFiring fs w.trace.firings in
    has_header (records default_config (strip_bom bytes)) w.header w.rows w.has w.named
    ∙ rows_taken 1 0 w.rows fs w.each all (from_zero fs all w.trace.rises) (let few = w.trace.few in omega arith)

-- ---- and what is read is written

trace_read : (bytes : List ℕ) (fs : List Firing) → trace_of bytes ≡ Ok fs → WritesTrace bytes fs
unfolding trace_in
trace_read bytes fs read = by (records default_config (strip_bom bytes)) refl read
  where
    header_by : (first : List (List ℕ)) (rows : List (List (List ℕ))) → records default_config (strip_bom bytes) ≡ first ∷ rows → (b : Bool) → is_header first ≡ b
        → cond b (rows_of 1 0 rows) (Err Header) ≡ Ok fs → WritesTrace bytes fs
    header_by first rows has true named read = record {
      header = first;
      rows = rows;
      has = has;
      named = named;
      each = rows_written rows fs read;
      trace = rows_trace rows fs read;
    }
    header_by first rows has false named read = absurd cc

    by : (all : List (List (List ℕ))) → records default_config (strip_bom bytes) ≡ all → trace_in all ≡ Ok fs → WritesTrace bytes fs
    by [] has read = absurd cc
    by (first ∷ rows) has read = header_by first rows has (is_header first) refl read

pub trace_is : (bytes : List ℕ) (fs : List Firing) → (trace_of bytes ≡ Ok fs) ↔ WritesTrace bytes fs
trace_is bytes fs = (trace_read bytes fs, trace_written bytes fs)
