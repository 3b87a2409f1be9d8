-- Arguments of a plain row.
use Rattle.std.proofs.Common.{◌≡◌, ◌≤◌, ◌+◌, ◌-◌, ◌*◌, ℕ, ℤ, pos, zero, suc, List, [], ◌∷◌}
use Rattle.std.proofs.Common.{◌++◌, length, get_or, take, drop, map, All, Some, refl, sym, ap, ◌∙◌}
use Rattle.std.proofs.Common.{arith, length-append, append_assoc, replicate, zero-add}
use Rattle.std.proofs.lemmas.List.Elements.{All-nil}
use Rattle.std.proofs.Math.Seq.{drop-append-add}
use Rattle.std.proofs.lemmas.List.{length-replicate, map-append, append-nil, take_rest}
use Rattle.std.proofs.Math.Nat.{suc-mul, zero-mul}
use Rattle.firing_reader.specs.Column.{signed_of}
use Rattle.firing_reader.specs.Plain.{BeginsAtEnd, Passes}
use Rattle.firing_reader.specs.Steps.Arguments.{EndsAlike}
use Rattle.firing_reader.specs.Steps.Plain.{Closes, JoinsField, ReadsArguments}
use Rattle.firings.specs.Arguments.{ten}
use Rattle.firings.specs.Stored.{Extends}
use Rattle.firings.specs.Units.{part}
use Rattle.firing_reader.proofs.PlainFields.{one_joins, one_signed}
use Rattle.firing_reader.proofs.PlainRows.{closes_more, closes_one, passes_more, passes_one}
use Rattle.firings.proofs.Stored.{part_kept, ten_same}

-- ---- arguments that are all the same

-- fields that commas end, and a last one
abbrev alike : List ℕ → ℕ → List ℕ
alike field zero = field
alike field (suc n) = field ++ 44 ∷ alike field n

alike_close : (field : List ℕ) → All JoinsField field → (n : ℕ) (bytes rest : List ℕ) → bytes ≡ alike field n ++ rest → BeginsAtEnd rest → Closes bytes (replicate (suc n) field) rest
alike_close field joins zero bytes rest is end = closes_one bytes field rest end (record { split = is; plain = joins })
alike_close field joins (suc n) bytes rest is end =
    closes_more bytes (alike field n ++ rest) rest (field ∷ []) (replicate (suc n) field)
    (passes_one bytes field (alike field n ++ rest) (record { split = is ∙ append_assoc field (44 ∷ alike field n) rest; plain = joins }))
    (alike_close field joins n (alike field n ++ rest) rest refl end)

-- one that is 0
abbrev nought : List ℕ
nought = 48 ∷ []

nought_read : signed_of nought ≡ Some (pos 0)
nought_read = one_signed 0 (omega arith)

-- the last of ten
alike_after : (field : List ℕ) (k n : ℕ) → drop (k * suc (length field)) (alike field (k + n)) ≡ alike field n
alike_after field zero n = rw (zero-mul (suc (length field)), zero-add n) refl
alike_after field (suc k) n =
    let next : suc k * suc (length field) ≡ length field + suc (k * suc (length field)) = suc-mul k (suc (length field)) ∙ omega arith in
    let more : suc k + n ≡ suc (k + n) = omega arith in
    rw (next, more, drop-append-add field (44 ∷ alike field (k + n)) (suc (k * suc (length field)))) (alike_after field k n)

last_alike : (field : List ℕ) (i n many : ℕ) → n ≤ 9 → i ≡ (9 - n) * suc (length field) → many ≡ length (alike field 9) → take (many - i) (drop i (alike field 9)) ≡ alike field n
last_alike field i n many le index is =
    let nine : 9 - n + n ≡ 9 = omega arith in
    rw (is, take_rest (alike field 9) i, index) (rw nine at (alike_after field (9 - n) n))

pub zeros_end : (count : ℕ) (bytes rest : List ℕ) → 1 ≤ count → count ≤ 10 → (bytes ≡ take (19 - (20 - 2 * count)) (drop (20 - 2 * count) (alike nought 9)) ++ rest) × BeginsAtEnd rest → EndsAlike bytes count rest
zeros_end zero bytes rest least most h = absurd (omega arith)
zeros_end (suc n) bytes rest least most (is, end) =
    (nought, nought_read, alike_close nought (one_joins 0 (omega arith)) n bytes rest (is ∙ ap (λ (l : List ℕ). l ++ rest) (last_alike nought (20 - 2 * suc n) n 19 (omega arith) (omega arith) refl)) end)

pub empty_end : (count : ℕ) (bytes rest : List ℕ) → 1 ≤ count → count ≤ 10 → (bytes ≡ take (9 - (10 - count)) (drop (10 - count) (alike [] 9)) ++ rest) × BeginsAtEnd rest → EndsAlike bytes count rest
empty_end zero bytes rest least most h = absurd (omega arith)
empty_end (suc n) bytes rest least most (is, end) =
    ([], refl, alike_close [] (All-nil JoinsField) n bytes rest (is ∙ ap (λ (l : List ℕ). l ++ rest) (last_alike [] (10 - suc n) n 9 (omega arith) (omega arith) refl)) end)

-- ---- arguments, one after the other

-- the arguments that were read so far, and kept after those of other rows
pub record ReadSoFar (n : ℕ) (bytes rest : List ℕ) (old all : List ℤ) : Type 0 where
  pub fields : List (List ℕ)
  pub values : List ℤ
  pub many : length fields ≡ n
  pub count : length values ≡ n
  pub passes : Passes bytes fields rest
  pub read : map signed_of fields ≡ map (λ a. Some a) values
  pub kept : all ≡ old ++ values

pub none_so_far : (bytes : List ℕ) (old : List ℤ) → ReadSoFar 0 bytes bytes old old
none_so_far bytes old = record {
  fields = [];
  values = [];
  many = refl;
  count = refl;
  passes = λ before tail. rw (append-nil before) refl;
  read = refl;
  kept = sym (append-nil old);
}

pub one_so_far : (n : ℕ) (bytes rest after : List ℕ) (old all new : List ℤ) (field : List ℕ) (value : ℤ) → ReadSoFar n bytes rest old all → Passes rest (field ∷ []) after
    → signed_of field ≡ Some value → new ≡ all ++ value ∷ [] → ReadSoFar (n + 1) bytes after old new
one_so_far n bytes rest after old all new field value h p read is =
    let fields_more = length-append h.fields (field ∷ []) in
    let values_more = length-append h.values (value ∷ []) in
    record {
      fields = h.fields ++ field ∷ [];
      values = h.values ++ value ∷ [];
      many = omega (arith, fields_more, h.many);
      count = omega (arith, values_more, h.count);
      passes = passes_more bytes rest after h.fields (field ∷ []) h.passes p;
      read = map-append signed_of h.fields (field ∷ []) ∙ rw (h.read, read) (sym (map-append (λ (a : ℤ). Some a) h.values (value ∷ [])));
      kept = is ∙ rw h.kept (append_assoc old h.values (value ∷ []));
    }

-- ten fields that were read
ten_read : (fields : List (List ℕ)) (bytes rest : List ℕ) (args : List ℤ) → length fields ≡ 10 → Closes bytes fields rest → map signed_of fields ≡ map (λ a. Some a) args → ReadsArguments bytes rest args
ten_read (x0 ∷ x1 ∷ x2 ∷ x3 ∷ x4 ∷ x5 ∷ x6 ∷ x7 ∷ x8 ∷ x9 ∷ []) bytes rest args many closes read =
    record { x0 = x0; x1 = x1; x2 = x2; x3 = x3; x4 = x4; x5 = x5; x6 = x6; x7 = x7; x8 = x8; x9 = x9; closes = closes; values = read }
ten_read _ bytes rest args many closes read = absurd (omega arith)

-- the arguments of a row are those that were read, and zeros
values_read : (old values all : List ℤ) (k count : ℕ) → all ≡ old ++ values → count ≡ length values → length values + k ≡ 10 → ten (part all (length old) count) ≡ values ++ replicate k (pos 0)
values_read old values all k count is many some =
    let own : part all (length old) count ≡ values = rw many (part_kept old all values is) in
    let size = length-append values (replicate k (pos 0)) in
    let zeros = length-replicate k (pos 0) in
    rw own (ten_same values (values ++ replicate k (pos 0)) (omega (arith, size, zeros)) (λ i. same values i))
  where
    none : (k i : ℕ) → get_or (replicate k (pos 0)) i (pos 0) ≡ pos 0
    none zero i = refl
    none (suc k) zero = refl
    none (suc k) (suc i) = none k i

    same : (values : List ℤ) (i : ℕ) → get_or values i (pos 0) ≡ get_or (values ++ replicate k (pos 0)) i (pos 0)
    same [] i = sym (none k i)
    same (v ∷ values) zero = refl
    same (v ∷ values) (suc i) = same values i

alike_read : (field : List ℕ) → signed_of field ≡ Some (pos 0) → (k : ℕ) → map signed_of (replicate k field) ≡ map (λ a. Some a) (replicate k (pos 0))
alike_read field is zero = refl
alike_read field is (suc k) = rw (is, alike_read field is k) refl

-- fields after them that are written alike and are not kept
pub alike_last : (n k : ℕ) (field bytes rest end : List ℕ) (old all : List ℤ) (first : ℕ) → signed_of field ≡ Some (pos 0) → ReadSoFar n bytes rest old all → Closes rest (replicate k field) end
    → n + k ≡ 10 → first ≡ length old → Extends old all × ((first + n ≤ length all) × ReadsArguments bytes end (ten (part all first n)))
alike_last n k field bytes rest end old all first is h closes some at =
    let size = length-append h.fields (replicate k field) in
    let zeros = length-replicate k field in
    let args = values_read old h.values all k n h.kept (sym h.count) (omega (arith, h.count, some)) in
    let reads : ReadsArguments bytes end (ten (part all first n)) = rw (at, args) (ten_read (h.fields ++ replicate k field) bytes end (h.values ++ replicate k (pos 0)) (omega (arith, size, zeros, h.many, some))
    (closes_more bytes rest end h.fields (replicate k field) h.passes closes)
    (map-append signed_of h.fields (replicate k field) ∙ rw (h.read, alike_read field is k) (sym (map-append (λ (a : ℤ). Some a) h.values (replicate k (pos 0)))))) in
    let stored = length-append old h.values in
    ((h.values, h.kept), (rw h.kept (omega (arith, stored, at, h.count)), reads))

-- the last one
pub value_last : (n : ℕ) (bytes rest end : List ℕ) (old all new : List ℤ) (first : ℕ) (field : List ℕ) (value : ℤ) → n ≡ 9 → ReadSoFar n bytes rest old all → Closes rest (field ∷ []) end
    → signed_of field ≡ Some value → new ≡ all ++ value ∷ [] → first ≡ length old → Extends old new × ((first + 10 ≤ length new) × ReadsArguments bytes end (ten (part new first 10)))
value_last n bytes rest end old all new first field value nine h closes read is at =
    let fields_more = length-append h.fields (field ∷ []) in
    let values_more = length-append h.values (value ∷ []) in
    let kept : new ≡ old ++ (h.values ++ value ∷ []) = is ∙ rw h.kept (append_assoc old h.values (value ∷ [])) in
    let args = values_read old (h.values ++ value ∷ []) new 0 10 kept (omega (arith, values_more, h.count, nine)) (omega (arith, values_more, h.count, nine)) in
    let all_args = args ∙ append-nil (h.values ++ value ∷ []) in
    let reads : ReadsArguments bytes end (ten (part new first 10)) = rw (at, all_args) (ten_read (h.fields ++ field ∷ []) bytes end (h.values ++ value ∷ []) (omega (arith, fields_more, h.many, nine))
    (closes_more bytes rest end h.fields (field ∷ []) h.passes closes)
    (map-append signed_of h.fields (field ∷ []) ∙ rw (h.read, read) (sym (map-append (λ (a : ℤ). Some a) h.values (value ∷ []))))) in
    let stored = length-append old (h.values ++ value ∷ []) in
    ((h.values ++ value ∷ [], kept), (rw kept (omega (arith, stored, values_more, at, h.count, nine)), reads))
