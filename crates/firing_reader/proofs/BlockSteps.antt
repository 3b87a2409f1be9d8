-- What a step of reading blocks does.
use Rattle.std.proofs.Common.{◌≡◌, ◌≢◌, ◌<◌, ◌≤◌, ◌+◌, ◌-◌, ℕ, Bool, true, false, List, []}
use Rattle.std.proofs.Common.{◌∷◌, ◌++◌, length, take, drop, Some, Ok, Err, refl, sym, ap, ◌∙◌}
use Rattle.std.proofs.Common.{append_assoc, append-nil, arith, add-one, cond, inl, inr, length-append}
use Rattle.std.proofs.Common.{drop-drop, length-drop}
use Rattle.std.proofs.lemmas.List.{length-take-le, take-append-drop, take_at}
use Rattle.csv.specs.Reading.{default_config, is_bom, records, strip_bom}
use Rattle.csv.specs.declared.parser.State.TheVariants as st
use Rattle.firing_reader.specs.declared.blocks.Stage.{Stage}
use Rattle.std.specs.Prelude.{◌⊎◌, OnErr, OnOk, Result}
use Rattle.std.specs.declared.alloc.AllocError.{AllocError}
use Rattle.firing_reader.specs.declared.fault.TraceFault.{TraceFault}
use Rattle.firing_reader.specs.declared.fault.TraceFault.TheVariants.{Memory}
use Rattle.firings.specs.declared.firing.Firing.{Firing}
use Rattle.firing_reader.specs.Blocks.{AreRead, Taken}
use Rattle.firing_reader.specs.Pieces.{GoesOn}
use Rattle.firing_reader.specs.Steps.Blocks.{Begins, IsFaultOf, IsReadBy}
use Rattle.firing_reader.specs.Left.{left_in}
use Rattle.firing_reader.specs.Plain.{BeginsAtEnd, rows_after, rows_in}
use Rattle.firing_reader.specs.Steps.RowEnds.{RowsEnd}
use Rattle.firing_reader.specs.Gives.{GivesBy}
use Rattle.firings.specs.Firings.{IsTrace}
use Rattle.firing_reader.specs.Trace.{trace_in, trace_of}
use Rattle.firing_reader.proofs.Kept.{is_trace, rows_trace}
use Rattle.firing_reader.proofs.PlainRows.{all_read, ends_after_end, fault_chunk, goes_both}
use Rattle.firing_reader.proofs.PlainRows.{goes_chunk, goes_feed, goes_reads, goes_rows, skip_end}
use Rattle.firing_reader.proofs.PlainRows.{skip_feed}
use Rattle.firing_reader.proofs.Rows.{trace_err, trace_ok, trace_rows}

-- ---- rows

pub feed_taken : (r : List ℕ) (e : ℕ) → take (e + 1) (10 ∷ r) ≡ 10 ∷ take e r
feed_taken r e = rw add-one refl

split_at : (r : List ℕ) (e : ℕ) → 10 ∷ r ≡ (10 ∷ take e r) ++ drop e r
split_at r e = ap (λ (l : List ℕ). 10 ∷ l) (sym (take-append-drop e r))

-- rows that csv read, after those that were read before
pub rows_read : (a : List Firing) (x : List ℕ) (b : List Firing) (r : List ℕ) (c : List Firing) (e : ℕ) → GoesOn a x b (10 ∷ r) → RowsEnd (take e r) → rows_in b (take (e + 1) (10 ∷ r)) ≡ Ok c → GoesOn a x c (10 ∷ drop (e + 1) (10 ∷ r))
rows_read a x b r c e g ends read =
    let own : rows_in b (10 ∷ take e r) ≡ Ok c = ap (rows_in b) (sym (feed_taken r e)) ∙ read in
    let first = goes_chunk b (10 ∷ take e r) (drop e r) c (ends_after_end 10 (take e r) (inl refl) ends) own in
    let more = goes_both b ((10 ∷ take e r) ++ drop e r) c (drop e r) c (10 ∷ drop e r) first (goes_feed c (drop e r)) in
    rw add-one (goes_both a x b (10 ∷ r) c (10 ∷ drop e r) g (rw (split_at r e) more))

pub fault_of_rows : (a : List Firing) (x : List ℕ) (b : List Firing) (r : List ℕ) (f : TraceFault) (e : ℕ) → GoesOn a x b (10 ∷ r) → RowsEnd (take e r) → (f ≡ Memory) ⊎ (rows_in b (take (e + 1) (10 ∷ r)) ≡ Err f)
    → IsFaultOf f (λ tail. rows_in a (x ++ tail))
fault_of_rows a x b r f e g ends (inl memory) = inl memory
fault_of_rows a x b r f e g ends (inr read) =
    let own : rows_in b (10 ∷ take e r) ≡ Err f = ap (rows_in b) (sym (feed_taken r e)) ∙ read in
    inr (λ tail. goes_reads a x b (10 ∷ r) g tail ∙ ap (λ (l : List ℕ). rows_in b (l ++ tail)) (split_at r e) ∙ fault_chunk b (10 ∷ take e r) (drop e r) f (ends_after_end 10 (take e r) (inl refl) ends) own tail)

-- what is read after rows that were read
pub read_after : (r : Result (Unit {0}) TraceFault) (a : List Firing) (x : List ℕ) (b : List Firing) (y : List ℕ) (c : List Firing) (z : List ℕ) → GoesOn a x b y → IsReadBy r b y c z → IsReadBy r a x c z
read_after (Ok u) a x b y c z g h = goes_both a x b y c z g h
read_after (Err e) a x b y c z g (inl memory) = inl memory
read_after (Err e) a x b y c z g (inr fault) = inr (λ tail. goes_reads a x b y g tail ∙ fault tail)

-- ---- the header

-- what follows three bytes or more has no part in their mark
mark_before : (front rest : List ℕ) → 3 ≤ length front → strip_bom (front ++ rest) ≡ strip_bom front ++ rest
unfolding strip_bom
mark_before [] rest many = absurd (omega arith)
mark_before (a ∷ []) rest many = absurd (omega arith)
mark_before (a ∷ b ∷ []) rest many = absurd (omega arith)
mark_before (a ∷ b ∷ c ∷ front) rest many = by (is_bom a b c)
  where
    by : (m : Bool) → cond m (front ++ rest) (a ∷ b ∷ c ∷ (front ++ rest)) ≡ cond m front (a ∷ b ∷ c ∷ front) ++ rest
    by true = refl
    by false = refl

abbrev pub left : List ℕ → List (List (List ℕ))
left xs = left_in st.StartRecord (Some xs)

records_are : (xs : List ℕ) → records default_config xs ≡ left xs
unfolding left_in
records_are xs = refl

-- the records of bytes up to an index where rows end, and of all of them; this is the text before it
pub record IsCut (x : List ℕ) (end : ℕ) (text : List ℕ) : Type 0 where
  pub own : records default_config (strip_bom (take end x)) ≡ left text
  pub all : (tail : List ℕ) → records default_config (strip_bom (x ++ tail)) ≡ left text ++ left (drop end x ++ tail)

pub cut_at : (x text : List ℕ) (end e : ℕ) → text ≡ strip_bom x → 3 < end → end ≡ (length x - length text) + e → e ≤ length text → length text ≤ length x → RowsEnd (take e text) → IsCut x end (take e text)
cut_at x text end e is many index few short ends =
    let front = take end x in
    let size = length-take-le end x (omega (arith, index, few, short)) in
    let with_rest : (rest : List ℕ) → strip_bom (front ++ rest) ≡ strip_bom front ++ rest = λ rest. mark_before front rest (omega (arith, size, many)) in
    let whole : text ≡ strip_bom front ++ drop end x = is ∙ ap strip_bom (sym (take-append-drop end x)) ∙ with_rest (drop end x) in
    let own : length (strip_bom front) ≡ e = omega (arith, ap length whole, length-append (strip_bom front) (drop end x), length-drop end x, index, few, short) in
    let first : take e text ≡ strip_bom front = ap (take e) whole ∙ take_at (strip_bom front) (drop end x) e own in
    record {
      own = ap (records default_config) (sym first) ∙ records_are (take e text);
      all = λ tail. ap (records default_config) (ap (λ (l : List ℕ). strip_bom (l ++ tail)) (sym (take-append-drop end x)) ∙ ap strip_bom (append_assoc front (drop end x) tail) ∙ with_rest (drop end x ++ tail) ∙ ap (λ (l : List ℕ). l ++ (drop end x ++ tail)) (sym first))
          ∙ records_are (take e text ++ (drop end x ++ tail)) ∙ ends (drop end x ++ tail);
    }

pub begins_csv : (x text : List ℕ) (end : ℕ) (fs : List Firing) → IsCut x end text → trace_of (take end x) ≡ Ok fs → Begins x fs (10 ∷ drop end x)
begins_csv x text end fs cut read =
    let own : trace_in (left text) ≡ Ok fs = ap trace_in (sym cut.own) ∙ read in
    record {
      feed = (drop end x, refl);
      are_read = trace_rows (left text) fs own;
      goes_on = λ tail. ap trace_in (cut.all tail) ∙ trace_ok (left text) (left (drop end x ++ tail)) fs own ∙ ap (rows_after fs) (sym (skip_feed (drop end x ++ tail)));
    }

-- all of the bytes, from the end of the header's row on
pub begins_all : (x : List ℕ) (fs : List Firing) (end : ℕ) → Begins x fs (10 ∷ drop (end + 1) x) → BeginsAtEnd (drop end x) → trace_of x ≡ rows_in fs (drop end x)
begins_all x fs end h (b, after, is, ends) =
    let own : after ≡ drop (end + 1) x = ap (drop 1) (sym is) ∙ drop-drop 1 end x in
    rw (append-nil, append-nil) at (h.goes_on []) ∙ ap (rows_after fs) (skip_feed (drop (end + 1) x) ∙ ap left (sym own) ∙ sym (skip_end b after ends)) ∙ ap (rows_in fs) (sym is)

-- a fault, whatever comes after the bytes, is that of the bytes
pub last_fault : (e : TraceFault) (read : List ℕ → Result (List Firing) TraceFault) (bytes : List ℕ) → IsFaultOf e (λ tail. read (bytes ++ tail)) → (e ≡ Memory) ⊎ (read bytes ≡ Err e)
last_fault e read bytes (inl memory) = inl memory
last_fault e read bytes (inr fault) = inr (sym (ap read (append-nil bytes)) ∙ fault [])

pub fault_of_header : (x text : List ℕ) (end : ℕ) (f : TraceFault) → IsCut x end text → (f ≡ Memory) ⊎ ((trace_of (take end x) ≡ Err f) × (records default_config (strip_bom (take end x)) ≢ []))
    → IsFaultOf f (λ tail. trace_of (x ++ tail))
fault_of_header x text end f cut (inl memory) = inl memory
fault_of_header x text end f cut (inr (read, some)) =
    inr (λ tail. ap trace_in (cut.all tail) ∙ trace_err (left text) (left (drop end x ++ tail)) f (λ none. some (cut.own ∙ none)) (ap trace_in (sym cut.own) ∙ read))

-- ---- a reader

abbrev pub with_left : Stage → List Firing → List ℕ → Taken
with_left s fs x = record { stage = s; firings = fs; left = x }

pub same_left : (r : Result (Unit {0}) AllocError) (s : Stage) (fs : List Firing) (x y : List ℕ) → OnErr r (y ≡ x)
    → OnErr r (with_left s fs y ≡ with_left s fs x)
same_left (Ok _) s fs x y refused = tt
same_left (Err e) s fs x y refused = ap (with_left s fs) refused

pub begins_then : (x : List ℕ) (fs : List Firing) (y : List ℕ) (gs : List Firing) (z : List ℕ) → Begins x fs y → GoesOn fs y gs z → (tail : List ℕ) → rows_in gs (z ++ tail) ≡ trace_of (x ++ tail)
begins_then x fs y gs z h g tail = sym (h.goes_on tail ∙ goes_reads fs y gs z g tail)

pub begins_fault : (x : List ℕ) (fs : List Firing) (y : List ℕ) (e : TraceFault) → Begins x fs y → IsFaultOf e (λ tail. rows_in fs (y ++ tail)) → IsFaultOf e (λ tail. trace_of (x ++ tail))
begins_fault x fs y e h (inl memory) = inl memory
begins_fault x fs y e h (inr fault) = inr (λ tail. h.goes_on tail ∙ fault tail)

pub begins_rows : (x : List ℕ) (fs : List Firing) (y : List ℕ) (gs : List Firing) (z : List ℕ) → Begins x fs y → GoesOn fs y gs z → AreRead gs
begins_rows x fs y gs z h g = goes_rows fs y gs z g h.are_read

-- what a call leaves is a trace where it read the bytes of a whole one
pub whole_is_trace : (r : Result (Unit {0}) TraceFault) (bytes : List ℕ) (fs : List Firing) → GivesBy (λ _. fs) r (trace_of bytes) → OnOk r (IsTrace fs)
whole_is_trace (Ok _) bytes fs read = is_trace bytes fs read
whole_is_trace (Err e) bytes fs read = tt

-- and where it read rows after those of one
pub rest_is_trace : (r : Result (Unit {0}) TraceFault) (a : List Firing) (bytes : List ℕ) (fs : List Firing) → GivesBy (λ _. fs) r (rows_in a bytes) → AreRead a → OnOk r (IsTrace fs)
rest_is_trace (Ok _) a bytes fs read are_read = let (rows, all) = all_read a bytes fs read are_read in rows_trace rows fs all
rest_is_trace (Err e) a bytes fs read are_read = tt
