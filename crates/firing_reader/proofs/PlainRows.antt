-- What csv reads of bytes that begin with a plain field.
use Rattle.std.proofs.Common.{◌≡◌, ◌<◌, ◌≤◌, ◌+◌, ◌-◌, ℕ, suc, false, List, [], ◌∷◌, ◌++◌, length}
use Rattle.std.proofs.Common.{Some, Ok, Err, refl, sym, ap, ◌∙◌, append_assoc, arith, add-one, inl}
use Rattle.std.proofs.Common.{inr, All, drop, slice_index_or, take, take_all}
use Rattle.std.specs.Prelude.{◌==◌}
use Rattle.std.proofs.lemmas.Bool.{ne_eqb}
use Rattle.std.proofs.lemmas.List.Elements.{All-cons, All-head, All-nil, All-tail}
use Rattle.std.proofs.lemmas.List.{append-nil}
use Rattle.csv.specs.Machine.{next_record}
use Rattle.csv.specs.Reading.{default_config, records, records_from, strip_bom}
use Rattle.csv.specs.declared.parser.State.TheVariants as st
use Rattle.csv.proofs.RoundTrip.{start-same, record-same}
use Rattle.firings.specs.declared.firing.Firing.{Firing}
use Rattle.firing_reader.specs.declared.fault.TraceFault.{TraceFault}
use Rattle.firing_reader.specs.Left.{left_in}
use Rattle.firing_reader.specs.Blocks.{AreRead}
use Rattle.firing_reader.specs.Plain.{rows_after, rows_in}
use Rattle.firing_reader.specs.Pieces.{GoesOn}
use Rattle.firing_reader.specs.Steps.Plain.{Closes, BeginsWith, JoinsField, Leaves}
use Rattle.firing_reader.specs.Plain.{BeginsAtEnd, IsEnd, Passes, ReadsRow, state_after}
use Rattle.firing_reader.specs.Steps.RowEnds.{RowsEnd}
use Rattle.firings.specs.Firings.{last_number}
use Rattle.firing_reader.proofs.Left.{ends_bytes, enough, left_more, shorter}
use Rattle.firing_reader.proofs.RowEnds.{left_return}
use Rattle.firing_reader.proofs.Rows.{after_err, after_none, after_ok, one_row, rows_first}

-- the bytes of a field
in_field : (fields : List (List ℕ)) (so_far x rest : List ℕ) → All JoinsField x
    → next_record default_config st.InField fields so_far (x ++ rest) ≡ next_record default_config st.InField fields (so_far ++ x) rest
unfolding next_record
in_field fields so_far [] rest h = rw (append-nil so_far) refl
in_field fields so_far (b ∷ x) rest h =
    let joins = All-head JoinsField b x h in
    rw (ne_eqb b 44 joins.0, ne_eqb b 13 joins.2, ne_eqb b 10 joins.3) (in_field fields (so_far ++ (b ∷ [])) x rest (All-tail JoinsField b x h)
    ∙ ap (λ (f : List ℕ). next_record default_config st.InField fields f rest) (append_assoc so_far (b ∷ []) x))

-- a field from its start, up to a byte that is no quote
from_start : (fields : List (List ℕ)) (x : List ℕ) (c : ℕ) (rest : List ℕ) → (c == 34) ≡ false → All JoinsField x
    → next_record default_config st.StartField fields [] (x ++ (c ∷ rest)) ≡ next_record default_config st.InField fields x (c ∷ rest)
from_start fields [] c rest n h = start-same fields [] c rest n
from_start fields (b ∷ x) c rest n h = start-same fields [] b (x ++ (c ∷ rest)) (ne_eqb b 34 (All-head JoinsField b x h).1) ∙ in_field fields [] (b ∷ x) (c ∷ rest) h

pub passes_one : (bytes field rest : List ℕ) → BeginsWith bytes field (44 ∷ rest) → Passes bytes (field ∷ []) rest
unfolding next_record
passes_one bytes field rest h before tail = rw (h.split, append_assoc field (44 ∷ rest) tail) (from_start before field 44 (rest ++ tail) refl h.plain ∙ refl)

-- the byte that ends a row is no quote, and ends the record of a field
no_quote : (end : ℕ) → IsEnd end → (end == 34) ≡ false
no_quote end (inl feed) = rw feed refl
no_quote end (inr back) = rw back refl

at_end : (end : ℕ) → IsEnd end → (fields : List (List ℕ)) (x rest : List ℕ) → next_record default_config st.InField fields x (end ∷ rest) ≡ Some (fields ++ x ∷ [], state_after end, rest)
unfolding next_record
at_end end (inl feed) fields x rest = rw feed refl
at_end end (inr back) fields x rest = rw back refl

pub closes_one : (bytes field rest : List ℕ) → (end : ℕ) × (after : List ℕ) × (rest ≡ end ∷ after) × IsEnd end → BeginsWith bytes field rest → Closes bytes (field ∷ []) rest
closes_one bytes field rest (end, after, is, ends) h = record {
  end = end;
  after = after;
  is_rest = is;
  ends = ends;
  read = λ before tail. rw (h.split, is, append_assoc field (end ∷ after) tail) (from_start before field end (after ++ tail) (no_quote end ends) h.plain ∙ at_end end ends before field (after ++ tail));
}

pub passes_more : (a b c : List ℕ) (f g : List (List ℕ)) → Passes a f b → Passes b g c → Passes a (f ++ g) c
passes_more a b c f g p q before tail = p before tail ∙ q (before ++ f) tail ∙ ap (λ (fs : List (List ℕ)). next_record default_config st.StartField fs [] (c ++ tail)) (append_assoc before f g)

pub closes_more : (a b c : List ℕ) (f g : List (List ℕ)) → Passes a f b → Closes b g c → Closes a (f ++ g) c
closes_more a b c f g p q = record {
  end = q.end;
  after = q.after;
  is_rest = q.is_rest;
  ends = q.ends;
  read = λ before tail. p before tail ∙ q.read (before ++ f) tail ∙ ap (λ (fs : List (List ℕ)). Some (fs, state_after q.end, q.after ++ tail)) (append_assoc before f g);
}

-- fields that nothing is left of pass at the front of any bytes
pub unit_passes : (key rest bytes : List ℕ) (fields : List (List ℕ)) → Passes key fields [] → bytes ≡ key ++ rest → Passes bytes fields rest
unit_passes key rest bytes fields p is before tail = rw (is, append_assoc key rest tail) (p before (rest ++ tail))

-- ends of rows before a record are nothing
ends_skipped : (ends line : List ℕ) → All IsEnd ends → next_record default_config st.StartRecord [] [] (ends ++ line) ≡ next_record default_config st.StartRecord [] [] line
unfolding next_record
ends_skipped [] line all = refl
ends_skipped (end ∷ ends) line all = by (All-head IsEnd end ends all) (ends_skipped ends line (All-tail IsEnd end ends all))
  where
    by : IsEnd end → next_record default_config st.StartRecord [] [] (ends ++ line) ≡ next_record default_config st.StartRecord [] [] line
        → next_record default_config st.StartRecord [] [] ((end ∷ ends) ++ line) ≡ next_record default_config st.StartRecord [] [] line
    by (inl feed) more = rw feed more
    by (inr back) more = rw back more

-- the end of a row, and what comes after it
pub one_end : (bytes : List ℕ) → 1 ≤ length bytes → IsEnd (slice_index_or bytes 0 0) → (ends : List ℕ) × (bytes ≡ ends ++ take (length bytes - 1) (drop 1 bytes)) × All IsEnd ends
one_end [] some is_end = absurd (omega (arith, some))
one_end (b ∷ rest) some is_end = (b ∷ [], ap (λ (l : List ℕ). b ∷ l) (sym (take_all (length (b ∷ rest) - 1) rest (omega arith))), All-cons IsEnd b [] is_end (All-nil IsEnd))

-- a row between two records, after the end of the one before
pub row_read : (bytes ends line rest : List ℕ) (fields : List (List ℕ)) (first : ℕ) (more : List ℕ) → bytes ≡ ends ++ line → All IsEnd ends → line ≡ first ∷ more → JoinsField first
    → (c : Closes line fields rest) → (tail : List ℕ) → next_record default_config st.StartRecord [] [] (bytes ++ tail) ≡ Some (fields, state_after c.end, c.after ++ tail)
row_read bytes ends line rest fields first more is all starts joins c tail =
    let own : next_record default_config st.StartRecord [] [] (line ++ tail) ≡ next_record default_config st.StartField [] [] (line ++ tail) = rw starts (record-same [] [] first (more ++ tail) (ne_eqb first 13 joins.2) (ne_eqb first 10 joins.3)) in
    rw (is, append_assoc ends line tail) (ends_skipped ends (line ++ tail) all ∙ own ∙ c.read [] tail)

-- the end of a row before a record is nothing
pub skip_feed : (xs : List ℕ) → left_in st.StartRecord (Some (10 ∷ xs)) ≡ left_in st.StartRecord (Some xs)
unfolding left_in records_from next_record
skip_feed xs = rw add-one (enough default_config (suc (suc (length xs))) (length xs + 1) st.StartRecord xs refl (omega arith) (omega arith))

skip_return : (xs : List ℕ) → left_in st.StartRecord (Some (13 ∷ xs)) ≡ left_in st.StartRecord (Some xs)
unfolding left_in records_from next_record
skip_return xs = rw add-one (enough default_config (suc (suc (length xs))) (length xs + 1) st.StartRecord xs refl (omega arith) (omega arith))

pub skip_end : (end : ℕ) (xs : List ℕ) → IsEnd end → left_in st.StartRecord (Some (end ∷ xs)) ≡ left_in st.StartRecord (Some xs)
skip_end end xs (inl feed) = rw feed (skip_feed xs)
skip_end end xs (inr back) = rw back (skip_return xs)

end_no_mark : (end : ℕ) (xs : List ℕ) → IsEnd end → strip_bom (end ∷ xs) ≡ end ∷ xs
unfolding strip_bom
end_no_mark end [] h = refl
end_no_mark end (a ∷ []) h = refl
end_no_mark end (a ∷ b ∷ rest) (inl feed) = rw feed refl
end_no_mark end (a ∷ b ∷ rest) (inr back) = rw back refl

-- the records of bytes that begin at the end of a row
pub left_end : (bytes : List ℕ) → BeginsAtEnd bytes → records default_config (strip_bom bytes) ≡ left_in st.StartRecord (Some bytes)
unfolding left_in
left_end bytes (end, after, is, ends) = rw (is, end_no_mark end after ends) refl

-- csv goes on after a row's end as it does from that end on
pub after_row : (end : ℕ) (rest after tail : List ℕ) → rest ≡ end ∷ after → IsEnd end → left_in (state_after end) (Some (after ++ tail)) ≡ left_in st.StartRecord (Some (rest ++ tail))
after_row end rest after tail is ends = by ends ∙ sym (ap (λ (l : List ℕ). left_in st.StartRecord (Some (l ++ tail))) is ∙ skip_end end (after ++ tail) ends)
  where
    by : IsEnd end → left_in (state_after end) (Some (after ++ tail)) ≡ left_in st.StartRecord (Some (after ++ tail))
    by (inl feed) = rw feed refl
    by (inr back) = rw back (left_return (after ++ tail))

-- a row is the next record, and the rest comes after it
pub row_taken : (bytes rest tail : List ℕ) (f : Firing) (h : ReadsRow bytes rest f) → left_in st.StartRecord (Some (bytes ++ tail)) ≡ h.fields ∷ left_in st.StartRecord (Some (rest ++ tail))
row_taken bytes rest tail f h =
    (left_more st.StartRecord (bytes ++ tail) (h.fields, state_after h.end, h.after ++ tail) refl (h.read tail)).0
    ∙ ap (λ (l : List (List (List ℕ))). h.fields ∷ l) (after_row h.end rest h.after tail h.is_rest h.ends)

pub goes_first : (firings : List Firing) (bytes : List ℕ) → GoesOn firings bytes firings bytes
goes_first firings bytes = record { rows = []; read = after_none firings; taken = λ tail. refl }

-- one more row
pub goes_row : (old : List Firing) (bytes : List ℕ) (firings : List Firing) (mid : List ℕ) (f : Firing) (rest : List ℕ) → ReadsRow mid rest f → last_number firings < f.number → length firings + 1 ≤ 1_000_000
    → GoesOn old bytes firings mid → GoesOn old bytes (firings ++ f ∷ []) rest
goes_row old bytes firings mid f rest h rises few g = record {
  rows = g.rows ++ h.fields ∷ [];
  read = after_ok old g.rows (h.fields ∷ []) firings g.read ∙ one_row firings f h.fields [] (h.firing (length firings + 1) (last_number firings) few rises) ∙ after_none (firings ++ f ∷ []);
  taken = λ tail. g.taken tail ∙ ap (λ (l : List (List (List ℕ))). g.rows ++ l) (row_taken mid rest tail f h) ∙ sym (append_assoc g.rows (h.fields ∷ []) (left_in st.StartRecord (Some (rest ++ tail))));
}

pub goes_both : (a : List Firing) (x : List ℕ) (b : List Firing) (y : List ℕ) (c : List Firing) (z : List ℕ) → GoesOn a x b y → GoesOn b y c z → GoesOn a x c z
goes_both a x b y c z g h = record {
  rows = g.rows ++ h.rows;
  read = after_ok a g.rows h.rows b g.read ∙ h.read;
  taken = λ tail. g.taken tail ∙ ap (λ (l : List (List (List ℕ))). g.rows ++ l) (h.taken tail) ∙ sym (append_assoc g.rows h.rows (left_in st.StartRecord (Some (z ++ tail))));
}

pub leaves_first : (bytes : List ℕ) → BeginsAtEnd bytes → Leaves bytes bytes
leaves_first bytes (end, after, is, ends) = record { first = end; front = []; end = end; after = after; is_bytes = is; is_rest = is; ends = ends }

pub leaves_row : (bytes mid : List ℕ) (f : Firing) (rest : List ℕ) → Leaves bytes mid → ReadsRow mid rest f → Leaves bytes rest
leaves_row bytes mid f rest g h =
    let read : next_record default_config st.StartRecord [] [] mid ≡ Some (h.fields, state_after h.end, h.after) = rw (append-nil mid, append-nil h.after) at (h.read []) in
    let less = (shorter default_config st.StartRecord mid (h.fields, state_after h.end, h.after) refl read).1 in
    let (front, is) = ends_bytes default_config st.StartRecord [] [] mid (h.fields, state_after h.end, h.after) read in
    by front is less
  where
    by : (front : List ℕ) → mid ≡ front ++ h.after → length h.after < length mid → Leaves bytes rest
    by [] is less = absurd (omega (arith, ap length is))
    by (b ∷ more) is less =
        let after : g.after ≡ more ++ h.after = cc (g.is_rest, is) in
        record {
          first = g.first;
          front = g.front ++ more;
          end = h.end;
          after = h.after;
          is_bytes = g.is_bytes ∙ ap (λ (l : List ℕ). g.first ∷ l) (ap (λ (l : List ℕ). g.front ++ l) after ∙ sym (append_assoc g.front more h.after));
          is_rest = h.is_rest;
          ends = h.ends;
        }

-- bytes where rows end, which csv reads
pub goes_chunk : (a : List Firing) (chunk rest : List ℕ) (b : List Firing) → RowsEnd chunk → rows_in a chunk ≡ Ok b → GoesOn a (chunk ++ rest) b rest
goes_chunk a chunk rest b ends read = record {
  rows = left_in st.StartRecord (Some chunk);
  read = read;
  taken = λ tail. rw (append_assoc chunk rest tail) (ends (rest ++ tail));
}

pub fault_chunk : (a : List Firing) (chunk rest : List ℕ) (e : TraceFault) → RowsEnd chunk → rows_in a chunk ≡ Err e → (tail : List ℕ) → rows_in a ((chunk ++ rest) ++ tail) ≡ Err e
fault_chunk a chunk rest e ends read tail = rw (append_assoc chunk rest tail) (ap (rows_after a) (ends (rest ++ tail)) ∙ after_err a (left_in st.StartRecord (Some chunk)) (left_in st.StartRecord (Some (rest ++ tail))) e read)

-- a line feed where a row ended
pub goes_feed : (firings : List Firing) (bytes : List ℕ) → GoesOn firings bytes firings (10 ∷ bytes)
goes_feed firings bytes = record { rows = []; read = after_none firings; taken = λ tail. sym (skip_feed (bytes ++ tail)) }

-- any other end of a row in its place
pub goes_end : (a : List Firing) (x : List ℕ) (b : List Firing) (end other : ℕ) (y : List ℕ) → IsEnd end → IsEnd other → GoesOn a x b (end ∷ y) → GoesOn a x b (other ∷ y)
goes_end a x b end other y is_end is_other g = record {
  rows = g.rows;
  read = g.read;
  taken = λ tail. g.taken tail ∙ ap (λ (l : List (List (List ℕ))). g.rows ++ l) (skip_end end (y ++ tail) is_end ∙ sym (skip_end other (y ++ tail) is_other));
}

pub ends_after_end : (end : ℕ) (bytes : List ℕ) → IsEnd end → RowsEnd bytes → RowsEnd (end ∷ bytes)
ends_after_end end bytes is_end ends rest = skip_end end (bytes ++ rest) is_end ∙ ends rest ∙ ap (λ (l : List (List (List ℕ))). l ++ left_in st.StartRecord (Some rest)) (sym (skip_end end bytes is_end))

pub goes_reads : (a : List Firing) (x : List ℕ) (b : List Firing) (y : List ℕ) → GoesOn a x b y → (tail : List ℕ) → rows_in a (x ++ tail) ≡ rows_in b (y ++ tail)
goes_reads a x b y g tail = ap (rows_after a) (g.taken tail) ∙ after_ok a g.rows (left_in st.StartRecord (Some (y ++ tail))) b g.read

-- with nothing more to come
pub goes_all : (a : List Firing) (x : List ℕ) (b : List Firing) (y : List ℕ) → GoesOn a x b y → rows_in a x ≡ rows_in b y
goes_all a x b y g = rw (append-nil x, append-nil y) at (goes_reads a x b y g [])

pub goes_rows : (a : List Firing) (x : List ℕ) (b : List Firing) (y : List ℕ) → GoesOn a x b y → AreRead a → AreRead b
goes_rows a x b y g (rows, read) = (rows ++ g.rows, sym (rows_first (rows ++ g.rows)) ∙ after_ok [] rows g.rows a (rows_first rows ∙ read) ∙ g.read)

pub all_read : (a : List Firing) (bytes : List ℕ) (b : List Firing) → rows_in a bytes ≡ Ok b → AreRead a → AreRead b
all_read a bytes b all (rows, read) = (rows ++ left_in st.StartRecord (Some bytes), sym (rows_first (rows ++ left_in st.StartRecord (Some bytes))) ∙ after_ok [] rows (left_in st.StartRecord (Some bytes)) a (rows_first rows ∙ read) ∙ all)
