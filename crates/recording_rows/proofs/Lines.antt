-- What csv reads of the rows that are written.
use Rattle.std.proofs.Common.{◌≡◌, ◌<◌, ◌≤◌, ◌+◌, ℕ, zero, suc, true, cond, List, [], ◌∷◌, ◌++◌, length, refl, sym, ap, ◌∙◌, arith, length-append, map, subst}
use Rattle.std.specs.Prelude.{codes}
use Rattle.std.specs.List.{AllZip, list_all}
use Rattle.std.proofs.lemmas.Bool.{and_parts}
use Rattle.csv.specs.Machine.{next_record}
use Rattle.csv.specs.Records.{field_at}
use Rattle.csv.specs.Reading.{default_config, records, records_from, strip_bom}
use Rattle.csv.specs.Writing.{default_writer, fields_text, is_blank, read_back, row_body, row_text}
use Rattle.csv.specs.declared.parser.State.TheVariants as st
use Rattle.csv.proofs.RoundTrip.{read-write}
use Rattle.firings.specs.declared.firing.Firing.{Firing}
use Rattle.firing_reader.specs.Written.{WritesFiring, WritesTrace}
use Rattle.recording_rows.specs.Steps.Rows.{after_commas, line_of}
use Rattle.recording_rows.specs.Words.{is_plain_byte}
use Rattle.recording_rows.specs.Steps.Blocks.{IsHeading, IsWritten, rows_text}
use Rattle.recording_rows.proofs.Plain.{as_it_is}

-- plain fields are written as they are
commas_text : (xs : List (List ℕ)) → list_all (list_all is_plain_byte) xs ≡ true → fields_text default_writer xs ≡ after_commas xs
unfolding fields_text
commas_text [] e = refl
commas_text (x ∷ xs) e =
    let both = and_parts (list_all is_plain_byte x) (list_all (list_all is_plain_byte) xs) e in
    rw (as_it_is x both.0) (ap (λ (l : List ℕ). 44 ∷ (x ++ l)) (commas_text xs both.1))

pub line_text : (x y : List ℕ) (ys : List (List ℕ)) → list_all (list_all is_plain_byte) (x ∷ y ∷ ys) ≡ true → line_of (x ∷ y ∷ ys) ≡ row_text default_writer (x ∷ y ∷ ys)
unfolding is_blank
line_text x y ys e =
    let both = and_parts (list_all is_plain_byte x) (list_all (list_all is_plain_byte) (y ∷ ys)) e in
    rw (as_it_is x both.0) (ap (λ (l : List ℕ). (x ++ l) ++ 10 ∷ []) (sym (commas_text (y ∷ ys) both.1)))

-- each row is read
row_long : (row : List (List ℕ)) → 1 ≤ length (row_text default_writer row)
row_long row =
    let blank : List ℕ = cond (is_blank default_writer row) (34 ∷ 34 ∷ []) [] in
    omega (arith, length-append (row_body default_writer row) (blank ++ 10 ∷ []), length-append blank (10 ∷ []))

reads_back : (n : ℕ) (rows : List (List (List ℕ))) → length (rows_text rows) < n → records_from default_config n st.StartRecord (rows_text rows) ≡ map read_back rows
unfolding records_from next_record
reads_back zero rows lt = absurd (omega (arith, lt))
reads_back (suc n) [] lt = refl
reads_back (suc n) (row ∷ rows) lt =
    let less : length (rows_text rows) < n = omega (arith, lt, row_long row, length-append (row_text default_writer row) (rows_text rows)) in
    rw (read-write row (rows_text rows)) (ap (λ (t : List (List (List ℕ))). read_back row ∷ t) (reads_back n rows less))

full_back : (rows : List (List (List ℕ))) (fs : List Firing) → AllZip WritesFiring rows fs → map read_back rows ≡ rows
full_back [] fs each = refl
full_back (fields ∷ rows) [] each = absurd each
full_back ([] ∷ rows) (f ∷ fs) each = absurd (omega (arith, each.0.columns))
full_back ((x ∷ xs) ∷ rows) (f ∷ fs) each = ap (λ (l : List (List (List ℕ))). (x ∷ xs) ∷ l) (full_back rows fs each.1)

-- the fields of the header
unfoldable pub columns : List (List ℕ)
columns = codes "number" ∷ codes "cpu" ∷ codes "thread" ∷ codes "pid" ∷ codes "execname"
    ∷ codes "time" ∷ codes "provider" ∷ codes "module" ∷ codes "function" ∷ codes "name"
    ∷ codes "arg0" ∷ codes "arg1" ∷ codes "arg2" ∷ codes "arg3" ∷ codes "arg4"
    ∷ codes "arg5" ∷ codes "arg6" ∷ codes "arg7" ∷ codes "arg8" ∷ codes "arg9" ∷ []

no_mark : (rows : List (List (List ℕ))) → strip_bom (line_of columns ++ rows_text rows) ≡ rows_text (columns ∷ rows)
unfolding strip_bom fields_text is_blank columns
no_mark rows = refl

pub heads : IsHeading (line_of columns)
unfolding field_at columns
heads rows fs each trace =
    let text = rows_text (columns ∷ rows) in
    let read : records default_config text ≡ columns ∷ rows = reads_back (length text + 1) (columns ∷ rows) (omega arith) ∙ ap (λ (l : List (List (List ℕ))). columns ∷ l) (full_back rows fs each) in
    record { header = columns; rows = rows; has = ap (records default_config) (no_mark rows) ∙ read; named = refl; each = each; trace = trace }

pub writes_trace : (bytes : List ℕ) (count : ℕ) → IsWritten bytes count → (fs : List Firing) × WritesTrace bytes fs
writes_trace bytes count w = (w.firings, subst (λ (l : List ℕ). WritesTrace l w.firings) (sym w.text) (w.is_heading w.rows w.firings w.each w.trace))
