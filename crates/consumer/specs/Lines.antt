-- The program's line on standard error: a reason, and where the fault is.
use Rattle.std.specs.Prelude.{ℕ, ℤ, List, [], ◌++◌, codes}
use Rattle.std.specs.Fmt.{decimal, signed_decimal}
use Rattle.consumer.specs.declared.reason.Place.{Place}
use Rattle.consumer.specs.declared.reason.Place.TheVariants.{Nowhere, Line, Row, Field, Thread}
use Rattle.consumer.specs.declared.reason.Reason.{Reason}

abbrev pub line_part : ℕ → List ℕ
line_part line = codes " line " ++ decimal line

abbrev pub row_part : ℕ → List ℕ
row_part row = codes " row " ++ decimal row

abbrev pub column_part : ℕ → List ℕ
column_part column = codes " column " ++ decimal column

abbrev pub thread_part : ℤ → List ℕ
thread_part thread = codes " thread " ++ signed_decimal thread

-- where a fault is
abbrev pub place_bytes : Place → List ℕ
place_bytes Nowhere = []
place_bytes (Line line) = line_part line
place_bytes (Row row) = row_part row
place_bytes (Field row column) = row_part row ++ column_part column
place_bytes (Thread thread) = thread_part thread

abbrev pub reason_bytes : Reason → List ℕ
reason_bytes r = r.text.now ++ place_bytes r.place
