-- A trace with one more row.
use Rattle.std.proofs.Common.{◌≤◌, ◌+◌, ◌++◌, ℕ, List, refl, sym, subst, arith}
use Rattle.recording_rows.specs.declared.row.Row.{Row}
use Rattle.recording_rows.specs.Steps.Blocks.{IsWritten}
use Rattle.recording_rows.specs.Steps.Rows.{IsRow, line_of, row_fields}
use Rattle.recording_rows.proofs.Firings.{firing_of, row_firing, row_plain, row_writes}
use Rattle.recording_rows.proofs.Lines.{line_text}
use Rattle.recording_rows.proofs.More.{one_more}

pub row_added : (bytes : List ℕ) (count : ℕ) (r : Row) → IsWritten bytes count → count + 1 ≤ 1_000_000 → IsRow r → IsWritten (bytes ++ line_of (row_fields (count + 1) r)) (count + 1)
row_added bytes count r w few g =
    subst (λ (l : List ℕ). IsWritten (bytes ++ l) (count + 1)) (sym (line_text _ _ _ (row_plain (count + 1) r few g)))
    (one_more bytes count (row_fields (count + 1) r) (firing_of (count + 1) r) w few refl (row_writes (count + 1) r few g) (row_firing (count + 1) r (omega arith) few g))
