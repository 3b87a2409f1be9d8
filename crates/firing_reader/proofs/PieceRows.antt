-- Rows that are read piece by piece.
use Rattle.std.proofs.Common.{◌≡◌, ℕ, List, [], ◌∷◌, ◌++◌, Some, refl, sym, ap, ◌∙◌, append_assoc}
use Rattle.std.proofs.lemmas.List.{append-nil}
use Rattle.csv.specs.Machine.{next_record}
use Rattle.csv.specs.declared.parser.State.TheVariants as st
use Rattle.firings.specs.declared.firing.Firing.{Firing}
use Rattle.firing_reader.specs.Left.{left_in}
use Rattle.firing_reader.specs.Plain.{IsEnd, ReadsRow, ReadsRows}
use Rattle.firing_reader.proofs.Left.{left_none}
use Rattle.firing_reader.proofs.PlainRows.{row_taken, skip_end}

row_tail : (a b t : List ℕ) (f : Firing) → ReadsRow a b f → ReadsRow (a ++ t) (b ++ t) f
row_tail a b t f h = record {
  fields = h.fields;
  end = h.end;
  after = h.after ++ t;
  is_rest = ap (λ (l : List ℕ). l ++ t) h.is_rest;
  ends = h.ends;
  read = λ tail. rw (append_assoc a t tail, append_assoc h.after t tail) (h.read (t ++ tail));
  firing = h.firing;
}

-- what comes after the rows changes none of them
pub rows_tail : (a : List ℕ) (fs : List Firing) (b t : List ℕ) → ReadsRows a fs b → ReadsRows (a ++ t) fs (b ++ t)
unfolding ReadsRows
rows_tail a [] b t h = ap (λ (l : List ℕ). l ++ t) h
rows_tail a (f ∷ fs) b t (mid, row, more) = (mid ++ t, row_tail a mid t f row, rows_tail mid fs b t more)

pub rows_join : (a : List ℕ) (fs : List Firing) (b : List ℕ) (gs : List Firing) (c : List ℕ) → ReadsRows a fs b → ReadsRows b gs c → ReadsRows a (fs ++ gs) c
unfolding ReadsRows
rows_join a [] b gs c h k = rw h k
rows_join a (f ∷ fs) b gs c (mid, row, more) k = (mid, row, rows_join mid fs b gs c more k)

-- two pieces of bytes that share the end of the row between them, read apart
pub pieces : (end : ℕ) (a : List ℕ) (fs : List Firing) (b : List ℕ) (gs : List Firing) (c : List ℕ) → ReadsRows a fs (end ∷ []) → ReadsRows (end ∷ b) gs c → ReadsRows (a ++ b) (fs ++ gs) c
pieces end a fs b gs c h k = rows_join (a ++ b) fs (end ∷ b) gs c (rows_tail a fs (end ∷ []) b h) k

none_left : left_in st.StartRecord (Some []) ≡ []
unfolding next_record
none_left = left_none st.StartRecord [] refl

-- the end of a row alone has no record
pub only_end : (end : ℕ) → IsEnd end → left_in st.StartRecord (Some (end ∷ [])) ≡ []
only_end end is = skip_end end [] is ∙ none_left

-- where rows end, records end
pub records_join : (end : ℕ) → IsEnd end → (a : List ℕ) (fs : List Firing) (b : List ℕ) → ReadsRows a fs (end ∷ [])
    → left_in st.StartRecord (Some (a ++ b)) ≡ left_in st.StartRecord (Some a) ++ left_in st.StartRecord (Some b)
unfolding ReadsRows
records_join end is_end a [] b is = rw (is, skip_end end b is_end, only_end end is_end) refl
records_join end is_end a (f ∷ fs) b (mid, h, more) =
    let one : left_in st.StartRecord (Some a) ≡ h.fields ∷ left_in st.StartRecord (Some mid) = rw (append-nil a, append-nil mid) at (row_taken a mid [] f h) in
    row_taken a mid b f h ∙ ap (λ (l : List (List (List ℕ))). h.fields ∷ l) (records_join end is_end mid fs b more)
    ∙ sym (ap (λ (l : List (List (List ℕ))). l ++ left_in st.StartRecord (Some b)) one)
