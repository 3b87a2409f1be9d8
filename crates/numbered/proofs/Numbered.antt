-- Texts and their numbers.
use Rattle.std.specs.Prelude.{◌<◌, ℕ, List, []}
use Rattle.std.proofs.Common.{arith, sym, ◌∙◌, get_or, true≢false}
use Rattle.std.specs.List.{IsDistinct}
use Rattle.std.proofs.lemmas.Map.Keys.{apart_from_distinct}
use Rattle.std.proofs.lemmas.Option.{get_or_from_slice_get, slice_get_within}
use Rattle.d_values.specs.Texts.{same_text, same_text_decides}
use Rattle.numbered.specs.Texts.{AreDistinct, IsNumberOf}

not_before : (texts : List (List ℕ)) (m n : ℕ) (bytes : List ℕ) → IsDistinct same_text texts → IsNumberOf texts m bytes → IsNumberOf texts n bytes → m < n → ⊥
not_before texts m n bytes distinct first second before =
    let apart = apart_from_distinct same_text texts m n [] distinct before (slice_get_within texts n bytes second) in
    let same = (same_text_decides (get_or texts m []) (get_or texts n [])).1 (get_or_from_slice_get texts m bytes [] first ∙ sym (get_or_from_slice_get texts n bytes [] second)) in
    true≢false (sym same ∙ apart)

pub distinct_numbers : (texts : List (List ℕ)) → IsDistinct same_text texts → AreDistinct texts
distinct_numbers texts distinct m n bytes first second =
    let above : m < n → ⊥ = not_before texts m n bytes distinct first second in
    let below : n < m → ⊥ = not_before texts n m bytes distinct second first in
    omega arith
