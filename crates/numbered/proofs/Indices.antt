-- Entries by their index.
use Rattle.std.specs.Prelude.{◌≡◌, ℕ, Bool, true, false, if◌then◌else◌, List, Option, None, Some, unwrap_or, not, ◌==◌, filter, slice_get}
use Rattle.std.proofs.Common.{ap, ◌∙◌, sym, subst, refl, cond}
use Rattle.std.specs.Bool.{Decides}
use Rattle.std.specs.Cmp.Lexicographic.{nat_list_eq_equiv}
use Rattle.std.specs.List.{IsDistinct}
use Rattle.std.specs.Map.{lookup, lookup_key, keys_of}
use Rattle.std.proofs.lemmas.Map.Made.{lookup_key_same}
use Rattle.std.proofs.lemmas.Bool.Decides.{Decides-eqb}
use Rattle.std.proofs.lemmas.Map.Entries.{lookup-filter-values, option_filter}
use Rattle.numbered.specs.Indices.{IsAt}
use Rattle.numbered.specs.Tables.{Entries, entry_in, same_words, with_word, word_in}

module _ {K V : Type 0} {same : K → K → Bool} (entries : List (K × V)) (i : ℕ) (key k : K) (held : V) (entry : slice_get entries i ≡ Some (k, held)) where
  -- the entry at an index
  pub found_here : k ≡ key → lookup (same k) entries ≡ Some held → IsAt same entries i key
  found_here is found = subst (IsAt same entries i) is (record { held = held; entry = entry; found = found })

  -- what a look-up by a hash finds
  pub found_there : ((x y : K) → Decides (same x y) (x ≡ y)) → lookup_key (same key) entries ≡ Some k → lookup (same key) entries ≡ Some held → IsAt same entries i key
  found_there decides by found =
      let is = lookup_key_same decides key entries k by in
      found_here (sym is) (ap (λ k. lookup (same k) entries) (sym is) ∙ found)

-- a word of 0 reads as none does
zero_reads : (o : Option ℕ) → unwrap_or (option_filter (λ x. not (x == 0)) o) 0 ≡ unwrap_or o 0
zero_reads None = refl
zero_reads (Some x) = elim (x == 0) as (λ b. (x == 0) ≡ b → unwrap_or (cond (not b) (Some x) None) 0 ≡ x) [
  | true ↦ λ e. sym ((Decides-eqb x 0).0 e)
  | false ↦ λ e. refl
] refl

-- entries without those of 0
pub words_kept : (entries kept : List (List ℕ × ℕ)) → IsDistinct same_words (keys_of entries) → kept ≡ filter (λ e. not (e.1 == 0)) entries → word_in kept ≡ word_in entries
words_kept entries kept distinct is i key =
    (ap (λ es. word_in es key) is
    ∙ ap (λ o. unwrap_or o 0) (lookup-filter-values nat_list_eq_equiv (λ x. not (x == 0)) key entries distinct)
    ∙ zero_reads (lookup (same_words key) entries)) i

-- a table after an update
pub words_set : (first old new : Entries) (key : List ℕ) (word : ℕ) → word_in old ≡ word_in first → ((q : List ℕ) → entry_in new q ≡ (if same_words key q then Some word else entry_in old q)) → word_in new ≡ with_word (word_in first) key word
words_set first old new key word same updates i q =
    (ap (λ o. unwrap_or o 0) (updates q)
    ∙ chosen (same_words key q)
    ∙ ap (λ f. if same_words key q then word else f q) same) i
  where
    chosen : (b : Bool) → unwrap_or (if b then Some word else entry_in old q) 0 ≡ (if b then word else word_in old q)
    chosen true = refl
    chosen false = refl
