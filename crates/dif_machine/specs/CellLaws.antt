-- The law of a lane's memory: more texts with numbers change nothing that it holds.
use Rattle.std.specs.Prelude.{◌≡◌, ◌<◌, ◌≤◌, ◌^◌, ℕ, ℤ, Bool, true, false, ◌⊎◌, List, []}
use Rattle.std.specs.Prelude.{◌∷◌, length, Some, if◌then◌else◌, slice_index_or}
use Rattle.std.proofs.Common.{refl, sym, ap, subst, ◌∙◌, ⊎_elim, inl, inr, arith, true≢false}
use Rattle.std.specs.List.{All, position_or_len}
use Rattle.std.proofs.lemmas.Bool.{and_parts, cases_lt, ltb-true}
use Rattle.std.proofs.lemmas.List.Sums.{position_or_len_is, fails_before_first, passes_at_first}
use Rattle.std.proofs.lemmas.List.Elements.{All-nil, All-cons, All-head, All-tail, All-weaker}
use Rattle.std.proofs.lemmas.Option.{get_or_from_slice_get, slice_get-get_or, slice_get_within}
use Rattle.d_values.specs.Texts.{same_text}
use Rattle.d_values.specs.Variables.{variable_number}
use Rattle.numbered.specs.Tables.{Entries, word_in}
use Rattle.numbered.specs.Texts.{IsNumberOf, Keeps}
use Rattle.numbered.specs.Words.{word_of}
use Rattle.numbered.specs.declared.word.Word.{Word}
use Rattle.numbered.specs.declared.word.Word.TheVariants as word
use Rattle.dif_machine.specs.Vocabulary.{cast_unsigned, w64, KeyPart, Number, Name, Text, Var}
use Rattle.dif_machine.specs.Vocabulary.{Variables}
use Rattle.dif_machine.specs.Machine.{IsWithin, value_of}
use Rattle.dif_machine.specs.Cells.{cell_key, is_of_word, word_of_part, words_of, own_in, locals_in}
use Rattle.dif_machine.specs.Cells.{AreLocalsOver, IsTableOver}

-- the word of an integer that has one, or not
abbrev int_word : List (List ℕ) → ℤ → Bool → Word
int_word texts z b = if b then word.Int (cast_unsigned w64 z) else word.Text (length texts)

-- ---- more texts

module _ (old new : List (List ℕ)) (kept : Keeps old new) where
  pub word_within : (w : Word) → IsWithin old w → IsWithin new w
  word_within (word.Int n) h = h
  word_within (word.Text n) h = omega (arith, h, kept.long)

  pub value_kept : (w : Word) → IsWithin old w → value_of new w ≡ value_of old w
  value_kept (word.Int n) h = refl
  value_kept (word.Text n) h = ap Text (kept.same n h)

  pub number_kept : (n : ℕ) (bytes : List ℕ) → IsNumberOf old n bytes → IsNumberOf new n bytes
  number_kept n bytes e =
      let inside = slice_get_within old n bytes e in
      slice_get-get_or new n [] (omega (arith, inside, kept.long))
      ∙ ap Some (kept.same n inside ∙ get_or_from_slice_get old n bytes [] e)

  abbrev Known : KeyPart → Type 0
  Known p = IsWithin old (word_of_part old p) × (word_of_part new p ≡ word_of_part old p)

  abbrev Unknown : KeyPart → Type 0
  Unknown p =
      (IsWithin old (word_of_part old p) → ⊥) × (IsWithin old (word_of_part new p) → ⊥)

  part_known : (p : KeyPart) → Known p ⊎ Unknown p
  part_known (Number z) = elim (is_of_word z) as (λ b. is_of_word z ≡ b
      → (IsWithin old (int_word old z b) × (int_word new z b ≡ int_word old z b))
      ⊎ ((IsWithin old (int_word old z b) → ⊥) × (IsWithin old (int_word new z b) → ⊥))) [
        | true ↦ λ e. inl (ltb-true (cast_unsigned w64 z) (2 ^ 64) (and_parts _ _ e).1, refl)
        | false ↦ λ e. inr (λ h. omega (arith, h), λ h. omega (arith, h, kept.long))
      ] refl
  part_known (Name bytes) =
      ⊎_elim (λ inside. inl (inside, ap word.Text (there inside)))
      (λ past. inr (λ h. omega (arith, h, past), gone past)) (cases_lt i (length old))
    where
      i : ℕ
      i = position_or_len (same_text bytes) old

      there : i < length old → position_or_len (same_text bytes) new ≡ i
      there h = position_or_len_is (same_text bytes) new i [] (omega (arith, h, kept.long))
          (λ k less. ap (same_text bytes) (kept.same k (omega (arith, less, h)))
          ∙ fails_before_first (same_text bytes) old k [] less)
          (λ _. ap (same_text bytes) (kept.same i h)
          ∙ passes_at_first (same_text bytes) old [] h)

      gone : length old ≤ i → position_or_len (same_text bytes) new < length old → ⊥
      gone past h =
          let j = position_or_len (same_text bytes) new in
          let passes = passes_at_first (same_text bytes) new [] (omega (arith, h, kept.long)) in
          let fails = fails_before_first (same_text bytes) old j [] (omega (arith, h, past)) in
          true≢false (sym passes ∙ ap (same_text bytes) (kept.same j h) ∙ fails)

  abbrev AreKnown : List KeyPart → Type 0
  AreKnown ps = All (IsWithin old) (words_of old ps) × (words_of new ps ≡ words_of old ps)

  abbrev AreUnknown : List KeyPart → Type 0
  AreUnknown ps =
      (All (IsWithin old) (words_of old ps) → ⊥) × (All (IsWithin old) (words_of new ps) → ⊥)

  key_known : (ps : List KeyPart) → AreKnown ps ⊎ AreUnknown ps
  key_known [] = inl (All-nil (IsWithin old), refl)
  key_known (p ∷ ps) = by (part_known p) (key_known ps)
    where
      by : Known p ⊎ Unknown p → AreKnown ps ⊎ AreUnknown ps
          → AreKnown (p ∷ ps) ⊎ AreUnknown (p ∷ ps)
      by (inl one) (inl rest) = inl (
        All-cons (IsWithin old) (word_of_part old p) (words_of old ps) one.0 rest.0,
        ap (λ w. w ∷ words_of new ps) one.1 ∙ ap (λ ws. word_of_part old p ∷ ws) rest.1,
      )
      by (inr one) rest = inr (
        λ all. one.0 (All-head (IsWithin old) (word_of_part old p) (words_of old ps) all),
        λ all. one.1 (All-head (IsWithin old) (word_of_part new p) (words_of new ps) all),
      )
      by (inl one) (inr rest) = inr (
        λ all. rest.0 (All-tail (IsWithin old) (word_of_part old p) (words_of old ps) all),
        λ all. rest.1 (All-tail (IsWithin old) (word_of_part new p) (words_of new ps) all),
      )

  pub table_kept : (table : Entries) → IsTableOver old table → IsTableOver new table
  table_kept table t = record {
    empty = number_kept 0 [] t.empty;
    keys = λ thread x words no. t.keys thread x words
        (λ all. no (All-weaker (IsWithin old) (IsWithin new) word_within words all));
    values = λ thread x words. word_within _ (t.values thread x words);
  }

  pub own_kept : (table : Entries) (thread : ℕ) → IsTableOver old table
      → own_in new table thread ≡ own_in old table thread
  own_kept table thread t i x key = by (key_known key) i
    where
      by : AreKnown key ⊎ AreUnknown key
          → own_in new table thread x key ≡ own_in old table thread x key
      by (inl known) =
          ap (λ ws. value_of new (word_of x.kind (word_in table (cell_key thread x ws)))) known.1
          ∙ value_kept (word_of x.kind (word_in table (cell_key thread x (words_of old key))))
          (t.values thread x (words_of old key))
      by (inr unknown) =
          let before = t.keys thread x (words_of old key) unknown.0 in
          let after = t.keys thread x (words_of new key) unknown.1 in
          let within : IsWithin old (word_of x.kind 0) =
          subst (λ (n : ℕ). IsWithin old (word_of x.kind n)) before
          (t.values thread x (words_of old key)) in
          ap (λ n. value_of new (word_of x.kind n)) after
          ∙ value_kept (word_of x.kind 0) within
          ∙ ap (λ n. value_of old (word_of x.kind n)) (sym before)

pub lane_stays : (locals : List ℕ) (table : Entries) (thread : ℕ) (old new : List (List ℕ))
    → IsTableOver old table × AreLocalsOver old locals → Keeps old new
    → (IsTableOver new table × AreLocalsOver new locals) × (◌≡◌ {A = Variables}
    (record { locals = locals_in new locals; own = own_in new table thread })
    (record { locals = locals_in old locals; own = own_in old table thread }))
lane_stays locals table thread old new over kept = (
  (
    table_kept old new kept table over.0,
    λ x. word_within old new kept (local_word x) (over.1 x),
  ),
  λ i. record {
    locals = λ x. value_kept old new kept (local_word x) (over.1 x) i;
    own = own_kept old new kept table thread over.0 i;
  },
)
  where
    local_word : Var → Word
    local_word x = word_of x.kind (slice_index_or locals (variable_number x) 0)
