-- Cells of a table of words.
use Rattle.std.specs.Prelude.{◌==◌, ◌≡◌, ◌<◌, ◌≤◌, ◌^◌, ℕ, true, false, ◌&&◌, List, [], ◌∷◌}
use Rattle.std.specs.Prelude.{length, map, Some, if◌then◌else◌, slice_get}
use Rattle.std.proofs.Common.{refl, sym, ap, subst, ◌∙◌, arith, get_or, true≢false}
use Rattle.std.specs.Cmp.{signed_Decides}
use Rattle.std.specs.Cmp.Derive.{both_true}
use Rattle.std.specs.List.{All, position_or_len}
use Rattle.std.proofs.lemmas.Bool.{and_parts, cond-true, cond-false, cond_both, eqb-false, false_from_ne_true}
use Rattle.std.proofs.lemmas.Bool.Decides.{Decides-ltb, not_from_Decides}
use Rattle.std.proofs.lemmas.Int.{of_z-to_z}
use Rattle.std.proofs.lemmas.List.{length-map}
use Rattle.std.proofs.lemmas.List.Sums.{position_or_len_is, passes_at_first}
use Rattle.std.proofs.lemmas.List.Elements.{All-head, All-tail}
use Rattle.std.proofs.lemmas.Option.{slice_get-get_or}
use Rattle.d_values.specs.Keys.{part_of, same_key}
use Rattle.d_values.specs.KeyLaws.{same_key_decides}
use Rattle.d_values.specs.Storage.{as_kind}
use Rattle.d_values.specs.Stores.{kind_of, with_own}
use Rattle.d_values.specs.Texts.{same_text, same_text_decides}
use Rattle.d_values.specs.Variables.{same_var, same_var_decides, variable_number}
use Rattle.numbered.specs.Tables.{Entries, word_in, with_word, same_words}
use Rattle.numbered.specs.Texts.{AreDistinct, text_at}
use Rattle.numbered.specs.Words.{bits_of, word_of}
use Rattle.numbered.specs.declared.word.Word.{Word}
use Rattle.numbered.specs.declared.word.Word.TheVariants as word
use Rattle.std.specs.Cmp.Lexicographic.{bytes_decides}
use Rattle.dif_machine.specs.Vocabulary.{cast_signed, cast_unsigned, w64, Kind, KeyPart, Number, Name, Var}
use Rattle.dif_machine.specs.Machine.{IsWithin, key_in, value_of}
use Rattle.numbered.specs.Shapes.{shape_of}
use Rattle.numbered.proofs.Shaped.{digits_same, shape_below, tail_of}
use Rattle.dif_machine.specs.Cells.{words_beside, cell_key, cell_of, is_of_word, word_of_part, words_of, own_in, IsTableOver}

-- ---- keys of cells tell variables and words apart

one_variable : (x y : Var) → variable_number x ≡ variable_number y → x ≡ y
one_variable x y e = grind arith

pub keys_same : (t u : ℕ) (x y : Var) (a b : List Word) → length a ≤ 8 → cell_key t x a ≡ cell_key u y b → (x ≡ y) × (a ≡ b)
keys_same t u x y a b few e =
    let bits : map bits_of a ≡ map bits_of b = ap (λ l. tail_of (tail_of l)) e in
    let long : length a ≡ length b = sym (length-map a bits_of) ∙ ap length bits ∙ length-map b bits_of in
    let cells : cell_of x a ≡ cell_of y b = ap (λ l. get_or l 1 0) e in
    let first = shape_below a 8 few in
    let second = shape_below b 8 (omega (arith, few, long)) in
    let vars : variable_number x ≡ variable_number y = omega (arith, cells, first, second) in
    let shapes : shape_of a ≡ shape_of b = omega (arith, cells, first, second) in
    (one_variable x y vars, (digits_same 1 1 a b bits shapes).1)

-- ---- words and the parts of keys

module _ (texts : List (List ℕ)) where
  pub part_word : AreDistinct texts → (w : Word) → IsWithin texts w → word_of_part texts (part_of (value_of texts w)) ≡ w
  part_word distinct (word.Int n) h =
      let back : cast_unsigned w64 (cast_signed w64 n) ≡ n = of_z-to_z w64 n h in
      let is : is_of_word (cast_signed w64 n) ≡ true = both_true
      ((signed_Decides (cast_signed w64 (cast_unsigned w64 (cast_signed w64 n))) (cast_signed w64 n)).1 (ap (cast_signed w64) back))
      ((Decides-ltb (cast_unsigned w64 (cast_signed w64 n)) (2 ^ 64)).1 (subst (λ m. m < 2 ^ 64) (sym back) h)) in
      cond-true _ (word.Int (cast_unsigned w64 (cast_signed w64 n))) (word.Text (length texts)) is ∙ ap word.Int back
  part_word distinct (word.Text t) h =
      ap word.Text (position_or_len_is (same_text (text_at texts t)) texts t [] (omega (arith, h)) before (λ i. (same_text_decides (text_at texts t) (text_at texts t)).1 refl))
    where
      before : (k : ℕ) → k < t → same_text (text_at texts t) (get_or texts k []) ≡ false
      before k less = false_from_ne_true _ (λ e.
          let same = (same_text_decides (text_at texts t) (get_or texts k [])).0 e in
          let first : slice_get texts k ≡ Some (text_at texts k) = slice_get-get_or texts k [] (omega (arith, less, h)) in
          let second : slice_get texts t ≡ Some (text_at texts k) = slice_get-get_or texts t [] h ∙ ap Some same in
          let one : k ≡ t = distinct k t (text_at texts k) first second in
          omega (arith, less, one))

  pub word_part : (p : KeyPart) → IsWithin texts (word_of_part texts p) → part_of (value_of texts (word_of_part texts p)) ≡ p
  word_part (Number z) h =
      cond_both (is_of_word z) (word.Int (cast_unsigned w64 z)) (word.Text (length texts)) (λ w. IsWithin texts w → part_of (value_of texts w) ≡ Number z)
      (λ e i. ap Number ((signed_Decides (cast_signed w64 (cast_unsigned w64 z)) z).0 (and_parts _ _ e).0))
      (λ e i. absurd (omega (arith, i))) h
  word_part (Name bytes) h =
      ap Name (sym ((same_text_decides bytes (text_at texts (position_or_len (same_text bytes) texts))).0 (passes_at_first (same_text bytes) texts [] h)))

  pub parts_words : AreDistinct texts → (ws : List Word) → All (IsWithin texts) ws → words_of texts (key_in texts ws) ≡ ws
  parts_words distinct [] all = refl
  parts_words distinct (w ∷ ws) all =
      ap (λ v. v ∷ words_of texts (key_in texts ws)) (part_word distinct w (All-head (IsWithin texts) w ws all))
      ∙ ap (λ vs. w ∷ vs) (parts_words distinct ws (All-tail (IsWithin texts) w ws all))

  pub words_parts : (ps : List KeyPart) → All (IsWithin texts) (words_of texts ps) → key_in texts (words_of texts ps) ≡ ps
  words_parts [] all = refl
  words_parts (p ∷ ps) all =
      ap (λ q. q ∷ key_in texts (words_of texts ps)) (word_part p (All-head (IsWithin texts) (word_of_part texts p) (words_of texts ps) all))
      ∙ ap (λ qs. p ∷ qs) (words_parts ps (All-tail (IsWithin texts) (word_of_part texts p) (words_of texts ps) all))

-- ---- a cell that is set

module _ (texts : List (List ℕ)) (old new : Entries) (thread : ℕ) (x : Var) (words : List Word) (w : Word) (distinct : AreDistinct texts) (t : IsTableOver texts old) (few : length words ≤ 8)
    (all : All (IsWithin texts) words) (within : IsWithin texts w) (kind_is : word_of x.kind (bits_of w) ≡ w) (set : word_in new ≡ with_word (word_in old) (cell_key thread x words) (bits_of w)) where
  abbrev cell : List ℕ
  cell = cell_key thread x words

  now_is : (P : ℕ → Type 0) (key : List ℕ) → (cell ≡ key → P (bits_of w)) → ((cell ≡ key → ⊥) → P (word_in old key)) → P (word_in new key)
  now_is P key here elsewhere =
      subst (λ f. P (f key)) (sym set)
      (cond_both (same_words cell key) (bits_of w) (word_in old key) P (λ e. here ((bytes_decides cell key).0 e)) (λ e. elsewhere (not_from_Decides _ (bytes_decides cell key) e)))

  pub table_set : IsTableOver texts new
  table_set = record {
    empty = t.empty;
    keys = λ u y ws no. now_is (λ n. n ≡ 0) (cell_key u y ws) (λ e. absurd (no (subst (All (IsWithin texts)) (keys_same thread u x y words ws few e).1 all))) (λ ne. t.keys u y ws no);
    values = λ u y ws. now_is (λ n. IsWithin texts (word_of y.kind n)) (cell_key u y ws)
        (λ e. subst (λ v. IsWithin texts (word_of v.kind (bits_of w))) (keys_same thread u x y words ws few e).0 (subst (IsWithin texts) (sym kind_is) within)) (λ ne. t.values u y ws);
  }

  here : own_in texts new thread x (key_in texts words) ≡ value_of texts w
  here =
      ap (λ ws. value_of texts (word_of x.kind (word_in new (cell_key thread x ws)))) (parts_words texts distinct words all)
      ∙ now_is (λ n. value_of texts (word_of x.kind n) ≡ value_of texts w) cell (λ e. ap (value_of texts) kind_is) (λ ne. absurd (ne refl))

  elsewhere : (y : Var) (key : List KeyPart) → same_var x y && same_key (key_in texts words) key ≡ false → own_in texts new thread y key ≡ own_in texts old thread y key
  elsewhere y key apart = now_is (λ n. value_of texts (word_of y.kind n) ≡ own_in texts old thread y key) (cell_key thread y (words_of texts key))
      (λ e.
      let same = keys_same thread thread x y words (words_of texts key) few e in
      let key_is : key_in texts words ≡ key = ap (key_in texts) same.1 ∙ words_parts texts key (subst (All (IsWithin texts)) same.1 all) in
      absurd (true≢false (sym (both_true ((same_var_decides x y).1 same.0) ((same_key_decides (key_in texts words) key).1 key_is)) ∙ apart)))
      (λ ne. refl)

  pub own_set : own_in texts new thread ≡ with_own (own_in texts old thread) x (key_in texts words) (value_of texts w)
  own_set i y key = cond_both (same_var x y && same_key (key_in texts words) key) (value_of texts w) (own_in texts old thread y key) (λ v. own_in texts new thread y key ≡ v)
      (λ e.
      let both = and_parts _ _ e in
      ap (own_in texts new thread y) (sym ((same_key_decides (key_in texts words) key).0 both.1)) ∙ ap (λ v. own_in texts new thread v (key_in texts words)) (sym ((same_var_decides x y).0 both.0)) ∙ here)
      (elsewhere y key) i

pub kind_word : (texts : List (List ℕ)) (k : Kind) (w : Word) → kind_of (value_of texts w) ≡ k → word_of k (bits_of w) ≡ w
kind_word texts k w e = grind arith

pub as_it_is : (texts : List (List ℕ)) (k : Kind) (n : ℕ) → value_of texts (word_of k n) ≡ as_kind k (value_of texts (word_of k n))
as_it_is texts k n = grind arith

-- what is known of a table is known of another that reads the same
pub table_same : (texts : List (List ℕ)) (old new : Entries) → word_in new ≡ word_in old → IsTableOver texts old → IsTableOver texts new
table_same texts old new same t = record {
  empty = t.empty;
  keys = λ u y ws no. ap (λ f. f (cell_key u y ws)) same ∙ t.keys u y ws no;
  values = λ u y ws. subst (λ f. IsWithin texts (word_of y.kind (f (cell_key u y ws)))) (sym same) (t.values u y ws);
}

-- ---- the other threads

pub beside_same : (old new : Entries) (thread : ℕ) → word_in new ≡ word_in old → words_beside new thread ≡ words_beside old thread
beside_same old new thread same = λ i key. is key i
  where
    is : (key : List ℕ) → words_beside new thread key ≡ words_beside old thread key
    is [] = refl
    is (other ∷ key) = ap (λ (words : List ℕ → ℕ). if other == thread then 0 else words (other ∷ key)) same

pub beside_set : (old new : Entries) (thread : ℕ) (x : Var) (words : List Word) (bits : ℕ) → word_in new ≡ with_word (word_in old) (cell_key thread x words) bits
    → words_beside new thread ≡ words_beside old thread
beside_set old new thread x words bits set = λ i key. is key i
  where
    is : (key : List ℕ) → words_beside new thread key ≡ words_beside old thread key
    is [] = refl
    is (other ∷ key) = elim (other == thread) as (λ b. (other == thread) ≡ b → (if b then 0 else word_in new (other ∷ key)) ≡ (if b then 0 else word_in old (other ∷ key))) [
      | true ↦ λ e. refl
      | false ↦ λ e. ap (λ (words : List ℕ → ℕ). words (other ∷ key)) set ∙ cond-false _ bits (word_in old (other ∷ key)) (false_from_ne_true _ (λ s.
          let one : cell_key thread x words ≡ other ∷ key = (bytes_decides (cell_key thread x words) (other ∷ key)).0 s in
          eqb-false other thread e (sym (ap (λ l. get_or l 0 0) one))))
    ] refl
