-- Words as they are held, read and written.
use Rattle.std.specs.Prelude.{◌≡◌, ◌≢◌, ◌<◌, ◌≤◌, ◌∷◌, [], ℕ, suc, List, length, take, Option, None}
use Rattle.std.specs.Prelude.{Some, IfSome, map, option_map, slice_index_or, slice_set}
use Rattle.std.proofs.Common.{refl, sym, ap, ◌∙◌, subst, arith}
use Rattle.std.proofs.lemmas.Grind.{common_steps}
use Rattle.std.proofs.lemmas.Option.{gets}
use Rattle.std.specs.List.{All}
use Rattle.std.proofs.Math.ListN.{get_or-map}
use Rattle.std.proofs.lemmas.List.{get_or-take, length-take-le, map-set}
use Rattle.std.proofs.lemmas.List.Elements.{All-weaker}
use Rattle.numbered.specs.declared.word.Word.{Word}
use Rattle.numbered.specs.Texts.{AreDistinct, IsNumberOf, Keeps, text_at}
use Rattle.d_values.specs.Keys.{part_of}
use Rattle.dif_validate.specs.Registers.{register_number}
use Rattle.dif_validate.specs.declared.register.Reg.TheVariants.{R0}
use Rattle.dif_validate.proofs.Writes.{put_set}
use Rattle.dif_machine.specs.Vocabulary.{Comparison, Reg, at, put, Value, Text}
use Rattle.dif_machine.specs.CellLaws.{value_kept}
use Rattle.dif_machine.specs.Frames.{Frame}
use Rattle.dif_machine.specs.Machine.{contents, content_of, found_of, key_in, value_of, AreNumbers}
use Rattle.dif_machine.specs.Machine.{IsWithin, IsContentWithin, IsSound, Seen, seen_of}
use Rattle.dif_machine.specs.Steps.Instructions.{Grows}
use Rattle.dif_machine.specs.declared.content.Content.{Content}
use Rattle.dif_machine.specs.declared.content.Content.TheVariants as content
use Rattle.dif_machine.proofs.Changing.{same_register}

pub not_first : (d : Reg) → (d ≡ R0 → ⊥) → register_number d ≢ 0
not_first d h e = h (same_register d R0 e)

module _ (texts : List (List ℕ)) where
  pub at_content : (cells : List Content) (a : Reg) → at (contents texts cells) a ≡ content_of texts (slice_index_or cells (register_number a) content.Unset)
  at_content cells a = get_or-map (content_of texts) cells (register_number a) content.Unset

  pub put_content : (cells : List Content) (d : Reg) (c : Content) (x : Option Value) → content_of texts c ≡ x → register_number d ≢ 0 → contents texts (slice_set cells (register_number d) c) ≡ put (contents texts cells) d x
  put_content cells d c x e other =
      map-set (content_of texts) cells (register_number d) c
      ∙ ap (slice_set (contents texts cells) (register_number d)) e
      ∙ sym (put_set (contents texts cells) d x other)

-- ---- more texts

pub keeps_refl : (texts : List (List ℕ)) → Keeps texts texts
keeps_refl texts = record { long = omega arith; same = λ n h. refl; distinct = λ d. d }

pub keeps_on : (first old new : List (List ℕ)) → Keeps first old → Keeps old new → Keeps first new
keeps_on first old new a b = record {
  long = omega (arith, a.long, b.long);
  same = λ n h. b.same n (omega (arith, a.long)) ∙ a.same n h;
  distinct = λ d. b.distinct (a.distinct d);
}

-- ---- the first texts

pub number_before : (texts : List (List ℕ)) (k n : ℕ) (bytes : List ℕ) → IsNumberOf (take k texts) n bytes → IsNumberOf texts n bytes
number_before texts k n bytes e = grind (arith, common_steps, gets)

pub number_still : (texts : List (List ℕ)) (k n : ℕ) (bytes : List ℕ) → IsNumberOf texts n bytes → n < length (take k texts) → IsNumberOf (take k texts) n bytes
number_still texts k n bytes e inside = grind (arith, common_steps, gets)

pub take_distinct : (texts : List (List ℕ)) (k : ℕ) → AreDistinct texts → AreDistinct (take k texts)
take_distinct texts k distinct m n bytes first second = distinct m n bytes (number_before texts k m bytes first) (number_before texts k n bytes second)

module _ (texts : List (List ℕ)) (distinct : AreDistinct texts) (k : ℕ) (inside : k ≤ length texts) where
  pub first_among : Keeps (take k texts) texts
  first_among =
      let long = length-take-le k texts inside in
      record {
        long = omega (arith, long, inside);
        same = λ n h. sym (get_or-take k texts n [] (omega (arith, h, long)));
        distinct = λ d. distinct;
      }

  -- more of the first texts, or of more texts
  pub first_kept : (new : List (List ℕ)) → Keeps texts new → (j : ℕ) → k ≤ j → j ≤ length new → Keeps (take k texts) (take j new)
  first_kept new kept j least most =
      let long = length-take-le k texts inside in
      let longer = length-take-le j new most in
      record {
        long = omega (arith, long, longer, least);
        same = λ n h. get_or-take j new n [] (omega (arith, h, long, least)) ∙ kept.same n (omega (arith, h, long, inside)) ∙ sym (get_or-take k texts n [] (omega (arith, h, long)));
        distinct = λ d. take_distinct new j (kept.distinct distinct);
      }

module _ (old new : List (List ℕ)) (kept : Keeps old new) where
  content_kept : (c : Content) → IsContentWithin old c → content_of new c ≡ content_of old c
  content_kept content.Unset h = refl
  content_kept (content.Int n) h = refl
  content_kept (content.Text n) h = ap (λ t. Some (Text t)) (kept.same n h)

  number_within_more : (n : Option ℕ) → IfSome n (λ n. n < length old) → IfSome n (λ n. n < length new)
  number_within_more None h = h
  number_within_more (Some n) h = omega (arith, h, kept.long)

  pub numbers_kept : (numbers : List (Option ℕ)) → AreNumbers old numbers → AreNumbers new numbers
  numbers_kept numbers all = All-weaker (λ n. IfSome n (λ n. n < length old)) (λ n. IfSome n (λ n. n < length new)) number_within_more numbers all

  map_kept : {X Y : Type 0} (P : X → Type 0) (f g : X → Y) → ((x : X) → P x → f x ≡ g x) → (xs : List X) → All P xs → map f xs ≡ map g xs
  map_kept P f g same [] all = refl
  map_kept P f g same (x ∷ xs) all = ap (λ y. y ∷ map f xs) (same x (all 0 x (omega arith))) ∙ ap (λ ys. g x ∷ ys) (map_kept P f g same xs (λ k d h. all (suc k) d (omega (arith, h))))

  found_same : (n : Option ℕ) → IfSome n (λ n. n < length old) → option_map (text_at new) n ≡ option_map (text_at old) n
  found_same None h = refl
  found_same (Some n) h = ap Some (kept.same n h)

  pub found_kept : (numbers : List (Option ℕ)) → AreNumbers old numbers → found_of new numbers ≡ found_of old numbers
  found_kept numbers all = map_kept (λ n. IfSome n (λ n. n < length old)) (option_map (text_at new)) (option_map (text_at old)) found_same numbers all

  pub key_kept : (words : List Word) → All (IsWithin old) words → key_in new words ≡ key_in old words
  key_kept words all = map_kept (IsWithin old) (λ w. part_of (value_of new w)) (λ w. part_of (value_of old w)) (λ w h. ap part_of (value_kept old new kept w h)) words all

  pub frame_kept : (lasting : ℕ) (cells : List Content) (known : Option Comparison) (words : List Word) (numbers : List (Option ℕ)) → IsSound old lasting cells words numbers
      → ◌≡◌ {A = Frame} (record { pc = 0; registers = contents new cells; comparison = known; tuple = key_in new words }) (record { pc = 0; registers = contents old cells; comparison = known; tuple = key_in old words })
  frame_kept lasting cells known words numbers s =
      let registers = map_kept (IsContentWithin old) (content_of new) (content_of old) content_kept cells s.registers in
      let tuple = key_kept words s.tuple in
      λ i. record { pc = 0; registers = registers i; comparison = known; tuple = tuple i }

module _ (old new : List (List ℕ)) (kept : Keeps old new) (lasting : ℕ) (cells : List Content) (known : Option Comparison) (words : List Word) (numbers : List (Option ℕ)) (m : Seen) (s : IsSound old lasting cells words numbers) (is : seen_of old lasting cells known words numbers ≡ m) where
  -- what a machine shows, after texts were added, of which this many last
  pub lasts : (later : ℕ) → lasting ≤ later → later ≤ length new → Grows m (seen_of new later cells known words numbers)
  lasts later least most =
      let more = first_kept old s.distinct lasting s.inside new kept later least most in
      subst (λ m. Grows m (seen_of new later cells known words numbers)) is (record {
        kept = kept;
        lasting = record { more = more; among = first_among new (kept.distinct s.distinct) later most };
        frame = frame_kept old new kept lasting cells known words numbers s;
        known = found_kept (take lasting old) (take later new) more numbers s.numbers;
      })

  -- as many as before
  pub grown : Grows m (seen_of new lasting cells known words numbers)
  grown = lasts lasting (omega arith) (omega (arith, s.inside, kept.long))
