-- Threads in a table of words.
use Rattle.std.proofs.Common.{◌≡◌, ◌==◌, ℕ, ℤ, List, [], ◌∷◌, true, false, Some, if◌then◌else◌}
use Rattle.std.proofs.Common.{slice_get, Result, Ok, Err, IfOk, map, w64, int_eq, refl, sym, ap}
use Rattle.std.proofs.Common.{◌∙◌, subst, arith, SFits}
use Rattle.std.specs.Int.{cast_signed}
use Rattle.std.proofs.lemmas.Bool.{both_ways, false_from_ne_true}
use Rattle.std.specs.Cmp.{signed_Decides}
use Rattle.std.proofs.lemmas.Bool.Decides.{Decides-eqb, Decides-int_eq}
use Rattle.std.proofs.lemmas.Int.{to_z-of_z}
use Rattle.std.proofs.lemmas.Option.{get_or_from_slice_get}
use Rattle.d_values.specs.declared.value.Kind.{Kind}
use Rattle.d_values.specs.declared.value.Value.TheVariants.{Text}
use Rattle.numbered.specs.Tables.{Entries, word_in}
use Rattle.numbered.specs.Texts.{Keeps}
use Rattle.numbered.specs.Words.{bits_of, word_of}
use Rattle.dif_machine.specs.CellLaws.{own_kept}
use Rattle.dif_machine.specs.Cells.{IsTableOver, AreLocalsOver, cell_of, locals_in, own_in}
use Rattle.dif_machine.specs.Cells.{words_beside, words_of}
use Rattle.numbered.specs.declared.word.Word.{Word}
use Rattle.dif_machine.specs.declared.fault.MachineFault.{MachineFault}
use Rattle.dif_machine.specs.Machine.{IsWithin, value_of, word_result}
use Rattle.dif_codegen.specs.Correct.{Gives}
use Rattle.replay_core.specs.Vocabulary.{KeyPart, Value, Var, Outcome, Variables, blank}
use Rattle.replay_core.specs.Evaluation.{Returns}
use Rattle.replay_core.specs.Steps.Evaluation.{evaluation_of}
use Rattle.replay_core.specs.declared.evaluation.fault.EvalFault.{EvalFault}
use Rattle.replay_core.specs.Meaning.{Threads, at_start, blank_threads}
use Rattle.replay_core.specs.Threads.{StoreSeen, threads_of}
use Rattle.replay_core.specs.WordStore.{is_thread, own_at, word_of_thread}
use Rattle.d_values.specs.declared.value.Kind.TheVariants as kind

blank_word : (texts : List (List ℕ)) → slice_get texts 0 ≡ Some [] → (k : Kind) → value_of texts (word_of k 0) ≡ blank k
blank_word texts empty kind.Number = refl
blank_word texts empty kind.Text = ap Text (get_or_from_slice_get texts 0 [] [] empty)

within_zero : (texts : List (List ℕ)) → slice_get texts 0 ≡ Some [] → (k : Kind) → IsWithin texts (word_of k 0)
within_zero [] empty k = absurd cc
within_zero (x ∷ texts) empty kind.Number = omega arith
within_zero (x ∷ texts) empty kind.Text = omega arith

locals_over_none : (texts : List (List ℕ)) → slice_get texts 0 ≡ Some [] → AreLocalsOver texts []
locals_over_none texts empty x = within_zero texts empty x.kind

module _ (texts : List (List ℕ)) (table : Entries) where
  own_at_word : (t : ℤ) → is_thread t ≡ true → own_at texts table t ≡ own_in texts table (word_of_thread t)
  own_at_word t ok = λ i x key. ap (λ b. if b then own_in texts table (word_of_thread t) x key else blank x.kind) ok i

  abbrev pub seen_at : (at : ℤ) (thread : ℕ) → (Var → Value) → StoreSeen
  seen_at at thread locals = record { at = at; present = record { locals = locals; own = own_in texts table thread }; others = λ t. if int_eq t at then blank_threads t else own_at texts table t }

  -- the thread that is looked at is kept as the others are
  pub threads_are : (at : ℤ) (thread : ℕ) (locals : Var → Value) → is_thread at ≡ true → thread ≡ word_of_thread at → threads_of (seen_at at thread locals) ≡ own_at texts table
  threads_are at thread locals ok is = λ i t. one t i
    where
      one : (t : ℤ) → (if int_eq t at then own_in texts table thread else (if int_eq t at then blank_threads t else own_at texts table t)) ≡ own_at texts table t
      one t = elim (int_eq t at) as (λ b. int_eq t at ≡ b → (if b then own_in texts table thread else (if b then blank_threads t else own_at texts table t)) ≡ own_at texts table t) [
        | true ↦ λ e. ap (own_in texts table) is ∙ sym (own_at_word at ok) ∙ ap (own_at texts table) (sym ((Decides-int_eq t at).0 e))
        | false ↦ λ e. refl
      ] refl

  -- a firing of a thread begins
  pub begun : (at : ℤ) (thread : ℕ) (before : Threads) (locals : List ℕ) → slice_get texts 0 ≡ Some [] → is_thread at ≡ true → thread ≡ word_of_thread at → before ≡ own_at texts table → locals ≡ []
      → ◌≡◌ {A = Variables} (record { locals = locals_in texts locals; own = own_in texts table thread }) (at_start (before at))
  begun at thread before locals empty ok is same none =
      let own : own_in texts table thread ≡ before at = ap (own_in texts table) is ∙ sym (own_at_word at ok) ∙ ap (λ (threads : Threads). threads at) (sym same) in
      let unset : locals_in texts locals ≡ (λ x. blank x.kind) = ap (locals_in texts) none ∙ (λ i x. blank_word texts empty x.kind i) in
      λ i. record { locals = unset i; own = own i }

-- each integer of 64 bits is told from others
pub thread_is : (z : ℤ) → SFits w64 z → is_thread z ≡ true
thread_is z fits = (signed_Decides (cast_signed w64 (word_of_thread z)) z).1 (to_z-of_z w64 z fits)

blank_at_first : (texts : List (List ℕ)) → texts ≡ [] ∷ [] → own_at texts [] ≡ blank_threads
blank_at_first texts is = λ i t x key. one t x key i
  where
    one : (t : ℤ) (x : Var) (key : List KeyPart) → own_at texts [] t x key ≡ blank x.kind
    one t x key = elim (is_thread t) as (λ b. (if b then own_in texts [] (word_of_thread t) x key else blank x.kind) ≡ blank x.kind) [
      | true ↦ blank_word texts (ap (λ t. slice_get t 0) is) x.kind
      | false ↦ refl
    ]

-- nothing is set at first
pub at_first : (texts : List (List ℕ)) (table : Entries) (locals : List ℕ) → texts ≡ [] ∷ [] → table ≡ [] → locals ≡ [] → IsTableOver texts table × AreLocalsOver texts locals
at_first texts table locals is none unset =
    let empty : slice_get texts 0 ≡ Some [] = ap (λ t. slice_get t 0) is in
    let over : IsTableOver texts [] = record { empty = empty; keys = λ thread x words no. refl; values = λ thread x words. within_zero texts empty x.kind } in
    (subst (IsTableOver texts) (sym none) over, subst (AreLocalsOver texts) (sym unset) (locals_over_none texts empty))

pub blank_first : (texts : List (List ℕ)) (table : Entries) → texts ≡ [] ∷ [] → table ≡ [] → own_at texts table ≡ blank_threads
blank_first texts table is none = ap (own_at texts) none ∙ blank_at_first texts is

-- another thread is looked at
pub entered : (texts now : List (List ℕ)) (table left : Entries) (locals : List ℕ) → now ≡ texts → left ≡ table → locals ≡ [] → IsTableOver texts table → IsTableOver now left × AreLocalsOver now locals
entered texts now table left locals same kept none over =
    let whole = subst (λ t. IsTableOver t left) (sym same) (subst (IsTableOver texts) (sym kept) over) in
    (whole, subst (AreLocalsOver now) (sym none) (locals_over_none now whole.empty))

-- ---- what runs return

evaluated_as : (o : Outcome Value) (texts : List (List ℕ)) (r : Result Word MachineFault) (vars : Variables) → Gives o (word_result texts r) vars → IfOk r (IsWithin texts)
    → Returns o (word_result texts (evaluation_of r)) vars × IfOk (evaluation_of r) (IsWithin texts)
evaluated_as o texts (Ok w) vars gives within = (gives, within)
evaluated_as o texts (Err MachineFault.DivideByZero) vars gives within = (gives, tt)
evaluated_as o texts (Err MachineFault.Memory) vars gives within = (tt, tt)

pub evaluated : (o : Outcome Value) (texts : List (List ℕ)) (r : Result Word MachineFault) (s : Result Word EvalFault) (vars : Variables) → s ≡ evaluation_of r
    → Gives o (word_result texts r) vars → IfOk r (IsWithin texts) → Returns o (word_result texts s) vars × IfOk s (IsWithin texts)
evaluated o texts r s vars is gives within = subst (λ s. Returns o (word_result texts s) vars × IfOk s (IsWithin texts)) (sym is) (evaluated_as o texts r vars gives within)

-- ---- a run on one thread

module _ (old new : List (List ℕ)) (kept : Keeps old new) (table left : Entries) (over : IsTableOver old table) (thread after : ℕ) (beside : words_beside left after ≡ words_beside table thread) where
  pub thread_stays : after ≡ thread
  thread_stays = ap (λ (words : List ℕ → ℕ). words []) beside

  cell_stays : (t : ℕ) → (t == thread) ≡ false → (key : List ℕ) → word_in left (t ∷ key) ≡ word_in table (t ∷ key)
  cell_stays t other key =
      ap (λ b. if b then 0 else word_in left (t ∷ key)) (sym (ap (λ a. t == a) thread_stays ∙ other))
      ∙ ap (λ (words : List ℕ → ℕ). words (t ∷ key)) beside
      ∙ ap (λ b. if b then 0 else word_in table (t ∷ key)) other

  -- each other thread keeps what it kept
  other_stays : (at : ℤ) → is_thread at ≡ true → thread ≡ word_of_thread at → (t : ℤ) → int_eq t at ≡ false → own_at new left t ≡ own_at old table t
  other_stays at ok is t apart = λ i x key. elim (is_thread t) as (λ b. is_thread t ≡ b → (if b then own_in new left (word_of_thread t) x key else blank x.kind) ≡ (if b then own_in old table (word_of_thread t) x key else blank x.kind)) [
    | true ↦ λ fits. kept_there fits x key
    | false ↦ λ e. refl
  ] refl i
    where
      back : (z : ℤ) → is_thread z ≡ true → cast_signed w64 (word_of_thread z) ≡ z
      back z fits = (signed_Decides (cast_signed w64 (word_of_thread z)) z).0 fits

      differs : is_thread t ≡ true → (word_of_thread t == thread) ≡ false
      differs fits = false_from_ne_true (word_of_thread t == thread) (λ e.
          let same : word_of_thread t ≡ word_of_thread at = (Decides-eqb (word_of_thread t) thread).0 e ∙ is in
          let one : t ≡ at = sym (back t fits) ∙ ap (cast_signed w64) same ∙ back at ok in
          both_ways (int_eq t at) apart ((Decides-int_eq t at).1 one))

      kept_there : is_thread t ≡ true → (x : Var) (key : List KeyPart) → own_in new left (word_of_thread t) x key ≡ own_in old table (word_of_thread t) x key
      kept_there fits x key =
          let c = word_of_thread t in
          let words = words_of new key in
          ap (λ n. value_of new (word_of x.kind n)) (cell_stays c (differs fits) (cell_of x words ∷ map bits_of words))
          ∙ ap (λ (own : Var → List KeyPart → Value). own x key) (own_kept old new kept table c over)

  pub others_stay : (at : ℤ) → is_thread at ≡ true → thread ≡ word_of_thread at
      → ◌≡◌ {A = Threads} (λ t. if int_eq t at then blank_threads t else own_at new left t) (λ t. if int_eq t at then blank_threads t else own_at old table t)
  others_stay at ok is = λ i t. one t i
    where
      one : (t : ℤ) → (if int_eq t at then blank_threads t else own_at new left t) ≡ (if int_eq t at then blank_threads t else own_at old table t)
      one t = elim (int_eq t at) as (λ b. int_eq t at ≡ b → (if b then blank_threads t else own_at new left t) ≡ (if b then blank_threads t else own_at old table t)) [
        | true ↦ λ e. refl
        | false ↦ λ e. other_stays at ok is t e
      ] refl
