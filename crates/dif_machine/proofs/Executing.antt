-- A call that executes an instruction, where the instruction is known.
use Rattle.std.specs.Prelude.{◌≡◌, ◌≢◌, ◌<◌, ◌+◌, ℕ, List, Option, None, Some, Result, Ok, Err, IsErrAnd, length, slice_get}
use Rattle.std.proofs.Common.{refl, sym, ap, subst, ⊎_elim, ◌∙◌}
use Rattle.std.proofs.lemmas.Option.{slice_get_cases}
use Rattle.numbered.specs.declared.word.Word.{Word}
use Rattle.numbered.specs.Texts.{Keeps}
use Rattle.dif_machine.specs.Vocabulary.{Firing, Instr, MachineFault, Memory, Object, Reg, Value}
use Rattle.dif_machine.specs.Vocabulary.{Variables}
use Rattle.dif_machine.specs.Frames.{Frame, at_index, with_register, with_value}
use Rattle.dif_machine.specs.Machine.{IsWordOf, Knows, Seen, value_of}
use Rattle.dif_machine.specs.Semantics.{Goes, Next, Stuck, act, on}
use Rattle.dif_machine.specs.Steps.Instructions.{ExecutesFor, ExecutesOn, Grows}
use Rattle.dif_machine.specs.Steps.Instructions.{LeadsTo, with_frame}
use Rattle.dif_machine.specs.Steps.Lasting.{IsRunning, Lasts}
use Rattle.dif_machine.specs.Steps.Semantics.{Stepped}
use Rattle.dif_machine.specs.declared.onward.Onward.{Onward}
use Rattle.dif_machine.specs.declared.onward.Onward.TheVariants as onward
use Rattle.dif_machine.proofs.Holding.{keeps_refl}

-- what has to be there for an instruction that isn't stuck
pub there : {A : Type 0} (x : Option A) (go : A → Next) → on x go ≢ Stuck → x ≢ None
there x go runs none = runs (ap (λ x. on x go) none)

pub inside : {A : Type 0} (xs : List A) (i : ℕ) (go : A → Next) → on (slice_get xs i) go ≢ Stuck → i < length xs
inside xs i go runs = ⊎_elim (λ p. p.1) (λ p. absurd (runs (ap (λ x. on x go) p.1))) (slice_get_cases xs i).1

-- if neither the texts nor those that last are others
pub still_lasts : (m n : Seen) → n.texts ≡ m.texts → n.lasting ≡ m.lasting → Keeps m.lasting m.texts → Lasts m n
still_lasts m n texts lasting among = record {
  more = subst (Keeps m.lasting) (sym lasting) (keeps_refl m.lasting);
  among = subst (λ l. Keeps l n.texts) (sym lasting) (subst (Keeps m.lasting) (sym texts) among);
}

module _ (i : Instr) (o : Object) (f : Firing) (m : Seen) where
  -- the frame alone is another
  pub goes : (n : Seen) (t : Frame) → n ≡ with_frame m t → ((index : ℕ) (vars : Variables) → act i o f (at_index m.frame index) vars ≡ Goes (at_index t (index + 1)) vars)
      → ExecutesFor i o f m (Ok onward.Next) n
  goes n t e acts = subst (ExecutesFor i o f m (Ok onward.Next)) (sym e) (record {
    kept = keeps_refl m.texts;
    lasting = still_lasts m (with_frame m t) refl refl;
    known = λ k. k;
    stepped = acts;
  })

  -- a word was found, and put into a register
  pub finds : (k n : Seen) (d : Reg) (value : Value) → Keeps m.texts k.texts → Lasts m k → k.frame ≡ m.frame → (Knows f m.known → Knows f k.known) → n ≡ with_frame k (with_register k.frame d (Some value))
      → ((index : ℕ) (vars : Variables) → act i o f (at_index m.frame index) vars ≡ Goes (with_value (at_index m.frame index) d value) vars)
      → ExecutesFor i o f m (Ok onward.Next) n
  finds k n d value kept lasts frame known e acts = subst (ExecutesFor i o f m (Ok onward.Next)) (sym e) (record {
    kept = kept;
    lasting = λ among. record { more = lasts.more; among = lasts.among };
    known = known;
    stepped = λ index vars. acts index vars ∙ sym (λ j. Goes (at_index (with_register (frame j) d (Some value)) (index + 1)) vars);
  })

pub refused : {X : Type 0} (r : Result X MachineFault) → IsErrAnd r (λ e. e ≡ Memory) → r ≡ Err Memory
refused (Ok x) e = absurd e
refused (Err fault) e = ap Err e

-- more texts with numbers change nothing
abbrev pub IsStable : {M : Type 0} → (M → List (List ℕ) → Variables) → (M → List (List ℕ) → Type 0) → Type 0
IsStable {M} holds is_over = (m : M) (old new : List (List ℕ)) → is_over m old → Keeps old new → is_over m new × (holds m new ≡ holds m old)

module _ {M : Type 0} (holds : M → List (List ℕ) → Variables) (is_over : M → List (List ℕ) → Type 0) (beside : M → List ℕ → ℕ) (o : Object) (f : Firing) (memory : M) (m : Seen) where
  -- memory stayed as it was, and texts may be more
  led : IsStable holds is_over → IsRunning is_over memory m → (index : ℕ) (next : Next) (result : Result Onward MachineFault) (left : M) (n : Seen) → left ≡ memory → Keeps m.texts n.texts → Lasts m n
      → (Knows f m.known → Knows f n.known) → Stepped (holds memory m.texts) next result (at_index n.frame (index + 1)) (holds memory m.texts) → LeadsTo holds is_over beside f memory m index result left n next
  led stable r index next result left n stays kept lasts known stepped =
      let all = stable memory m.lasting m.texts r.over r.among in
      subst (λ left. LeadsTo holds is_over beside f memory m index result left n next) (sym stays) (record {
        lasting = record { more = lasts.more; among = lasts.among };
        known = known;
        over = (stable memory m.lasting n.lasting r.over lasts.more).0;
        others = refl;
        stepped = subst (Stepped (holds memory m.texts) next result (at_index n.frame (index + 1))) (sym (stable memory m.texts n.texts all.0 kept).1) stepped;
      })

  -- memory wasn't asked
  pub executed : IsStable holds is_over → (i : Instr) (result : Result Onward MachineFault) (n : Seen) → IsRunning is_over memory m → ExecutesFor i o f m result n → ExecutesOn holds is_over beside i o f memory m result memory n
  executed stable i result n r e =
      record { leads = λ index. led stable r index _ result memory n refl e.kept (e.lasting r.among) e.known (e.stepped index (holds memory m.texts)) }

  -- a variable was loaded into a register
  pub loaded : IsStable holds is_over → IsRunning is_over memory m → (i : Instr) (d : Reg) (value : Value) (left : M) (k n : Seen) (w : Word) → Grows m k → left ≡ memory → IsWordOf k.texts w value
      → n ≡ with_frame k (with_register k.frame d (Some (value_of k.texts w)))
      → ((index : ℕ) → act i o f (at_index m.frame index) (holds memory m.texts) ≡ Goes (with_value (at_index m.frame index) d value) (holds memory m.texts))
      → ExecutesOn holds is_over beside i o f memory m (Ok onward.Next) left n
  loaded stable r i d value left k n w grows stays is put acts = record {
    leads = λ index. subst (λ n. LeadsTo holds is_over beside f memory m index (Ok onward.Next) left n (act i o f (at_index m.frame index) (holds memory m.texts))) (sym put)
        (led stable r index _ _ left (with_frame k (with_register k.frame d (Some (value_of k.texts w)))) stays grows.kept (record { more = grows.lasting.more; among = grows.lasting.among }) (subst (Knows f) (sym grows.known))
        (acts index ∙ sym (λ j. Goes (at_index (with_register (grows.frame j) d (Some (is.is j))) (index + 1)) (holds memory m.texts))));
  }

  -- or memory was refused to it
  pub unloaded : IsStable holds is_over → IsRunning is_over memory m → (i : Instr) (result : Result Onward MachineFault) (left : M) (k : Seen) → Grows m k → left ≡ memory → result ≡ Err Memory
      → ExecutesOn holds is_over beside i o f memory m result left k
  unloaded stable r i result left k grows stays refused = record {
    leads = λ index. subst (λ result. LeadsTo holds is_over beside f memory m index result left k (act i o f (at_index m.frame index) (holds memory m.texts))) (sym refused)
        (led stable r index _ (Err Memory) left k stays grows.kept grows.lasting (subst (Knows f) (sym grows.known)) refl);
  }
