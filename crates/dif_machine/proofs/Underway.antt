-- A run over words, so far.
use Rattle.std.specs.Prelude.{◌≡◌, ◌≢◌, ◌<◌, ◌+◌, ℕ, List, None, Some, Result, Ok, Err, IfOk}
use Rattle.std.specs.Prelude.{slice_get}
use Rattle.std.proofs.Common.{refl, sym, ap, subst, ◌∙◌}
use Rattle.std.proofs.lemmas.Option.{none-some, same_Some}
use Rattle.numbered.specs.Texts.{Keeps}
use Rattle.numbered.specs.declared.word.Word.{Word}
use Rattle.dif_machine.specs.Vocabulary.{Firing, Instr, IsValid, MachineFault, Object, Reg, at}
use Rattle.dif_machine.specs.Vocabulary.{Value, Variables}
use Rattle.dif_machine.specs.Frames.{at_index}
use Rattle.dif_machine.specs.Machine.{IsWithin, Knows, Seen, word_result}
use Rattle.dif_machine.specs.Runs.{RunEnds, ends}
use Rattle.dif_machine.specs.Semantics.{Goes, Stuck, act, on, step_of}
use Rattle.dif_machine.specs.Memories.{RunsOver}
use Rattle.dif_machine.specs.Steps.Instructions.{ExecutesOn, LeadsTo, Stops, StopsBy}
use Rattle.dif_machine.specs.Steps.Lasting.{IsRunning, Rests, restarted}
use Rattle.dif_machine.specs.declared.onward.Onward.{Onward}
use Rattle.dif_machine.specs.declared.onward.Onward.TheVariants as onward
use Rattle.dif_machine.proofs.Executing.{IsStable}
use Rattle.dif_machine.proofs.Holding.{keeps_on, keeps_refl}
use Rattle.dif_machine.proofs.Progress.{Follows, follows_start, follows_on, never_stuck, ends_badly}

-- it follows the run of the definition, texts that last keep their numbers, those that were found
-- are the firing's, and memory knows those that last and has what it had beside
pub record IsUnderWay {M : Type 0} (holds : M → List (List ℕ) → Variables) (is_over : M → List (List ℕ) → Type 0) (beside : M → List ℕ → ℕ) (o : Object) (f : Firing)
    (first : M) (m : Seen) (index : ℕ) (memory : M) (n : Seen) : Type 0 where
  pub follows : Follows o f (holds first m.texts) (at_index n.frame index) (holds memory n.texts)
  pub kept : Keeps m.texts n.lasting
  pub known : Knows f n.known
  pub running : IsRunning is_over memory n
  pub others : beside memory ≡ beside first

module _ {M : Type 0} (holds : M → List (List ℕ) → Variables) (is_over : M → List (List ℕ) → Type 0) (beside : M → List ℕ → ℕ) (o : Object) (f : Firing) (first : M) (m : Seen) where
  pub begins : (n : Seen) → IsValid o → n ≡ restarted m → Knows f m.known → is_over first m.texts → IsUnderWay holds is_over beside o f first m 0 first n
  begins n valid e known over = subst (IsUnderWay holds is_over beside o f first m 0 first) (sym e) (record {
    follows = follows_start o f (holds first m.texts) valid;
    kept = keeps_refl m.texts;
    known = known;
    running = record { over = over; among = keeps_refl m.texts };
    others = refl;
  })

  module _ (index : ℕ) (memory : M) (n : Seen) (u : IsUnderWay holds is_over beside o f first m index memory n) (i : Instr) (there : slice_get o.code index ≡ Some i) where
    pub runs : act i o f (at_index n.frame index) (holds memory n.texts) ≢ Stuck
    runs e = never_stuck o f (holds first m.texts) (at_index n.frame index) (holds memory n.texts) u.follows (ap (λ x. on x (λ i. act i o f (at_index n.frame index) (holds memory n.texts))) there ∙ e)

    module _ (left : M) (k : Seen) where
      -- what the instruction at the index did is the step
      stepped : (result : Result Onward MachineFault) → ExecutesOn holds is_over beside i o f memory n result left k → LeadsTo holds is_over beside f memory n index result left k (step_of o f (at_index n.frame index) (holds memory n.texts))
      stepped result e = subst (λ x. LeadsTo holds is_over beside f memory n index result left k (on x (λ i. act i o f (at_index n.frame index) (holds memory n.texts)))) (sym there) (e.leads index)

      comes_to : (result : Result Onward MachineFault) (next : ℕ) → ExecutesOn holds is_over beside i o f memory n result left k → step_of o f (at_index n.frame index) (holds memory n.texts) ≡ Goes (at_index k.frame next) (holds left k.texts)
          → (index < next) × IsUnderWay holds is_over beside o f first m next left k
      comes_to result next e goes =
          let led = stepped result e in
          let on = follows_on o f (holds first m.texts) (at_index n.frame index) (at_index k.frame next) (holds memory n.texts) (holds left k.texts) u.follows goes in
          (on.0, record { follows = on.1; kept = keeps_on m.texts n.lasting k.lasting u.kept led.lasting.more; known = led.known u.known; running = record { over = led.over; among = led.lasting.among }; others = led.others ∙ u.others })

      pub goes_on : (next : ℕ) → ExecutesOn holds is_over beside i o f memory n (Ok (onward.Goes next)) left k → (index < next) × IsUnderWay holds is_over beside o f first m next left k
      goes_on next e = comes_to (Ok (onward.Goes next)) next e (stepped (Ok (onward.Goes next)) e).stepped

      pub falls_on : ExecutesOn holds is_over beside i o f memory n (Ok onward.Next) left k → (index < index + 1) × IsUnderWay holds is_over beside o f first m (index + 1) left k
      falls_on e = comes_to (Ok onward.Next) (index + 1) e (stepped (Ok onward.Next) e).stepped

      -- the run stops there
      stops : (result : Result Onward MachineFault) → ExecutesOn holds is_over beside i o f memory n result left k → (r : Result Reg MachineFault) → StopsBy o f (holds first m.texts) k.frame r (holds left k.texts) → Stops holds is_over beside o f first m r left k
      stops result e r ended =
          let led = stepped result e in
          record {
            ends = ended;
            kept = keeps_on m.texts n.lasting k.lasting u.kept led.lasting.more;
            known = led.known u.known;
            running = record { over = led.over; among = led.lasting.among };
            beside = led.others ∙ u.others;
          }

      pub returned : (a : Reg) → ExecutesOn holds is_over beside i o f memory n (Ok (onward.Ends a)) left k → Stops holds is_over beside o f first m (Ok a) left k
      returned a e =
          let led = stepped (Ok (onward.Ends a)) e in
          stops (Ok (onward.Ends a)) e (Ok a) (led.stepped.0, led.stepped.1, u.follows.so_far _ (ends led.stepped.0 (holds left k.texts) led.stepped.2))

      pub failed : (fault : MachineFault) → ExecutesOn holds is_over beside i o f memory n (Err fault) left k → Stops holds is_over beside o f first m (Err fault) left k
      failed fault e =
          stops (Err fault) e (Err fault) (ends_badly o f (holds first m.texts) (at_index n.frame index) (at_index k.frame (index + 1)) (holds memory n.texts) (holds left k.texts) fault u.follows (stepped (Err fault) e).stepped)

  -- ---- a run that has stopped

  module _ (left : M) (k : Seen) where
    pub is_there : (a : Reg) → Stops holds is_over beside o f first m (Ok a) left k → at k.frame.registers a ≢ None
    is_there a s none = none-some s.ends.0 (sym none ∙ s.ends.1)

    pub ended : (a : Reg) → Stops holds is_over beside o f first m (Ok a) left k → (value : Value) → at k.frame.registers a ≡ Some value → RunEnds o f (holds first m.texts) (Ok value) (holds left k.texts)
    ended a s value is = subst (λ v. RunEnds o f (holds first m.texts) (Ok v) (holds left k.texts)) (same_Some _ _ (sym s.ends.1 ∙ is)) s.ends.2

    -- the texts that last are left alone
    pub rested : IsStable holds is_over → (r : Result Reg MachineFault) → Stops holds is_over beside o f first m r left k → (j : Seen) → Rests k j → (result : Result Word MachineFault)
        → RunEnds o f (holds first m.texts) (word_result j.texts result) (holds left k.texts) → IfOk result (IsWithin j.texts) → RunsOver holds is_over beside o f first m result left j
    rested stable r s j rests result ended within =
        let over = (stable left k.lasting j.lasting s.running.over rests.more).0 in
        let same = (stable left j.lasting k.texts over rests.among).1 in
        record {
          ends = subst (RunEnds o f (holds first m.texts) (word_result j.texts result)) (same ∙ ap (holds left) (sym rests.all)) ended;
          within = within;
          kept = subst (Keeps m.texts) (sym rests.all) (keeps_on m.texts k.lasting j.lasting s.kept rests.more);
          ready = record { known = subst (Knows f) (sym rests.known) s.known; over = subst (is_over left) (sym rests.all) over };
          beside = s.beside;
        }
