-- Where pieces of code lead.
use Rattle.std.specs.Prelude.{◌≡◌, ◌≢◌, ◌≤◌, ◌<◌, ℕ, ◌+◌, Bool, true, false, List, [], ◌∷◌, ◌++◌}
use Rattle.std.specs.Prelude.{length, Some, None, Result, Ok, Err, slice_get, slice_index_or}
use Rattle.std.proofs.Common.{refl, sym, ap, ◌∙◌, subst, arith, cond, length-append}
use Rattle.std.proofs.Math.ListN.{length-set}
use Rattle.std.proofs.lemmas.List.{get_or-set_same, get_or-set_other}
use Rattle.d_values.specs.declared.arithmetic.OutOfZero.{OutOfZero}
use Rattle.d_values.specs.declared.int_type.IntType.{IntType}
use Rattle.d_values.specs.declared.int_type.DType.{DType}
use Rattle.d_values.specs.declared.int_type.DType.TheVariants as ty
use Rattle.d_values.specs.declared.value.Value.{Value}
use Rattle.d_values.specs.declared.value.Value.TheVariants.{Int, Text}
use Rattle.firings.specs.declared.firing.Firing.{Firing}
use Rattle.d_types.specs.Expressions.{Outcome, Has, Faults, with, number_outcome, text_outcome}
use Rattle.d_types.specs.Expressions.{word_or_fault}
use Rattle.d_types.specs.Held.{IsOf, IsWord, Slots, AreTyped, EndsTyped}
use Rattle.d_types.specs.Storage.{Variables}
use Rattle.dif_validate.specs.declared.instruction.Condition.{Condition}
use Rattle.dif_validate.specs.declared.instruction.Instr.{Instr}
use Rattle.dif_validate.specs.declared.instruction.Instr.TheVariants.{Alu, Ba, Branch, Setx, Sets}
use Rattle.dif_validate.specs.declared.instruction.Operator.{Operator}
use Rattle.dif_validate.specs.declared.register.Reg.{Reg}
use Rattle.dif_validate.specs.Objects.{Object}
use Rattle.dif_validate.specs.Registers.{at}
use Rattle.dif_machine.specs.declared.comparing.Comparison.{Comparison}
use Rattle.dif_machine.specs.Frames.{Frame, at_index, with_value, with_comparison}
use Rattle.dif_machine.specs.Operators.{result_of, holds}
use Rattle.dif_machine.specs.Runs.{End, Divides, Reaches, faults, goes}
use Rattle.d_types.specs.Storage as storage
use Rattle.dif_machine.specs.Semantics as st
use Rattle.dif_codegen.specs.Steps.Code.{register}
use Rattle.dif_codegen.specs.Steps.Pieces as pieces
use Rattle.dif_codegen.specs.Steps.Pieces.{Piece, Place, Maker, past, both, fork, choice_code}
use Rattle.dif_codegen.specs.Steps.Pieces.{bit_by, next}
use Rattle.dif_codegen.proofs.Standing.{has_front, has_back, Stands, stands_front, stands_back}
use Rattle.dif_codegen.proofs.Standing.{put_is}

-- a frame in which an expression may begin
pub record Ready (s : Frame) : Type 0 where
  pub long : length s.registers ≡ 8
  pub zero_is : slice_index_or s.registers 0 None ≡ Some (Int 0)
  pub empty : s.tuple ≡ []

-- the register of number r has the value; those below it, and the tuple, are as before
pub record Done (r pc : ℕ) (s t : Frame) (v : Value) : Type 0 where
  pub at : t.pc ≡ pc
  pub value : slice_index_or t.registers r None ≡ Some v
  pub kept : (k : ℕ) → k < r → slice_index_or t.registers k None ≡ slice_index_or s.registers k None
  pub long : length t.registers ≡ 8
  pub tuple : t.tuple ≡ s.tuple

-- a register that may hold a value
pub record Usable (r : ℕ) : Type 0 where
  pub low : 0 < r
  pub high : r ≤ 7

pub ready_on : (r pc : ℕ) (s t : Frame) (v : Value) → 0 < r → Ready s → Done r pc s t v → Ready t
ready_on r pc s t v low h d = record { long = d.long; zero_is = d.kept 0 low ∙ h.zero_is; empty = d.tuple ∙ h.empty }

pub same_ready : (s t : Frame) → t.registers ≡ s.registers → t.tuple ≡ s.tuple → Ready s → Ready t
same_ready s t e f h = record { long = ap length e ∙ h.long; zero_is = ap (λ xs. slice_index_or xs 0 None) e ∙ h.zero_is; empty = f ∙ h.empty }

pub done_value : (s : Frame) (r : ℕ) (v : Value) → Usable r → length s.registers ≡ 8 → Done r (s.pc + 1) s (with_value s (register r) v) v
done_value s r v u long =
    let e = put_is s.registers r (Some v) u.low u.high in
    let lt : r < length s.registers = omega (arith, u.high) in
    record {
      at = refl;
      value = ap (λ xs. slice_index_or xs r None) e ∙ get_or-set_same s.registers r (Some v) None lt;
      kept = λ k less. let ne : k ≢ r = omega arith in ap (λ xs. slice_index_or xs k None) e ∙ get_or-set_other s.registers r k (Some v) None ne;
      long = ap length e ∙ length-set s.registers r (Some v) ∙ long;
      tuple = refl;
    }

module _ (o : Object) (f : Firing) where
  -- whatever the run comes to from where the value is there, it comes to from here
  abbrev pub Leads : ℕ → ℕ → Frame → Variables → Outcome Value → Type 0
  Leads r pc s vars (Faults w) = Reaches o f s vars (Divides w)
  Leads r pc s vars (Has v w) = (end : End) → ((t : Frame) → Done r pc s t v → Reaches o f t w end) → Reaches o f s vars end

  pub step : (s : Frame) (vars : storage.Variables) (pc : ℕ) (i : Instr) → s.pc ≡ pc → slice_get o.code pc ≡ Some i → st.step_of o f s vars ≡ st.act i o f s vars
  step s vars pc i e h = ap (λ x. st.on x (λ i. st.act i o f s vars)) (ap (slice_get o.code) e ∙ h)

  -- the index at the end, under another name
  pub ends_at : (r pc pc' : ℕ) (s : Frame) (vars : Variables) (z : Outcome Value) → pc ≡ pc' → Leads r pc s vars z → Leads r pc' s vars z
  ends_at r pc pc' s vars z e h = subst (λ n. Leads r n s vars z) e h

  done_trans : (r r1 pc1 pc2 : ℕ) (s t u : Frame) (x y : Value) → r ≤ r1 → Done r1 pc1 s t x → Done r pc2 t u y → Done r pc2 s u y
  done_trans r r1 pc1 pc2 s t u x y le a b = record { at = b.at; value = b.value; kept = λ k less. b.kept k less ∙ a.kept k (omega arith); long = b.long; tuple = b.tuple ∙ a.tuple }

  chain : (r r1 pc1 pc2 : ℕ) (s : Frame) (vars vars1 : Variables) (x : Value) (z : Outcome Value) → r ≤ r1 → Leads r1 pc1 s vars (Has x vars1) → ((t : Frame) → Done r1 pc1 s t x → Leads r pc2 t vars1 z) → Leads r pc2 s vars z
  chain r r1 pc1 pc2 s vars vars1 x (Faults w) le a b = a (Divides w) b
  chain r r1 pc1 pc2 s vars vars1 x (Has y w) le a b = λ end c. a end (λ t d. b t d end (λ u e. c u (done_trans r r1 pc1 pc2 s t u x y le d e)))

  -- one instruction that puts a value
  pub put_leads : (r pc : ℕ) (v : Value) (s : Frame) (vars vars1 : Variables) (i : Instr) → Usable r → length s.registers ≡ 8 → s.pc ≡ pc → slice_get o.code pc ≡ Some i
      → st.act i o f s vars ≡ st.puts s (register r) v vars1 → Leads r (pc + 1) s vars (Has v vars1)
  put_leads r pc v s vars vars1 i u long e has op =
      let n : s.pc + 1 ≡ pc + 1 = omega arith in
      λ end c. goes _ vars1 (step s vars pc i e has ∙ op) (c _ (subst (λ k. Done r k s (with_value s (register r) v) v) n (done_value s r v u long)))

  -- one instruction that leaves the value where it is
  pub keep_leads : (r pc : ℕ) (v : Value) (s : Frame) (vars vars1 : Variables) (i : Instr) → length s.registers ≡ 8 → s.pc ≡ pc → slice_get o.code pc ≡ Some i → slice_index_or s.registers r None ≡ Some v
      → st.act i o f s vars ≡ st.Goes (at_index s (s.pc + 1)) vars1 → Leads r (pc + 1) s vars (Has v vars1)
  keep_leads r pc v s vars vars1 i long e has val op =
      let n : s.pc + 1 ≡ pc + 1 = omega arith in
      λ end c. goes _ vars1 (step s vars pc i e has ∙ op) (c _ (record { at = n; value = val; kept = λ k less. refl; long = long; tuple = refl }))

  -- nothing at all
  pub none_leads : (r pc : ℕ) (v : Value) (s : Frame) (vars : Variables) → length s.registers ≡ 8 → s.pc ≡ pc → slice_index_or s.registers r None ≡ Some v → Leads r (pc + 0) s vars (Has v vars)
  none_leads r pc v s vars long e val = λ end c. c s (record { at = e ∙ omega arith; value = val; kept = λ k less. refl; long = long; tuple = refl })

  pub number_leads : (r : ℕ) (pl : Place) (word : ℕ) (s : Frame) (vars : Variables) → Usable r → length s.registers ≡ 8 → s.pc ≡ pl.at → Stands o pl (pieces.number word (register r) pl) → Leads r (pl.at + 1) s vars (Has (Int word) vars)
  number_leads r pl word s vars u long e h =
      put_leads r pl.at (Int word) s vars vars (Setx pl.numbers (register r)) u long e h.code.0 (ap (λ x. st.on x (λ n. st.puts s (register r) (Int n) vars)) h.numbers.0)

  pub text_leads : (r : ℕ) (pl : Place) (bytes : List ℕ) (s : Frame) (vars : Variables) → Usable r → length s.registers ≡ 8 → s.pc ≡ pl.at → Stands o pl (pieces.text bytes (register r) pl) → Leads r (pl.at + 1) s vars (Has (Text bytes) vars)
  text_leads r pl bytes s vars u long e h =
      put_leads r pl.at (Text bytes) s vars vars (Sets pl.texts (register r)) u long e h.code.0 (ap (λ x. st.on x (λ b. st.puts s (register r) (Text b) vars)) h.texts.0)

  -- an operator, which has a word or divides by 0
  pub alu_leads : (r pc x y : ℕ) (z : Result ℕ OutOfZero) (a b : Reg) (op : Operator) (s : Frame) (vars : Variables) → Usable r → length s.registers ≡ 8 → s.pc ≡ pc → slice_get o.code pc ≡ Some (Alu op a b (register r))
      → at s.registers a ≡ Some (Int x) → at s.registers b ≡ Some (Int y) → result_of op x y ≡ z → Leads r (pc + 1) s vars (with (word_or_fault z vars) (λ word. Has (Int word)))
  alu_leads r pc x y (Err z) a b op s vars u long e has va vb is = faults vars (step s vars pc _ e has ∙ rw (va, vb, is) refl)
  alu_leads r pc x y (Ok word) a b op s vars u long e has va vb is = put_leads r pc (Int word) s vars vars (Alu op a b (register r)) u long e has (rw (va, vb, is) refl)

  -- ---- two pieces

  pub both_leads : (r r1 : ℕ) (pl : Place) (g h : Maker) (s : Frame) (vars : Variables) (z : Outcome Value) (k : Value → Variables → Outcome Value) → r ≤ r1 → Stands o pl (both g h pl)
      → (Stands o pl (g pl) → Leads r1 (pl.at + length (g pl).code) s vars z)
      → ((pl1 : Place) → Stands o pl1 (h pl1) → (x : Value) (vars1 : Variables) (t : Frame) → z ≡ Has x vars1 → Done r1 pl1.at s t x → Leads r (pl1.at + length (h pl1).code) t vars1 (k x vars1))
      → Leads r (pl.at + length (both g h pl).code) s vars (with z k)
  both_leads r r1 pl g h s vars z k le stands a b =
      let p = g pl in
      let pl1 = past pl p in
      let q = h pl1 in
      let e : pl1.at + length q.code ≡ pl.at + length (p.code ++ q.code) = omega (arith, length-append p.code q.code) in
      by z refl (a (stands_front o pl p q stands))
    where
      by : (y : Outcome Value) → z ≡ y → Leads r1 (pl.at + length (g pl).code) s vars y → Leads r (pl.at + length (both g h pl).code) s vars (with y k)
      by (Faults w) is l = l
      by (Has x w) is l =
          let p = g pl in
          let pl1 = past pl p in
          let q = h pl1 in
          let e : pl1.at + length q.code ≡ pl.at + length (p.code ++ q.code) = omega (arith, length-append p.code q.code) in
          chain r r1 pl1.at (pl.at + length (p.code ++ q.code)) s vars w x (k x w) le l
          (λ t d. ends_at r (pl1.at + length q.code) _ t w (k x w) e (b pl1 (stands_back o pl p q stands) x w t is d))

  -- of which the second goes on with the first one's number
  pub both_number : (slots : Slots) (r r1 : ℕ) (pl : Place) (g h : Maker) (s : Frame) (vars : Variables) (u : DType) (it : IntType) (z : Outcome Value) (k : ℕ → Variables → Outcome Value) → r ≤ r1 → u ≡ ty.Int it → EndsTyped slots (IsOf u) z → Stands o pl (both g h pl)
      → (Stands o pl (g pl) → Leads r1 (pl.at + length (g pl).code) s vars z)
      → ((pl1 : Place) → Stands o pl1 (h pl1) → (x : ℕ) (vars1 : Variables) (t : Frame) → IsWord it x → AreTyped slots vars1 → Done r1 pl1.at s t (Int x) → Leads r (pl1.at + length (h pl1).code) t vars1 (k x vars1))
      → Leads r (pl.at + length (both g h pl).code) s vars (with (number_outcome z) k)
  both_number slots r r1 pl g h s vars u it z k le same typed stands a b =
      subst (Leads r (pl.at + length (both g h pl).code) s vars) (sym (numbered z))
      (both_leads r r1 pl g h s vars z (λ v. k (storage.word_of v)) le stands a
      (λ pl1 st1 v vars1 t is d. on v vars1 pl1 st1 t (subst (λ y. EndsTyped slots (IsOf (ty.Int it)) y) is (subst (λ w. EndsTyped slots (IsOf w) z) same typed)) d))
    where
      numbered : (z : Outcome Value) → with (number_outcome z) k ≡ with z (λ v. k (storage.word_of v))
      numbered (Has (Int x) w) = refl
      numbered (Has (Text bytes) w) = refl
      numbered (Faults w) = refl

      on : (v : Value) (vars1 : Variables) (pl1 : Place) → Stands o pl1 (h pl1) → (t : Frame) → IsOf (ty.Int it) v × AreTyped slots vars1 → Done r1 pl1.at s t v → Leads r (pl1.at + length (h pl1).code) t vars1 (k (storage.word_of v) vars1)
      on (Int x) vars1 pl1 st1 t is d = b pl1 st1 x vars1 t is.0 is.1 d
      on (Text bytes) vars1 pl1 st1 t is d = absurd is.0

  -- or text
  pub both_text : (slots : Slots) (r r1 : ℕ) (pl : Place) (g h : Maker) (s : Frame) (vars : Variables) (u : DType) (z : Outcome Value) (k : List ℕ → Variables → Outcome Value) → r ≤ r1 → u ≡ ty.Text → EndsTyped slots (IsOf u) z → Stands o pl (both g h pl)
      → (Stands o pl (g pl) → Leads r1 (pl.at + length (g pl).code) s vars z)
      → ((pl1 : Place) → Stands o pl1 (h pl1) → (x : List ℕ) (vars1 : Variables) (t : Frame) → AreTyped slots vars1 → Done r1 pl1.at s t (Text x) → Leads r (pl1.at + length (h pl1).code) t vars1 (k x vars1))
      → Leads r (pl.at + length (both g h pl).code) s vars (with (text_outcome z) k)
  both_text slots r r1 pl g h s vars u z k le same typed stands a b =
      subst (Leads r (pl.at + length (both g h pl).code) s vars) (sym (spelled z))
      (both_leads r r1 pl g h s vars z (λ v. k (storage.bytes_of v)) le stands a
      (λ pl1 st1 v vars1 t is d. on v vars1 pl1 st1 t (subst (λ y. EndsTyped slots (IsOf ty.Text) y) is (subst (λ w. EndsTyped slots (IsOf w) z) same typed)) d))
    where
      spelled : (z : Outcome Value) → with (text_outcome z) k ≡ with z (λ v. k (storage.bytes_of v))
      spelled (Has (Int x) w) = refl
      spelled (Has (Text bytes) w) = refl
      spelled (Faults w) = refl

      on : (v : Value) (vars1 : Variables) (pl1 : Place) → Stands o pl1 (h pl1) → (t : Frame) → IsOf ty.Text v × AreTyped slots vars1 → Done r1 pl1.at s t v → Leads r (pl1.at + length (h pl1).code) t vars1 (k (storage.bytes_of v) vars1)
      on (Int x) vars1 pl1 st1 t is d = absurd is.0
      on (Text bytes) vars1 pl1 st1 t is d = b pl1 st1 bytes vars1 t is.1 d

  -- ---- one or the other

  before_leads : (r pc : ℕ) (s t : Frame) (vars : Variables) (z : Outcome Value) → t.registers ≡ s.registers → t.tuple ≡ s.tuple → ((end : End) → Reaches o f t vars end → Reaches o f s vars end) → Leads r pc t vars z → Leads r pc s vars z
  before_leads r pc s t vars (Faults w) e e' g h = g (Divides w) h
  before_leads r pc s t vars (Has v w) e e' g h =
      λ end c. g end (h end (λ u d. c u (record { at = d.at; value = d.value; kept = λ k less. d.kept k less ∙ ap (λ xs. slice_index_or xs k None) e; long = d.long; tuple = d.tuple ∙ e' })))

  jump_leads : (r pc to : ℕ) (s : Frame) (vars : Variables) (z : Outcome Value) → slice_get o.code pc ≡ Some (Ba to) → Leads r pc s vars z → Leads r to s vars z
  jump_leads r pc to s vars (Faults w) has h = h
  jump_leads r pc to s vars (Has v w) has h =
      λ end c. h end (λ t d. goes _ w (step t w pc (Ba to) d.at has) (c _ (record { at = refl; value = d.value; kept = d.kept; long = d.long; tuple = d.tuple })))

  -- by what the comparison says
  pub fork_leads : (r : ℕ) (pl : Place) (condition : Condition) (g h : Maker) (s : Frame) (vars : Variables) (known : Comparison) (a b : Outcome Value) (way : Bool) → s.pc ≡ pl.at → s.comparison ≡ Some known → holds condition known ≡ way → Stands o pl (fork condition g h pl)
      → ((pl1 : Place) → Stands o pl1 (g pl1) → (t : Frame) → t.pc ≡ pl1.at → t.registers ≡ s.registers → t.tuple ≡ s.tuple → Leads r (pl1.at + length (g pl1).code) t vars a)
      → ((pl1 : Place) → Stands o pl1 (h pl1) → (t : Frame) → t.pc ≡ pl1.at → t.registers ≡ s.registers → t.tuple ≡ s.tuple → Leads r (pl1.at + length (h pl1).code) t vars b)
      → Leads r (pl.at + length (fork condition g h pl).code) s vars (cond way b a)
  fork_leads r pl condition g h s vars known a b true e c is stands la lb =
      let pl1 = next pl in
      let p = g pl1 in
      let pl2 = next (past pl1 p) in
      let q = h pl2 in
      let to = pl.at + 2 + length p.code in
      let end = to + length q.code in
      let t = at_index s to in
      let back = has_back o.code (pl.at + 1) p.code (Ba end ∷ q.code) stands.code.1 in
      let stq : Stands o pl2 q = record { code = back.1; texts = has_back o.texts pl.texts p.texts q.texts stands.texts; numbers = has_back o.numbers pl.numbers p.numbers q.numbers stands.numbers } in
      let there : to ≡ pl2.at = omega arith in
      let last : pl2.at + length q.code ≡ pl.at + length (Branch condition to ∷ (p.code ++ Ba end ∷ q.code)) = omega (arith, length-append p.code (Ba end ∷ q.code)) in
      ends_at r (pl2.at + length q.code) _ s vars b last
      (before_leads r (pl2.at + length q.code) s t vars b refl refl
      (λ x w. goes t vars (step s vars pl.at (Branch condition to) e stands.code.0 ∙ ap (λ y. st.on y (λ k. st.Goes (at_index s (cond (holds condition k) to (s.pc + 1))) vars)) c ∙ ap (λ y. st.Goes (at_index s (cond y to (s.pc + 1))) vars) is) w)
      (lb pl2 stq t there refl refl))
  fork_leads r pl condition g h s vars known a b false e c is stands la lb =
      let pl1 = next pl in
      let p = g pl1 in
      let pl2 = next (past pl1 p) in
      let q = h pl2 in
      let to = pl.at + 2 + length p.code in
      let end = to + length q.code in
      let t = at_index s (s.pc + 1) in
      let back = has_back o.code (pl.at + 1) p.code (Ba end ∷ q.code) stands.code.1 in
      let stp : Stands o pl1 p = record { code = has_front o.code (pl.at + 1) p.code (Ba end ∷ q.code) stands.code.1; texts = has_front o.texts pl.texts p.texts q.texts stands.texts; numbers = has_front o.numbers pl.numbers p.numbers q.numbers stands.numbers } in
      let there : s.pc + 1 ≡ pl1.at = omega arith in
      let last : end ≡ pl.at + length (Branch condition to ∷ (p.code ++ Ba end ∷ q.code)) = omega (arith, length-append p.code (Ba end ∷ q.code)) in
      ends_at r end _ s vars a last
      (before_leads r end s t vars a refl refl
      (λ x w. goes t vars (step s vars pl.at (Branch condition to) e stands.code.0 ∙ ap (λ y. st.on y (λ k. st.Goes (at_index s (cond (holds condition k) to (s.pc + 1))) vars)) c ∙ ap (λ y. st.Goes (at_index s (cond y to (s.pc + 1))) vars) is) w)
      (jump_leads r (pl1.at + length p.code) end t vars a back.0 (la pl1 stp t there refl refl)))

  -- after a test
  pub choice_leads : (r : ℕ) (pl : Place) (test : Instr) (condition : Condition) (g h : Maker) (s : Frame) (vars : Variables) (known : Comparison) (a b : Outcome Value) (way : Bool) → s.pc ≡ pl.at → Stands o pl (choice_code test condition g h pl)
      → st.act test o f s vars ≡ st.Goes (with_comparison s known) vars → holds condition known ≡ way
      → ((pl1 : Place) → Stands o pl1 (g pl1) → (t : Frame) → t.pc ≡ pl1.at → t.registers ≡ s.registers → t.tuple ≡ s.tuple → Leads r (pl1.at + length (g pl1).code) t vars a)
      → ((pl1 : Place) → Stands o pl1 (h pl1) → (t : Frame) → t.pc ≡ pl1.at → t.registers ≡ s.registers → t.tuple ≡ s.tuple → Leads r (pl1.at + length (h pl1).code) t vars b)
      → Leads r (pl.at + length (choice_code test condition g h pl).code) s vars (cond way b a)
  choice_leads r pl test condition g h s vars known a b way e stands op is la lb =
      let t = with_comparison s known in
      let p : Piece = pieces.one_instr test pl in
      let pl1 = past pl p in
      let there : s.pc + 1 ≡ pl1.at = omega arith in
      let last : pl1.at + length (fork condition g h pl1).code ≡ pl.at + length (choice_code test condition g h pl).code = omega arith in
      ends_at r _ _ s vars (cond way b a) last
      (before_leads r (pl1.at + length (fork condition g h pl1).code) s t vars (cond way b a) refl refl
      (λ x w. goes t vars (step s vars pl.at test e stands.code.0 ∙ op) w)
      (fork_leads r pl1 condition g h t vars known a b way there refl is (stands_back o pl p (fork condition g h pl1) stands) la lb))

  -- 1 or 0
  pub bit_leads : (r : ℕ) (pl : Place) (test : Instr) (condition : Condition) (s : Frame) (vars : Variables) (known : Comparison) (way : Bool) → Usable r → length s.registers ≡ 8 → s.pc ≡ pl.at → Stands o pl (bit_by test condition (register r) pl)
      → st.act test o f s vars ≡ st.Goes (with_comparison s known) vars → holds condition known ≡ way
      → Leads r (pl.at + length (bit_by test condition (register r) pl).code) s vars (cond way (Has (Int 1) vars) (Has (Int 0) vars))
  bit_leads r pl test condition s vars known way u long e stands op is =
      choice_leads r pl test condition (pieces.number 0 (register r)) (pieces.number 1 (register r)) s vars known (Has (Int 0) vars) (Has (Int 1) vars) way e stands op is
      (λ pl1 st1 t te tr tt'. number_leads r pl1 0 t vars u (ap length tr ∙ long) te st1)
      (λ pl1 st1 t te tr tt'. number_leads r pl1 1 t vars u (ap length tr ∙ long) te st1)
