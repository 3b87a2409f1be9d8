-- Elements: their keys in registers, the tuple, and what is read and changed.
use Rattle.std.specs.Prelude.{◌≡◌, ◌≤◌, ◌<◌, ℕ, ◌+◌, List, [], ◌∷◌, ◌++◌, length, Option, Some}
use Rattle.std.specs.Prelude.{None, slice_index_or}
use Rattle.std.specs.Int.{cast_signed, w64}
use Rattle.std.proofs.Common.{refl, sym, ap, ◌∙◌, subst, arith, cond, length-append, append_assoc}
use Rattle.std.proofs.Common.{append-nil}
use Rattle.std.proofs.lemmas.Bool.{lt-ltb}
use Rattle.d_values.specs.declared.int_type.DType.{DType}
use Rattle.d_values.specs.declared.int_type.DType.TheVariants as ty
use Rattle.d_values.specs.declared.key.KeyPart.{KeyPart}
use Rattle.d_values.specs.declared.key.KeyPart.TheVariants as ke
use Rattle.d_values.specs.declared.value.Value.{Value}
use Rattle.d_values.specs.declared.variable.Var.{Var}
use Rattle.d_values.specs.declared.value.Value.TheVariants.{Int, Text}
use Rattle.firings.specs.declared.firing.Firing.{Firing}
use Rattle.d_types.specs.declared.typed.Space.{Space}
use Rattle.d_types.specs.declared.typed.Space.TheVariants as sp
use Rattle.d_types.specs.Expressions.{Outcome, Has, Faults, with, part_of}
use Rattle.d_types.specs.Held.{IsOf, Slots, AreTyped, EndsTyped}
use Rattle.d_types.specs.Needs.{count}
use Rattle.d_types.specs.Storage as storage
use Rattle.d_types.specs.Storage.{Variables, value_in_space, set_in}
use Rattle.d_types.specs.Typed.{Typed, Typeds, end, more, type_of}
use Rattle.d_types.specs.Variables.{kind_of_type}
use Rattle.dif_validate.specs.declared.instruction.Instr.TheVariants.{Mov, Flushts, Ldtaa, Sttaa}
use Rattle.dif_validate.specs.Objects.{Object}
use Rattle.dif_validate.specs.Registers.{at}
use Rattle.dif_machine.specs.Frames.{Frame}
use Rattle.dif_machine.specs.Frames.{at_index, with_value, with_tuple}
use Rattle.dif_machine.specs.Runs.{End, Divides, Reaches, goes}
use Rattle.dif_machine.specs.Sources as machine
use Rattle.dif_machine.specs.Semantics as st
use Rattle.dif_codegen.specs.Steps.Code.{register, push_of, pushing, element_code, fetching, saving}
use Rattle.dif_codegen.specs.Steps.Code.{lowering}
use Rattle.dif_codegen.specs.Steps.Pieces.{Place, Maker, one_instr, both, past}
use Rattle.dif_codegen.proofs.Leading.{Ready, Done, Usable, done_value, step, Leads, put_leads}
use Rattle.dif_codegen.proofs.Leading.{keep_leads, none_leads}
use Rattle.dif_codegen.proofs.Meaning.{kept_kind, on_kind_is, loads, stores}
use Rattle.dif_codegen.proofs.Standing.{Stands, stands_front, stands_back, at_is}

-- the values of keys are in this register and those after it
abbrev pub AreThere : Typeds → ℕ → List (Option Value) → List KeyPart → Type 0
AreThere end r xs key = key ≡ []
AreThere (more a rest) r xs key =
    (v : Value) × (parts : List KeyPart) × (slice_index_or xs r None ≡ Some v) × IsOf (type_of a) v × (key ≡ part_of v ∷ parts) × AreThere rest (r + 1) xs parts

pub there_kept : (keys : Typeds) (r : ℕ) (xs ys : List (Option Value)) (key : List KeyPart) → ((k : ℕ) → k < r + count keys → slice_index_or ys k None ≡ slice_index_or xs k None) → AreThere keys r xs key → AreThere keys r ys key
there_kept end r xs ys key same h = h
there_kept (more a rest) r xs ys key same h =
    (h.0, h.1, same r (omega arith) ∙ h.2, h.3, h.4, there_kept rest (r + 1) xs ys h.1 (λ k less. same k (omega arith)) h.5)

-- the keys were made
pub record Keyed (keys : Typeds) (r pc : ℕ) (s t : Frame) (key : List KeyPart) : Type 0 where
  pub at : t.pc ≡ pc
  pub there : AreThere keys r t.registers key
  pub kept : (k : ℕ) → k < r → slice_index_or t.registers k None ≡ slice_index_or s.registers k None
  pub long : length t.registers ≡ 8
  pub tuple : t.tuple ≡ s.tuple

pub ready_keyed : (keys : Typeds) (r pc : ℕ) (s t : Frame) (key : List KeyPart) → 0 < r → Ready s → Keyed keys r pc s t key → Ready t
ready_keyed keys r pc s t key low h d = record { long = d.long; zero_is = d.kept 0 low ∙ h.zero_is; empty = d.tuple ∙ h.empty }

module _ (o : Object) (f : Firing) where
  -- whatever the run comes to from where the keys are there, it comes to from here
  abbrev pub KeysLead : Typeds → ℕ → ℕ → Frame → Variables → Outcome (List KeyPart) → Type 0
  KeysLead keys r pc s vars (Faults w) = Reaches o f s vars (Divides w)
  KeysLead keys r pc s vars (Has key w) = (end : End) → ((t : Frame) → Keyed keys r pc s t key → Reaches o f t w end) → Reaches o f s vars end

  join_keyed : (a : Typed) (rest : Typeds) (r pc1 pc2 : ℕ) (s t u : Frame) (x : Value) (key : List KeyPart) → IsOf (type_of a) x → Done r pc1 s t x → Keyed rest (r + 1) pc2 t u key → Keyed (more a rest) r pc2 s u (part_of x ∷ key)
  join_keyed a rest r pc1 pc2 s t u x key is d k = record {
    at = k.at;
    there = (x, key, k.kept r (omega arith) ∙ d.value, is, refl, k.there);
    kept = λ n less. k.kept n (omega arith) ∙ d.kept n less;
    long = k.long;
    tuple = k.tuple ∙ d.tuple;
  }

  keys_join : (a : Typed) (rest : Typeds) (r pc1 pc2 : ℕ) (s : Frame) (vars w : Variables) (x : Value) (z : Outcome (List KeyPart)) → IsOf (type_of a) x → Leads o f r pc1 s vars (Has x w)
      → ((t : Frame) → Done r pc1 s t x → KeysLead rest (r + 1) pc2 t w z) → KeysLead (more a rest) r pc2 s vars (with z (λ key. Has (part_of x ∷ key)))
  keys_join a rest r pc1 pc2 s vars w x (Faults w2) is l m = l (Divides w2) m
  keys_join a rest r pc1 pc2 s vars w x (Has key w2) is l m = λ end c. l end (λ t d. m t d end (λ u k. c u (join_keyed a rest r pc1 pc2 s t u x key is d k)))

  pub keys_first : (slots : Slots) (a : Typed) (rest : Typeds) (r pc1 pc2 : ℕ) (s : Frame) (vars : Variables) (z : Outcome Value) (go : Variables → Outcome (List KeyPart)) → Leads o f r pc1 s vars z → EndsTyped slots (IsOf (type_of a)) z
      → ((x : Value) (w : Variables) (t : Frame) → AreTyped slots w → Done r pc1 s t x → KeysLead rest (r + 1) pc2 t w (go w)) → KeysLead (more a rest) r pc2 s vars (with z (λ x vars. with (go vars) (λ key. Has (part_of x ∷ key))))
  keys_first slots a rest r pc1 pc2 s vars (Faults w) go l is m = l
  keys_first slots a rest r pc1 pc2 s vars (Has x w) go l is m = keys_join a rest r pc1 pc2 s vars w x (go w) is.0 l (λ t d. m x w t is.1 d)

  done_keyed : (keys : Typeds) (r pc1 pc2 : ℕ) (s t u : Frame) (key : List KeyPart) (y : Value) → Keyed keys r pc1 s t key → Done r pc2 t u y → Done r pc2 s u y
  done_keyed keys r pc1 pc2 s t u key y a b = record { at = b.at; value = b.value; kept = λ k less. b.kept k less ∙ a.kept k less; long = b.long; tuple = b.tuple ∙ a.tuple }

  keys_chain : (keys : Typeds) (r pc1 pc2 : ℕ) (s : Frame) (vars vars1 : Variables) (key : List KeyPart) (z : Outcome Value) → KeysLead keys r pc1 s vars (Has key vars1) → ((t : Frame) → Keyed keys r pc1 s t key → Leads o f r pc2 t vars1 z) → Leads o f r pc2 s vars z
  keys_chain keys r pc1 pc2 s vars vars1 key (Faults w) a b = a (Divides w) b
  keys_chain keys r pc1 pc2 s vars vars1 key (Has x w) a b = λ end c. a end (λ t d. b t d end (λ u e. c u (done_keyed keys r pc1 pc2 s t u key x d e)))

  -- keys, and what goes on with them
  pub keys_both : (slots : Slots) (keys : Typeds) (r : ℕ) (pl : Place) (g h : Maker) (s : Frame) (vars : Variables) (z : Outcome (List KeyPart)) (k : List KeyPart → Variables → Outcome Value) → EndsTyped slots (λ key. Unit {0}) z → Stands o pl (both g h pl)
      → (Stands o pl (g pl) → KeysLead keys r (pl.at + length (g pl).code) s vars z)
      → ((pl1 : Place) → Stands o pl1 (h pl1) → (key : List KeyPart) (vars1 : Variables) (t : Frame) → AreTyped slots vars1 → Keyed keys r pl1.at s t key → Leads o f r (pl1.at + length (h pl1).code) t vars1 (k key vars1))
      → Leads o f r (pl.at + length (both g h pl).code) s vars (with z k)
  keys_both slots keys r pl g h s vars z k typed stands a b = by z typed (a (stands_front o pl (g pl) (h (past pl (g pl))) stands))
    where
      by : (y : Outcome (List KeyPart)) → EndsTyped slots (λ key. Unit {0}) y → KeysLead keys r (pl.at + length (g pl).code) s vars y → Leads o f r (pl.at + length (both g h pl).code) s vars (with y k)
      by (Faults w) is l = l
      by (Has key w) is l =
          let p = g pl in
          let pl1 = past pl p in
          let q = h pl1 in
          let e : pl1.at + length q.code ≡ pl.at + length (p.code ++ q.code) = omega (arith, length-append p.code q.code) in
          keys_chain keys r pl1.at (pl.at + length (p.code ++ q.code)) s vars w key (k key w) l
          (λ t d. subst (λ n. Leads o f r n t w (k key w)) e (b pl1 (stands_back o pl p q stands) key w t is.1 d))

  -- ---- the tuple

  push_is : (t : DType) (v : Value) (r : ℕ) (s : Frame) (vars : storage.Variables) → IsOf t v → r ≤ 7 → slice_index_or s.registers r None ≡ Some v → length s.tuple < 8
      → st.act (push_of t (register r)) o f s vars ≡ st.Goes (with_tuple s (s.tuple ++ part_of v ∷ [])) vars
  push_is (ty.Int t) (Int n) r s vars is le val short =
      ap (λ x. st.on_number x (λ n. st.pushes s (ke.Number (cast_signed w64 n)) vars)) (at_is s.registers r le ∙ val)
      ∙ ap (λ b. cond b (st.Goes (with_tuple s (s.tuple ++ ke.Number (cast_signed w64 n) ∷ [])) vars) st.Stuck) (lt-ltb (length s.tuple) 8 short)
  push_is (ty.Int t) (Text bytes) r s vars is le val short = absurd is
  push_is ty.Text (Int n) r s vars is le val short = absurd is
  push_is ty.Text (Text bytes) r s vars is le val short =
      ap (λ x. st.on_text x (λ bytes. st.pushes s (ke.Name bytes) vars)) (at_is s.registers r le ∙ val)
      ∙ ap (λ b. cond b (st.Goes (with_tuple s (s.tuple ++ ke.Name bytes ∷ [])) vars) st.Stuck) (lt-ltb (length s.tuple) 8 short)

  pub pushes_on : (keys : Typeds) (r : ℕ) (pl : Place) (s : Frame) (vars : storage.Variables) (key done : List KeyPart) → r + count keys ≤ 8 → length done + count keys ≤ 8 → AreThere keys r s.registers key → s.tuple ≡ done → s.pc ≡ pl.at → Stands o pl (pushing keys r pl)
      → (end : End) → ((t : Frame) → t.pc ≡ pl.at + length (pushing keys r pl).code → t.registers ≡ s.registers → t.tuple ≡ done ++ key → Reaches o f t vars end) → Reaches o f s vars end
  pushes_on end r pl s vars key done few short there tup e stands last c = c s (e ∙ omega arith) refl (tup ∙ sym (ap (λ k. done ++ k) there ∙ append-nil done))
  pushes_on (more a rest) r pl s vars key done few short there tup e stands last c =
      let v = there.0 in
      let p = part_of v in
      let s1 = with_tuple s (s.tuple ++ p ∷ []) in
      let pl1 = past pl (one_instr (push_of (type_of a) (register r)) pl) in
      let n : s.pc + 1 ≡ pl1.at = omega arith in
      let size : length s.tuple < 8 = let l = ap length tup in omega arith in
      let grown : length (done ++ p ∷ []) + count rest ≤ 8 = omega (arith, length-append done (p ∷ [])) in
      let len : pl1.at + length (pushing rest (r + 1) pl1).code ≡ pl.at + length (pushing (more a rest) r pl).code = omega arith in
      goes s1 vars (step o f s vars pl.at (push_of (type_of a) (register r)) e stands.code.0 ∙ push_is (type_of a) v r s vars there.3 (omega arith) there.2 size)
      (pushes_on rest (r + 1) pl1 s1 vars there.1 (done ++ p ∷ []) (omega arith) grown there.5 (ap (λ l. l ++ p ∷ []) tup) n (stands_back o pl (one_instr (push_of (type_of a) (register r)) pl) (pushing rest (r + 1) pl1) stands) last
      (λ t at same tuple. c t (at ∙ len) same (tuple ∙ append_assoc done (p ∷ []) there.1 ∙ ap (λ k. done ++ k) (sym there.4))))

  -- ---- what is read

  pub fetching_leads : (w : Space) (keys : Typeds) (slot : ℕ) (t : DType) (r q : ℕ) (pl : Place) (s : Frame) (vars : Variables) (key : List KeyPart) → Usable q → Ready s → r + count keys ≤ 8 → count keys ≤ 8 → AreThere keys r s.registers key
      → IsOf t (value_in_space w vars (record { slot = slot; kind = kind_of_type t }) key) → s.pc ≡ pl.at → Stands o pl (fetching w keys (record { slot = slot; kind = kind_of_type t }) r (register q) pl)
      → Leads o f q (pl.at + length (fetching w keys (record { slot = slot; kind = kind_of_type t }) r (register q) pl).code) s vars (Has (value_in_space w vars (record { slot = slot; kind = kind_of_type t }) key) vars)
  fetching_leads sp.Clause keys slot t r q pl s vars key u ready few short there is e stands = put_leads o f q pl.at _ s vars vars _ u ready.long e stands.code.0 (loads sp.Clause slot t (register q) o f s vars is)
  fetching_leads sp.Thread end slot t r q pl s vars key u ready few short there is e stands =
      let x : Var = record { slot = slot; kind = kind_of_type t } in
      subst (λ k. Leads o f q (pl.at + 1) s vars (Has (vars.own x k) vars)) (sym there)
      (put_leads o f q pl.at _ s vars vars _ u ready.long e stands.code.0 (loads sp.Thread slot t (register q) o f s vars (subst (λ k. IsOf t (vars.own x k)) there is)))
  fetching_leads sp.Thread (more k ks) slot t r q pl s vars key u ready few short there is e stands =
      let x : Var = record { slot = slot; kind = kind_of_type t } in
      let v = vars.own x key in
      let p = pushing (more k ks) r pl in
      let i = Ldtaa x (register q) in
      let pl1 = past pl p in
      let after = stands_back o pl p (both (one_instr i) (one_instr Flushts) pl1) stands in
      let size : pl1.at + 2 ≡ pl.at + length (element_code (more k ks) r i pl).code = omega (arith, length-append p.code (i ∷ Flushts ∷ [])) in
      λ last c. pushes_on (more k ks) r pl s vars key [] few (omega arith) there ready.empty e (stands_front o pl p (both (one_instr i) (one_instr Flushts) pl1) stands) last
      (λ t1 index same tup.
      let t2 = with_value t1 (register q) v in
      let t3 = with_tuple t2 [] in
      let long : length t1.registers ≡ 8 = ap length same ∙ ready.long in
      let n1 : t1.pc + 1 ≡ pl1.at + 1 = omega arith in
      let n2 : t1.pc + 1 + 1 ≡ pl.at + length (element_code (more k ks) r i pl).code = omega arith in
      let d = done_value t1 q v u long in
      let read : st.act i o f t1 vars ≡ st.puts t1 (register q) v vars =
      ap (λ l. st.on_key l (st.puts t1 (register q) (machine.own_value vars x l) vars)) tup
      ∙ ap (λ k. st.on_key k (st.puts t1 (register q) (machine.own_value vars x key) vars)) there.4
      ∙ ap (λ v. st.puts t1 (register q) v vars) (kept_kind t v is) in
      goes t2 vars (step o f t1 vars pl1.at i index after.code.0 ∙ read)
      (goes t3 vars (step o f t2 vars (pl1.at + 1) Flushts n1 after.code.1.0)
      (c t3 (record { at = n2; value = d.value; kept = λ k less. d.kept k less ∙ ap (λ xs. slice_index_or xs k None) same; long = d.long; tuple = sym ready.empty }))))

  -- ---- what is changed

  pub saving_leads : (w : Space) (keys : Typeds) (slot : ℕ) (t : DType) (r q : ℕ) (pl : Place) (s : Frame) (vars : Variables) (key : List KeyPart) (v : Value) → q ≤ 7 → Ready s → r + count keys ≤ 8 → count keys ≤ 8 → AreThere keys r s.registers key
      → slice_index_or s.registers q None ≡ Some v → IsOf t v → s.pc ≡ pl.at → Stands o pl (saving w keys (record { slot = slot; kind = kind_of_type t }) r (register q) pl)
      → Leads o f q (pl.at + length (saving w keys (record { slot = slot; kind = kind_of_type t }) r (register q) pl).code) s vars (Has v (set_in w vars (record { slot = slot; kind = kind_of_type t }) key (storage.as_kind (kind_of_type t) v)))
  saving_leads sp.Clause keys slot t r q pl s vars key v le ready few short there val is e stands =
      keep_leads o f q pl.at v s vars _ _ ready.long e stands.code.0 val (stores sp.Clause slot t (register q) o f s vars v is (at_is s.registers q le ∙ val))
  saving_leads sp.Thread end slot t r q pl s vars key v le ready few short there val is e stands =
      let x : Var = record { slot = slot; kind = kind_of_type t } in
      subst (λ k. Leads o f q (pl.at + 1) s vars (Has v (set_in sp.Thread vars x k (storage.as_kind (kind_of_type t) v)))) (sym there)
      (keep_leads o f q pl.at v s vars _ _ ready.long e stands.code.0 val (stores sp.Thread slot t (register q) o f s vars v is (at_is s.registers q le ∙ val)))
  saving_leads sp.Thread (more k ks) slot t r q pl s vars key v le ready few short there val is e stands =
      let x : Var = record { slot = slot; kind = kind_of_type t } in
      let p = pushing (more k ks) r pl in
      let i = Sttaa x (register q) in
      let pl1 = past pl p in
      let new = set_in sp.Thread vars x key (storage.as_kind (kind_of_type t) v) in
      let after = stands_back o pl p (both (one_instr i) (one_instr Flushts) pl1) stands in
      let size : pl1.at + 2 ≡ pl.at + length (element_code (more k ks) r i pl).code = omega (arith, length-append p.code (i ∷ Flushts ∷ [])) in
      λ last c. pushes_on (more k ks) r pl s vars key [] few (omega arith) there ready.empty e (stands_front o pl p (both (one_instr i) (one_instr Flushts) pl1) stands) last
      (λ t1 index same tup.
      let t2 = at_index t1 (t1.pc + 1) in
      let t3 = with_tuple t2 [] in
      let n1 : t1.pc + 1 ≡ pl1.at + 1 = omega arith in
      let n2 : t1.pc + 1 + 1 ≡ pl.at + length (element_code (more k ks) r i pl).code = omega arith in
      let wrote : st.act i o f t1 vars ≡ st.Goes t2 new =
      ap (λ l. st.on_key l (st.on_kind (kind_of_type t) (at t1.registers (register q)) (st.store_own t1 vars x l))) tup
      ∙ ap (λ k. st.on_key k (st.on_kind (kind_of_type t) (at t1.registers (register q)) (st.store_own t1 vars x key))) there.4
      ∙ ap (λ y. st.on_kind (kind_of_type t) y (st.store_own t1 vars x key)) (at_is t1.registers q le ∙ ap (λ xs. slice_index_or xs q None) same ∙ val)
      ∙ on_kind_is t v (st.store_own t1 vars x key) is
      ∙ ap (λ y. st.store_own t1 vars x key y) (sym (kept_kind t v is)) in
      goes t2 new (step o f t1 vars pl1.at i index after.code.0 ∙ wrote)
      (goes t3 new (step o f t2 new (pl1.at + 1) Flushts n1 after.code.1.0)
      (c t3 (record { at = n2; value = ap (λ xs. slice_index_or xs q None) same ∙ val; kept = λ k less. ap (λ xs. slice_index_or xs k None) same; long = ap length same ∙ ready.long; tuple = sym ready.empty }))))

  pub lowering_leads : (keys : Typeds) (q r : ℕ) (pl : Place) (v : Value) (s : Frame) (vars : Variables) → q ≡ r + count keys → Usable r → q ≤ 7 → length s.registers ≡ 8 → s.pc ≡ pl.at → slice_index_or s.registers q None ≡ Some v
      → Stands o pl (lowering keys (register q) (register r) pl) → Leads o f r (pl.at + length (lowering keys (register q) (register r) pl).code) s vars (Has v vars)
  lowering_leads end q r pl v s vars same u le long e val stands =
      let n : q ≡ r = omega arith in
      none_leads o f r pl.at v s vars long e (subst (λ n. slice_index_or s.registers n None ≡ Some v) n val)
  lowering_leads (more k ks) q r pl v s vars same u le long e val stands =
      put_leads o f r pl.at v s vars vars (Mov (register q) (register r)) u long e stands.code.0 (ap (λ x. st.on x (λ x. st.puts s (register r) x vars)) (at_is s.registers q le ∙ val))
