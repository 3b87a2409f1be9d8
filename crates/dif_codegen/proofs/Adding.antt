-- Pieces, one after another.
use Rattle.std.specs.Prelude.{◌≡◌, ◌≤◌, ℕ, ◌+◌, List, [], ◌∷◌, ◌++◌, length}
use Rattle.std.specs.Prelude.{drop, Result, Ok, Err, OnOk, slice_set}
use Rattle.std.proofs.Common.{refl, sym, ap, ◌∙◌, subst, arith, append_assoc, length-append}
use Rattle.std.proofs.Common.{append-nil}
use Rattle.std.proofs.Math.Seq.{set-append_seam}
use Rattle.std.proofs.lemmas.List.{drop_all}
use Rattle.d_values.specs.declared.variable.Var.{Var}
use Rattle.d_types.specs.declared.typed.TypedExpr.{TypedExpr}
use Rattle.d_types.specs.declared.typed.Space.TheVariants as sp
use Rattle.d_types.specs.Needs.{count, need_of_keys}
use Rattle.dif_codegen.proofs.Simulation.{count_fits}
use Rattle.d_types.specs.Typed.{Typed, Typeds, typeds_of}
use Rattle.dif_validate.specs.declared.register.Reg.{Reg}
use Rattle.dif_validate.specs.declared.register.Reg.TheVariants.{R1}
use Rattle.dif_codegen.specs.Steps.Code.{code_of, keys_code, pushing, element_code, fetching}
use Rattle.dif_codegen.specs.Steps.Code.{saving}
use Rattle.dif_codegen.specs.Steps.Code.{lowering, object_code}
use Rattle.dif_validate.specs.declared.instruction.Condition.{Condition}
use Rattle.dif_validate.specs.declared.instruction.Instr.{Instr}
use Rattle.dif_validate.specs.declared.instruction.Instr.TheVariants.{Ba, Branch, Ret, Mov, Ldtaa}
use Rattle.dif_validate.specs.declared.instruction.Instr.TheVariants.{Sttaa}
use Rattle.dif_validate.specs.declared.object.Difo.{Difo}
use Rattle.dif_codegen.specs.Steps.Drafts.{end_of_draft, Adds, ClosesBranch}
use Rattle.dif_codegen.specs.Steps.Pieces.{Place, Maker, nothing, one_instr, past, both, fork}
use Rattle.dif_codegen.specs.Steps.Pieces.{choice_code, next}

-- a list after another
ends : {A : Type 0} (x y z p q : List A) → y ≡ x ++ p → z ≡ y ++ q → z ≡ x ++ (p ++ q)
ends x y z p q e f = f ∙ ap (λ l. l ++ q) e ∙ append_assoc x p q

index_is : (pl pl' : Place) → pl.at ≡ pl'.at → pl.texts ≡ pl'.texts → pl.numbers ≡ pl'.numbers → pl ≡ pl'
index_is pl pl' a b c = ap (λ n. record { at = n; texts = pl.texts; numbers = pl.numbers }) a ∙ ap (λ n. record { at = pl'.at; texts = n; numbers = pl.numbers }) b ∙ ap (λ n. record { at = pl'.at; texts = pl'.texts; numbers = n }) c

grown : {A : Type 0} (x y p : List A) → y ≡ x ++ p → length y ≡ length x + length p
grown x y p e = ap length e ∙ length-append x p

moved : (g : Maker) (a b : Difo) → Adds g a b → end_of_draft b ≡ past (end_of_draft a) (g (end_of_draft a))
moved g a b h =
    let p = g (end_of_draft a) in
    index_is (end_of_draft b) (past (end_of_draft a) p) (grown a.code.items b.code.items p.code h.code) (grown a.texts.items b.texts.items p.texts h.texts) (grown a.numbers.items b.numbers.items p.numbers h.numbers)

pub both_adds : (g h : Maker) (a b c : Difo) → Adds g a b → Adds h b c → Adds (both g h) a c
both_adds g h a b c u v =
    let p = g (end_of_draft a) in
    let e = moved g a b u in
    record {
      code = ends _ _ _ _ _ u.code (v.code ∙ ap (λ pl. b.code.items ++ (h pl).code) e);
      texts = ends _ _ _ _ _ u.texts (v.texts ∙ ap (λ pl. b.texts.items ++ (h pl).texts) e);
      numbers = ends _ _ _ _ _ u.numbers (v.numbers ∙ ap (λ pl. b.numbers.items ++ (h pl).numbers) e);
    }

-- two pieces at once, and then a third
pub operands_adds : (g h k : Maker) (a b c : Difo) → Adds (both g h) a b → Adds k b c → Adds (both g (both h k)) a c
operands_adds g h k a b c u v =
    let pl = end_of_draft a in
    let p = g pl in
    let pl1 = past pl p in
    let q = h pl1 in
    let pl2 = past pl1 q in
    let e : end_of_draft b ≡ pl2 =
    moved (both g h) a b u
    ∙ index_is (past pl ((both g h) pl)) pl2 (omega (arith, length-append p.code q.code)) (omega (arith, length-append p.texts q.texts)) (omega (arith, length-append p.numbers q.numbers)) in
    record {
      code = ends _ _ _ _ _ u.code (v.code ∙ ap (λ pl. b.code.items ++ (k pl).code) e) ∙ ap (λ l. a.code.items ++ l) (append_assoc p.code q.code (k pl2).code);
      texts = ends _ _ _ _ _ u.texts (v.texts ∙ ap (λ pl. b.texts.items ++ (k pl).texts) e) ∙ ap (λ l. a.texts.items ++ l) (append_assoc p.texts q.texts (k pl2).texts);
      numbers = ends _ _ _ _ _ u.numbers (v.numbers ∙ ap (λ pl. b.numbers.items ++ (k pl).numbers) e) ∙ ap (λ l. a.numbers.items ++ l) (append_assoc p.numbers q.numbers (k pl2).numbers);
    }

-- both writes fall on the placeholders
two_writes : (c p q : List Instr) (x y i j : Instr) → slice_set (slice_set (c ++ x ∷ (p ++ y ∷ q)) (length c) i) (length c + 1 + length p) j ≡ c ++ i ∷ (p ++ j ∷ q)
two_writes c p q x y i j =
    let m : length c + 1 + length p ≡ length (c ++ i ∷ p) = omega (arith, length-append c (i ∷ p)) in
    ap (λ l. slice_set l (length c + 1 + length p) j) (set-append_seam c x (p ++ y ∷ q) i ∙ sym (append_assoc c (i ∷ p) (y ∷ q)))
    ∙ ap (λ k. slice_set ((c ++ i ∷ p) ++ y ∷ q) k j) m
    ∙ set-append_seam (c ++ i ∷ p) y q j
    ∙ append_assoc c (i ∷ p) (j ∷ q)

-- a branch, its first side, a jump and its second side, once the targets are written
pub fork_adds : (condition : Condition) (g h : Maker) (a b c d e z : Difo) (branch jump : ℕ) → branch ≡ length a.code.items → Adds (one_instr (Branch condition 0)) a b → Adds g b c → jump ≡ length c.code.items → Adds (one_instr (Ba 0)) c d → Adds h d e → ClosesBranch branch condition jump e z → Adds (fork condition g h) a z
fork_adds condition g h a b c d e z branch jump s0 u v s1 w x closed =
    let pl = end_of_draft a in
    let pl1 = next pl in
    let eb : end_of_draft b ≡ pl1 = moved (one_instr (Branch condition 0)) a b u ∙ index_is _ _ refl (omega arith) (omega arith) in
    let p = g pl1 in
    let vc : c.code.items ≡ b.code.items ++ p.code = v.code ∙ ap (λ q. b.code.items ++ (g q).code) eb in
    let vt : c.texts.items ≡ b.texts.items ++ p.texts = v.texts ∙ ap (λ q. b.texts.items ++ (g q).texts) eb in
    let vn : c.numbers.items ≡ b.numbers.items ++ p.numbers = v.numbers ∙ ap (λ q. b.numbers.items ++ (g q).numbers) eb in
    let ec : end_of_draft c ≡ past pl1 p = moved g b c v ∙ ap (λ q. past q (g q)) eb in
    let pl3 = next (past pl1 p) in
    let ed : end_of_draft d ≡ pl3 = moved (one_instr (Ba 0)) c d w ∙ index_is _ (next (end_of_draft c)) refl (omega arith) (omega arith) ∙ ap next ec in
    let q = h pl3 in
    let xc : e.code.items ≡ d.code.items ++ q.code = x.code ∙ ap (λ r. d.code.items ++ (h r).code) ed in
    let xt : e.texts.items ≡ d.texts.items ++ q.texts = x.texts ∙ ap (λ r. d.texts.items ++ (h r).texts) ed in
    let xn : e.numbers.items ≡ d.numbers.items ++ q.numbers = x.numbers ∙ ap (λ r. d.numbers.items ++ (h r).numbers) ed in
    let nb : b.numbers.items ≡ a.numbers.items = u.numbers ∙ append-nil _ in
    let tb : b.texts.items ≡ a.texts.items = u.texts ∙ append-nil _ in
    let nd : d.numbers.items ≡ c.numbers.items = w.numbers ∙ append-nil _ in
    let td : d.texts.items ≡ c.texts.items = w.texts ∙ append-nil _ in
    let flat : e.code.items ≡ a.code.items ++ Branch condition 0 ∷ (p.code ++ Ba 0 ∷ q.code) =
    xc ∙ ap (λ l. l ++ q.code) (w.code ∙ ap (λ l. l ++ Ba 0 ∷ []) (vc ∙ ap (λ l. l ++ p.code) u.code)) ∙ simp append_assoc in
    let lc : length c.code.items ≡ length a.code.items + 1 + length p.code = ap (λ (pl : Place). pl.at) ec in
    let m1 : jump ≡ length a.code.items + 1 + length p.code = s1 ∙ lc in
    let m2 : jump + 1 ≡ length a.code.items + 2 + length p.code = omega arith in
    let le : length e.code.items ≡ length a.code.items + 2 + length p.code + length q.code = omega (arith, ap length flat, length-append a.code.items (Branch condition 0 ∷ (p.code ++ Ba 0 ∷ q.code)), length-append p.code (Ba 0 ∷ q.code)) in
    let to = length a.code.items + 2 + length p.code in
    let end = length a.code.items + 2 + length p.code + length q.code in
    record {
      code =
          closed.code
          ∙ ap (λ l. slice_set (slice_set l branch (Branch condition (jump + 1))) jump (Ba (length e.code.items))) flat
          ∙ ap (λ k. slice_set (slice_set (a.code.items ++ Branch condition 0 ∷ (p.code ++ Ba 0 ∷ q.code)) k (Branch condition (jump + 1))) jump (Ba (length e.code.items))) s0
          ∙ ap (λ k. slice_set (slice_set (a.code.items ++ Branch condition 0 ∷ (p.code ++ Ba 0 ∷ q.code)) (length a.code.items) (Branch condition k)) jump (Ba (length e.code.items))) m2
          ∙ ap (λ k. slice_set (slice_set (a.code.items ++ Branch condition 0 ∷ (p.code ++ Ba 0 ∷ q.code)) (length a.code.items) (Branch condition to)) k (Ba (length e.code.items))) m1
          ∙ ap (λ k. slice_set (slice_set (a.code.items ++ Branch condition 0 ∷ (p.code ++ Ba 0 ∷ q.code)) (length a.code.items) (Branch condition to)) (length a.code.items + 1 + length p.code) (Ba k)) le
          ∙ two_writes a.code.items p.code q.code (Branch condition 0) (Ba 0) (Branch condition to) (Ba end);
      texts = closed.texts ∙ xt ∙ ap (λ l. l ++ q.texts) (td ∙ vt ∙ ap (λ l. l ++ p.texts) tb) ∙ append_assoc a.texts.items p.texts q.texts;
      numbers = closed.numbers ∙ xn ∙ ap (λ l. l ++ q.numbers) (nd ∙ vn ∙ ap (λ l. l ++ p.numbers) nb) ∙ append_assoc a.numbers.items p.numbers q.numbers;
    }

-- after a test
pub choice_adds : (test : Instr) (condition : Condition) (g h : Maker) (o a b c d e z : Difo) (branch jump : ℕ) → Adds (one_instr test) o a → branch ≡ length a.code.items → Adds (one_instr (Branch condition 0)) a b → Adds g b c → jump ≡ length c.code.items → Adds (one_instr (Ba 0)) c d → Adds h d e → ClosesBranch branch condition jump e z → Adds (choice_code test condition g h) o z
choice_adds test condition g h o a b c d e z branch jump t s0 u v s1 w x closed = both_adds (one_instr test) (fork condition g h) o a z t (fork_adds condition g h a b c d e z branch jump s0 u v s1 w x closed)

-- ---- keys

pub no_adds : (d : Difo) → Adds nothing d d
no_adds d = record { code = sym (append-nil _); texts = sym (append-nil _); numbers = sym (append-nil _) }

pub pushed_all : (keys : List TypedExpr) (i q : ℕ) (d : Difo) → length keys ≤ i → Adds (pushing (typeds_of (drop i keys)) q) d d
pushed_all keys i q d h = subst (λ ks. Adds (pushing (typeds_of ks) q) d d) (sym (drop_all i keys h)) (no_adds d)

pub emitted_all : (keys : List TypedExpr) (i q : ℕ) (d : Difo) → length keys ≤ i → Adds (keys_code (typeds_of (drop i keys)) q) d d
emitted_all keys i q d h = subst (λ ks. Adds (keys_code (typeds_of ks) q) d d) (sym (drop_all i keys h)) (no_adds d)

pub lowering_adds : (keys : List TypedExpr) (a d : Reg) (x z : Difo) → 1 ≤ length keys → Adds (one_instr (Mov a d)) x z → Adds (lowering (typeds_of keys) a d) x z
lowering_adds [] a d x z h u = absurd (omega arith)
lowering_adds (k ∷ keys) a d x z h u = u

pub fetching_adds : (keys : List TypedExpr) (v : Var) (r : ℕ) (d : Reg) (x z : Difo) → 1 ≤ length keys → Adds (element_code (typeds_of keys) r (Ldtaa v d)) x z → Adds (fetching sp.Thread (typeds_of keys) v r d) x z
fetching_adds [] v r d x z h u = absurd (omega arith)
fetching_adds (k ∷ keys) v r d x z h u = u

pub saving_adds : (keys : List TypedExpr) (v : Var) (r : ℕ) (d : Reg) (x z : Difo) → 1 ≤ length keys → Adds (element_code (typeds_of keys) r (Sttaa v d)) x z → Adds (saving sp.Thread (typeds_of keys) v r d) x z
saving_adds [] v r d x z h u = absurd (omega arith)
saving_adds (k ∷ keys) v r d x z h u = u

-- two operands, and what is made of them
pub operands_on : {A E : Type 0} (x y : Typed) (r : ℕ) (k : Maker) (res : Result A E) (a b c : Difo) → OnOk res (Adds k b c) → Adds (both (code_of x r) (code_of y (r + 1))) a b
    → OnOk res (Adds (both (code_of x r) (both (code_of y (r + 1)) k)) a c)
operands_on x y r k (Ok z) a b c last first = operands_adds (code_of x r) (code_of y (r + 1)) k a b c first last
operands_on x y r k (Err e) a b c last first = tt

pub keys_need : (keys : Typeds) → count keys ≤ need_of_keys 0 keys
keys_need keys = let n = count_fits keys 0 (need_of_keys 0 keys) (omega arith) (omega arith) in omega arith

-- the whole object
pub record IsObject (e : Typed) (d : Difo) : Type 0 where
  pub code : d.code.items ≡ (object_code e).code
  pub texts : d.texts.items ≡ (object_code e).texts
  pub numbers : d.numbers.items ≡ (object_code e).numbers

pub drafted : (e : Typed) (a b c : Difo) → a.code.items ≡ [] → a.texts.items ≡ [] → a.numbers.items ≡ [] → Adds (code_of e 1) a b → Adds (one_instr (Ret R1)) b c → IsObject e c
drafted e a b c ec et en u v =
    let h = both_adds (code_of e 1) (one_instr (Ret R1)) a b c u v in
    let pl : Place = record { at = 0; texts = 0; numbers = 0 } in
    let index : end_of_draft a ≡ pl = index_is (end_of_draft a) pl (ap length ec) (ap length et) (ap length en) in
    record {
      code = h.code ∙ ap (λ l. l ++ (both (code_of e 1) (one_instr (Ret R1)) (end_of_draft a)).code) ec ∙ ap (λ p. (both (code_of e 1) (one_instr (Ret R1)) p).code) index;
      texts = h.texts ∙ ap (λ l. l ++ (both (code_of e 1) (one_instr (Ret R1)) (end_of_draft a)).texts) et ∙ ap (λ p. (both (code_of e 1) (one_instr (Ret R1)) p).texts) index;
      numbers = h.numbers ∙ ap (λ l. l ++ (both (code_of e 1) (one_instr (Ret R1)) (end_of_draft a)).numbers) en ∙ ap (λ p. (both (code_of e 1) (one_instr (Ret R1)) p).numbers) index;
    }
