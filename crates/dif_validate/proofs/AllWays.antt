-- What is known at an index is what all ways to it make known.
use Rattle.std.specs.Prelude.{◌≡◌, ◌↔◌, ◌⊎◌, ◌<◌, ◌≤◌, ◌+◌, ℕ, zero, suc, Bool, true, false, ◌&&◌}
use Rattle.std.specs.Prelude.{nat_eq, if◌then◌else◌, List, [], ◌∷◌, ◌++◌, length, Option, Some, None}
use Rattle.std.specs.Prelude.{slice_get}
use Rattle.std.proofs.Common.{refl, sym, ap, ◌∙◌, subst, ⊎_elim, inl, inr, arith, cond}
use Rattle.std.proofs.lemmas.Bool.{and_parts, eq-eqb, eqb-true, cases_lt}
use Rattle.std.proofs.lemmas.List.{append_cancel_right}
use Rattle.d_values.specs.declared.value.Kind.{Kind}
use Rattle.d_values.specs.declared.value.Kind.TheVariants.{Number, Text}
use Rattle.dif_validate.specs.declared.instruction.Instr.{Instr}
use Rattle.dif_validate.specs.declared.instruction.Instr.TheVariants.{Alu, Not, Mov, Cmp, Tst, Scmp}
use Rattle.dif_validate.specs.declared.instruction.Instr.TheVariants.{Ba, Branch, Setx, Sets, Ldgs}
use Rattle.dif_validate.specs.declared.instruction.Instr.TheVariants.{Ldga, Ldts, Stts, Ldls, Stls}
use Rattle.dif_validate.specs.declared.instruction.Instr.TheVariants.{Pushtr, Pushtv, Flushts, Ldtaa}
use Rattle.dif_validate.specs.declared.instruction.Instr.TheVariants.{Sttaa, Call, Ret, Nop}
use Rattle.dif_validate.specs.declared.register.Reg.{Reg}
use Rattle.dif_validate.specs.declared.shape.Shape.{Shape}
use Rattle.dif_validate.specs.Flow.{falls, jump_target, is_index, join, to_next, to_target, further}
use Rattle.dif_validate.specs.Flow.{shape_at, before}
use Rattle.dif_validate.specs.Leaves.{leaves, with_register, shape_compared, shape_with_tuple}
use Rattle.dif_validate.specs.Leaves.{tuple_with}
use Rattle.dif_validate.specs.Rows.{kind_of_built_in, kind_of_function}
use Rattle.dif_validate.specs.Registers.{at}
use Rattle.dif_validate.specs.Shapes.{is_same, are_same, common_kind, common_tuple, first_shape, meet}
use Rattle.dif_validate.specs.Ways.{LeadsTo, Way, begins, goes_on, IsOfAllWays}
use Rattle.dif_validate.proofs.Flowing.{agreed_is, agreed_tuple_is, met, kept_if}
use Rattle.dif_validate.proofs.Writes.{written, put_long}

-- ---- what several shapes say

-- the shape says what all those say, and there is one
record Sums (s : Shape) (P : Shape → Type 0) : Type 0 where
  pub some : (t : Shape) × P t
  pub long : length s.registers ≡ 8
  pub each : (t : Shape) → P t → length t.registers ≡ 8
  pub registers : (r : Reg) (k : Kind) → (at s.registers r ≡ Some k) ↔ ((t : Shape) → P t → at t.registers r ≡ Some k)
  pub compared : (s.compared ≡ true) ↔ ((t : Shape) → P t → t.compared ≡ true)
  pub tuple : (ks : List Kind) → (s.tuple ≡ Some ks) ↔ ((t : Shape) → P t → t.tuple ≡ Some ks)

-- or there is none
abbrev SumsUp : Option Shape → (Shape → Type 0) → Type 0
SumsUp None P = (t : Shape) → P t → ⊥
SumsUp (Some s) P = Sums s P

-- the same shapes
sums_same : (P Q : Shape → Type 0) (w : Option Shape) → ((t : Shape) → P t → Q t) → ((t : Shape) → Q t → P t) → SumsUp w P → SumsUp w Q
sums_same P Q None f g h = λ t q. h t (g t q)
sums_same P Q (Some s) f g h = record {
  some = (h.some.0, f h.some.0 h.some.1);
  long = h.long;
  each = λ t q. h.each t (g t q);
  registers = λ r k. (λ e t q. (h.registers r k).0 e t (g t q), λ all. (h.registers r k).1 (λ t p. all t (f t p)));
  compared = (λ e t q. h.compared.0 e t (g t q), λ all. h.compared.1 (λ t p. all t (f t p)));
  tuple = λ ks. (λ e t q. (h.tuple ks).0 e t (g t q), λ all. (h.tuple ks).1 (λ t p. all t (f t p)));
}

-- ---- where ways meet

is_same_self : (k : Kind) → is_same k k ≡ true
is_same_self Number = refl
is_same_self Text = refl

are_same_self : (ks : List Kind) → are_same ks ks ≡ true
are_same_self [] = refl
are_same_self (k ∷ ks) = ap (λ b. b && are_same ks ks) (is_same_self k) ∙ are_same_self ks

agrees : (a b : Option Kind) (k : Kind) → a ≡ Some k → b ≡ Some k → common_kind a b ≡ Some k
agrees a b k e f = ap (λ o. common_kind o b) e ∙ ap (common_kind (Some k)) f ∙ ap (λ c. cond c (Some k) None) (is_same_self k)

agrees_tuple : (a b : Option (List Kind)) (ks : List Kind) → a ≡ Some ks → b ≡ Some ks → common_tuple a b ≡ Some ks
agrees_tuple a b ks e f = ap (λ o. common_tuple o b) e ∙ ap (common_tuple (Some ks)) f ∙ ap (λ c. cond c (Some ks) None) (are_same_self ks)

both_true : (a b : Bool) → a ≡ true → b ≡ true → (a && b) ≡ true
both_true a b e f = ap (λ c. c && b) e ∙ f

sums_meet : (P Q : Shape → Type 0) (a b : Shape) → Sums a P → Sums b Q → Sums (meet a b) (λ t. P t ⊎ Q t)
sums_meet P Q a b f g = record {
  some = (f.some.0, inl f.some.1);
  long = refl;
  each = λ t h. ⊎_elim (f.each t) (g.each t) h;
  registers = λ r k. (
    λ e t h.
        let both = agreed_is (at a.registers r) (at b.registers r) k (sym (met a b r) ∙ e) in
        ⊎_elim ((f.registers r k).0 both.0 t) ((g.registers r k).0 both.1 t) h,
    λ all.
        met a b r ∙ agrees (at a.registers r) (at b.registers r) k ((f.registers r k).1 (λ t p. all t (inl p))) ((g.registers r k).1 (λ t q. all t (inr q))),
  );
  compared = (
    λ e t h.
        let both = and_parts a.compared b.compared e in
        ⊎_elim (f.compared.0 both.0 t) (g.compared.0 both.1 t) h,
    λ all. both_true a.compared b.compared (f.compared.1 (λ t p. all t (inl p))) (g.compared.1 (λ t q. all t (inr q))),
  );
  tuple = λ ks. (
    λ e t h.
        let both = agreed_tuple_is a.tuple b.tuple ks e in
        ⊎_elim ((f.tuple ks).0 both.0 t) ((g.tuple ks).0 both.1 t) h,
    λ all.
        agrees_tuple a.tuple b.tuple ks ((f.tuple ks).1 (λ t p. all t (inl p))) ((g.tuple ks).1 (λ t q. all t (inr q))),
  );
}

sums_join : (P Q : Shape → Type 0) (a b : Option Shape) → SumsUp a P → SumsUp b Q → SumsUp (join a b) (λ t. P t ⊎ Q t)
sums_join P Q None b f g = sums_same Q (λ t. P t ⊎ Q t) b (λ t q. inr q) (λ t h. ⊎_elim (λ p. absurd (f t p)) (λ q. q) h) g
sums_join P Q (Some a) None f g = sums_same P (λ t. P t ⊎ Q t) (Some a) (λ t p. inl p) (λ t h. ⊎_elim (λ p. p) (λ q. absurd (g t q)) h) f
sums_join P Q (Some a) (Some b) f g = sums_meet P Q a b f g

-- ---- after an instruction

-- the shapes that those become
abbrev Become : (Shape → Shape) → (Shape → Type 0) → Shape → Type 0
Become f P t = (u : Shape) × P u × (t ≡ f u)

module _ (P : Shape → Type 0) (f : Shape → Shape) where
  over : (K : Shape → Type 0) → ((u : Shape) → P u → K (f u)) → (t : Shape) → Become f P t → K t
  over K h t m = subst K (sym m.2) (h m.0 m.1)

  become : (A : Type 0) (K : Shape → Type 0) → A ↔ ((u : Shape) → P u → K (f u)) → A ↔ ((t : Shape) → Become f P t → K t)
  become A K e = (λ a. over K (e.0 a), λ all. e.1 (λ u p. all (f u) (u, p, refl)))

module _ (P : Shape → Type 0) (s : Shape) (h : Sums s P) where
  same_for_all : {A : Type 0} (x y : A) → (x ≡ y) ↔ ((t : Shape) → P t → x ≡ y)
  same_for_all x y = (λ e t p. e, λ all. all h.some.0 h.some.1)

  stays : (f : Shape → Shape) → ((u : Shape) → f u ≡ u) → Sums s (Become f P)
  stays f e = sums_same P (Become f P) (Some s) (λ t p. (t, p, sym (e t))) (λ t m. subst P (sym (m.2 ∙ e m.0)) m.1) h

  with_it : (d : Reg) (x : Shape → Option Kind) → ((k : Kind) → (x s ≡ Some k) ↔ ((t : Shape) → P t → x t ≡ Some k))
      → Sums (with_register s d (x s)) (Become (λ u. with_register u d (x u)) P)
  with_it d x is =
      let f = λ (u : Shape). with_register u d (x u) in
      record {
        some = (f h.some.0, (h.some.0, h.some.1, refl));
        long = put_long s.registers d (x s) ∙ h.long;
        each = over P f (λ t. length t.registers ≡ 8) (λ u p. put_long u.registers d (x u) ∙ h.each u p);
        registers = λ r k.
            become P f (at (f s).registers r ≡ Some k) (λ t. at t.registers r ≡ Some k)
            (⊎_elim
            (λ new. (
              λ e u p. new u.registers (x u) (h.each u p) ∙ (is k).0 (sym (new s.registers (x s) h.long) ∙ e) u p,
              λ all. new s.registers (x s) h.long ∙ (is k).1 (λ u p. sym (new u.registers (x u) (h.each u p)) ∙ all u p),
            ))
            (λ old. (
              λ e u p. old u.registers (x u) ∙ (h.registers r k).0 (sym (old s.registers (x s)) ∙ e) u p,
              λ all. old s.registers (x s) ∙ (h.registers r k).1 (λ u p. sym (old u.registers (x u)) ∙ all u p),
            ))
            (written Kind d r));
        compared = become P f (s.compared ≡ true) (λ t. t.compared ≡ true) h.compared;
        tuple = λ ks. become P f (s.tuple ≡ Some ks) (λ t. t.tuple ≡ Some ks) (h.tuple ks);
      }

  with_kind : (d : Reg) (k : Kind) → Sums (with_register s d (Some k)) (Become (λ u. with_register u d (Some k)) P)
  with_kind d k = with_it d (λ u. Some k) (λ j. same_for_all (Some k) (Some j))

  with_comparison : Sums (shape_compared s) (Become shape_compared P)
  with_comparison =
      record {
        some = (shape_compared h.some.0, (h.some.0, h.some.1, refl));
        long = h.long;
        each = over P shape_compared (λ t. length t.registers ≡ 8) h.each;
        registers = λ r k. become P shape_compared (at s.registers r ≡ Some k) (λ t. at t.registers r ≡ Some k) (h.registers r k);
        compared = become P shape_compared (true ≡ true) (λ t. t.compared ≡ true) (same_for_all true true);
        tuple = λ ks. become P shape_compared (s.tuple ≡ Some ks) (λ t. t.tuple ≡ Some ks) (h.tuple ks);
      }

  with_parts : (x : Shape → Option (List Kind)) → ((ks : List Kind) → (x s ≡ Some ks) ↔ ((t : Shape) → P t → x t ≡ Some ks))
      → Sums (shape_with_tuple s (x s)) (Become (λ u. shape_with_tuple u (x u)) P)
  with_parts x is =
      let f = λ (u : Shape). shape_with_tuple u (x u) in
      record {
        some = (f h.some.0, (h.some.0, h.some.1, refl));
        long = h.long;
        each = over P f (λ t. length t.registers ≡ 8) h.each;
        registers = λ r k. become P f (at s.registers r ≡ Some k) (λ t. at t.registers r ≡ Some k) (h.registers r k);
        compared = become P f (s.compared ≡ true) (λ t. t.compared ≡ true) h.compared;
        tuple = λ ks. become P f (x s ≡ Some ks) (λ t. t.tuple ≡ Some ks) (is ks);
      }

-- a part is added to a tuple that is known
pushed : (o : Option (List Kind)) (k : Kind) (ks : List Kind) → tuple_with o k ≡ Some ks → (tuple : List Kind) × (o ≡ Some tuple) × (tuple_with (Some tuple) k ≡ Some ks) × (tuple ++ k ∷ [] ≡ ks)
pushed None k ks e = cc
pushed (Some tuple) k ks e = (tuple, refl, e, (kept_if _ (tuple ++ k ∷ []) ks e).1)

module _ (P : Shape → Type 0) (s : Shape) (h : Sums s P) where
  with_part : (k : Kind) → Sums (shape_with_tuple s (tuple_with s.tuple k)) (Become (λ u. shape_with_tuple u (tuple_with u.tuple k)) P)
  with_part k =
      with_parts P s h (λ u. tuple_with u.tuple k)
      (λ ks. (
        λ e u p. let q = pushed s.tuple k ks e in ap (λ o. tuple_with o k) ((h.tuple q.0).0 q.1 u p) ∙ q.2,
        λ all.
            let q = pushed h.some.0.tuple k ks (all h.some.0 h.some.1) in
            let each : (u : Shape) → P u → u.tuple ≡ Some q.0 = λ u p. let other = pushed u.tuple k ks (all u p) in other.1 ∙ ap Some (append_cancel_right other.0 q.0 (k ∷ []) (other.3 ∙ sym q.3)) in
            ap (λ o. tuple_with o k) ((h.tuple q.0).1 each) ∙ q.2,
      ))

  -- what an instruction leaves of the ways together is what it leaves of each
  sums_leaves : (i : Instr) → Sums (leaves i s) (Become (leaves i) P)
  sums_leaves (Alu op a b d) = with_kind P s h d Number
  sums_leaves (Not a d) = with_kind P s h d Number
  sums_leaves (Mov a d) = with_it P s h d (λ u. at u.registers a) (h.registers a)
  sums_leaves (Cmp a b) = with_comparison P s h
  sums_leaves (Tst a) = with_comparison P s h
  sums_leaves (Scmp a b) = with_comparison P s h
  sums_leaves (Ba to) = stays P s h (λ u. u) (λ u. refl)
  sums_leaves (Branch condition to) = stays P s h (λ u. u) (λ u. refl)
  sums_leaves (Setx i d) = with_kind P s h d Number
  sums_leaves (Sets i d) = with_kind P s h d Text
  sums_leaves (Ldgs v d) = with_kind P s h d (kind_of_built_in v)
  sums_leaves (Ldga v a d) = with_kind P s h d Number
  sums_leaves (Ldts x d) = with_kind P s h d x.kind
  sums_leaves (Stts x a) = stays P s h (λ u. u) (λ u. refl)
  sums_leaves (Ldls x d) = with_kind P s h d x.kind
  sums_leaves (Stls x a) = stays P s h (λ u. u) (λ u. refl)
  sums_leaves (Pushtr a) = with_part Text
  sums_leaves (Pushtv a) = with_part Number
  sums_leaves Flushts = with_parts P s h (λ u. Some []) (λ ks. same_for_all P s h (Some []) (Some ks))
  sums_leaves (Ldtaa x d) = with_kind P s h d x.kind
  sums_leaves (Sttaa x a) = stays P s h (λ u. u) (λ u. refl)
  sums_leaves (Call f d) = with_kind P s h d (kind_of_function f)
  sums_leaves (Ret a) = stays P s h (λ u. u) (λ u. refl)
  sums_leaves Nop = stays P s h (λ u. u) (λ u. refl)

-- ---- one instruction more

sums_if : (Q : Shape → Type 0) (s : Shape) (b : Bool) (c : Type 0) → (b ≡ true → c) → (c → b ≡ true) → Sums s Q → SumsUp (if b then Some s else None) (λ t. c × Q t)
sums_if Q s true c to from h = sums_same Q (λ t. c × Q t) (Some s) (λ t q. (to refl, q)) (λ t q. q.1) h
sums_if Q s false c to from h = λ t q. let e : false ≡ true = from q.0 in cc

index_is : (o : Option ℕ) (pc : ℕ) → is_index o pc ≡ true → o ≡ Some pc
index_is None pc h = cc
index_is (Some to) pc h = ap Some (eqb-true to pc h)

is_its_index : (o : Option ℕ) (pc : ℕ) → o ≡ Some pc → is_index o pc ≡ true
is_its_index o pc e = ap (λ x. is_index x pc) e ∙ eq-eqb pc pc refl

-- the instruction, if there is one, leads ways from q to pc
abbrev Lead : Option Instr → (Shape → Type 0) → (q pc : ℕ) → Shape → Type 0
Lead o W q pc t = (i : Instr) × (s : Shape) × W s × (o ≡ Some i) × LeadsTo i q pc × (t ≡ leaves i s)

sums_further : (P W : Shape → Type 0) (w : Option Shape) (o : Option Instr) (q : ℕ) (here : Option Shape) (pc : ℕ) → SumsUp w P → SumsUp here W
    → SumsUp (further w o q here pc) (λ t. P t ⊎ Lead o W q pc t)
sums_further P W w None q here pc h there =
    sums_same P (λ t. P t ⊎ Lead None W q pc t) w (λ t p. inl p)
    (λ t. ⊎_elim (λ p. p) (λ (l : Lead None W q pc t). let e : ◌≡◌ {A = Option Instr} None (Some l.0) = l.3 in cc)) h
sums_further P W w (Some i) q None pc h there =
    sums_same P (λ t. P t ⊎ Lead (Some i) W q pc t) w (λ t p. inl p)
    (λ t. ⊎_elim (λ p. p) (λ (l : Lead (Some i) W q pc t). absurd (there l.1 l.2))) h
sums_further P W w (Some i) q (Some s) pc h there =
    let Left = Become (leaves i) W in
    let left = sums_leaves W s there i in
    let Next = λ (t : Shape). ((falls i ≡ true) × (pc ≡ q + 1)) × Left t in
    let Target = λ (t : Shape). (jump_target i ≡ Some pc) × Left t in
    let next : SumsUp (to_next i q s pc) Next =
    sums_if Left (leaves i s) (falls i && nat_eq (q + 1) pc) ((falls i ≡ true) × (pc ≡ q + 1))
    (λ e. let both = and_parts (falls i) (nat_eq (q + 1) pc) e in (both.0, sym (eqb-true (q + 1) pc both.1)))
    (λ e. both_true (falls i) (nat_eq (q + 1) pc) e.0 (eq-eqb (q + 1) pc (sym e.1))) left in
    let target : SumsUp (to_target i s pc) Target =
    sums_if Left (leaves i s) (is_index (jump_target i) pc) (jump_target i ≡ Some pc)
    (index_is (jump_target i) pc) (is_its_index (jump_target i) pc) left in
    sums_same (λ t. (P t ⊎ Next t) ⊎ Target t) (λ t. P t ⊎ Lead (Some i) W q pc t)
    (join (join w (to_next i q s pc)) (to_target i s pc))
    (λ t. ⊎_elim
    (⊎_elim (λ p. inl p) (λ n. inr (i, n.1.0, n.1.1, refl, inl n.0, n.1.2)))
    (λ n. inr (i, n.1.0, n.1.1, refl, inr n.0, n.1.2)))
    (λ t. ⊎_elim
    (λ p. inl (inl p))
    (λ (l : Lead (Some i) W q pc t).
    let e : i ≡ l.0 = (let is = l.3 in cc) in
    let is : Left t = (l.1, l.2, l.5 ∙ ap (λ j. leaves j l.1) (sym e)) in
    ⊎_elim
    (λ n. inl (inr ((ap falls e ∙ n.0, n.1), is)))
    (λ n. inr (ap jump_target e ∙ n, is))
    l.4))
    (sums_join (λ t. P t ⊎ Next t) Target (join w (to_next i q s pc)) (to_target i s pc) (sums_join P Next w (to_next i q s pc) h next) target)

-- ---- all ways

module _ (code : List Instr) where
  -- a way begins at pc, or comes to it by an instruction before n
  abbrev By : (n pc : ℕ) → Shape → Type 0
  By n pc t = ((pc ≡ 0) × (t ≡ first_shape)) ⊎ ((q : ℕ) × (q < n) × Lead (slice_get code q) (Way code q) q pc t)

  begins_there : (pc : ℕ) → SumsUp (shape_at code 0 pc) (By 0 pc)
  begins_there zero = record {
    some = (first_shape, inl (refl, refl));
    long = refl;
    each = λ t. ⊎_elim (λ a. ap (λ (u : Shape). length u.registers) a.1) (λ b. absurd (omega (arith, b.1)));
    registers = λ r k. is (λ u. at u.registers r ≡ Some k);
    compared = is (λ u. u.compared ≡ true);
    tuple = λ ks. is (λ u. u.tuple ≡ Some ks);
  }
    where
      is : (K : Shape → Type 0) → K first_shape ↔ ((t : Shape) → By 0 0 t → K t)
      is K = (
        λ known t. ⊎_elim (λ a. subst K (sym a.1) known) (λ b. absurd (omega (arith, b.1))),
        λ all. all first_shape (inl (refl, refl)),
      )
  begins_there (suc pc) = λ t. ⊎_elim (λ a. absurd (omega (arith, a.0))) (λ b. absurd (omega (arith, b.1)))

  sums_before : (n pc : ℕ) → ((q : ℕ) → q < n → SumsUp (before code q) (Way code q)) → SumsUp (shape_at code n pc) (By n pc)
  sums_before zero pc known = begins_there pc
  sums_before (suc q) pc known =
      let Here = Lead (slice_get code q) (Way code q) q pc in
      sums_same (λ t. By q pc t ⊎ Here t) (By (suc q) pc) (shape_at code (suc q) pc)
      (λ t. ⊎_elim
      (⊎_elim (λ a. inl a) (λ b. inr (b.0, omega (arith, b.1), b.2)))
      (λ l. inr (q, omega arith, l)))
      (λ t. ⊎_elim
      (λ a. inl (inl a))
      (λ (b : (p : ℕ) × (p < suc q) × Lead (slice_get code p) (Way code p) p pc t).
      ⊎_elim
      (λ (less : b.0 < q). inl (inr (b.0, less, b.2)))
      (λ (more : q ≤ b.0).
      let same : b.0 ≡ q = omega (arith, b.1) in
      inr (subst (λ p. Lead (slice_get code p) (Way code p) p pc t) same b.2))
      (cases_lt b.0 q)))
      (sums_further (By q pc) (Way code q) (shape_at code q pc) (slice_get code q) q (before code q) pc
      (sums_before q pc (λ p less. known p (omega arith))) (known q (omega arith)))

  to_way : (pc : ℕ) (t : Shape) → By pc pc t → Way code pc t
  to_way pc t (inl a) = subst (λ n. Way code n t) (sym a.0) (subst (Way code 0) (sym a.1) begins)
  to_way pc t (inr (q, less, (i, s, way, there, leads, is))) = subst (Way code pc) (sym is) (goes_on i pc way there leads less)

  by_way : (pc : ℕ) (t : Shape) → Way code pc t → By pc pc t
  by_way pc t begins = inl (refl, refl)
  by_way pc t (goes_on {q} {s} i pc' way there leads less) = inr (q, less, (i, s, way, there, leads, refl))

  up_to : (n pc : ℕ) → pc < n → SumsUp (before code pc) (Way code pc)
  up_to zero pc less = absurd (omega arith)
  up_to (suc n) pc less =
      sums_same (By pc pc) (Way code pc) (before code pc) (to_way pc) (by_way pc)
      (sums_before pc pc (λ q before. up_to n q (omega arith)))

  sums_ways : (pc : ℕ) → SumsUp (before code pc) (Way code pc)
  sums_ways pc = up_to (pc + 1) pc (omega arith)

some_of : (w : Option Shape) (P : Shape → Type 0) → SumsUp w P → ((s : Shape) × (w ≡ Some s)) ↔ ((s : Shape) × P s)
some_of None P h = (λ (a : (s : Shape) × (◌≡◌ {A = Option Shape} None (Some s))). let e = a.1 in cc, λ p. absurd (h p.0 p.1))
some_of (Some s) P h = (λ a. h.some, λ p. (s, refl))

pub reached_by_ways : (code : List Instr) (pc : ℕ) → ((s : Shape) × (before code pc ≡ Some s)) ↔ ((s : Shape) × Way code pc s)
reached_by_ways code pc = some_of (before code pc) (Way code pc) (sums_ways code pc)

pub known_by_ways : (code : List Instr) (pc : ℕ) (s : Shape) → before code pc ≡ Some s → IsOfAllWays code pc s
known_by_ways code pc s is =
    let h : Sums s (Way code pc) = subst (λ w. SumsUp w (Way code pc)) is (sums_ways code pc) in
    record { registers = h.registers; compared = h.compared; tuple = h.tuple }
