-- What is checked has one answer, where its parts have one.
use Rattle.std.proofs.Common.{◌≡◌, ℕ, Bool, true, false, if◌then◌else◌, Result, Ok, Err, refl, sym, ap}
use Rattle.std.proofs.Common.{◌∙◌, subst, inl, inr}
use Rattle.d_types.specs.declared.fault.TypeFault.{TypeFault}
use Rattle.d_types.specs.Checking.{Known, Checked, gives, refused, by_change, by_rows, by_known, needs, ◌>>=◌}
use Rattle.d_types.specs.Steps.Faults.{Fault, Cause, GlobalAssignment, Undeclared, Mismatch, Keys}
use Rattle.d_types.specs.Steps.Faults.{AggregationRedefined, LquantizeBounds, PrintfArguments}
use Rattle.d_types.specs.Steps.Faults.{ReadOnly, NoRegister, ◌>>=◌ as and_then}
use Rattle.d_types.specs.Typed.{Aggs}
use Rattle.d_types.specs.Variables.{Rows}

-- how a script's fault is reported
abbrev pub type_fault_at : Cause → ℕ → TypeFault
type_fault_at (GlobalAssignment name) line = TypeFault.GlobalAssignment name line
type_fault_at Undeclared line = TypeFault.Undeclared line
type_fault_at Mismatch line = TypeFault.Mismatch line
type_fault_at Keys line = TypeFault.Keys line
type_fault_at AggregationRedefined line = TypeFault.AggregationRedefined line
type_fault_at LquantizeBounds line = TypeFault.LquantizeBounds line
type_fault_at PrintfArguments line = TypeFault.PrintfArguments line
type_fault_at ReadOnly line = TypeFault.ReadOnly line
type_fault_at NoRegister line = TypeFault.NoRegister line

abbrev pub type_fault_of : Fault → TypeFault
type_fault_of first = type_fault_at first.cause first.line

abbrev pub at : Rows → Aggs → Known
at rows aggs = record { rows = rows; aggs = aggs }

abbrev pub with_rows : {A : Type 0} → Aggs → A × Rows → A × Known
with_rows aggs x = (x.0, at x.1 aggs)

abbrev pub with_both : {A : Type 0} → A × (Rows × Aggs) → A × Known
with_both x = (x.0, at x.1.0 x.1.1)

-- what the code's walk gives, as an answer
abbrev pub answer : {A X : Type 0} → (X → A × Known) → Result X Fault → Result (A × Known) TypeFault
answer view (Ok x) = Ok (view x)
answer view (Err f) = Err (type_fault_of f)

-- this is the answer, and never other is
pub record Decides {A : Type 0} (m : Checked A) (known : Known) (r : Result (A × Known) TypeFault) : Type 0 where
  pub is : m known r
  pub only : (s : Result (A × Known) TypeFault) → m known s → s ≡ r

pub given : {A : Type 0} (x : A) (known : Known) → Decides (gives x) known (Ok (x, known))
unfolding gives
given x known = record { is = refl; only = λ s h. h }

pub refuses : {A : Type 0} (fault : TypeFault) (known : Known) → Decides {A = A} (refused fault) known (Err fault)
unfolding refused
refuses fault known = record { is = refl; only = λ s h. h }

-- ---- rules

module _ {A X : Type 0} (Rule : Known → A → Known → Type 0) (fault : TypeFault) (known : Known) (view : X → A × Known) where
  abbrev Sound : Result X Fault → Type 0
  Sound s = (x : X) → s ≡ Ok x → Rule known (view x).0 (view x).1

  abbrev Complete : Result X Fault → Type 0
  Complete s = (x : A) (after : Known) → Rule known x after → (y : X) × (s ≡ Ok y) × (view y ≡ (x, after))

  only_typed : (y : X) → Sound (Ok y) → Complete (Ok y) → (r : Result (A × Known) TypeFault) → by_change Rule fault known r → r ≡ Ok (view y)
  unfolding by_change
  only_typed y sound complete (Ok p) h =
      let c = complete p.0 p.1 h in
      let there : ◌≡◌ {A = Result X Fault} (Ok y) (Ok c.0) = c.1 in
      let same : c.0 ≡ y = cc in
      ap (λ (q : A × Known). Ok q) (sym c.2 ∙ ap view same)
  only_typed y sound complete (Err f) h = absurd (h.0 ((view y).0, (view y).1, sound y refl))

  only_fault : (e : Fault) → Complete (Err e) → type_fault_of e ≡ fault → (r : Result (A × Known) TypeFault) → by_change Rule fault known r → r ≡ Err (type_fault_of e)
  unfolding by_change
  only_fault e complete is (Ok p) h = let c = complete p.0 p.1 h in let never : ◌≡◌ {A = Result X Fault} (Err e) (Ok c.0) = c.1 in absurd cc
  only_fault e complete is (Err f) h = ap (λ (g : TypeFault). Err g) (h.1 ∙ sym is)

  pub ruled : (s : Result X Fault) → Sound s → Complete s → ((f : Fault) → s ≡ Err f → type_fault_of f ≡ fault) → Decides (by_change Rule fault) known (answer view s)
  unfolding by_change
  ruled (Ok y) sound complete fails = record { is = sound y refl; only = only_typed y sound complete }
  ruled (Err e) sound complete fails = record {
    is = (λ p. let c = complete p.0 p.1 p.2 in let never : ◌≡◌ {A = Result X Fault} (Err e) (Ok c.0) = c.1 in absurd cc, fails e refl);
    only = only_fault e complete (fails e refl);
  }

-- ---- one after the other

module _ {A B X Y : Type 0} (m : Checked A) (next : A → Checked B) (known : Known) (v : X → A × Known) (w : Y → B × Known) where
  pub follows : (r : Result X Fault) (go : X → Result Y Fault) → Decides m known (answer v r)
      → ((x : X) → r ≡ Ok x → Decides (next (v x).0) (v x).1 (answer w (go x))) → Decides (m >>= next) known (answer w (and_then r go))
  unfolding ◌>>=◌
  follows (Ok x) go first later = record {
    is = inl ((v x).0, (v x).1, first.is, (later x refl).is);
    only = λ s h. elim h [
      | inl p ↦
          let there = first.only (Ok (p.0, p.1)) p.2 in
          let same : (p.0, p.1) ≡ v x = cc in
          (later x refl).only s (subst (λ (q : A × Known). next q.0 q.1 s) same p.3)
      | inr p ↦ let never = first.only (Err p.0) p.1 in absurd cc
    ];
  }
  follows (Err f) go first later = record {
    is = inr (type_fault_of f, first.is, refl);
    only = λ s h. elim h [
      | inl p ↦ let never = first.only (Ok (p.0, p.1)) p.2 in absurd cc
      | inr p ↦
          let there = first.only (Err p.0) p.1 in
          let same : p.0 ≡ type_fault_of f = cc in
          p.2 ∙ ap (λ (g : TypeFault). Err g) same
    ];
  }

-- ---- a rule that changes nothing, and then another check

module _ {A B : Type 0} (Rule : Known → A → Type 0) (fault : TypeFault) (known : Known) (next : A → Checked B) where
  pub got : (x : A) → Rule known x → ((y : A) → Rule known y → y ≡ x) → (r : Result (B × Known) TypeFault) → Decides (next x) known r → Decides (by_known Rule fault >>= next) known r
  unfolding ◌>>=◌ by_change
  got x is one r d = record {
    is = inl (x, known, (is, refl), d.is);
    only = λ s h. elim h [
      | inl p ↦ d.only s (subst (λ (y : A). next y known s) (one p.0 p.2.0) (subst (λ (k : Known). next p.0 k s) p.2.1 p.3))
      | inr p ↦ absurd (p.1.0 (x, known, (is, refl)))
    ];
  }

  pub lost : ((x : A) → ¬ Rule known x) → Decides (by_known Rule fault >>= next) known (Err fault)
  unfolding ◌>>=◌ by_change
  lost never = record {
    is = inr (fault, (λ p. never p.0 p.2.0, refl), refl);
    only = λ s h. elim h [
      | inl p ↦ absurd (never p.0 p.2.0)
      | inr p ↦ p.2 ∙ ap (λ (g : TypeFault). Err g) p.1.1
    ];
  }

-- ---- what has to be so

module _ {B : Type 0} (IsSo : Known → Type 0) (fault : TypeFault) (known : Known) (next : Unit {0} → Checked B) where
  pub met : IsSo known → (r : Result (B × Known) TypeFault) → Decides (next tt) known r → Decides (needs IsSo fault >>= next) known r
  unfolding ◌>>=◌ by_change
  met so r d = record {
    is = inl (tt, known, (so, refl), d.is);
    only = λ s h. elim h [
      | inl p ↦ d.only s (subst (λ (k : Known). next tt k s) p.2.1 p.3)
      | inr p ↦ absurd (p.1.0 (tt, known, (so, refl)))
    ];
  }

  pub unmet : (¬ IsSo known) → Decides (needs IsSo fault >>= next) known (Err fault)
  unfolding ◌>>=◌ by_change
  unmet never = record {
    is = inr (fault, (λ p. never p.2.0, refl), refl);
    only = λ s h. elim h [
      | inl p ↦ absurd (never p.2.0)
      | inr p ↦ p.2 ∙ ap (λ (g : TypeFault). Err g) p.1.1
    ];
  }

  pub tested : {Y : Type 0} (b : Bool) (first : Fault) (w : Y → B × Known) (r : Result Y Fault) → type_fault_of first ≡ fault → (b ≡ true → IsSo known) → (IsSo known → b ≡ true)
      → (b ≡ true → Decides (next tt) known (answer w r)) → Decides (needs IsSo fault >>= next) known (answer w (if b then r else Err first))
  tested true first w r is so back d = met (so refl) (answer w r) (d refl)
  tested false first w r is so back d =
      subst (λ (f : TypeFault). Decides (needs IsSo fault >>= next) known (Err f)) (sym is) (unmet (λ h. let never = back h in absurd cc))

-- ---- rules of variables, and rules that change nothing

module _ {A : Type 0} (rows : Rows) (aggs : Aggs) (fault : TypeFault) (s : Result (A × Rows) Fault) (fails : (f : Fault) → s ≡ Err f → type_fault_of f ≡ fault) where
  pub of_rows : (Rule : Rows → A → Rows → Type 0) → ((x : A) (last : Rows) → s ≡ Ok (x, last) → Rule rows x last) → ((x : A) (last : Rows) → Rule rows x last → s ≡ Ok (x, last))
      → Decides (by_rows Rule fault) (at rows aggs) (answer (with_rows aggs) s)
  of_rows Rule sound complete =
      ruled (λ known x after. Rule known.rows x after.rows × (after.aggs ≡ known.aggs)) fault (at rows aggs) (with_rows aggs) s
      (λ x e. (sound x.0 x.1 e, refl))
      (λ x after h. ((x, after.rows), complete x after.rows h.0, ap (λ (a : Aggs). (x, at after.rows a)) (sym h.1)))
      fails

  pub of_known : (Rule : Known → A → Type 0) → ((x : A) (last : Rows) → s ≡ Ok (x, last) → Rule (at rows aggs) x × (last ≡ rows)) → ((x : A) → Rule (at rows aggs) x → s ≡ Ok (x, rows))
      → Decides (by_known Rule fault) (at rows aggs) (answer (with_rows aggs) s)
  of_known Rule sound complete =
      ruled (λ known x after. Rule known x × (after ≡ known)) fault (at rows aggs) (with_rows aggs) s
      (λ x e. let p = sound x.0 x.1 e in (p.0, ap (λ (r : Rows). at r aggs) p.1))
      (λ x after h. ((x, rows), complete x h.0, ap (λ (k : Known). (x, k)) (sym h.1)))
      fails
