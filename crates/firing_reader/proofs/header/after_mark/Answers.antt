use Rattle.std.proofs.Common.{◌≡◌, ◌≢◌, ◌++◌, ◌∷◌, [], ℕ, List, Bool, true, false, Some, None, refl}
use Rattle.std.proofs.Common.{sym}
use Rattle.std.specs.Prelude.{◌==◌, ◌&&◌}
use Rattle.std.proofs.lemmas.Bool.{cond-false}
use Rattle.std.proofs.lemmas.Bool.Decides.{Decides-eqb}
use Rattle.std.proofs.lemmas.Slice.Eq.{strip_prefix_is}
use Rattle.csv.specs.Reading.{is_bom, strip_bom}
use Rattle.firing_reader.proofs.header.after_mark.Goals as goal

abbrev mark : List ℕ
mark = 0xEF ∷ 0xBB ∷ 0xBF ∷ []

after : (s rest : List ℕ) → s ≡ mark ++ rest → rest ≡ strip_bom s
unfolding strip_bom
after s rest is = rw is refl

all_three : (x y z : Bool) → (x && y && z) ≡ true → (x ≡ true) × (y ≡ true) × (z ≡ true)
all_three true true true e = (refl, refl, refl)
all_three true true false e = absurd (cc)
all_three true false z e = absurd (cc)
all_three false y z e = absurd (cc)

begins : (a b c : ℕ) (rest : List ℕ) → is_bom a b c ≡ true → a ∷ b ∷ c ∷ rest ≡ mark ++ rest
begins a b c rest e =
    let all = all_three (a == 0xEF) (b == 0xBB) (c == 0xBF) e in
    rw ((Decides-eqb a 0xEF).0 all.0, (Decides-eqb b 0xBB).0 all.1, (Decides-eqb c 0xBF).0 all.2) refl

none : (s : List ℕ) → ((rest : List ℕ) → s ≢ mark ++ rest) → s ≡ strip_bom s
unfolding strip_bom
none [] other = refl
none (a ∷ []) other = refl
none (a ∷ b ∷ []) other = refl
none (a ∷ b ∷ c ∷ rest) other = by (is_bom a b c) refl
  where
    by : (m : Bool) → is_bom a b c ≡ m → a ∷ b ∷ c ∷ rest ≡ strip_bom (a ∷ b ∷ c ∷ rest)
    by true m = absurd (other rest (begins a b c rest m))
    by false m = sym (cond-false (is_bom a b c) rest (a ∷ b ∷ c ∷ rest) m)

pub returns-in-Some-clause-text : goal.returns-in-Some-clause-text
returns-in-Some-clause-text c =
    after c.args.bytes.now c.in-Some.rest.now
    (strip_prefix_is Decides-eqb c.args.bytes.now mark (Some c.in-Some.rest) c.in-Some.ensures.cases)

pub returns-in-None-clause-text : goal.returns-in-None-clause-text
returns-in-None-clause-text c =
    none c.args.bytes.now
    (strip_prefix_is Decides-eqb c.args.bytes.now mark None c.in-None.ensures.cases)
