-- When variables are the same.
use Rattle.std.specs.Prelude.{◌≡◌, ℕ, ◌+◌, ◌*◌, Bool, true, ◌&&◌, ◌==◌}
use Rattle.std.specs.Cmp.Derive.{both_true}
use Rattle.std.proofs.{lemmas.Bool.and_parts, lemmas.Bool.Decides.Decides-eqb}
use Rattle.std.proofs.Common.{ap, ◌∙◌, refl}
use denote.Enum.Bare.{sameb, same_true}
use Rattle.d_values.specs.Vocabulary.{Decides, IsEquivalence, decided, Kind, Var}
use Rattle.d_values.specs.contracts.value.Kind as kind
use Rattle.d_values.specs.declared.value.Kind.TheVariants.{Number, Text}

-- the same slot and the same kind
abbrev pub same_var : Var → Var → Bool
same_var v w = v.slot == w.slot && sameb kind.the_type v.kind w.kind

-- a number for each variable
abbrev pub variable_number : Var → ℕ
variable_number v = elim v.kind [ Number ↦ 2 * v.slot | Text ↦ 2 * v.slot + 1 ]

pub same_var_decides : (v w : Var) → Decides (same_var v w) (v ≡ w)
same_var_decides v w = (
  λ e. let parts = and_parts (v.slot == w.slot) (sameb kind.the_type v.kind w.kind) e in
      ap (λ n. record v { slot = n }) ((Decides-eqb v.slot w.slot).0 parts.0)
      ∙ ap (λ k. record w { kind = k }) (same_true kind.the_type tt v.kind w.kind parts.1),
  λ e. both_true ((Decides-eqb v.slot w.slot).1 (ap (λ u. u.slot) e))
      (own_kind v.kind w.kind (ap (λ u. u.kind) e)),
)
  where
    own_kind : (a b : Kind) → a ≡ b → sameb kind.the_type a b ≡ true
    own_kind Number Number e = refl
    own_kind Number Text e = cc
    own_kind Text Number e = cc
    own_kind Text Text e = refl

pub same_var_equiv : IsEquivalence same_var
same_var_equiv = decided same_var same_var_decides
