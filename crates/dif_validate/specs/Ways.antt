-- Ways through code, one by one, and what is known along each.
use Rattle.std.specs.Prelude.{◌≡◌, ◌↔◌, ◌⊎◌, ◌<◌, ◌+◌, ℕ, true, List, Some, slice_get}
use Rattle.dif_validate.specs.Vocabulary.{Instr, Kind, Reg, Shape, at}
use Rattle.dif_validate.specs.Flow.{falls, jump_target}
use Rattle.dif_validate.specs.Leaves.{leaves}
use Rattle.dif_validate.specs.Shapes.{first_shape}

-- the instruction at q may be followed by the one at pc
abbrev pub LeadsTo : Instr → (q pc : ℕ) → Type 0
LeadsTo i q pc = ((falls i ≡ true) × (pc ≡ q + 1)) ⊎ (jump_target i ≡ Some pc)

-- a way from the first instruction forward to an index, and what is known by it alone
pub data Way (code : List Instr) : ℕ → Shape → Type 0 where
  begins : Way code 0 first_shape
  goes_on : {q : ℕ} {s : Shape} (i : Instr) (pc : ℕ) → Way code q s → slice_get code q ≡ Some i
      → LeadsTo i q pc → q < pc → Way code pc (leaves i s)

-- each way that leads to an index makes this known
abbrev pub OnAllWays : List Instr → ℕ → (Shape → Type 0) → Type 0
OnAllWays code pc Known = (s : Shape) → Way code pc s → Known s

-- a register's kind is known here exactly if each way makes it known, and so it is with a
-- comparison and with the kinds of the tuple
pub record IsOfAllWays (code : List Instr) (pc : ℕ) (s : Shape) : Type 0 where
  pub registers : (r : Reg) (k : Kind) → (at s.registers r ≡ Some k)
      ↔ OnAllWays code pc (λ t. at t.registers r ≡ Some k)
  pub compared : (s.compared ≡ true) ↔ OnAllWays code pc (λ t. t.compared ≡ true)
  pub tuple : (ks : List Kind) → (s.tuple ≡ Some ks)
      ↔ OnAllWays code pc (λ t. t.tuple ≡ Some ks)
