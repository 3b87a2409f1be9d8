-- Compiled scripts.
use Rattle.d_types.specs.Scripts.{IsMeant}
use Rattle.d_types.specs.Typed.{ScriptMeant}
use Rattle.dif_codegen.specs.Meaning.{IsProgramOf}
use Rattle.dif_codegen.specs.declared.program.Program.{Program}

-- the program is one of a script that is well typed
pub record IsCompiled (m : ScriptMeant) (p : Program) : Type 0 where
  pub typed : ∥ IsMeant m ∥₁
  pub program : IsProgramOf m p.clauses.items p.functions.items
