-- Every whole expression of a script needs at most the registers that there are.
use Rattle.std.specs.Prelude.{◌≤◌}
use Rattle.d_types.specs.declared.limits.TheConstants.{MAX_NEED}
use Rattle.d_types.specs.Typed.{Typed, ScriptMeant}
use Rattle.d_types.specs.Needs.{need}
use Rattle.d_types.specs.Wholes.{ClausesAre}

abbrev pub FitsRegisters : Typed → Type 0
FitsRegisters x = need x ≤ MAX_NEED

abbrev pub ScriptFits : ScriptMeant → Type 0
ScriptFits m = ClausesAre FitsRegisters m.clauses
