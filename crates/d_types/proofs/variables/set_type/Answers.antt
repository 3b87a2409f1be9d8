use Rattle.std.proofs.Common.{sym}
use Rattle.d_types.proofs.Tables.{set_type_within, set_type_past}
use Rattle.d_types.proofs.variables.set_type.Goals as goal

pub returns-then-slot-table : goal.returns-then-slot-table
returns-then-slot-table c = set_type_within _ _ _ _ c.if-slot-table.true

pub returns-else-slot-table : goal.returns-else-slot-table
returns-else-slot-table c = sym (set_type_past _ _ _ c.if-slot-table.false)
