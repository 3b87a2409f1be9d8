-- Conversions between integer types.
-- Source: Dynamic Tracing Guide, "Type Conversions".
use Rattle.std.specs.Prelude.{Bool, not, ◌&&◌, ◌==◌, if◌then◌else◌}
use Rattle.d_types.specs.Vocabulary.{IntType}
use Rattle.d_types.specs.Typed.{Typed}

abbrev pub same_type : IntType → IntType → Bool
same_type t u = (t.width == u.width) && (if t.signed then u.signed else not u.signed)

-- an integer of the first type as one of the second
abbrev pub conversion_node : IntType → IntType → Typed → Typed
conversion_node from to x = if same_type from to then x else Typed.Convert from to x
