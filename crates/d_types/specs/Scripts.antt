-- What typed scripts mean.
-- Source: Dynamic Tracing Guide, "D Program Structure".
use Rattle.std.specs.Prelude.{List, Ok}
use Rattle.d_types.specs.Vocabulary.{MAX_BYTES, AreSmall, IsWithin, ItemTree}
use Rattle.d_types.specs.Typed.{ScriptMeant}
use Rattle.d_types.specs.Checking.{IsChecked}

-- some script means this; it has at most 65,536 descriptions, as many statements, and as many
-- declarations and places of variables together, and its numbers are below 2 ^ 64
abbrev pub IsMeant : ScriptMeant → Type 0
IsMeant m =
    (source : List ItemTree) × IsWithin MAX_BYTES source × AreSmall source
    × IsChecked source (Ok m)
