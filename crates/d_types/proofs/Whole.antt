-- A script's items, all of them typed.
use Rattle.std.proofs.Common.{◌≡◌, List, [], ◌∷◌, map, Option, Ok, refl, ap}
use Rattle.d_parser.specs.Tree.{ItemTree}
use Rattle.d_values.specs.declared.int_type.DType.{DType}
use Rattle.d_types.specs.declared.variables.Entry.{Entry}
use Rattle.d_types.specs.Typed.{Aggs, ClauseMeant}
use Rattle.d_types.specs.Steps.Variables.{types_in}
use Rattle.d_types.specs.Steps.Variables.{rows_of_entries}
use Rattle.d_types.specs.Steps.Scripts.{items, script}

types_are : (table : List Entry) → map (λ e. e.holds) table ≡ types_in (rows_of_entries table)
types_are [] = refl
types_are (e ∷ table) = ap (λ rest. e.holds ∷ rest) (types_are table)

pub script_is : (source : List ItemTree) (clauses : List ClauseMeant) (table : List Entry) (aggs : Aggs) (slots : List (Option DType)) →
    items [] [] [] source ≡ Ok (clauses, (rows_of_entries table, aggs)) → slots ≡ map (λ e. e.holds) table →
    script source ≡ Ok (record { clauses = clauses; aggregations = aggs; slots = slots })
script_is source clauses table aggs slots h e = rw (h, e, types_are table) refl
