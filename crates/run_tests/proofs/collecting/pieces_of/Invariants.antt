use Rattle.std.proofs.Common.{◌≡◌, sum_by}
use Rattle.aggregations.specs.Table.{count_held}
use Rattle.d_types.specs.Typed.{functions_in}
use Rattle.d_types.specs.TypedScripts.{typed_script_of}
use Rattle.replay_core.specs.Collecting.{tables_of}
use Rattle.replay_core.specs.Tables.{AllHave}
use Rattle.run_tests.proofs.collecting.pieces_of.Given as goal

abbrev pub invariant-loop-group : goal.invariant-loop-group
invariant-loop-group l = record {
  functions : AllHave (functions_in (typed_script_of l.script)) (tables_of l.pieces.items);
  held : sum_by count_held (tables_of l.pieces.items) ≡ 0;
}
