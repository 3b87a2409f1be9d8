-- The names of crates below that the definitions and the contracts share, from one place.
pub use Rattle.std.specs.Fmt.{signed_decimal}
pub use Rattle.std.specs.List.{AllZip, flat_map, list_any}
pub use Rattle.std.specs.List.Sorted.{IsPermutation, IsStrictlyIncreasing}
pub use Rattle.std.specs.Map.{lookup}
pub use Rattle.std.specs.Option.{option_map_or, option_or}
pub use Rattle.std.specs.Ordering.{int_eq}
pub use Rattle.std.specs.Prelude.{List}
pub use Rattle.std.specs.declared.alloc.Global.{Global}
pub use Rattle.d_values.specs.Keys.{part_of}
pub use Rattle.d_values.specs.Outcomes.{Outcome, Has, Faults, with}
pub use Rattle.d_values.specs.Storage.{Variables, variables, word_of}
pub use Rattle.d_values.specs.Stores.{blank, kind_of, lent_value, own_of}
pub use Rattle.d_values.specs.declared.int_type.DType.{DType}
pub use Rattle.d_values.specs.declared.key.KeyPart.{KeyPart}
pub use Rattle.d_values.specs.declared.value.Value.{Value}
pub use Rattle.d_values.specs.declared.variable.Var.{Var}
pub use Rattle.firings.specs.Ends.{begin_of, end_of, with_ends}
pub use Rattle.firings.specs.Firings.{number_of}
pub use Rattle.firings.specs.Stored.{AreIndices, Extends, row_before}
pub use Rattle.firings.specs.Firings.{IsTrace}
pub use Rattle.firings.specs.declared.firing.Firing.{Firing}
pub use Rattle.firings.specs.declared.limits.TheConstants.{MAX_TOGETHER}
pub use Rattle.aggregations.specs.Table.{Aggregation, Contribution, StandsFor, count_held}
pub use Rattle.aggregations.specs.Table.{functions_of}
pub use Rattle.aggregations.specs.declared.function.AggFn.{AggFn}
pub use Rattle.d_lexer.specs.declared.fault.TheConstants.{MAX_BYTES}
pub use Rattle.d_parser.specs.declared.tree.Description.{Description}
pub use Rattle.d_types.specs.Clauses.{Evaluation, Made, and_then, argument_by, effect_by}
pub use Rattle.d_types.specs.Clauses.{fault_line, nothing_made, run_of, values_of}
pub use Rattle.d_types.specs.Expressions.{eval, keys_of, number_outcome, text_outcome}
pub use Rattle.d_types.specs.Held.{AreTyped, AreTypedOwn, HasTypedBuiltIns, Slots, slots_of}
pub use Rattle.d_types.specs.Sizes.{statement_count}
pub use Rattle.d_types.specs.Typed.{ActionOf, ClauseMeant, ScriptMeant, Typed, Typeds, functions_in}
pub use Rattle.d_types.specs.Typed.{has_exit, is_exit, meant_of, typed_of, typeds_of}
pub use Rattle.d_types.specs.TypedScripts.{typed_script_of}
pub use Rattle.d_types.specs.declared.effect.Effect.{Effect}
pub use Rattle.d_types.specs.declared.typed.TypedExpr.{TypedExpr}
pub use Rattle.d_types.specs.declared.typed.TypedStmt.{TypedStmt}
pub use Rattle.dif_codegen.specs.Meaning.{IsSameClause}
pub use Rattle.dif_codegen.specs.Programs.{action_code}
pub use Rattle.shard_queue.specs.Boards.{IsAt, IsNew, claim_handed, least_lowered, least_seen}
pub use Rattle.shard_queue.specs.Boards.{number_lowered, number_seen}
pub use Rattle.shard_queue.specs.Groups.{AreOf, grouping}
pub use Rattle.shard_queue.specs.Hands.{Handed, IsHanded}
pub use Rattle.shard_queue.specs.Least.{no_number}
pub use Rattle.shard_queue.specs.Threads.{run_threads}
pub use Rattle.shard_queue.specs.declared.board.ClaimBoard.{ClaimBoard}
pub use Rattle.shard_queue.specs.declared.claim_seat.ClaimSeat.{ClaimSeat}
pub use Rattle.shard_queue.specs.declared.groups.Groups.{Groups}
