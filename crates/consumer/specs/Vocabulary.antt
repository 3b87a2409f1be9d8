-- The names that the definitions share: of the program's own types, and of crates below.
pub use Rattle.std.specs.Fmt.{signed_decimal}
pub use Rattle.std.specs.List.{flat_map}
pub use Rattle.std.specs.Str.{bytes_eq}
pub use Rattle.std.specs.Str.Parse.{IsNumeral, digits_value, without_leading_plus}
pub use Rattle.std.specs.Vec.Iter.{into_iter_items}
pub use Rattle.aggregations.specs.Table.{functions_of}
pub use Rattle.clap.specs.declared.builder.value_parser.ValueParser.TheVariants.{Signed}
pub use Rattle.clap.specs.declared.error.Error.{Error}
pub use Rattle.clap.specs.declared.error.kind.ErrorKind.{ErrorKind}
pub use Rattle.clap.specs.declared.error.kind.ErrorKind.TheVariants.{DisplayHelp, InvalidValue}
pub use Rattle.clap.specs.declared.error.kind.ErrorKind.TheVariants.{OutOfMemory, UnknownArgument}
pub use Rattle.d_lexer.specs.Lexing.{IsLexed, IsRefused}
pub use Rattle.d_lexer.specs.declared.fault.LexFault.{LexFault}
pub use Rattle.d_lexer.specs.declared.fault.TheConstants.{MAX_BYTES}
pub use Rattle.d_lexer.specs.declared.token.Token.{Token}
pub use Rattle.d_parser.specs.declared.fault.ParseFault.{ParseFault}
pub use Rattle.d_parser.specs.declared.fault.ParseFault.TheVariants.{Syntax}
pub use Rattle.d_parser.specs.declared.limits.TheConstants.{MAX_CLAUSES}
pub use Rattle.d_types.specs.Typed.{ScriptMeant, functions_in}
pub use Rattle.d_types.specs.TypedScripts.{typed_script_of}
pub use Rattle.d_types.specs.declared.fault.TypeFault.{TypeFault}
pub use Rattle.d_types.specs.declared.typed_script.TypedScript.{TypedScript}
pub use Rattle.firing_reader.specs.Blocks.{reads}
pub use Rattle.firings.specs.Firings.{number_of}
pub use Rattle.firing_reader.specs.Trace.{trace_of}
pub use Rattle.firing_reader.specs.declared.fault.TraceFault.{TraceFault}
pub use Rattle.firings.specs.declared.firing.Firing.{Firing}
pub use Rattle.streams.specs.declared.reading.ReadFault.{ReadFault}
pub use Rattle.streams.specs.declared.reading.ReadFault.TheVariants.{Failed}
pub use Rattle.streams.specs.declared.reading.TheConstants.{MAX_CALLS}
pub use Rattle.shard_queue.specs.Groupings.{Grouping}
pub use Rattle.shard_queue.specs.declared.fault.GroupFault.{GroupFault}
pub use Rattle.shard_queue.specs.declared.limits.TheConstants.{MAX_GROUPS}
pub use Rattle.shard_queue.specs.declared.limits.TheConstants.{MAX_WORKERS}
pub use Rattle.consumer.specs.declared.consuming.ConsumeFault.{ConsumeFault}
pub use Rattle.consumer.specs.declared.consuming.ConsumeFault.TheVariants.{Read, Refused, Write}
pub use Rattle.consumer.specs.declared.plan.EngineKind.{EngineKind}
pub use Rattle.consumer.specs.declared.plan.EngineKind.TheVariants.{Dif, Tree}
pub use Rattle.consumer.specs.declared.plan.GroupPlan.{GroupPlan}
pub use Rattle.consumer.specs.declared.plan.GroupPlan.TheVariants.{Dealt, Lists}
pub use Rattle.consumer.specs.declared.plan.Plan.{Plan}
pub use Rattle.consumer.specs.declared.plan.Replayed.{Replayed}
pub use Rattle.consumer.specs.declared.refusal.Refusal.{Refusal}
pub use Rattle.consumer.specs.declared.refusal.Refusal.TheVariants.{Lex, Parse, Typing, Trace}
pub use Rattle.consumer.specs.declared.refusal.Refusal.TheVariants.{Group, Memory}
pub use Rattle.consumer.specs.declared.arguments.Request.{Request}
pub use Rattle.consumer.specs.declared.arguments.UsageFault.{UsageFault}
