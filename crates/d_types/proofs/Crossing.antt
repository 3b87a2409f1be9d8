-- Typed scripts may be shared by threads. One search over the whole tree stops at a limit, so each type has a lemma over those of its fields.
use denote.Param.Send.{IsSync, sendable}
use denote.Param.SendFields.{as_row_sync, declared_sync, variants_sync}
use Rattle.std.proofs.Crossing.{crosses}
use Rattle.d_parser.specs.contracts.tree.Description as description
use Rattle.d_types.proofs.typed.TypedExpr.TheLaws.TheKnot as knot
use Rattle.d_types.specs.contracts.typed.Piece as piece
use Rattle.d_types.specs.contracts.typed.TypedAggregation as aggregation
use Rattle.d_types.specs.contracts.typed.TypedClause as clause
use Rattle.d_types.specs.contracts.typed.TypedExpr as expression
use Rattle.d_types.specs.contracts.typed.TypedStmt as statement
use Rattle.d_types.specs.contracts.typed_script.TypedScript as script

ruleset fields = (as_row_sync, sendable, crosses)

expression_sync : IsSync expression.the_row
expression_sync = search (knot.crosses, sendable, crosses) depth 20

piece_sync : IsSync piece.the_row
piece_sync = search sendable depth 20

statement_sync : IsSync statement.the_row
statement_sync = variants_sync statement.enum (search (expression_sync, piece_sync, fields) depth 20)

description_sync : IsSync description.the_row
description_sync = search (sendable, crosses) depth 20

pub clause_sync : IsSync clause.the_row
clause_sync = declared_sync clause.the_type (search (description_sync, expression_sync, statement_sync, fields) depth 20)

aggregation_sync : IsSync aggregation.the_row
aggregation_sync = search (sendable, crosses) depth 20

pub script_sync : IsSync script.the_row
script_sync = declared_sync script.the_type (search (clause_sync, aggregation_sync, fields) depth 20)
