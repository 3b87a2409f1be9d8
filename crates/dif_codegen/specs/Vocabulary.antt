-- The names that the definitions share: of the code's own types, and of crates below.
pub use Rattle.std.specs.List.{AllZip}
pub use Rattle.aggregations.specs.declared.function.AggFn.{AggFn}
pub use Rattle.d_parser.specs.declared.operators.Step.{Step}
pub use Rattle.d_parser.specs.declared.operators.UnaryOperator.{UnaryOperator}
pub use Rattle.d_parser.specs.declared.tree.Description.{Description}
pub use Rattle.d_types.specs.Clauses.{Evaluation, Made, fault_line, run_by, run_of}
pub use Rattle.d_types.specs.Expressions.{Outcome, Has, Faults, eval, part_of, with, works_in}
pub use Rattle.d_types.specs.Held.{AreTyped, HasTypedBuiltIns, Slots, slots_of}
pub use Rattle.d_types.specs.Needs.{count}
pub use Rattle.d_types.specs.Storage.{Variables, var_of}
pub use Rattle.d_types.specs.Typed.{Typed, ClauseMeant, ScriptMeant}
pub use Rattle.d_types.specs.declared.typed.Answer.{Answer}
pub use Rattle.d_types.specs.declared.typed.BuiltIn.{BuiltIn}
pub use Rattle.d_parser.specs.declared.operators.LogicOperator.{LogicOperator}
pub use Rattle.d_types.specs.declared.typed.Operation.{Operation}
pub use Rattle.d_types.specs.declared.typed.Space.{Space}
pub use Rattle.d_values.specs.Storage.{variables}
pub use Rattle.d_values.specs.declared.int_type.DType.{DType}
pub use Rattle.d_values.specs.declared.int_type.IntType.{IntType}
pub use Rattle.d_values.specs.declared.key.KeyPart.{KeyPart}
pub use Rattle.d_values.specs.declared.operators.ArithmeticOperator.{ArithmeticOperator}
pub use Rattle.d_values.specs.declared.operators.ComparisonOperator.{ComparisonOperator}
pub use Rattle.d_values.specs.declared.operators.ShiftOperator.{ShiftOperator}
pub use Rattle.d_values.specs.declared.value.Value.{Value}
pub use Rattle.d_values.specs.declared.variable.Var.{Var}
pub use Rattle.dif_machine.specs.declared.fault.MachineFault.{MachineFault}
pub use Rattle.dif_machine.specs.declared.fault.MachineFault.TheVariants.{DivideByZero, Memory}
pub use Rattle.dif_validate.specs.Objects.{Object}
pub use Rattle.dif_validate.specs.declared.instruction.Condition.{Condition}
pub use Rattle.dif_validate.specs.declared.instruction.Condition.TheVariants.{Equal, NotEqual}
pub use Rattle.dif_validate.specs.declared.instruction.Condition.TheVariants.{Greater, GreaterEqual}
pub use Rattle.dif_validate.specs.declared.instruction.Condition.TheVariants.{Less, LessEqual}
pub use Rattle.dif_validate.specs.declared.instruction.Condition.TheVariants.{Above, AboveEqual}
pub use Rattle.dif_validate.specs.declared.instruction.Condition.TheVariants.{Below, BelowEqual}
pub use Rattle.dif_validate.specs.declared.instruction.Function.{Function}
pub use Rattle.dif_validate.specs.declared.instruction.Instr.{Instr}
pub use Rattle.dif_validate.specs.declared.instruction.Instr.TheVariants.{Alu, Not, Mov, Cmp, Tst}
pub use Rattle.dif_validate.specs.declared.instruction.Instr.TheVariants.{Scmp, Ba, Branch, Setx}
pub use Rattle.dif_validate.specs.declared.instruction.Instr.TheVariants.{Sets, Ldgs, Ldga, Ldts}
pub use Rattle.dif_validate.specs.declared.instruction.Instr.TheVariants.{Stts, Ldls, Stls, Pushtr}
pub use Rattle.dif_validate.specs.declared.instruction.Instr.TheVariants.{Pushtv, Flushts, Ldtaa}
pub use Rattle.dif_validate.specs.declared.instruction.Instr.TheVariants.{Sttaa, Call, Ret}
pub use Rattle.dif_validate.specs.declared.instruction.Operator.{Operator}
pub use Rattle.dif_validate.specs.declared.instruction.Operator.TheVariants.{Or, Xor, And, Sll, Srl}
pub use Rattle.dif_validate.specs.declared.instruction.Operator.TheVariants.{Sra, Sub, Add, Mul}
pub use Rattle.dif_validate.specs.declared.instruction.Operator.TheVariants.{Sdiv, Udiv, Srem, Urem}
pub use Rattle.dif_validate.specs.declared.object.Difo.{Difo}
pub use Rattle.dif_validate.specs.declared.register.Reg.{Reg}
pub use Rattle.dif_validate.specs.declared.register.Reg.TheVariants.{R0, R1, R2, R3, R4, R5, R6, R7}
pub use Rattle.firings.specs.declared.firing.Firing.{Firing}
pub use Rattle.dif_codegen.specs.declared.program.Action.{Action}
pub use Rattle.dif_codegen.specs.declared.program.CompiledClause.{CompiledClause}
pub use Rattle.dif_codegen.specs.declared.program.TypedObject.{TypedObject}
