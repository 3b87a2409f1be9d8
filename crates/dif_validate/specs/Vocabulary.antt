-- The names that the definitions of DIF share: instructions, objects, registers and kinds.
pub use Rattle.d_values.specs.declared.value.Kind.{Kind}
pub use Rattle.d_values.specs.declared.value.Kind.TheVariants.{Number, Text}
pub use Rattle.dif_validate.specs.declared.fault.DifFault.{DifFault}
pub use Rattle.dif_validate.specs.declared.fault.DifFault.TheVariants.{Empty, NoReturn, Backward}
pub use Rattle.dif_validate.specs.declared.fault.DifFault.TheVariants.{OutOfCode, RegisterKind}
pub use Rattle.dif_validate.specs.declared.fault.DifFault.TheVariants.{Unset, TupleShape}
pub use Rattle.dif_validate.specs.declared.fault.DifFault.TheVariants.{TableIndex, Variable, Memory}
pub use Rattle.dif_validate.specs.declared.instruction.Condition.{Condition}
pub use Rattle.dif_validate.specs.declared.instruction.Condition.TheVariants.{Equal, NotEqual}
pub use Rattle.dif_validate.specs.declared.instruction.Condition.TheVariants.{Greater, GreaterEqual}
pub use Rattle.dif_validate.specs.declared.instruction.Condition.TheVariants.{Less, LessEqual}
pub use Rattle.dif_validate.specs.declared.instruction.Condition.TheVariants.{Above, AboveEqual}
pub use Rattle.dif_validate.specs.declared.instruction.Condition.TheVariants.{Below, BelowEqual}
pub use Rattle.dif_validate.specs.declared.instruction.Function.{Function}
pub use Rattle.dif_validate.specs.declared.instruction.Function.TheVariants.{Strlen, Strjoin}
pub use Rattle.dif_validate.specs.declared.instruction.Instr.{Instr}
pub use Rattle.dif_validate.specs.declared.instruction.Instr.TheVariants.{Alu, Not, Mov, Cmp, Tst}
pub use Rattle.dif_validate.specs.declared.instruction.Instr.TheVariants.{Scmp, Ba, Branch, Setx}
pub use Rattle.dif_validate.specs.declared.instruction.Instr.TheVariants.{Sets, Ldgs, Ldga, Ldts}
pub use Rattle.dif_validate.specs.declared.instruction.Instr.TheVariants.{Stts, Ldls, Stls, Pushtr}
pub use Rattle.dif_validate.specs.declared.instruction.Instr.TheVariants.{Pushtv, Flushts, Ldtaa}
pub use Rattle.dif_validate.specs.declared.instruction.Instr.TheVariants.{Sttaa, Call, Ret, Nop}
pub use Rattle.dif_validate.specs.declared.instruction.Operator.{Operator}
pub use Rattle.dif_validate.specs.declared.instruction.Operator.TheVariants.{Or, Xor, And, Sll, Srl}
pub use Rattle.dif_validate.specs.declared.instruction.Operator.TheVariants.{Sra, Sub, Add, Mul}
pub use Rattle.dif_validate.specs.declared.instruction.Operator.TheVariants.{Sdiv, Udiv, Srem, Urem}
pub use Rattle.dif_validate.specs.declared.instruction.TheConstants.{MAX_BUILT_IN}
pub use Rattle.dif_validate.specs.declared.register.Reg.{Reg}
pub use Rattle.dif_validate.specs.declared.register.Reg.TheVariants.{R0, R1, R2, R3, R4, R5, R6, R7}
pub use Rattle.dif_validate.specs.declared.row.Asks.{Asks}
pub use Rattle.dif_validate.specs.declared.row.Asks.TheVariants.{Nothing, Any, One, Two}
pub use Rattle.dif_validate.specs.declared.row.Change.{Change}
pub use Rattle.dif_validate.specs.declared.row.Change.TheVariants.{Puts, Copies, ComparesTwo}
pub use Rattle.dif_validate.specs.declared.row.Change.TheVariants.{Pushes, Empties, StoresVariable}
pub use Rattle.dif_validate.specs.declared.row.Change.TheVariants.{NoChange}
pub use Rattle.dif_validate.specs.declared.row.Flow.{Flow}
pub use Rattle.dif_validate.specs.declared.row.Flow.TheVariants.{Next, Jump, Either, End}
pub use Rattle.dif_validate.specs.declared.row.InstructionRow.{InstructionRow}
pub use Rattle.dif_validate.specs.declared.row.Named.{Named}
pub use Rattle.dif_validate.specs.declared.row.Named.TheVariants.{NoName, NumberAt, TextAt}
pub use Rattle.dif_validate.specs.declared.row.Named.TheVariants.{VariableAt, ArrayAt}
pub use Rattle.dif_validate.specs.declared.row.TupleNeed.{TupleNeed}
pub use Rattle.dif_validate.specs.declared.row.TupleNeed.TheVariants.{AnyTuple, WithRoom, Filled}
pub use Rattle.dif_validate.specs.declared.row.TupleNeed.TheVariants.{TupleOf}
pub use Rattle.dif_validate.specs.declared.shape.Shape.{Shape}
pub use Rattle.dif_validate.specs.Objects.{Object, object_of}
pub use Rattle.dif_validate.specs.Registers.{register_number, at, put}
