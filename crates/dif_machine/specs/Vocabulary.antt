-- The names that the definitions of the machine share, beside those of the validator.
pub use Rattle.std.specs.Prelude.{◌≢◌}
pub use Rattle.std.specs.Int.{cast_signed, cast_unsigned, w64}
pub use Rattle.d_values.specs.Storage.{Variables, variables, set_local, set_own, as_kind}
pub use Rattle.d_values.specs.Stores.{kind_of, lent_value, local_of, own_of}
pub use Rattle.d_values.specs.declared.arithmetic.OutOfZero.{OutOfZero}
pub use Rattle.d_values.specs.declared.key.KeyPart.{KeyPart}
pub use Rattle.d_values.specs.declared.key.KeyPart.TheVariants.{Number, Name}
pub use Rattle.d_values.specs.declared.operators.ArithmeticOperator.TheVariants.{BitOr, BitXor}
pub use Rattle.d_values.specs.declared.operators.ArithmeticOperator.TheVariants.{BitAnd, Subtract}
pub use Rattle.d_values.specs.declared.operators.ArithmeticOperator.TheVariants.{Add as Plus}
pub use Rattle.d_values.specs.declared.operators.ArithmeticOperator.TheVariants.{Multiply, Divide}
pub use Rattle.d_values.specs.declared.operators.ArithmeticOperator.TheVariants.{Remainder}
pub use Rattle.d_values.specs.declared.operators.ComparisonOperator.TheVariants.{
  Equal as IsEqual,
  NotEqual as IsNotEqual,
  Greater as IsGreater,
  GreaterEqual as IsGreaterEqual,
  Less as IsLess,
  LessEqual as IsLessEqual,
}
pub use Rattle.d_values.specs.declared.operators.ShiftOperator.TheVariants.{Left, Right}
pub use Rattle.d_values.specs.declared.value.Kind.{Kind}
pub use Rattle.d_values.specs.declared.value.Kind.TheVariants.{Number as NumberKind}
pub use Rattle.d_values.specs.declared.value.Kind.TheVariants.{Text as TextKind}
pub use Rattle.d_values.specs.declared.value.Value.{Value}
pub use Rattle.d_values.specs.declared.value.ValueRef.{ValueRef}
pub use Rattle.d_values.specs.declared.value.Value.TheVariants.{Int, Text}
pub use Rattle.d_values.specs.declared.variable.Var.{Var}
pub use Rattle.firings.specs.declared.firing.Firing.{Firing}
pub use Rattle.dif_validate.specs.Objects.{Object, object_of}
pub use Rattle.dif_validate.specs.Registers.{at, put}
pub use Rattle.dif_validate.specs.Returns.{return_kind}
pub use Rattle.dif_validate.specs.Validity.{IsValid}
pub use Rattle.dif_validate.specs.declared.instruction.Condition.{Condition}
pub use Rattle.dif_validate.specs.declared.instruction.Condition.TheVariants.{Equal, NotEqual}
pub use Rattle.dif_validate.specs.declared.instruction.Condition.TheVariants.{Greater, GreaterEqual}
pub use Rattle.dif_validate.specs.declared.instruction.Condition.TheVariants.{Less, LessEqual}
pub use Rattle.dif_validate.specs.declared.instruction.Condition.TheVariants.{Above, AboveEqual}
pub use Rattle.dif_validate.specs.declared.instruction.Condition.TheVariants.{Below, BelowEqual}
pub use Rattle.dif_validate.specs.declared.instruction.Function.{Function}
pub use Rattle.dif_validate.specs.declared.instruction.Function.TheVariants.{Strlen, Strjoin}
pub use Rattle.dif_validate.specs.declared.instruction.Instr.{Instr}
pub use Rattle.dif_validate.specs.declared.instruction.Instr.TheVariants.{Alu, Not, Mov, Cmp, Tst}
pub use Rattle.dif_validate.specs.declared.instruction.Instr.TheVariants.{Scmp, Ba, Branch, Setx}
pub use Rattle.dif_validate.specs.declared.instruction.Instr.TheVariants.{Sets, Ldgs, Ldga, Ldts}
pub use Rattle.dif_validate.specs.declared.instruction.Instr.TheVariants.{Stts, Ldls, Stls, Pushtr}
pub use Rattle.dif_validate.specs.declared.instruction.Instr.TheVariants.{Pushtv, Flushts, Ldtaa}
pub use Rattle.dif_validate.specs.declared.instruction.Instr.TheVariants.{Sttaa, Call, Ret, Nop}
pub use Rattle.dif_validate.specs.declared.instruction.Operator.{Operator}
pub use Rattle.dif_validate.specs.declared.instruction.Operator.TheVariants.{Or, Xor, And, Sll, Srl}
pub use Rattle.dif_validate.specs.declared.instruction.Operator.TheVariants.{Sra, Sub, Add, Mul}
pub use Rattle.dif_validate.specs.declared.instruction.Operator.TheVariants.{Sdiv, Udiv, Srem, Urem}
pub use Rattle.dif_validate.specs.declared.register.Reg.{Reg}
pub use Rattle.dif_validate.specs.declared.object.Difo.{Difo}
pub use Rattle.dif_machine.specs.declared.comparing.Comparison.{Comparison}
pub use Rattle.dif_machine.specs.declared.fault.MachineFault.{MachineFault}
pub use Rattle.dif_machine.specs.declared.fault.MachineFault.TheVariants.{DivideByZero, Memory}
