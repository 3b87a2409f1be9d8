-- What instructions make of integers, of texts and of the tuple.
-- Source: Cantrill, Shapiro and Leventhal, "Dynamic Instrumentation of Production Systems" (USENIX
-- 2004), on DIF.
use Rattle.std.specs.Prelude.{ℕ, ◌-◌, ◌^◌, Bool, List, [], ◌∷◌, length, Option, Some, None}
use Rattle.std.specs.Prelude.{Result, Ok}
use Rattle.d_values.specs.Operators.{holds_of}
use Rattle.d_values.specs.Texts.{text_cmp, joined_text}
use Rattle.d_values.specs.Types.{INT64, UINT64}
use Rattle.d_values.specs.Words.{binary_of, narrow, shift_of, order_of}
use Rattle.dif_machine.specs.Vocabulary.{Comparison, Condition, Equal, NotEqual, Greater}
use Rattle.dif_machine.specs.Vocabulary.{GreaterEqual, Less, LessEqual, Above, AboveEqual, Below}
use Rattle.dif_machine.specs.Vocabulary.{BelowEqual, Function, Strlen, Strjoin, KeyPart, Name}
use Rattle.dif_machine.specs.Vocabulary.{Operator, Or, Xor, And, Sll, Srl, Sra, Sub, Add, Mul, Sdiv}
use Rattle.dif_machine.specs.Vocabulary.{Udiv, Srem, Urem, OutOfZero, Value, Int, Text, BitOr}
use Rattle.dif_machine.specs.Vocabulary.{BitXor, BitAnd, Subtract, Plus, Multiply, Divide}
use Rattle.dif_machine.specs.Vocabulary.{Remainder, Left, Right, IsEqual, IsNotEqual, IsGreater}
use Rattle.dif_machine.specs.Vocabulary.{IsGreaterEqual, IsLess, IsLessEqual}

-- the language's operators on integers of 64 bits
abbrev pub result_of : Operator → ℕ → ℕ → Result ℕ OutOfZero
result_of Or a b = binary_of BitOr UINT64 a b
result_of Xor a b = binary_of BitXor UINT64 a b
result_of And a b = binary_of BitAnd UINT64 a b
result_of Sll a b = Ok (shift_of Left UINT64 a b)
result_of Srl a b = Ok (shift_of Right UINT64 a b)
result_of Sra a b = Ok (shift_of Right INT64 a b)
result_of Sub a b = binary_of Subtract UINT64 a b
result_of Add a b = binary_of Plus UINT64 a b
result_of Mul a b = binary_of Multiply UINT64 a b
result_of Sdiv a b = binary_of Divide INT64 a b
result_of Udiv a b = binary_of Divide UINT64 a b
result_of Srem a b = binary_of Remainder INT64 a b
result_of Urem a b = binary_of Remainder UINT64 a b

-- all bits turned
abbrev pub complement : ℕ → ℕ
complement a = narrow UINT64 (2 ^ 64 - 1 - a)

-- how two integers compare
abbrev pub comparison_of : ℕ → ℕ → Comparison
comparison_of a b = record { signed = order_of INT64 a b; unsigned = order_of UINT64 a b }

-- and two texts, by their bytes
abbrev pub text_comparison_of : List ℕ → List ℕ → Comparison
text_comparison_of a b = record { signed = text_cmp a b; unsigned = text_cmp a b }

abbrev pub holds : Condition → Comparison → Bool
holds Equal known = holds_of IsEqual known.unsigned
holds NotEqual known = holds_of IsNotEqual known.unsigned
holds Greater known = holds_of IsGreater known.signed
holds GreaterEqual known = holds_of IsGreaterEqual known.signed
holds Less known = holds_of IsLess known.signed
holds LessEqual known = holds_of IsLessEqual known.signed
holds Above known = holds_of IsGreater known.unsigned
holds AboveEqual known = holds_of IsGreaterEqual known.unsigned
holds Below known = holds_of IsLess known.unsigned
holds BelowEqual known = holds_of IsLessEqual known.unsigned

-- what a function makes of its own tuple
abbrev pub call_of : Function → List KeyPart → Option Value
call_of Strlen (Name text ∷ []) = Some (Int (length text))
call_of Strlen parts = None
call_of Strjoin (Name a ∷ Name b ∷ []) = Some (Text (joined_text a b))
call_of Strjoin parts = None
