-- How instructions are written.
use Rattle.std.specs.Prelude.{ℕ, List, ◌++◌, codes}
use Rattle.std.specs.Fmt.{decimal}
use Rattle.d_values.specs.declared.variable.Var.{Var}
use Rattle.dif_validate.specs.Vocabulary.{Kind, Number, Text, Condition, Equal, NotEqual, Greater}
use Rattle.dif_validate.specs.Vocabulary.{GreaterEqual, Less, LessEqual, Above, AboveEqual, Below}
use Rattle.dif_validate.specs.Vocabulary.{BelowEqual, Function, Strlen, Strjoin, Operator, Or, Xor}
use Rattle.dif_validate.specs.Vocabulary.{And, Sll, Srl, Sra, Sub, Add, Mul, Sdiv, Udiv, Srem, Urem}
use Rattle.dif_validate.specs.Vocabulary.{Reg, register_number}
use Rattle.dif_validate.specs.Vocabulary.{Instr, Alu, Not, Mov, Cmp, Tst, Scmp, Ba, Branch, Setx}
use Rattle.dif_validate.specs.Vocabulary.{Sets, Ldgs, Ldga, Ldts, Stts, Ldls, Stls, Pushtr, Pushtv}
use Rattle.dif_validate.specs.Vocabulary.{Flushts, Ldtaa, Sttaa, Call, Ret, Nop}

abbrev pub operator_name : Operator → List ℕ
operator_name Or = codes "or"
operator_name Xor = codes "xor"
operator_name And = codes "and"
operator_name Sll = codes "sll"
operator_name Srl = codes "srl"
operator_name Sra = codes "sra"
operator_name Sub = codes "sub"
operator_name Add = codes "add"
operator_name Mul = codes "mul"
operator_name Sdiv = codes "sdiv"
operator_name Udiv = codes "udiv"
operator_name Srem = codes "srem"
operator_name Urem = codes "urem"

abbrev pub branch_name : Condition → List ℕ
branch_name Equal = codes "be"
branch_name NotEqual = codes "bne"
branch_name Greater = codes "bg"
branch_name GreaterEqual = codes "bge"
branch_name Less = codes "bl"
branch_name LessEqual = codes "ble"
branch_name Above = codes "bgu"
branch_name AboveEqual = codes "bgeu"
branch_name Below = codes "blu"
branch_name BelowEqual = codes "bleu"

abbrev pub function_name : Function → List ℕ
function_name Strlen = codes "strlen"
function_name Strjoin = codes "strjoin"

abbrev pub register_name : Reg → List ℕ
register_name r = codes "r" ++ decimal (register_number r)

abbrev pub kind_letter : Kind → List ℕ
kind_letter Number = codes "n"
kind_letter Text = codes "t"

-- the letter of its kind, and its slot
abbrev pub variable_name : Var → List ℕ
variable_name x = kind_letter x.kind ++ decimal x.slot

-- a name and one, two or three operands
abbrev pub one : (name a : List ℕ) → List ℕ
one name a = name ++ codes " " ++ a

abbrev pub two : (name a b : List ℕ) → List ℕ
two name a b = name ++ codes " " ++ a ++ codes ", " ++ b

abbrev pub three : (name a b c : List ℕ) → List ℕ
three name a b c = name ++ codes " " ++ a ++ codes ", " ++ b ++ codes ", " ++ c

abbrev pub instr_text : Instr → List ℕ
instr_text (Alu op a b d) =
    three (operator_name op) (register_name a) (register_name b) (register_name d)
instr_text (Not a d) = two (codes "not") (register_name a) (register_name d)
instr_text (Mov a d) = two (codes "mov") (register_name a) (register_name d)
instr_text (Cmp a b) = two (codes "cmp") (register_name a) (register_name b)
instr_text (Tst a) = one (codes "tst") (register_name a)
instr_text (Scmp a b) = two (codes "scmp") (register_name a) (register_name b)
instr_text (Ba to) = one (codes "ba") (decimal to)
instr_text (Branch condition to) = one (branch_name condition) (decimal to)
instr_text (Setx i d) = two (codes "setx") (decimal i) (register_name d)
instr_text (Sets i d) = two (codes "sets") (decimal i) (register_name d)
instr_text (Ldgs v d) = two (codes "ldgs") (decimal v) (register_name d)
instr_text (Ldga v a d) = three (codes "ldga") (decimal v) (register_name a) (register_name d)
instr_text (Ldts x d) = two (codes "ldts") (variable_name x) (register_name d)
instr_text (Stts x a) = two (codes "stts") (variable_name x) (register_name a)
instr_text (Ldls x d) = two (codes "ldls") (variable_name x) (register_name d)
instr_text (Stls x a) = two (codes "stls") (variable_name x) (register_name a)
instr_text (Pushtr a) = one (codes "pushtr") (register_name a)
instr_text (Pushtv a) = one (codes "pushtv") (register_name a)
instr_text Flushts = codes "flushts"
instr_text (Ldtaa x d) = two (codes "ldtaa") (variable_name x) (register_name d)
instr_text (Sttaa x a) = two (codes "sttaa") (variable_name x) (register_name a)
instr_text (Call function d) = two (codes "call") (function_name function) (register_name d)
instr_text (Ret a) = one (codes "ret") (register_name a)
instr_text Nop = codes "nop"
