-- The code of an expression is typed: from the kinds of the registers below to one more.
use Rattle.std.specs.Prelude.{◌≡◌, ◌≤◌, ◌<◌, ℕ, suc, ◌+◌, ◌-◌, ◌++◌, ◌==◌, not, Bool, true, false}
use Rattle.std.specs.Prelude.{List, [], ◌∷◌, length, Some, None, slice_get}
use Rattle.std.proofs.Common.{refl, sym, ap, ◌∙◌, subst, arith, cond, length-append, append_assoc}
use Rattle.std.proofs.Common.{append-nil}
use Rattle.std.proofs.lemmas.Bool.{lt-leb, lt-ltb}
use Rattle.std.proofs.lemmas.Option.{slice_get_past, slice_get_within}
use Rattle.d_parser.specs.declared.operators.Step.{Step}
use Rattle.d_parser.specs.declared.operators.UnaryOperator.{UnaryOperator}
use Rattle.d_parser.specs.declared.operators.UnaryOperator.TheVariants as un
use Rattle.d_values.specs.declared.int_type.IntType.{IntType}
use Rattle.d_values.specs.declared.int_type.DType.{DType}
use Rattle.d_values.specs.declared.int_type.DType.TheVariants as ty
use Rattle.d_values.specs.declared.value.Kind.{Kind}
use Rattle.d_values.specs.declared.value.Kind.TheVariants as ki
use Rattle.d_types.specs.declared.typed.Answer.{Answer}
use Rattle.d_types.specs.declared.typed.Answer.TheVariants as an
use Rattle.d_types.specs.declared.typed.BuiltIn.{BuiltIn}
use Rattle.d_types.specs.declared.typed.BuiltIn.TheVariants as bi
use Rattle.d_parser.specs.declared.operators.LogicOperator.TheVariants as lo
use Rattle.d_types.specs.declared.typed.Operation.{Operation}
use Rattle.d_types.specs.declared.typed.Operation.TheVariants as op
use Rattle.d_types.specs.declared.typed.Space.{Space}
use Rattle.d_types.specs.declared.typed.Space.TheVariants as sp
use Rattle.d_types.specs.Expressions.{works_in}
use Rattle.d_types.specs.Held.{Slots, IsConsistent, AreConsistent}
use Rattle.d_types.specs.Storage.{var_of}
use Rattle.d_types.specs.Needs.{need, need_of_keys, count}
use Rattle.d_types.specs.Typed.{Typed, Constant, Text, Fixed, Read, Unary, Operate, Compare}
use Rattle.d_types.specs.Typed.{CompareText, Logic, Choice, Convert, Assign, Update, Count, Strlen}
use Rattle.d_types.specs.Typed.{Strjoin, Typeds, end, more, type_of, type_of_built_in}
use Rattle.d_types.specs.Variables.{kind_of_type, kinds_of_typed}
use Rattle.dif_validate.specs.declared.instruction.Function.TheVariants as fu
use Rattle.dif_validate.specs.declared.instruction.Condition.{Condition}
use Rattle.dif_validate.specs.declared.instruction.Condition.TheVariants.{Equal, NotEqual}
use Rattle.dif_validate.specs.declared.instruction.Instr.{Instr}
use Rattle.dif_validate.specs.declared.instruction.Instr.TheVariants.{Alu, Not, Mov, Cmp, Tst, Scmp}
use Rattle.dif_validate.specs.declared.instruction.Instr.TheVariants.{Setx, Sets, Ldgs, Ldga}
use Rattle.dif_validate.specs.declared.instruction.Instr.TheVariants.{Pushtr, Pushtv, Flushts}
use Rattle.dif_validate.specs.declared.instruction.Instr.TheVariants.{Ldtaa, Sttaa, Call}
use Rattle.dif_validate.specs.declared.instruction.Operator.TheVariants.{Sub, Sll, And}
use Rattle.dif_validate.specs.declared.register.Reg.{Reg}
use Rattle.dif_validate.specs.declared.register.Reg.TheVariants.{R0, R7}
use Rattle.dif_validate.specs.declared.shape.Shape.{Shape}
use Rattle.dif_validate.specs.Faults.{misses_table, misses_variable, misses_tuple}
use Rattle.dif_validate.specs.Flow.{jump_target}
use Rattle.dif_validate.specs.Leaves.{leaves, with_register, shape_compared, shape_with_tuple}
use Rattle.dif_validate.specs.Objects.{Object}
use Rattle.dif_validate.specs.Registers.{at}
use Rattle.dif_validate.specs.Validity.{is_return}
use Rattle.dif_validate.proofs.Faultless.{IsFine}
use Rattle.dif_validate.proofs.Flowing.{Within, within_self}
use Rattle.dif_validate.proofs.Writes.{put_long}
use Rattle.dif_codegen.specs.Steps.Code.{register, operator_of, condition_of, shift_right}
use Rattle.dif_codegen.specs.Steps.Code.{shift_operator}
use Rattle.dif_codegen.specs.Steps.Code.{shifts, masking, operate_on, differing, narrowing}
use Rattle.dif_codegen.specs.Steps.Code.{unary_code, built_in_code, store_to, push_of, pushing}
use Rattle.dif_codegen.specs.Steps.Code.{fetching}
use Rattle.dif_codegen.specs.Steps.Code.{saving, lowering, holding, step_operator, opposite}
use Rattle.dif_codegen.specs.Steps.Code.{stepping}
use Rattle.dif_codegen.specs.Steps.Code.{answering, measuring, joining, code_of, keys_code}
use Rattle.dif_codegen.specs.Steps.Pieces as pieces
use Rattle.dif_codegen.specs.Steps.Pieces.{Place, Maker, nothing, one_instr, both, fork}
use Rattle.dif_codegen.specs.Steps.Pieces.{choice_code, bit_by, past, next}
use Rattle.dif_codegen.proofs.Levels.{level, level_at, first_of, level_front, level_more, nonzero}
use Rattle.dif_codegen.proofs.Levels.{write_again, fine_none, fine_one, fine_two, fine_any}
use Rattle.dif_codegen.proofs.Simulation.{need_pos, count_fits, count_type}
use Rattle.dif_codegen.proofs.Standing.{Stands, stands_front, stands_back, has_front, has_back}
use Rattle.dif_codegen.proofs.Typing.{Types, nothing_types, less_types, both_types, one_types}
use Rattle.dif_codegen.proofs.Typing.{fork_types}

module _ (o : Object) where
  -- a maker's piece at an index
  abbrev Makes : Place → Shape → Maker → Shape → Type 0
  Makes pl s g t = Types o pl.at s (g pl).code t

  both_make : (pl : Place) (s t u : Shape) (g h : Maker) → Stands o pl (both g h pl) → (Stands o pl (g pl) → Makes pl s g t) → ((pl1 : Place) → Stands o pl1 (h pl1) → Makes pl1 t h u) → Makes pl s (both g h) u
  both_make pl s t u g h stands a b =
      let p = g pl in
      let q = h (past pl p) in
      both_types o pl.at s p.code t q.code u (a (stands_front o pl p q stands)) (b (past pl p) (stands_back o pl p q stands))

  -- a number's and a text's index in their tables
  number_inside : (pl : Place) (word : ℕ) (d : Reg) → Stands o pl (pieces.number word d pl) → misses_table (Setx pl.numbers d) o ≡ false
  number_inside pl word d h = lt-leb (length o.numbers) pl.numbers (slice_get_within o.numbers pl.numbers word h.numbers.0)

  text_inside : (pl : Place) (bytes : List ℕ) (d : Reg) → Stands o pl (pieces.text bytes d pl) → misses_table (Sets pl.texts d) o ≡ false
  text_inside pl bytes d h = lt-leb (length o.texts) pl.texts (slice_get_within o.texts pl.texts bytes h.texts.0)

  module _ (ks : List Kind) (few : length ks < 7) where
    abbrev d : Reg
    d = register (suc (length ks))

    -- an instruction that gives the next register a kind
    put_makes : (pl : Place) (js : List Kind) (k : Kind) (i : Instr) → IsFine i (level (ks ++ js)) → misses_table i o ≡ false → misses_variable i ≡ false → is_return (Some i) ≡ false → jump_target i ≡ None
        → leaves i (level (ks ++ js)) ≡ with_register (level (ks ++ js)) d (Some k) → Types o pl.at (level (ks ++ js)) (i ∷ []) (level (ks ++ k ∷ []))
    put_makes pl js k i fine table variable ends none left =
        less_types o pl.at (level (ks ++ js)) (level (ks ++ js)) (i ∷ []) (leaves i (level (ks ++ js))) (level (ks ++ k ∷ [])) (within_self _) (subst (Within (level (ks ++ k ∷ []))) (sym left) (level_more ks js k few))
        (one_types o pl.at (level (ks ++ js)) i fine table variable ends none)

    number_makes : (pl : Place) (js : List Kind) (word : ℕ) → Stands o pl (pieces.number word d pl) → Makes pl (level (ks ++ js)) (pieces.number word d) (level (ks ++ ki.Number ∷ []))
    number_makes pl js word h = put_makes pl js ki.Number (Setx pl.numbers d) (fine_none _ _ refl refl refl) (number_inside pl word d h) refl refl refl refl

    text_makes : (pl : Place) (js : List Kind) (bytes : List ℕ) → Stands o pl (pieces.text bytes d pl) → Makes pl (level (ks ++ js)) (pieces.text bytes d) (level (ks ++ ki.Text ∷ []))
    text_makes pl js bytes h = put_makes pl js ki.Text (Sets pl.texts d) (fine_none _ _ refl refl refl) (text_inside pl bytes d h) refl refl refl refl

    -- the register's kind where it has one
    has : (k : Kind) (js : List Kind) → at (level (ks ++ k ∷ js)).registers d ≡ Some k
    has k js = level_at (ks ++ k ∷ js) (length ks) few ∙ first_of ks k js

    -- a choice after a test
    choice_makes : (pl : Place) (js : List Kind) (k : Kind) (test : Instr) (condition : Condition) (g h : Maker) → IsFine test (level (ks ++ js)) → misses_table test o ≡ false → misses_variable test ≡ false → is_return (Some test) ≡ false → jump_target test ≡ None → leaves test (level (ks ++ js)) ≡ shape_compared (level (ks ++ js))
        → Stands o pl (choice_code test condition g h pl) → ((pl1 : Place) → Stands o pl1 (g pl1) → Makes pl1 (level (ks ++ js)) g (level (ks ++ k ∷ []))) → ((pl1 : Place) → Stands o pl1 (h pl1) → Makes pl1 (level (ks ++ js)) h (level (ks ++ k ∷ [])))
        → Makes pl (level (ks ++ js)) (choice_code test condition g h) (level (ks ++ k ∷ []))
    choice_makes pl js k test condition g h fine table variable ends none left stands a b =
        both_make pl (level (ks ++ js)) (shape_compared (level (ks ++ js))) (level (ks ++ k ∷ [])) (one_instr test) (fork condition g h) stands
        (λ st1. subst (Types o pl.at (level (ks ++ js)) (test ∷ [])) left (one_types o pl.at (level (ks ++ js)) test fine table variable ends none))
        (λ pl1 st1.
        let s : Shape = shape_compared (level (ks ++ js)) in
        let t = level (ks ++ k ∷ []) in
        let within : Within (level (ks ++ js)) s = record { registers = λ r x e. e; compared = λ e. refl; tuple = λ t e. e } in
        let pl2 = next pl1 in
        let p = g pl2 in
        let pl3 = next (past pl2 p) in
        let q = h pl3 in
        let there : pl3.at ≡ pl1.at + 2 + length p.code = omega arith in
        let stp : Stands o pl2 p = record { code = has_front o.code (pl1.at + 1) p.code _ st1.code.1; texts = has_front o.texts pl1.texts p.texts q.texts st1.texts; numbers = has_front o.numbers pl1.numbers p.numbers q.numbers st1.numbers } in
        let back = has_back o.code (pl1.at + 1) p.code _ st1.code.1 in
        let stq : Stands o pl3 q = record { code = back.1; texts = has_back o.texts pl1.texts p.texts q.texts st1.texts; numbers = has_back o.numbers pl1.numbers p.numbers q.numbers st1.numbers } in
        fork_types o pl1.at s t condition p.code q.code (fine_none _ _ refl refl refl) (fine_none _ _ refl refl refl)
        (less_types o (pl1.at + 1) (level (ks ++ js)) s p.code t t within (within_self t) (a pl2 stp))
        (subst (λ n. Types o n s q.code t) there (less_types o pl3.at (level (ks ++ js)) s q.code t t within (within_self t) (b pl3 stq))))

    -- a test of a number in the register
    test_makes : (pl : Place) (k : Kind) (condition : Condition) (g h : Maker) → Stands o pl (choice_code (Tst d) condition g h pl)
        → ((pl1 : Place) → Stands o pl1 (g pl1) → Makes pl1 (level (ks ++ ki.Number ∷ [])) g (level (ks ++ k ∷ []))) → ((pl1 : Place) → Stands o pl1 (h pl1) → Makes pl1 (level (ks ++ ki.Number ∷ [])) h (level (ks ++ k ∷ [])))
        → Makes pl (level (ks ++ ki.Number ∷ [])) (choice_code (Tst d) condition g h) (level (ks ++ k ∷ []))
    test_makes pl k condition g h stands a b =
        choice_makes pl (ki.Number ∷ []) k (Tst d) condition g h (fine_one _ _ ki.Number d refl (has ki.Number []) refl refl) refl refl refl refl refl stands a b

    bit_makes : (pl : Place) (condition : Condition) → Stands o pl (bit_by (Tst d) condition d pl) → Makes pl (level (ks ++ ki.Number ∷ [])) (bit_by (Tst d) condition d) (level (ks ++ ki.Number ∷ []))
    bit_makes pl condition stands =
        test_makes pl ki.Number condition (pieces.number 0 d) (pieces.number 1 d) stands (λ pl1 st1. number_makes pl1 (ki.Number ∷ []) 0 st1) (λ pl1 st1. number_makes pl1 (ki.Number ∷ []) 1 st1)

    -- an operator from the register to itself
    shifts_make : length ks < 6 → (pl : Place) (count : ℕ) (signed : Bool) → Stands o pl (shifts count signed d pl) → Makes pl (level (ks ++ ki.Number ∷ [])) (shifts count signed d) (level (ks ++ ki.Number ∷ []))
    shifts_make fewer pl count signed stands =
        let l = level (ks ++ ki.Number ∷ []) in
        let s1 = with_register l R7 (Some ki.Number) in
        let s2 = with_register s1 d (Some ki.Number) in
        let s3 = with_register s2 d (Some ki.Number) in
        let seven_not_zero : 7 ≡ 0 → ⊥ = omega arith in
        let free : slice_get (ks ++ ki.Number ∷ []) 6 ≡ None = slice_get_past (ks ++ ki.Number ∷ []) 6 (omega (arith, length-append ks (ki.Number ∷ []))) in
        let w1 : Within l s1 = write_again l l R7 ki.Number (within_self l) refl seven_not_zero (λ x e. let f = free in cc) in
        let w2 : Within l s2 = write_again l s1 d ki.Number w1 (put_long l.registers R7 (Some ki.Number)) (nonzero ks few) (λ x e. let f = has ki.Number [] in cc) in
        let w3 : Within l s3 = write_again l s2 d ki.Number w2 (put_long s1.registers d (Some ki.Number) ∙ put_long l.registers R7 (Some ki.Number)) (nonzero ks few) (λ x e. let f = has ki.Number [] in cc) in
        let d1 : at s1.registers d ≡ Some ki.Number = w1.registers d ki.Number (has ki.Number []) in
        let w12 : Within s1 s2 = write_again s1 s1 d ki.Number (within_self s1) (put_long l.registers R7 (Some ki.Number)) (nonzero ks few) (λ x e. cc) in
        let seven : at s2.registers R7 ≡ Some ki.Number = w12.registers R7 ki.Number refl in
        both_make pl l s1 l (pieces.number count R7) (both (one_instr (Alu Sll d R7 d)) (one_instr (Alu (shift_right signed) d R7 d))) stands
        (λ st1. one_types o pl.at l (Setx pl.numbers R7) (fine_none _ _ refl refl refl) (number_inside pl count R7 st1) refl refl refl)
        (λ pl1 st1.
        both_make pl1 s1 s2 l (one_instr (Alu Sll d R7 d)) (one_instr (Alu (shift_right signed) d R7 d)) st1
        (λ st2. one_types o pl1.at s1 (Alu Sll d R7 d) (fine_two _ s1 ki.Number d R7 refl d1 refl refl refl) refl refl refl refl)
        (λ pl2 st2. less_types o pl2.at s2 s2 (Alu (shift_right signed) d R7 d ∷ []) s3 l (within_self s2) w3
        (one_types o pl2.at s2 (Alu (shift_right signed) d R7 d) (fine_two _ s2 ki.Number d R7 refl (w2.registers d ki.Number (has ki.Number [])) seven refl refl) refl refl refl refl)))

    masking_makes : length ks < 6 → (pl : Place) (t : IntType) → Stands o pl (masking t d pl) → Makes pl (level (ks ++ ki.Number ∷ [])) (masking t d) (level (ks ++ ki.Number ∷ []))
    masking_makes fewer pl t stands =
        let l = level (ks ++ ki.Number ∷ []) in
        let s1 = with_register l R7 (Some ki.Number) in
        let s2 = with_register s1 d (Some ki.Number) in
        let seven_not_zero : 7 ≡ 0 → ⊥ = omega arith in
        let free : slice_get (ks ++ ki.Number ∷ []) 6 ≡ None = slice_get_past (ks ++ ki.Number ∷ []) 6 (omega (arith, length-append ks (ki.Number ∷ []))) in
        let w1 : Within l s1 = write_again l l R7 ki.Number (within_self l) refl seven_not_zero (λ x e. let f = free in cc) in
        let w2 : Within l s2 = write_again l s1 d ki.Number w1 (put_long l.registers R7 (Some ki.Number)) (nonzero ks few) (λ x e. let f = has ki.Number [] in cc) in
        let d1 : at s1.registers d ≡ Some ki.Number = w1.registers d ki.Number (has ki.Number []) in
        both_make pl l s1 l (pieces.number (t.width - 1) R7) (one_instr (Alu And d R7 d)) stands
        (λ st1. one_types o pl.at l (Setx pl.numbers R7) (fine_none _ _ refl refl refl) (number_inside pl (t.width - 1) R7 st1) refl refl refl)
        (λ pl1 st1. less_types o pl1.at s1 s1 (Alu And d R7 d ∷ []) s2 l (within_self s1) w2 (one_types o pl1.at s1 (Alu And d R7 d) (fine_two _ s1 ki.Number d R7 refl d1 refl refl refl) refl refl refl refl))

    narrowing_makes : length ks < 6 → (pl : Place) (t : IntType) → Stands o pl (narrowing t d pl) → Makes pl (level (ks ++ ki.Number ∷ [])) (narrowing t d) (level (ks ++ ki.Number ∷ []))
    narrowing_makes fewer pl t stands = by (t.width == 64) stands
      where
        by : (whole : Bool) → Stands o pl (cond whole nothing (shifts (64 - t.width) t.signed d) pl) → Makes pl (level (ks ++ ki.Number ∷ [])) (cond whole nothing (shifts (64 - t.width) t.signed d)) (level (ks ++ ki.Number ∷ []))
        by true st = nothing_types o pl.at _ _ (within_self _)
        by false st = shifts_make fewer pl (64 - t.width) t.signed st

    -- an instruction that gives a word of 64 bits, which is then brought to its type
    word_makes : length ks < 6 → (pl : Place) (js : List Kind) (t : IntType) (i : Instr) → IsFine i (level (ks ++ js)) → misses_table i o ≡ false → misses_variable i ≡ false → is_return (Some i) ≡ false → jump_target i ≡ None
        → leaves i (level (ks ++ js)) ≡ with_register (level (ks ++ js)) d (Some ki.Number) → Stands o pl (both (one_instr i) (narrowing t d) pl) → Makes pl (level (ks ++ js)) (both (one_instr i) (narrowing t d)) (level (ks ++ ki.Number ∷ []))
    word_makes fewer pl js t i fine table variable ends none left stands =
        both_make pl (level (ks ++ js)) (level (ks ++ ki.Number ∷ [])) (level (ks ++ ki.Number ∷ [])) (one_instr i) (narrowing t d) stands
        (λ st1. put_makes pl js ki.Number i fine table variable ends none left) (λ pl1 st1. narrowing_makes fewer pl1 t st1)

    unary_makes : length ks < 6 → (pl : Place) (o' : UnaryOperator) (t : IntType) → Stands o pl (unary_code o' t d pl) → Makes pl (level (ks ++ ki.Number ∷ [])) (unary_code o' t d) (level (ks ++ ki.Number ∷ []))
    unary_makes fewer pl un.Not t stands = bit_makes pl Equal stands
    unary_makes fewer pl un.Complement t stands = word_makes fewer pl (ki.Number ∷ []) t (Not d d) (fine_one _ _ ki.Number d refl (has ki.Number []) refl refl) refl refl refl refl refl stands
    unary_makes fewer pl un.Negate t stands = word_makes fewer pl (ki.Number ∷ []) t (Alu Sub R0 d d) (fine_two _ _ ki.Number R0 d refl refl (has ki.Number []) refl refl) refl refl refl refl refl stands
    unary_makes fewer pl un.Keep t stands = nothing_types o pl.at _ _ (within_self _)

    built_in_makes : (pl : Place) (b : BuiltIn) → Stands o pl (built_in_code b d pl) → Makes pl (level (ks ++ [])) (built_in_code b d) (level (ks ++ kind_of_type (type_of_built_in b) ∷ []))
    built_in_makes pl (bi.Argument n) stands =
        both_make pl (level (ks ++ [])) (level (ks ++ ki.Number ∷ [])) (level (ks ++ ki.Number ∷ [])) (pieces.number n d) (one_instr (Ldga 0 d d)) stands
        (λ st1. number_makes pl [] n st1) (λ pl1 st1. put_makes pl1 (ki.Number ∷ []) ki.Number (Ldga 0 d d) (fine_one _ _ ki.Number d refl (has ki.Number []) refl refl) refl refl refl refl refl)
    built_in_makes pl bi.Timestamp stands = put_makes pl [] ki.Number (Ldgs 0 d) (fine_none _ _ refl refl refl) refl refl refl refl refl
    built_in_makes pl bi.Cpu stands = put_makes pl [] ki.Number (Ldgs 1 d) (fine_none _ _ refl refl refl) refl refl refl refl refl
    built_in_makes pl bi.Pid stands = put_makes pl [] ki.Number (Ldgs 2 d) (fine_none _ _ refl refl refl) refl refl refl refl refl
    built_in_makes pl bi.Tid stands = put_makes pl [] ki.Number (Ldgs 3 d) (fine_none _ _ refl refl refl) refl refl refl refl refl
    built_in_makes pl bi.Execname stands = put_makes pl [] ki.Text (Ldgs 4 d) (fine_none _ _ refl refl refl) refl refl refl refl refl
    built_in_makes pl bi.Probeprov stands = put_makes pl [] ki.Text (Ldgs 5 d) (fine_none _ _ refl refl refl) refl refl refl refl refl
    built_in_makes pl bi.Probemod stands = put_makes pl [] ki.Text (Ldgs 6 d) (fine_none _ _ refl refl refl) refl refl refl refl refl
    built_in_makes pl bi.Probefunc stands = put_makes pl [] ki.Text (Ldgs 7 d) (fine_none _ _ refl refl refl) refl refl refl refl refl
    built_in_makes pl bi.Probename stands = put_makes pl [] ki.Text (Ldgs 8 d) (fine_none _ _ refl refl refl) refl refl refl refl refl

    store_makes : (pl : Place) (w : Space) (slot : ℕ) (k : Kind) → Types o pl.at (level (ks ++ k ∷ [])) (store_to w (record { slot = slot; kind = k }) d ∷ []) (level (ks ++ k ∷ []))
    store_makes pl sp.Thread slot k = one_types o pl.at _ _ (fine_one _ _ k d refl (has k []) refl refl) refl refl refl refl
    store_makes pl sp.Clause slot k = one_types o pl.at _ _ (fine_one _ _ k d refl (has k []) refl refl) refl refl refl refl

  -- the code of an expression gives the next register the kind of its type
  module _ (slots : Slots) where
    two : (ks : List Kind) (j k : Kind) → level ((ks ++ j ∷ []) ++ k ∷ []) ≡ level (ks ++ j ∷ k ∷ [])
    two ks j k = ap level (append_assoc ks (j ∷ []) (k ∷ []))

    above : (ks : List Kind) (j : Kind) → suc (length (ks ++ j ∷ [])) ≡ suc (length ks) + 1
    above ks j = omega (arith, length-append ks (j ∷ []))

    -- the second of two values
    has_second : (ks : List Kind) → length ks < 6 → (j k : Kind) → at (level (ks ++ j ∷ k ∷ [])).registers (register (suc (length ks) + 1)) ≡ Some k
    has_second ks few j k =
        ap (λ n. at (level (ks ++ j ∷ k ∷ [])).registers (register n)) (sym (above ks j))
        ∙ ap (λ l. at l.registers (register (suc (length (ks ++ j ∷ []))))) (sym (two ks j k))
        ∙ level_at ((ks ++ j ∷ []) ++ k ∷ []) (length (ks ++ j ∷ [])) (omega (arith, length-append ks (j ∷ [])))
        ∙ first_of (ks ++ j ∷ []) k []

    from_none : (ks : List Kind) (pc : ℕ) (code : List Instr) (t : Shape) → Types o pc (level (ks ++ [])) code t → Types o pc (level ks) code t
    from_none ks pc code t h = subst (λ l. Types o pc (level l) code t) (append-nil ks) h

    as_kind : (u v : DType) → u ≡ v → (ks : List Kind) (pc : ℕ) (s : Shape) (code : List Instr) → Types o pc s code (level (ks ++ kind_of_type u ∷ [])) → Types o pc s code (level (ks ++ kind_of_type v ∷ []))
    as_kind u v e ks pc s code h = subst (λ w. Types o pc s code (level (ks ++ kind_of_type w ∷ []))) e h

    -- code that begins at a level begins where more is known
    later : (ks js : List Kind) (pc : ℕ) (code : List Instr) (t : Shape) → Types o pc (level ks) code t → Types o pc (level (ks ++ js)) code t
    later ks js pc code t h = less_types o pc (level ks) (level (ks ++ js)) code t t (level_front ks js) (within_self t) h

    as_said : (j k : Kind) → j ≡ k → (ks : List Kind) (pc : ℕ) (s : Shape) (code : List Instr) → Types o pc s code (level (ks ++ j ∷ [])) → Types o pc s code (level (ks ++ k ∷ []))
    as_said j k e ks pc s code h = subst (λ k. Types o pc s code (level (ks ++ k ∷ []))) e h

    -- a second value, above the first
    second : (b : Typed) → IsConsistent slots b → (j k : Kind) → kind_of_type (type_of b) ≡ k → (ks : List Kind) (pl : Place) → suc (length ks) + (1 + need b) ≤ 7
        → (ℕ → suc (length (ks ++ j ∷ [])) + need b ≤ 7 → Stands o pl (code_of b (suc (length (ks ++ j ∷ []))) pl) → Makes pl (level (ks ++ j ∷ [])) (code_of b (suc (length (ks ++ j ∷ [])))) (level ((ks ++ j ∷ []) ++ kind_of_type (type_of b) ∷ [])))
        → Stands o pl (code_of b (suc (length ks) + 1) pl) → Makes pl (level (ks ++ j ∷ [])) (code_of b (suc (length ks) + 1)) (level (ks ++ j ∷ k ∷ []))
    second b c j k e ks pl few make stands =
        let js = ks ++ j ∷ [] in
        let made = make 0 (omega (arith, above ks j)) (subst (λ n. Stands o pl (code_of b n pl)) (sym (above ks j)) stands) in
        let made' = as_said (kind_of_type (type_of b)) k e js pl.at (level js) _ made in
        subst (λ n. Makes pl (level js) (code_of b n) (level (ks ++ j ∷ k ∷ []))) (above ks j)
        (subst (Types o pl.at (level js) (code_of b (suc (length js)) pl).code) (two ks j k) made')

    operated_makes : (ks : List Kind) → length ks < 5 → (pl : Place) (o' : Operation) → Stands o pl (operate_on o' (register (suc (length ks))) (register (suc (length ks) + 1)) pl)
        → Makes pl (level (ks ++ ki.Number ∷ ki.Number ∷ [])) (operate_on o' (register (suc (length ks))) (register (suc (length ks) + 1))) (level (ks ++ ki.Number ∷ []))
    operated_makes ks few pl (op.Arithmetic o' t) stands =
        let r = suc (length ks) in
        let i = Alu (operator_of o' t.signed) (register r) (register (r + 1)) (register r) in
        word_makes ks (omega arith) (omega arith) pl (ki.Number ∷ ki.Number ∷ []) t i (fine_two _ _ ki.Number (register r) (register (r + 1)) refl (has ks (omega arith) ki.Number (ki.Number ∷ [])) (has_second ks (omega arith) ki.Number ki.Number) refl refl) refl refl refl refl refl stands
    operated_makes ks few pl (op.Shift o' t) stands =
        let r = suc (length ks) in
        let js = ks ++ ki.Number ∷ [] in
        let n : length js ≡ length ks + 1 = length-append ks (ki.Number ∷ []) in
        let i = Alu (shift_operator o' t.signed) (register r) (register (r + 1)) (register r) in
        both_make pl (level (ks ++ ki.Number ∷ ki.Number ∷ [])) (level (ks ++ ki.Number ∷ ki.Number ∷ [])) (level (ks ++ ki.Number ∷ [])) (masking t (register (r + 1))) (both (one_instr i) (narrowing t (register r))) stands
        (λ st1.
        subst (λ n. Makes pl (level (ks ++ ki.Number ∷ ki.Number ∷ [])) (masking t (register n)) (level (ks ++ ki.Number ∷ ki.Number ∷ []))) (above ks ki.Number)
        (subst (λ l. Makes pl l (masking t (register (suc (length js)))) l) (two ks ki.Number ki.Number)
        (masking_makes js (omega arith) (omega arith) pl t (subst (λ n. Stands o pl (masking t (register n) pl)) (sym (above ks ki.Number)) st1))))
        (λ pl1 st1.
        word_makes ks (omega arith) (omega arith) pl1 (ki.Number ∷ ki.Number ∷ []) t i (fine_two _ _ ki.Number (register r) (register (r + 1)) refl (has ks (omega arith) ki.Number (ki.Number ∷ [])) (has_second ks (omega arith) ki.Number ki.Number) refl refl) refl refl refl refl refl st1)

    differing_makes : (ks : List Kind) → length ks < 6 → (pl : Place) → Stands o pl (differing (register (suc (length ks))) (register (suc (length ks) + 1)) pl)
        → Makes pl (level (ks ++ ki.Number ∷ ki.Number ∷ [])) (differing (register (suc (length ks))) (register (suc (length ks) + 1))) (level (ks ++ ki.Number ∷ []))
    differing_makes ks few pl stands =
        let r = suc (length ks) in
        let test = Tst (register (r + 1)) in
        let js = ki.Number ∷ ki.Number ∷ [] in
        let fine = fine_one test _ ki.Number (register (r + 1)) refl (has_second ks few ki.Number ki.Number) refl refl in
        choice_makes ks (omega arith) pl js ki.Number (Tst (register r)) Equal (bit_by test Equal (register r)) (bit_by test NotEqual (register r)) (fine_one _ _ ki.Number (register r) refl (has ks (omega arith) ki.Number (ki.Number ∷ [])) refl refl) refl refl refl refl refl stands
        (λ pl1 st1. choice_makes ks (omega arith) pl1 js ki.Number test Equal (pieces.number 0 (register r)) (pieces.number 1 (register r)) fine refl refl refl refl refl st1
        (λ pl2 st2. number_makes ks (omega arith) pl2 js 0 st2) (λ pl2 st2. number_makes ks (omega arith) pl2 js 1 st2))
        (λ pl1 st1. choice_makes ks (omega arith) pl1 js ki.Number test NotEqual (pieces.number 0 (register r)) (pieces.number 1 (register r)) fine refl refl refl refl refl st1
        (λ pl2 st2. number_makes ks (omega arith) pl2 js 0 st2) (λ pl2 st2. number_makes ks (omega arith) pl2 js 1 st2))

    -- ---- the tuple

    abbrev HasKinds : Typeds → ℕ → Shape → Type 0
    HasKinds end r s = Unit {0}
    HasKinds (more a rest) r s = (at s.registers (register r) ≡ Some (kind_of_type (type_of a))) × HasKinds rest (r + 1) s

    keys_there : (keys : Typeds) (ks js : List Kind) → length ks + count keys ≤ 7 → HasKinds keys (suc (length ks)) (level (ks ++ (kinds_of_typed keys ++ js)))
    keys_there end ks js few = tt
    keys_there (more a rest) ks js few =
        let k = kind_of_type (type_of a) in (
          has ks (omega arith) k (kinds_of_typed rest ++ js),
          subst (λ l. HasKinds rest (suc (length ks) + 1) (level l)) (append_assoc ks (k ∷ []) (kinds_of_typed rest ++ js))
              (subst (λ m. HasKinds rest m (level ((ks ++ k ∷ []) ++ (kinds_of_typed rest ++ js)))) (above ks k) (keys_there rest (ks ++ k ∷ []) js (omega (arith, above ks k)))),
        )

    keys_past : (keys : Typeds) (ks js : List Kind) → length ks + count keys ≤ 7 → HasKinds keys (suc (length ks)) (level ((ks ++ kinds_of_typed keys) ++ js))
    keys_past keys ks js few = subst (λ l. HasKinds keys (suc (length ks)) (level l)) (sym (append_assoc ks (kinds_of_typed keys) js)) (keys_there keys ks js few)

    push_makes : (pc : ℕ) (t : DType) (a : Reg) (s : Shape) (done : List Kind) → at s.registers a ≡ Some (kind_of_type t) → length done < 8 → Types o pc (shape_with_tuple s (Some done)) (push_of t a ∷ []) (shape_with_tuple s (Some (done ++ kind_of_type t ∷ [])))
    push_makes pc (ty.Int t) a s done h less =
        subst (λ (b : Bool). Types o pc (shape_with_tuple s (Some done)) (Pushtv a ∷ []) (shape_with_tuple s (cond b (Some (done ++ ki.Number ∷ [])) None))) (lt-ltb (length done) 8 less)
        (one_types o pc (shape_with_tuple s (Some done)) (Pushtv a) (fine_one _ _ ki.Number a refl h refl (ap not (lt-ltb (length done) 8 less))) refl refl refl refl)
    push_makes pc ty.Text a s done h less =
        subst (λ (b : Bool). Types o pc (shape_with_tuple s (Some done)) (Pushtr a ∷ []) (shape_with_tuple s (cond b (Some (done ++ ki.Text ∷ [])) None))) (lt-ltb (length done) 8 less)
        (one_types o pc (shape_with_tuple s (Some done)) (Pushtr a) (fine_one _ _ ki.Text a refl h refl (ap not (lt-ltb (length done) 8 less))) refl refl refl refl)

    pushing_makes : (keys : Typeds) (r : ℕ) (s : Shape) (done : List Kind) (pl : Place) → length done + count keys ≤ 8 → HasKinds keys r s → Types o pl.at (shape_with_tuple s (Some done)) (pushing keys r pl).code (shape_with_tuple s (Some (done ++ kinds_of_typed keys)))
    pushing_makes end r s done pl few h = subst (λ l. Types o pl.at (shape_with_tuple s (Some done)) [] (shape_with_tuple s (Some l))) (sym (append-nil done)) (nothing_types o pl.at _ _ (within_self _))
    pushing_makes (more a rest) r s done pl few h =
        let k = kind_of_type (type_of a) in
        let i = push_of (type_of a) (register r) in
        let pl1 = past pl (one_instr i pl) in
        both_types o pl.at (shape_with_tuple s (Some done)) (i ∷ []) (shape_with_tuple s (Some (done ++ k ∷ []))) (pushing rest (r + 1) pl1).code (shape_with_tuple s (Some (done ++ k ∷ kinds_of_typed rest)))
        (push_makes pl.at (type_of a) (register r) s done h.0 (omega arith))
        (subst (λ l. Types o pl1.at (shape_with_tuple s (Some (done ++ k ∷ []))) (pushing rest (r + 1) pl1).code (shape_with_tuple s (Some l))) (append_assoc done (k ∷ []) (kinds_of_typed rest))
        (pushing_makes rest (r + 1) s (done ++ k ∷ []) pl1 (omega (arith, length-append done (k ∷ []))) h.1))

    flush_makes : (pc : ℕ) (s : Shape) (done : List Kind) → s.tuple ≡ Some done → Types o pc s (Flushts ∷ []) (shape_with_tuple s (Some []))
    flush_makes pc s done e = one_types o pc s Flushts (fine_none _ _ refl refl (ap (misses_tuple Flushts) e)) refl refl refl refl

    fetching_makes : (ks : List Kind) → length ks < 7 → (js : List Kind) (w : Space) (keys : Typeds) (slot : ℕ) (k : Kind) (r : ℕ) (pl : Place) → count keys ≤ 8 → HasKinds keys r (level (ks ++ js))
        → Stands o pl (fetching w keys (record { slot = slot; kind = k }) r (register (suc (length ks))) pl) → Makes pl (level (ks ++ js)) (fetching w keys (record { slot = slot; kind = k }) r (register (suc (length ks)))) (level (ks ++ k ∷ []))
    fetching_makes ks few js sp.Clause keys slot k r pl short h stands = put_makes ks few pl js k _ (fine_none _ _ refl refl refl) refl refl refl refl refl
    fetching_makes ks few js sp.Thread end slot k r pl short h stands = put_makes ks few pl js k _ (fine_none _ _ refl refl refl) refl refl refl refl refl
    fetching_makes ks few js sp.Thread (more a rest) slot k r pl short h stands =
        let keys = more a rest in
        let l = level (ks ++ js) in
        let i = Ldtaa (record { slot = slot; kind = k }) (register (suc (length ks))) in
        let full = shape_with_tuple l (Some (kinds_of_typed keys)) in
        let read = with_register full (register (suc (length ks))) (Some k) in
        both_types o pl.at l (pushing keys r pl).code full (i ∷ Flushts ∷ []) (level (ks ++ k ∷ [])) (pushing_makes keys r l [] pl (omega arith) h)
        (both_types o (pl.at + length (pushing keys r pl).code) full (i ∷ []) read (Flushts ∷ []) (level (ks ++ k ∷ [])) (one_types o _ full i (fine_none _ _ refl refl refl) refl refl refl refl)
        (less_types o _ read read (Flushts ∷ []) (shape_with_tuple read (Some [])) (level (ks ++ k ∷ [])) (within_self read) (level_more ks js k few) (flush_makes _ read (kinds_of_typed keys) refl)))

    saving_makes : (ks : List Kind) → length ks < 7 → (w : Space) (keys : Typeds) (slot : ℕ) (k : Kind) (r : ℕ) (pl : Place) → count keys ≤ 8 → HasKinds keys r (level (ks ++ k ∷ []))
        → Stands o pl (saving w keys (record { slot = slot; kind = k }) r (register (suc (length ks))) pl) → Makes pl (level (ks ++ k ∷ [])) (saving w keys (record { slot = slot; kind = k }) r (register (suc (length ks)))) (level (ks ++ k ∷ []))
    saving_makes ks few sp.Clause keys slot k r pl short h stands = store_makes ks few pl sp.Clause slot k
    saving_makes ks few sp.Thread end slot k r pl short h stands = store_makes ks few pl sp.Thread slot k
    saving_makes ks few sp.Thread (more a rest) slot k r pl short h stands =
        let keys = more a rest in
        let l = level (ks ++ k ∷ []) in
        let i = Sttaa (record { slot = slot; kind = k }) (register (suc (length ks))) in
        let full = shape_with_tuple l (Some (kinds_of_typed keys)) in
        both_types o pl.at l (pushing keys r pl).code full (i ∷ Flushts ∷ []) l (pushing_makes keys r l [] pl (omega arith) h)
        (both_types o (pl.at + length (pushing keys r pl).code) full (i ∷ []) full (Flushts ∷ []) l (one_types o _ full i (fine_one _ _ k (register (suc (length ks))) refl (has ks few k []) refl refl) refl refl refl refl)
        (flush_makes _ full (kinds_of_typed keys) refl))

    kinds_count : (keys : Typeds) → length (kinds_of_typed keys) ≡ count keys
    kinds_count end = refl
    kinds_count (more a rest) = let e = kinds_count rest in omega arith

    -- the register after the keys
    past_is : (keys : Typeds) (ks : List Kind) → suc (length (ks ++ kinds_of_typed keys)) ≡ suc (length ks) + count keys
    past_is keys ks = omega (arith, length-append ks (kinds_of_typed keys), kinds_count keys)

    at_index : (keys : Typeds) (ks : List Kind) (g : ℕ → Maker) (pl : Place) (s t : Shape) → (Stands o pl (g (suc (length (ks ++ kinds_of_typed keys))) pl) → Makes pl s (g (suc (length (ks ++ kinds_of_typed keys)))) t)
        → Stands o pl (g (suc (length ks) + count keys) pl) → Makes pl s (g (suc (length ks) + count keys)) t
    at_index keys ks g pl s t h = subst (λ q. Stands o pl (g q pl) → Makes pl s (g q) t) (past_is keys ks) h

    lowering_makes : (keys : Typeds) (ks : List Kind) (k : Kind) (pl : Place) → suc (length ks) + count keys ≤ 7 → Stands o pl (lowering keys (register (suc (length (ks ++ kinds_of_typed keys)))) (register (suc (length ks))) pl)
        → Makes pl (level ((ks ++ kinds_of_typed keys) ++ k ∷ [])) (lowering keys (register (suc (length (ks ++ kinds_of_typed keys)))) (register (suc (length ks)))) (level (ks ++ k ∷ []))
    lowering_makes end ks k pl few stands = subst (λ l. Types o pl.at (level (l ++ k ∷ [])) [] (level (ks ++ k ∷ []))) (sym (append-nil ks)) (nothing_types o pl.at _ _ (within_self _))
    lowering_makes (more a rest) ks k pl few stands =
        let keys = more a rest in
        let js = ks ++ kinds_of_typed keys in
        let q = register (suc (length js)) in
        let there = has js (omega (arith, past_is keys ks)) k [] in
        let same = append_assoc ks (kinds_of_typed keys) (k ∷ []) in
        let i = Mov q (register (suc (length ks))) in
        let found : at (level (ks ++ (kinds_of_typed keys ++ k ∷ []))).registers q ≡ Some k = subst (λ l. at (level l).registers q ≡ Some k) same there in
        subst (λ l. Types o pl.at (level l) (i ∷ []) (level (ks ++ k ∷ []))) (sym same)
        (put_makes ks (omega arith) pl (kinds_of_typed keys ++ k ∷ []) k i (fine_any _ _ k q refl found refl refl) refl refl refl refl
        (ap (λ x. with_register (level (ks ++ (kinds_of_typed keys ++ k ∷ []))) (register (suc (length ks))) x) found))

    fetch_makes : (keys : Typeds) (ks : List Kind) (w : Space) (slot : ℕ) (k : Kind) (pl : Place) → suc (length ks) + count keys ≤ 7
        → Stands o pl (fetching w keys (record { slot = slot; kind = k }) (suc (length ks)) (register (suc (length (ks ++ kinds_of_typed keys)))) pl)
        → Makes pl (level (ks ++ kinds_of_typed keys)) (fetching w keys (record { slot = slot; kind = k }) (suc (length ks)) (register (suc (length (ks ++ kinds_of_typed keys))))) (level ((ks ++ kinds_of_typed keys) ++ k ∷ []))
    fetch_makes keys ks w slot k pl few stands =
        let js = ks ++ kinds_of_typed keys in
        subst (λ l. Makes pl (level l) (fetching w keys (record { slot = slot; kind = k }) (suc (length ks)) (register (suc (length js)))) (level (js ++ k ∷ []))) (append-nil js)
        (fetching_makes js (omega (arith, past_is keys ks)) [] w keys slot k (suc (length ks)) pl (omega arith) (keys_past keys ks [] (omega arith)) stands)

    save_makes : (keys : Typeds) (ks : List Kind) (w : Space) (slot : ℕ) (k : Kind) (pl : Place) → suc (length ks) + count keys ≤ 7
        → Stands o pl (both (saving w keys (record { slot = slot; kind = k }) (suc (length ks)) (register (suc (length (ks ++ kinds_of_typed keys))))) (lowering keys (register (suc (length (ks ++ kinds_of_typed keys)))) (register (suc (length ks)))) pl)
        → Makes pl (level ((ks ++ kinds_of_typed keys) ++ k ∷ [])) (both (saving w keys (record { slot = slot; kind = k }) (suc (length ks)) (register (suc (length (ks ++ kinds_of_typed keys))))) (lowering keys (register (suc (length (ks ++ kinds_of_typed keys)))) (register (suc (length ks))))) (level (ks ++ k ∷ []))
    save_makes keys ks w slot k pl few stands =
        let js = ks ++ kinds_of_typed keys in
        both_make pl (level (js ++ k ∷ [])) (level (js ++ k ∷ [])) (level (ks ++ k ∷ [])) (saving w keys (record { slot = slot; kind = k }) (suc (length ks)) (register (suc (length js)))) (lowering keys (register (suc (length js))) (register (suc (length ks)))) stands
        (λ st1. saving_makes js (omega (arith, past_is keys ks)) w keys slot k (suc (length ks)) pl (omega arith) (keys_past keys ks (k ∷ []) (omega arith)) st1)
        (λ pl1 st1. lowering_makes keys ks k pl1 few st1)

    -- ---- changes

    holding_makes : (ks : List Kind) → length ks < 6 → (pl : Place) (t : DType) → Stands o pl (holding t (register (suc (length ks))) pl) → Makes pl (level (ks ++ ki.Number ∷ [])) (holding t (register (suc (length ks)))) (level (ks ++ ki.Number ∷ []))
    holding_makes ks few pl (ty.Int t) stands = narrowing_makes ks (omega arith) few pl t stands
    holding_makes ks few pl ty.Text stands = nothing_types o pl.at _ _ (within_self _)

    stepping_makes : (ks : List Kind) → length ks < 6 → (pl : Place) (step : Step) (t : DType) → Stands o pl (stepping step t (register (suc (length ks))) pl) → Makes pl (level (ks ++ ki.Number ∷ [])) (stepping step t (register (suc (length ks)))) (level (ks ++ ki.Number ∷ []))
    stepping_makes ks fewer pl step t stands =
        let few : length ks < 7 = omega arith in
        let d = register (suc (length ks)) in
        let l = level (ks ++ ki.Number ∷ []) in
        let s1 = with_register l R7 (Some ki.Number) in
        let s2 = with_register s1 d (Some ki.Number) in
        let i = Alu (step_operator step) d R7 d in
        let seven_not_zero : 7 ≡ 0 → ⊥ = omega arith in
        let free : slice_get (ks ++ ki.Number ∷ []) 6 ≡ None = slice_get_past (ks ++ ki.Number ∷ []) 6 (omega (arith, length-append ks (ki.Number ∷ []))) in
        let w1 : Within l s1 = write_again l l R7 ki.Number (within_self l) refl seven_not_zero (λ x e. let f = free in cc) in
        let w2 : Within l s2 = write_again l s1 d ki.Number w1 (put_long l.registers R7 (Some ki.Number)) (nonzero ks few) (λ x e. let f = has ks few ki.Number [] in cc) in
        let d1 : at s1.registers d ≡ Some ki.Number = w1.registers d ki.Number (has ks few ki.Number []) in
        both_make pl l s1 l (pieces.number 1 R7) (both (one_instr i) (holding t d)) stands
        (λ st1. one_types o pl.at l (Setx pl.numbers R7) (fine_none _ _ refl refl refl) (number_inside pl 1 R7 st1) refl refl refl)
        (λ pl1 st1.
        both_make pl1 s1 l l (one_instr i) (holding t d) st1
        (λ st2. less_types o pl1.at s1 s1 (i ∷ []) s2 l (within_self s1) w2 (one_types o pl1.at s1 i (fine_two _ s1 ki.Number d R7 refl d1 refl refl refl) refl refl refl refl))
        (λ pl2 st2. holding_makes ks fewer pl2 t st2))

    answering_makes : (ks : List Kind) → length ks < 6 → (pl : Place) (answer : Answer) (step : Step) (t : DType) → Stands o pl (answering answer step t (register (suc (length ks))) pl) → Makes pl (level (ks ++ ki.Number ∷ [])) (answering answer step t (register (suc (length ks)))) (level (ks ++ ki.Number ∷ []))
    answering_makes ks few pl an.New step t stands = nothing_types o pl.at _ _ (within_self _)
    answering_makes ks few pl an.Old step t stands = stepping_makes ks few pl (opposite step) t stands

    -- ---- functions of texts

    measuring_makes : (ks : List Kind) → length ks < 7 → (pl : Place) → Makes pl (level (ks ++ ki.Text ∷ [])) (measuring (register (suc (length ks)))) (level (ks ++ ki.Number ∷ []))
    measuring_makes ks few pl =
        let d = register (suc (length ks)) in
        let l = level (ks ++ ki.Text ∷ []) in
        let s1 = shape_with_tuple l (Some (ki.Text ∷ [])) in
        let s2 = with_register s1 d (Some ki.Number) in
        both_types o pl.at l (Pushtr d ∷ []) s1 (Call fu.Strlen d ∷ Flushts ∷ []) (level (ks ++ ki.Number ∷ [])) (one_types o pl.at l (Pushtr d) (fine_one _ _ ki.Text d refl (has ks few ki.Text []) refl refl) refl refl refl refl)
        (both_types o (pl.at + 1) s1 (Call fu.Strlen d ∷ []) s2 (Flushts ∷ []) (level (ks ++ ki.Number ∷ [])) (one_types o _ s1 (Call fu.Strlen d) (fine_none _ _ refl refl refl) refl refl refl refl)
        (less_types o _ s2 s2 (Flushts ∷ []) (shape_with_tuple s2 (Some [])) (level (ks ++ ki.Number ∷ [])) (within_self s2) (level_more ks (ki.Text ∷ []) ki.Number few) (flush_makes _ s2 (ki.Text ∷ []) refl)))

    joining_makes : (ks : List Kind) → length ks < 6 → (pl : Place) → Makes pl (level (ks ++ ki.Text ∷ ki.Text ∷ [])) (joining (register (suc (length ks))) (register (suc (length ks) + 1))) (level (ks ++ ki.Text ∷ []))
    joining_makes ks few pl =
        let d = register (suc (length ks)) in
        let a = register (suc (length ks) + 1) in
        let l = level (ks ++ ki.Text ∷ ki.Text ∷ []) in
        let s1 = shape_with_tuple l (Some (ki.Text ∷ [])) in
        let s2 = shape_with_tuple l (Some (ki.Text ∷ ki.Text ∷ [])) in
        let s3 = with_register s2 d (Some ki.Text) in
        let t = level (ks ++ ki.Text ∷ []) in
        both_types o pl.at l (Pushtr d ∷ []) s1 (Pushtr a ∷ Call fu.Strjoin d ∷ Flushts ∷ []) t (one_types o pl.at l (Pushtr d) (fine_one _ _ ki.Text d refl (has ks (omega arith) ki.Text (ki.Text ∷ [])) refl refl) refl refl refl refl)
        (both_types o (pl.at + 1) s1 (Pushtr a ∷ []) s2 (Call fu.Strjoin d ∷ Flushts ∷ []) t (one_types o _ s1 (Pushtr a) (fine_one _ _ ki.Text a refl (has_second ks few ki.Text ki.Text) refl refl) refl refl refl refl)
        (both_types o (pl.at + 1 + 1) s2 (Call fu.Strjoin d ∷ []) s3 (Flushts ∷ []) t (one_types o _ s2 (Call fu.Strjoin d) (fine_none _ _ refl refl refl) refl refl refl refl)
        (less_types o _ s3 s3 (Flushts ∷ []) (shape_with_tuple s3 (Some [])) t (within_self s3) (level_more ks (ki.Text ∷ ki.Text ∷ []) ki.Text (omega arith)) (flush_makes _ s3 (ki.Text ∷ ki.Text ∷ []) refl))))

    mutual
      pub expr_makes : (z : Typed) → IsConsistent slots z → (ks : List Kind) (pl : Place) → suc (length ks) + need z ≤ 7 → Stands o pl (code_of z (suc (length ks)) pl)
          → Makes pl (level ks) (code_of z (suc (length ks))) (level (ks ++ kind_of_type (type_of z) ∷ []))
      expr_makes (Constant t word) c ks pl few stands = from_none ks pl.at _ _ (number_makes ks (omega arith) pl [] word stands)
      expr_makes (Text bytes) c ks pl few stands = from_none ks pl.at _ _ (text_makes ks (omega arith) pl [] bytes stands)
      expr_makes (Fixed b) c ks pl few stands = from_none ks pl.at _ _ (built_in_makes ks (omega arith) pl b stands)
      expr_makes (Read x keys) c ks pl few stands =
          let n = count_fits keys 0 (need_of_keys 0 keys) (omega arith) (omega arith) in
          let r = suc (length ks) in
          both_make pl (level ks) (level (ks ++ kinds_of_typed keys)) (level (ks ++ kind_of_type x.holds ∷ [])) (keys_code keys r) (fetching x.space keys (var_of x) r (register r)) stands
          (λ st1. keys_make keys c.1 ks 0 pl (omega arith) st1)
          (λ pl1 st1. fetching_makes ks (omega arith) (kinds_of_typed keys) x.space keys x.slot (kind_of_type x.holds) r pl1 (omega arith) (subst (λ l. HasKinds keys (suc (length ks)) (level (ks ++ l))) (append-nil (kinds_of_typed keys)) (keys_there keys ks [] (omega arith))) st1)
      expr_makes (Unary un.Not t a) c ks pl few stands =
          let n = need_pos a in
          both_make pl (level ks) (level (ks ++ ki.Number ∷ [])) (level (ks ++ ki.Number ∷ [])) (code_of a (suc (length ks))) (unary_code un.Not t (register (suc (length ks)))) stands
          (λ st1. as_kind (type_of a) (ty.Int t) c.0 ks pl.at (level ks) _ (expr_makes a c.1 ks pl few st1)) (λ pl1 st1. unary_makes ks (omega arith) (omega arith) pl1 un.Not t st1)
      expr_makes (Unary un.Complement t a) c ks pl few stands =
          let n = need_pos a in
          both_make pl (level ks) (level (ks ++ ki.Number ∷ [])) (level (ks ++ ki.Number ∷ [])) (code_of a (suc (length ks))) (unary_code un.Complement t (register (suc (length ks)))) stands
          (λ st1. as_kind (type_of a) (ty.Int t) c.0 ks pl.at (level ks) _ (expr_makes a c.1 ks pl few st1)) (λ pl1 st1. unary_makes ks (omega arith) (omega arith) pl1 un.Complement t st1)
      expr_makes (Unary un.Negate t a) c ks pl few stands =
          let n = need_pos a in
          both_make pl (level ks) (level (ks ++ ki.Number ∷ [])) (level (ks ++ ki.Number ∷ [])) (code_of a (suc (length ks))) (unary_code un.Negate t (register (suc (length ks)))) stands
          (λ st1. as_kind (type_of a) (ty.Int t) c.0 ks pl.at (level ks) _ (expr_makes a c.1 ks pl few st1)) (λ pl1 st1. unary_makes ks (omega arith) (omega arith) pl1 un.Negate t st1)
      expr_makes (Unary un.Keep t a) c ks pl few stands =
          let n = need_pos a in
          both_make pl (level ks) (level (ks ++ ki.Number ∷ [])) (level (ks ++ ki.Number ∷ [])) (code_of a (suc (length ks))) (unary_code un.Keep t (register (suc (length ks)))) stands
          (λ st1. as_kind (type_of a) (ty.Int t) c.0 ks pl.at (level ks) _ (expr_makes a c.1 ks pl few st1)) (λ pl1 st1. unary_makes ks (omega arith) (omega arith) pl1 un.Keep t st1)
      expr_makes (Operate (op.Arithmetic o' t) a b) c ks pl few stands =
          let n = need_pos b in
          let r = suc (length ks) in
          both_make pl (level ks) (level (ks ++ ki.Number ∷ [])) (level (ks ++ ki.Number ∷ [])) (code_of a r) (both (code_of b (r + 1)) (operate_on (op.Arithmetic o' t) (register r) (register (r + 1)))) stands
          (λ st1. as_kind (type_of a) (ty.Int t) c.0.0 ks pl.at (level ks) _ (expr_makes a c.1 ks pl (omega arith) st1))
          (λ pl1 st1.
          both_make pl1 (level (ks ++ ki.Number ∷ [])) (level (ks ++ ki.Number ∷ ki.Number ∷ [])) (level (ks ++ ki.Number ∷ [])) (code_of b (r + 1)) (operate_on (op.Arithmetic o' t) (register r) (register (r + 1))) st1
          (λ st2. second b c.2 ki.Number ki.Number (ap kind_of_type c.0.1) ks pl1 (omega arith) (λ m e f. expr_makes b c.2 (ks ++ ki.Number ∷ []) pl1 e f) st2)
          (λ pl2 st2. operated_makes ks (omega arith) pl2 (op.Arithmetic o' t) st2))
      expr_makes (Operate (op.Shift o' t) a b) c ks pl few stands =
          let n = need_pos b in
          let r = suc (length ks) in
          both_make pl (level ks) (level (ks ++ ki.Number ∷ [])) (level (ks ++ ki.Number ∷ [])) (code_of a r) (both (code_of b (r + 1)) (operate_on (op.Shift o' t) (register r) (register (r + 1)))) stands
          (λ st1. as_kind (type_of a) (ty.Int t) c.0.0 ks pl.at (level ks) _ (expr_makes a c.1 ks pl (omega arith) st1))
          (λ pl1 st1.
          both_make pl1 (level (ks ++ ki.Number ∷ [])) (level (ks ++ ki.Number ∷ ki.Number ∷ [])) (level (ks ++ ki.Number ∷ [])) (code_of b (r + 1)) (operate_on (op.Shift o' t) (register r) (register (r + 1))) st1
          (λ st2. second b c.2 ki.Number ki.Number (ap kind_of_type c.0.1.1) ks pl1 (omega arith) (λ m e f. expr_makes b c.2 (ks ++ ki.Number ∷ []) pl1 e f) st2)
          (λ pl2 st2. operated_makes ks (omega arith) pl2 (op.Shift o' t) st2))
      expr_makes (Compare o' t a b) c ks pl few stands =
          let n = need_pos b in
          let r = suc (length ks) in
          let i = Cmp (register r) (register (r + 1)) in
          both_make pl (level ks) (level (ks ++ ki.Number ∷ [])) (level (ks ++ ki.Number ∷ [])) (code_of a r) (both (code_of b (r + 1)) (bit_by i (condition_of o' t.signed) (register r))) stands
          (λ st1. as_kind (type_of a) (ty.Int t) c.0 ks pl.at (level ks) _ (expr_makes a c.2 ks pl (omega arith) st1))
          (λ pl1 st1.
          both_make pl1 (level (ks ++ ki.Number ∷ [])) (level (ks ++ ki.Number ∷ ki.Number ∷ [])) (level (ks ++ ki.Number ∷ [])) (code_of b (r + 1)) (bit_by i (condition_of o' t.signed) (register r)) st1
          (λ st2. second b c.3 ki.Number ki.Number (ap kind_of_type c.1) ks pl1 (omega arith) (λ m e f. expr_makes b c.3 (ks ++ ki.Number ∷ []) pl1 e f) st2)
          (λ pl2 st2.
          choice_makes ks (omega arith) pl2 (ki.Number ∷ ki.Number ∷ []) ki.Number i (condition_of o' t.signed) (pieces.number 0 (register r)) (pieces.number 1 (register r))
          (fine_two _ _ ki.Number (register r) (register (r + 1)) refl (has ks (omega arith) ki.Number (ki.Number ∷ [])) (has_second ks (omega arith) ki.Number ki.Number) refl refl) refl refl refl refl refl st2
          (λ pl3 st3. number_makes ks (omega arith) pl3 (ki.Number ∷ ki.Number ∷ []) 0 st3) (λ pl3 st3. number_makes ks (omega arith) pl3 (ki.Number ∷ ki.Number ∷ []) 1 st3)))
      expr_makes (CompareText o' a b) c ks pl few stands =
          let n = need_pos b in
          let r = suc (length ks) in
          let i = Scmp (register r) (register (r + 1)) in
          both_make pl (level ks) (level (ks ++ ki.Text ∷ [])) (level (ks ++ ki.Number ∷ [])) (code_of a r) (both (code_of b (r + 1)) (bit_by i (condition_of o' false) (register r))) stands
          (λ st1. as_kind (type_of a) ty.Text c.0 ks pl.at (level ks) _ (expr_makes a c.2 ks pl (omega arith) st1))
          (λ pl1 st1.
          both_make pl1 (level (ks ++ ki.Text ∷ [])) (level (ks ++ ki.Text ∷ ki.Text ∷ [])) (level (ks ++ ki.Number ∷ [])) (code_of b (r + 1)) (bit_by i (condition_of o' false) (register r)) st1
          (λ st2. second b c.3 ki.Text ki.Text (ap kind_of_type c.1) ks pl1 (omega arith) (λ m e f. expr_makes b c.3 (ks ++ ki.Text ∷ []) pl1 e f) st2)
          (λ pl2 st2.
          choice_makes ks (omega arith) pl2 (ki.Text ∷ ki.Text ∷ []) ki.Number i (condition_of o' false) (pieces.number 0 (register r)) (pieces.number 1 (register r))
          (fine_two _ _ ki.Text (register r) (register (r + 1)) refl (has ks (omega arith) ki.Text (ki.Text ∷ [])) (has_second ks (omega arith) ki.Text ki.Text) refl refl) refl refl refl refl refl st2
          (λ pl3 st3. number_makes ks (omega arith) pl3 (ki.Text ∷ ki.Text ∷ []) 0 st3) (λ pl3 st3. number_makes ks (omega arith) pl3 (ki.Text ∷ ki.Text ∷ []) 1 st3)))
      expr_makes (Logic lo.Xor a b) c ks pl few stands =
          let n = need_pos b in
          let r = suc (length ks) in
          both_make pl (level ks) (level (ks ++ ki.Number ∷ [])) (level (ks ++ ki.Number ∷ [])) (code_of a r) (both (code_of b (r + 1)) (differing (register r) (register (r + 1)))) stands
          (λ st1. as_kind (type_of a) (ty.Int c.0.0) c.0.1 ks pl.at (level ks) _ (expr_makes a c.2 ks pl (omega arith) st1))
          (λ pl1 st1.
          both_make pl1 (level (ks ++ ki.Number ∷ [])) (level (ks ++ ki.Number ∷ ki.Number ∷ [])) (level (ks ++ ki.Number ∷ [])) (code_of b (r + 1)) (differing (register r) (register (r + 1))) st1
          (λ st2. second b c.3 ki.Number ki.Number (ap kind_of_type c.1.1) ks pl1 (omega arith) (λ m e f. expr_makes b c.3 (ks ++ ki.Number ∷ []) pl1 e f) st2)
          (λ pl2 st2. differing_makes ks (omega arith) pl2 st2))
      expr_makes (Logic lo.And a b) c ks pl few stands =
          let n = need_pos a in
          let r = suc (length ks) in
          both_make pl (level ks) (level (ks ++ ki.Number ∷ [])) (level (ks ++ ki.Number ∷ [])) (code_of a r) (choice_code (Tst (register r)) Equal (both (code_of b r) (bit_by (Tst (register r)) NotEqual (register r))) (pieces.number 0 (register r))) stands
          (λ st1. as_kind (type_of a) (ty.Int c.0.0) c.0.1 ks pl.at (level ks) _ (expr_makes a c.2 ks pl (omega arith) st1))
          (λ pl1 st1.
          test_makes ks (omega arith) pl1 ki.Number Equal (both (code_of b r) (bit_by (Tst (register r)) NotEqual (register r))) (pieces.number 0 (register r)) st1
          (λ pl2 st2.
          both_make pl2 (level (ks ++ ki.Number ∷ [])) (level (ks ++ ki.Number ∷ [])) (level (ks ++ ki.Number ∷ [])) (code_of b r) (bit_by (Tst (register r)) NotEqual (register r)) st2
          (λ st3. later ks (ki.Number ∷ []) pl2.at _ _ (as_kind (type_of b) (ty.Int c.1.0) c.1.1 ks pl2.at (level ks) _ (expr_makes b c.3 ks pl2 (omega arith) st3)))
          (λ pl3 st3. bit_makes ks (omega arith) pl3 NotEqual st3))
          (λ pl2 st2. number_makes ks (omega arith) pl2 (ki.Number ∷ []) 0 st2))
      expr_makes (Logic lo.Or a b) c ks pl few stands =
          let n = need_pos a in
          let r = suc (length ks) in
          both_make pl (level ks) (level (ks ++ ki.Number ∷ [])) (level (ks ++ ki.Number ∷ [])) (code_of a r) (choice_code (Tst (register r)) Equal (pieces.number 1 (register r)) (both (code_of b r) (bit_by (Tst (register r)) NotEqual (register r)))) stands
          (λ st1. as_kind (type_of a) (ty.Int c.0.0) c.0.1 ks pl.at (level ks) _ (expr_makes a c.2 ks pl (omega arith) st1))
          (λ pl1 st1.
          test_makes ks (omega arith) pl1 ki.Number Equal (pieces.number 1 (register r)) (both (code_of b r) (bit_by (Tst (register r)) NotEqual (register r))) st1
          (λ pl2 st2. number_makes ks (omega arith) pl2 (ki.Number ∷ []) 1 st2)
          (λ pl2 st2.
          both_make pl2 (level (ks ++ ki.Number ∷ [])) (level (ks ++ ki.Number ∷ [])) (level (ks ++ ki.Number ∷ [])) (code_of b r) (bit_by (Tst (register r)) NotEqual (register r)) st2
          (λ st3. later ks (ki.Number ∷ []) pl2.at _ _ (as_kind (type_of b) (ty.Int c.1.0) c.1.1 ks pl2.at (level ks) _ (expr_makes b c.3 ks pl2 (omega arith) st3)))
          (λ pl3 st3. bit_makes ks (omega arith) pl3 NotEqual st3)))
      expr_makes (Choice t z a b) c ks pl few stands =
          let n = need_pos z in
          let r = suc (length ks) in
          both_make pl (level ks) (level (ks ++ ki.Number ∷ [])) (level (ks ++ kind_of_type t ∷ [])) (code_of z r) (choice_code (Tst (register r)) Equal (code_of a r) (code_of b r)) stands
          (λ st1. as_kind (type_of z) (ty.Int c.0.0) c.0.1 ks pl.at (level ks) _ (expr_makes z c.3 ks pl (omega arith) st1))
          (λ pl1 st1.
          test_makes ks (omega arith) pl1 (kind_of_type t) Equal (code_of a r) (code_of b r) st1
          (λ pl2 st2. later ks (ki.Number ∷ []) pl2.at _ _ (as_kind (type_of a) t c.1 ks pl2.at (level ks) _ (expr_makes a c.4 ks pl2 (omega arith) st2)))
          (λ pl2 st2. later ks (ki.Number ∷ []) pl2.at _ _ (as_kind (type_of b) t c.2 ks pl2.at (level ks) _ (expr_makes b c.5 ks pl2 (omega arith) st2))))
      expr_makes (Convert t u a) c ks pl few stands =
          let n = need_pos a in
          both_make pl (level ks) (level (ks ++ ki.Number ∷ [])) (level (ks ++ ki.Number ∷ [])) (code_of a (suc (length ks))) (narrowing u (register (suc (length ks)))) stands
          (λ st1. as_kind (type_of a) (ty.Int t) c.0 ks pl.at (level ks) _ (expr_makes a c.1 ks pl few st1)) (λ pl1 st1. narrowing_makes ks (omega arith) (omega arith) pl1 u st1)
      expr_makes (Assign x keys a) c ks pl few stands =
          let n = count_fits keys 0 (need_of_keys 0 keys) (omega arith) (omega arith) in
          let m = need_pos a in
          let r = suc (length ks) in
          let js = ks ++ kinds_of_typed keys in
          let k = kind_of_type x.holds in
          let save = λ (q : ℕ). both (saving x.space keys (var_of x) r (register q)) (lowering keys (register q) (register r)) in
          both_make pl (level ks) (level js) (level (ks ++ k ∷ [])) (keys_code keys r) (both (code_of a (r + count keys)) (save (r + count keys))) stands
          (λ st1. keys_make keys c.1 ks 0 pl (omega arith) st1)
          (λ pl1 st1.
          at_index keys ks (λ q. both (code_of a q) (save q)) pl1 (level js) (level (ks ++ k ∷ []))
          (λ st2. both_make pl1 (level js) (level (js ++ k ∷ [])) (level (ks ++ k ∷ [])) (code_of a (suc (length js))) (save (suc (length js))) st2
          (λ st3. as_kind (type_of a) x.holds c.2 js pl1.at (level js) _ (expr_makes a c.3 js pl1 (omega (arith, past_is keys ks)) st3))
          (λ pl3 st3. save_makes keys ks x.space x.slot k pl3 (omega arith) st3)) st1)
      expr_makes (Update o' x keys a) c ks pl few stands =
          let n = count_fits keys 0 (need_of_keys 0 keys) (omega arith) (omega arith) in
          let m = need_pos a in
          let b = past_is keys ks in
          let r = suc (length ks) in
          let js = ks ++ kinds_of_typed keys in
          let k = kind_of_type x.holds in
          let t = works_in o' in
          let number : k ≡ ki.Number = ap kind_of_type c.2.1 in
          let save = λ (q : ℕ). both (saving x.space keys (var_of x) r (register q)) (lowering keys (register q) (register r)) in
          let act = λ (q : ℕ). both (operate_on o' (register q) (register (q + 1))) (both (holding x.holds (register q)) (save q)) in
          let rest = λ (q : ℕ). both (fetching x.space keys (var_of x) r (register q)) (both (narrowing t (register q)) (both (code_of a (q + 1)) (act q))) in
          let takes = count_type o' (type_of a) c.3 in
          let one = js ++ ki.Number ∷ [] in
          let q = suc (length js) in
          both_make pl (level ks) (level js) (level (ks ++ k ∷ [])) (keys_code keys r) (rest (r + count keys)) stands
          (λ st1. keys_make keys c.1 ks 0 pl (omega arith) st1)
          (λ pl1 st1.
          at_index keys ks rest pl1 (level js) (level (ks ++ k ∷ []))
          (λ st2.
          both_make pl1 (level js) (level one) (level (ks ++ k ∷ [])) (fetching x.space keys (var_of x) r (register q)) (both (narrowing t (register q)) (both (code_of a (q + 1)) (act q))) st2
          (λ st3. as_said k ki.Number number js pl1.at (level js) _ (fetch_makes keys ks x.space x.slot k pl1 (omega arith) st3))
          (λ pl3 st3.
          both_make pl3 (level one) (level one) (level (ks ++ k ∷ [])) (narrowing t (register q)) (both (code_of a (q + 1)) (act q)) st3
          (λ st4. narrowing_makes js (omega arith) (omega arith) pl3 t st4)
          (λ pl4 st4.
          both_make pl4 (level one) (level (js ++ ki.Number ∷ ki.Number ∷ [])) (level (ks ++ k ∷ [])) (code_of a (q + 1)) (act q) st4
          (λ st5. second a c.4 ki.Number ki.Number (ap kind_of_type takes.1) js pl4 (omega arith) (λ m e f. expr_makes a c.4 one pl4 e f) st5)
          (λ pl5 st5.
          both_make pl5 (level (js ++ ki.Number ∷ ki.Number ∷ [])) (level one) (level (ks ++ k ∷ [])) (operate_on o' (register q) (register (q + 1))) (both (holding x.holds (register q)) (save q)) st5
          (λ st6. operated_makes js (omega arith) pl5 o' st6)
          (λ pl6 st6.
          both_make pl6 (level one) (level one) (level (ks ++ k ∷ [])) (holding x.holds (register q)) (save q) st6
          (λ st7. holding_makes js (omega arith) pl6 x.holds st7)
          (λ pl7 st7. subst (λ j. Makes pl7 (level (js ++ j ∷ [])) (save q) (level (ks ++ k ∷ []))) number (save_makes keys ks x.space x.slot k pl7 (omega arith) st7))))))) st1)
      expr_makes (Count step answer x keys) c ks pl few stands =
          let n = count_fits keys 0 (need_of_keys 0 keys) (omega arith) (omega arith) in
          let b = past_is keys ks in
          let r = suc (length ks) in
          let js = ks ++ kinds_of_typed keys in
          let k = kind_of_type x.holds in
          let number : k ≡ ki.Number = ap kind_of_type c.2.1 in
          let rest = λ (q : ℕ).
          both (fetching x.space keys (var_of x) r (register q)) (both (stepping step x.holds (register q)) (both (saving x.space keys (var_of x) r (register q)) (both (answering answer step x.holds (register q)) (lowering keys (register q) (register r))))) in
          let one = js ++ ki.Number ∷ [] in
          let q = suc (length js) in
          both_make pl (level ks) (level js) (level (ks ++ k ∷ [])) (keys_code keys r) (rest (r + count keys)) stands
          (λ st1. keys_make keys c.1 ks 0 pl (omega arith) st1)
          (λ pl1 st1.
          at_index keys ks rest pl1 (level js) (level (ks ++ k ∷ []))
          (λ st2.
          both_make pl1 (level js) (level one) (level (ks ++ k ∷ [])) (fetching x.space keys (var_of x) r (register q)) (both (stepping step x.holds (register q)) (both (saving x.space keys (var_of x) r (register q)) (both (answering answer step x.holds (register q)) (lowering keys (register q) (register r))))) st2
          (λ st3. as_said k ki.Number number js pl1.at (level js) _ (fetch_makes keys ks x.space x.slot k pl1 (omega arith) st3))
          (λ pl3 st3.
          both_make pl3 (level one) (level one) (level (ks ++ k ∷ [])) (stepping step x.holds (register q)) (both (saving x.space keys (var_of x) r (register q)) (both (answering answer step x.holds (register q)) (lowering keys (register q) (register r)))) st3
          (λ st4. stepping_makes js (omega arith) pl3 step x.holds st4)
          (λ pl4 st4.
          both_make pl4 (level one) (level one) (level (ks ++ k ∷ [])) (saving x.space keys (var_of x) r (register q)) (both (answering answer step x.holds (register q)) (lowering keys (register q) (register r))) st4
          (λ st5. subst (λ j. Makes pl4 (level (js ++ j ∷ [])) (saving x.space keys (var_of x) r (register q)) (level (js ++ j ∷ []))) number
          (saving_makes js (omega arith) x.space keys x.slot k r pl4 (omega arith) (keys_past keys ks (k ∷ []) (omega arith)) st5))
          (λ pl5 st5.
          both_make pl5 (level one) (level one) (level (ks ++ k ∷ [])) (answering answer step x.holds (register q)) (lowering keys (register q) (register r)) st5
          (λ st6. answering_makes js (omega arith) pl5 answer step x.holds st6)
          (λ pl6 st6. subst (λ j. Makes pl6 (level (js ++ j ∷ [])) (lowering keys (register q) (register r)) (level (ks ++ k ∷ []))) number (lowering_makes keys ks k pl6 (omega arith) st6)))))) st1)
      expr_makes (Strlen a) c ks pl few stands =
          let n = need_pos a in
          both_make pl (level ks) (level (ks ++ ki.Text ∷ [])) (level (ks ++ ki.Number ∷ [])) (code_of a (suc (length ks))) (measuring (register (suc (length ks)))) stands
          (λ st1. as_kind (type_of a) ty.Text c.0 ks pl.at (level ks) _ (expr_makes a c.1 ks pl few st1)) (λ pl1 st1. measuring_makes ks (omega arith) pl1)
      expr_makes (Strjoin a b) c ks pl few stands =
          let n = need_pos b in
          let r = suc (length ks) in
          both_make pl (level ks) (level (ks ++ ki.Text ∷ [])) (level (ks ++ ki.Text ∷ [])) (code_of a r) (both (code_of b (r + 1)) (joining (register r) (register (r + 1)))) stands
          (λ st1. as_kind (type_of a) ty.Text c.0 ks pl.at (level ks) _ (expr_makes a c.2 ks pl (omega arith) st1))
          (λ pl1 st1.
          both_make pl1 (level (ks ++ ki.Text ∷ [])) (level (ks ++ ki.Text ∷ ki.Text ∷ [])) (level (ks ++ ki.Text ∷ [])) (code_of b (r + 1)) (joining (register r) (register (r + 1))) st1
          (λ st2. second b c.3 ki.Text ki.Text (ap kind_of_type c.1) ks pl1 (omega arith) (λ m e f. expr_makes b c.3 (ks ++ ki.Text ∷ []) pl1 e f) st2)
          (λ pl2 st2. joining_makes ks (omega arith) pl2))

      pub keys_make : (keys : Typeds) → AreConsistent slots keys → (ks : List Kind) (n : ℕ) (pl : Place) → suc (length ks) + need_of_keys n keys ≤ 7 + n → Stands o pl (keys_code keys (suc (length ks)) pl)
          → Makes pl (level ks) (keys_code keys (suc (length ks))) (level (ks ++ kinds_of_typed keys))
      keys_make end c ks n pl few stands = subst (λ l. Types o pl.at (level ks) [] (level l)) (sym (append-nil ks)) (nothing_types o pl.at _ _ (within_self _))
      keys_make (more a rest) c ks n pl few stands =
          let k = kind_of_type (type_of a) in
          let js = ks ++ k ∷ [] in
          let r = suc (length ks) in
          both_make pl (level ks) (level js) (level (ks ++ k ∷ kinds_of_typed rest)) (code_of a r) (keys_code rest (r + 1)) stands
          (λ st1. expr_makes a c.0 ks pl (omega arith) st1)
          (λ pl1 st1.
          subst (λ m. Makes pl1 (level js) (keys_code rest m) (level (ks ++ k ∷ kinds_of_typed rest))) (above ks k)
          (subst (Types o pl1.at (level js) (keys_code rest (suc (length js)) pl1).code) (ap level (append_assoc ks (k ∷ []) (kinds_of_typed rest)))
          (keys_make rest c.1 js (n + 1) pl1 (omega (arith, above ks k)) (subst (λ m. Stands o pl1 (keys_code rest m pl1)) (sym (above ks k)) st1))))
