-- The trees that the rules give are consistent with their table of variables.
use Rattle.std.proofs.Common.{◌≡◌, ℕ, ◌<◌, ◌≤◌, ◌^◌, inl, inr, nat_le, List, [], ◌∷◌, ◌++◌, length}
use Rattle.std.proofs.Common.{Bool, true, false, not, ◌==◌, if◌then◌else◌, IsTrue, Option}
use Rattle.std.proofs.Common.{refl, sym, ap, ◌∙◌, subst, arith, pos}
use Rattle.std.proofs.Math.Bool.{Bool-set}
use Rattle.std.proofs.lemmas.Bool.Decides.{nat_tests}
use Rattle.std.proofs.lemmas.Int.{ints}
use Rattle.std.proofs.lemmas.List.{length-take}
use Rattle.d_lexer.specs.declared.token.Suffix.{Suffix}
use Rattle.d_lexer.specs.declared.token.Suffix.TheVariants as su
use Rattle.d_parser.specs.declared.operators.Step.{Step}
use Rattle.d_parser.specs.declared.tree.Constant.TheVariants as c
use Rattle.d_parser.specs.declared.tree.Variable.{Variable}
use Rattle.d_parser.specs.declared.tree.Variable.TheVariants as v
use Rattle.d_parser.specs.Tree as tree
use Rattle.d_parser.specs.Tree.{Tree, Trees}
use Rattle.d_values.specs.declared.int_type.IntType.{IntType}
use Rattle.d_values.specs.declared.int_type.DType.{DType}
use Rattle.d_values.specs.declared.int_type.DType.TheVariants.{Int, Text}
use Rattle.d_values.specs.Numbers.{IsNumber, bits_of}
use Rattle.d_values.specs.Texts.{longest}
use Rattle.d_values.specs.Types.{INT32, INT64, UINT32, UINT64, promoted_of, common_of}
use Rattle.d_values.specs.Widths.{is_width}
use Rattle.d_parser.specs.declared.operators.AssignOperator.{AssignOperator}
use Rattle.d_parser.specs.declared.operators.AssignOperator.TheVariants as sg
use Rattle.d_parser.specs.declared.operators.BinaryOperator.{BinaryOperator}
use Rattle.d_parser.specs.declared.operators.BinaryOperator.TheVariants as bs
use Rattle.d_types.specs.declared.typed.Answer.{Answer}
use Rattle.d_types.specs.declared.typed.Space.{Space}
use Rattle.d_types.specs.declared.typed.Space.TheVariants as s
use Rattle.d_types.specs.Constants.{type_of_constant, int_type}
use Rattle.d_types.specs.Held.{IsWord, Slots, IsConsistent, AreConsistent}
use Rattle.d_parser.specs.Numbers.{IsSmall, HasSmall, HaveSmall}
use Rattle.d_types.specs.Operators.{same_type, conversion_node}
use Rattle.d_types.proofs.Bounds.{both_true}
use Rattle.d_types.proofs.WellTyped.{Types, AllTypes}
use Rattle.d_types.specs.Rules.{IsInteger, IsOperation, IsChoice, IsSlotOf, IsConverted}
use Rattle.d_types.specs.Rules.{IsAssignment, IsStep, IsCall}
use Rattle.d_types.proofs.WellTyped.{IsLoad, IsRead, IsTargetOf}
use Rattle.d_types.specs.Targets.{new_row, settle_slot, space_of, type_at_once}
use Rattle.d_types.specs.Typed as typed
use Rattle.d_types.specs.Typed.{Typed, Typeds, end, more, type_of}
use Rattle.d_types.specs.Constants.{constant}
use Rattle.d_types.specs.Variables.{Rows, type_at, set_type, kinds_of_typed}
use Rattle.d_types.proofs.Growing.{Grows, stays, grows_on, same_rows, push_grows, push_below}
use Rattle.d_types.proofs.Growing.{set_grows, type_is_set, settled_grows, found_below}
use Rattle.d_types.proofs.Growing.{consistent_on, all_on}

-- ---- conversions

on_width : (w x : ℕ) (signed : Bool) (k : IsTrue (is_width w)) (l : IsTrue (is_width x)) → w ≡ x →
    ◌≡◌ {A = IntType} (record { width = w; signed = signed; known = k }) (record { width = x; signed = signed; known = l })
on_width w x signed k l e =
    subst (λ y. (m : IsTrue (is_width y)) → ◌≡◌ {A = IntType} (record { width = w; signed = signed; known = k }) (record { width = y; signed = signed; known = m })) e
    (λ m. ap (λ (p : IsTrue (is_width w)). record { width = w; signed = signed; known = p }) (Bool-set _ _ k m)) l

same_is : (t u : IntType) → t.width ≡ u.width → t.signed ≡ u.signed → t ≡ u
same_is t u e g =
    on_width t.width u.width t.signed t.known u.known e
    ∙ ap (λ b. record { width = u.width; signed = b; known = u.known }) g

signs : (a b : Bool) → (if a then b else not b) ≡ true → a ≡ b
signs true true e = refl
signs true false e = cc
signs false true e = cc
signs false false e = refl

pub same_type_is : (t u : IntType) → same_type t u ≡ true → t ≡ u
same_type_is t u e =
    let p = both_true (t.width == u.width) (if t.signed then u.signed else not u.signed) e in
    let w : t.width ≡ u.width = grind (arith, nat_tests, p.0) in
    same_is t u w (signs t.signed u.signed p.1)

-- what is brought to a type is of it, and consistent
module _ (slots : Slots) (t u : IntType) (x : Typed) (is : IsInteger x t) where
  is_converted : IsInteger (conversion_node t u x) u
  is_converted = elim (same_type t u) as (λ b. same_type t u ≡ b → IsInteger (if b then x else typed.Convert t u x) u) [
    | true ↦ λ e. is ∙ ap Int (same_type_is t u e)
    | false ↦ λ e. refl
  ] refl

  converted_fits : IsConsistent slots x → IsConsistent slots (conversion_node t u x)
  converted_fits h = elim (same_type t u) as (λ b. IsConsistent slots (if b then x else typed.Convert t u x)) [ true ↦ h | false ↦ (is, h) ]

-- ---- constants

small_in : (t : IntType) (n : ℕ) → IsNumber t (pos n) → n < 2 ^ 64 → IsWord t n
small_in t n is small = (pos n, is, (let e : n ≡ bits_of (pos n) = omega arith in e))

word_of_type : (n : ℕ) (suffix : Suffix) → n < 2 ^ 64 → IsWord (type_of_constant n suffix) n
word_of_type n suffix small = by_suffix suffix
  where
    in_ulong : IsWord UINT64 n
    in_ulong = small_in UINT64 n (record { least = omega (arith, ints); below = omega (arith, ints) }) small

    in_long : nat_le n 9223372036854775807 ≡ true → IsWord INT64 n
    in_long e =
        let low : n ≤ 9223372036854775807 = grind (arith, nat_tests, e) in
        small_in INT64 n (record { least = omega (arith, ints); below = omega (arith, ints) }) small

    in_int : nat_le n 2147483647 ≡ true → IsWord INT32 n
    in_int e =
        let low : n ≤ 2147483647 = grind (arith, nat_tests, e) in
        small_in INT32 n (record { least = omega (arith, ints); below = omega (arith, ints) }) small

    in_uint : nat_le n 2147483647 ≡ true → IsWord UINT32 n
    in_uint e =
        let low : n ≤ 2147483647 = grind (arith, nat_tests, e) in
        small_in UINT32 n (record { least = omega (arith, ints); below = omega (arith, ints) }) small

    long : IsWord (type_of_constant n su.Long) n
    long = elim (nat_le n 9223372036854775807) as (λ b. nat_le n 9223372036854775807 ≡ b → IsWord (if b then INT64 else UINT64) n) [ true ↦ in_long | false ↦ λ e. in_ulong ] refl

    by_suffix : (suffix : Suffix) → IsWord (type_of_constant n suffix) n
    by_suffix su.Absent =
        elim (nat_le n 2147483647) as (λ b. nat_le n 2147483647 ≡ b → IsWord (if b then INT32 else type_of_constant n su.Long) n) [ true ↦ in_int | false ↦ λ e. long ] refl
    by_suffix su.Unsigned =
        elim (nat_le n 2147483647) as (λ b. nat_le n 2147483647 ≡ b → IsWord (if b then UINT32 else UINT64) n) [ true ↦ in_uint | false ↦ λ e. in_ulong ] refl
    by_suffix su.Long = long
    by_suffix su.UnsignedLong = in_ulong

-- ---- parts of the rules

module _ (slots : Slots) where
  abbrev Fine : Typed → Type 0
  Fine z = IsConsistent slots z

  is : (x z : Typed) → z ≡ x → Fine x → Fine z
  is x z e h = subst Fine (sym e) h

  joins_fine : (sort : BinaryOperator) (x y z : Typed) → Fine x → Fine y → IsOperation sort x y z → Fine z
  joins_fine (bs.Arithmetic op) x y z g h j =
      is _ z j.4 (
        (is_converted slots j.0 (common_of j.0 j.1) x j.2, is_converted slots j.1 (common_of j.0 j.1) y j.3),
        converted_fits slots j.0 (common_of j.0 j.1) x j.2 g,
        converted_fits slots j.1 (common_of j.0 j.1) y j.3 h,
      )
  joins_fine (bs.Shift op) x y z g h j =
      is _ z j.4 ((is_converted slots j.0 (promoted_of j.0) x j.2, (j.1, j.3)), converted_fits slots j.0 (promoted_of j.0) x j.2 g, h)
  joins_fine (bs.Compare op) x y z g h (inl j) =
      is _ z j.4 (
        is_converted slots j.0 (common_of j.0 j.1) x j.2,
        is_converted slots j.1 (common_of j.0 j.1) y j.3,
        converted_fits slots j.0 (common_of j.0 j.1) x j.2 g,
        converted_fits slots j.1 (common_of j.0 j.1) y j.3 h,
      )
  joins_fine (bs.Compare op) x y z g h (inr j) = is _ z j.2 (j.0, j.1, g, h)
  joins_fine (bs.Logic op) x y z g h j = is _ z j.4 ((j.0, j.2), (j.1, j.3), g, h)

  chooses_fine : (x y w z : Typed) → Fine x → Fine y → Fine w → IsChoice x y w z → Fine z
  chooses_fine x y w z f g h (inl j) =
      is _ z j.6 (
        (j.0, j.3),
        is_converted slots j.1 (common_of j.1 j.2) y j.4,
        is_converted slots j.2 (common_of j.1 j.2) w j.5,
        f,
        converted_fits slots j.1 (common_of j.1 j.2) y j.4 g,
        converted_fits slots j.2 (common_of j.1 j.2) w j.5 h,
      )
  chooses_fine x y w z f g h (inr j) = is _ z j.4 ((j.0, j.1), j.2, j.3, f, g, h)

  calls_fine : (name : List ℕ) (args : Typeds) (z : Typed) → AreConsistent slots args → IsCall name args z → Fine z
  calls_fine name args z h (inl j) =
      let all : AreConsistent slots (more j.0 end) = subst (AreConsistent slots) j.2 h in
      is _ z j.4 (j.3, all.0)
  calls_fine name args z h (inr j) =
      let all : AreConsistent slots (more j.0 (more j.1 end)) = subst (AreConsistent slots) j.3 h in
      is _ z j.6 (j.4, j.5, all.0, all.1.0)

module _ (rows : Rows) where
  loads_fine : (space : Space) (name : List ℕ) (keys : Typeds) (z : Typed) → AreConsistent (type_at rows) keys → IsLoad space name rows keys z → IsConsistent (type_at rows) z
  loads_fine space name keys z h j = is (type_at rows) _ z j.5 (j.3, h)

  reads_fine : (x : Variable) (keys : Typeds) (z : Typed) → AreConsistent (type_at rows) keys → IsRead rows x keys z → IsConsistent (type_at rows) z
  reads_fine (v.Plain line name) keys z h j = is (type_at rows) _ z j.3 tt
  reads_fine (v.Thread line name) keys z h j = loads_fine s.Thread name keys z h j
  reads_fine (v.Clause line name) keys z h j = loads_fine s.Clause name keys z h j

  steps_fine : (by : Step) (answer : Answer) (space : Space) (slot : ℕ) (keys : Typeds) (z : Typed) → AreConsistent (type_at rows) keys →
      IsStep by answer space slot keys rows z → IsConsistent (type_at rows) z
  steps_fine by answer space slot keys z h j = is (type_at rows) _ z j.2 (j.1, h, (j.0, refl))

-- ---- targets and assignments

-- the table grows, and has the slot
abbrev Has : Rows → ℕ → Rows → Type 0
Has rows slot after = Grows rows after × (slot < length after)

indices_grow : (space : Space) (name : List ℕ) (rows : Rows) (t : Option DType) (keys : Typeds) (slot : ℕ) (after : Rows) →
    IsSlotOf space name t keys rows slot after → Has rows slot after
indices_grow space name rows t keys slot after (inl p) =
    subst (Has rows slot) (sym p.3) (push_grows rows (new_row space name t (kinds_of_typed keys)), subst (λ n. n < length (rows ++ new_row space name t (kinds_of_typed keys) ∷ [])) (sym p.2) (push_below rows (new_row space name t (kinds_of_typed keys))))
indices_grow space name rows t keys slot after (inr p) =
    let grown : Grows rows (settle_slot (type_at rows slot) slot t rows) = settled_grows (type_at rows slot) slot t rows refl in
    subst (Has rows slot) (sym p.2) (grown, omega (arith, grown.1, found_below space name rows slot p.0))

targets_grow : (rows : Rows) (x : Variable) (t : Option DType) (keys : Typeds) (slot : ℕ) (after : Rows) → IsTargetOf rows x t keys slot after → Has rows slot after
targets_grow rows (v.Plain line name) t keys slot after h = absurd h
targets_grow rows (v.Thread line name) t keys slot after h = indices_grow s.Thread name rows t keys slot after h
targets_grow rows (v.Clause line name) t keys slot after h = indices_grow s.Clause name rows t keys slot after h

-- what an assignment leaves: a grown table, and a tree that is consistent with it
abbrev Leaves : Rows → Typed → Rows → Type 0
Leaves rows z after = Grows rows after × IsConsistent (type_at after) z

fits_fine : (slots : Slots) (x : Typed) (t : DType) (y : Typed) → IsConsistent slots x → IsConverted x t y → (type_of y ≡ t) × IsConsistent slots y
fits_fine slots x (Int u) y h j =
    (ap type_of j.2 ∙ is_converted slots j.0 u x j.1, is slots _ y j.2 (converted_fits slots j.0 u x j.1 h))
fits_fine slots x Text y h j = (ap type_of j.1 ∙ j.0, is slots x y j.1 h)

module _ (rows : Rows) (space : Space) (slot : ℕ) (keys : Typeds) (x : Typed) (below : slot < length rows) (good : AreConsistent (type_at rows) keys) (fine : IsConsistent (type_at rows) x) where
  stores_fine : (sort : AssignOperator) (z : Typed) (after : Rows) → IsAssignment sort space slot keys x rows z after → Leaves rows z after
  stores_fine sg.Set z after (inl j) =
      let grown = set_grows slot (type_of x) rows j.0 in
      subst (λ (r : Rows). Leaves rows z r) (sym j.2) (
        grown,
        is (type_at (set_type slot (type_of x) rows)) _ z j.1 (
          type_is_set slot (type_of x) rows below,
          all_on (type_at rows) (type_at (set_type slot (type_of x) rows)) grown.0 keys good,
          refl,
          consistent_on (type_at rows) (type_at (set_type slot (type_of x) rows)) grown.0 x fine,
        ),
      )
  stores_fine sg.Set z after (inr j) =
      let y = fits_fine (type_at rows) x j.0 j.1 fine j.3 in
      subst (λ (r : Rows). Leaves rows z r) (sym j.5) (stays rows, is (type_at rows) _ z j.4 (j.2, good, y.0, y.1))
  stores_fine (sg.Arithmetic op) z after j =
      subst (λ (r : Rows). Leaves rows z r) (sym j.5) (
        stays rows,
        is (type_at rows) _ z j.4 (
          j.2,
          good,
          (j.0, refl),
          (refl, is_converted (type_at rows) j.1 (common_of j.0 j.1) x j.3),
          converted_fits (type_at rows) j.1 (common_of j.0 j.1) x j.3 fine,
        ),
      )
  stores_fine (sg.Shift op) z after j =
      subst (λ (r : Rows). Leaves rows z r) (sym j.5) (stays rows, is (type_at rows) _ z j.4 (j.2, good, (j.0, refl), (refl, (j.1, j.3)), fine))

-- ---- expressions

constant_fine : (slots : Slots) (k : _) → IsSmall k → IsConsistent slots (constant k)
constant_fine slots (c.Number n suffix) h = word_of_type n suffix h
constant_fine slots (c.Text bytes) h = omega (arith, length-take longest bytes)

stepped_fine : (rows mid after : Rows) (by : Step) (answer : Answer) (x : Variable) (t : Option DType) (slot : ℕ) (keys : Typeds) (z : Typed) →
    Grows rows mid → AreConsistent (type_at mid) keys → IsTargetOf mid x t keys slot after → IsStep by answer (space_of x) slot keys after z → Leaves rows z after
stepped_fine rows mid after by answer x t slot keys z grown good aims steps =
    let g = (targets_grow mid x t keys slot after aims).0 in
    (grows_on rows mid after grown g, steps_fine after by answer (space_of x) slot keys z (all_on (type_at mid) (type_at after) g.0 keys good) steps)

mutual
  pub types_leave : (rows : Rows) (t : Tree) (z : Typed) (after : Rows) → HasSmall t → Types rows t z after → Leaves rows z after
  types_leave rows (tree.Known line k) z after small h =
      (same_rows rows after h.1, is (type_at after) _ z h.0 (constant_fine (type_at after) k small))
  types_leave rows (tree.Read x keys) z after small h =
      let k = all_leave rows keys h.0 after small h.1 in
      (k.0, reads_fine after x h.0 z k.1 h.2)
  types_leave rows (tree.Call line f args) z after small h =
      let k = all_leave rows args h.0 after small h.1 in
      (k.0, calls_fine (type_at after) f h.0 z k.1 h.2)
  types_leave rows (tree.Unary line op a) z after small h =
      let p = types_leave rows a h.0 after small h.2 in
      (p.0, is (type_at after) _ z h.4 (is_converted (type_at after) h.1 (promoted_of h.1) h.0 h.3, converted_fits (type_at after) h.1 (promoted_of h.1) h.0 h.3 p.1))
  types_leave rows (tree.Cast line to a) z after small h =
      let p = types_leave rows a h.0 after small h.2 in
      (p.0, is (type_at after) _ z h.4 (converted_fits (type_at after) h.1 (int_type to) h.0 h.3 p.1))
  types_leave rows (tree.Before line by x keys) z after small h =
      let k = all_leave rows keys h.0 h.2 small h.3 in
      stepped_fine rows h.2 after by _ x _ h.1 h.0 z k.0 k.1 h.4 h.5
  types_leave rows (tree.After x keys by) z after small h =
      let k = all_leave rows keys h.0 h.2 small h.3 in
      stepped_fine rows h.2 after by _ x _ h.1 h.0 z k.0 k.1 h.4 h.5
  types_leave rows (tree.Binary op a b) z after small h =
      let p = types_leave rows a h.0 h.2 small.0 h.3 in
      let q = types_leave h.2 b h.1 after small.1 h.4 in (
        grows_on rows h.2 after p.0 q.0,
        joins_fine (type_at after) op h.0 h.1 z (consistent_on (type_at h.2) (type_at after) q.0.0 h.0 p.1) q.1 h.5,
      )
  types_leave rows (tree.Choice c a b) z after small h =
      let p = types_leave rows c h.0 h.3 small.0 h.5 in
      let q = types_leave h.3 a h.1 h.4 small.1 h.6 in
      let r = types_leave h.4 b h.2 after small.2 h.7 in
      let last = grows_on h.3 h.4 after q.0 r.0 in (
        grows_on rows h.3 after p.0 last,
        chooses_fine (type_at after) h.0 h.1 h.2 z (consistent_on (type_at h.3) (type_at after) last.0 h.0 p.1)
            (consistent_on (type_at h.4) (type_at after) r.0.0 h.1 q.1) r.1 h.8,
      )
  types_leave rows (tree.Assign op x keys a) z after small h =
      let k = all_leave rows keys h.0 h.3 small.0 h.6 in
      let g = targets_grow h.3 x (type_at_once op) h.0 h.2 h.4 h.7 in
      let p = types_leave h.4 a h.1 h.5 small.1 h.8 in
      let late = grows_on h.3 h.4 h.5 g.0 p.0 in
      let done = stores_fine h.5 (space_of x) h.2 h.0 h.1 (omega (arith, g.1, p.0.1)) (all_on (type_at h.3) (type_at h.5) late.0 h.0 k.1) p.1 op z after h.9 in
      (grows_on rows h.5 after (grows_on rows h.3 h.5 k.0 late) done.0, done.1)

  pub all_leave : (rows : Rows) (ts : Trees) (ks : Typeds) (after : Rows) → HaveSmall ts → AllTypes rows ts ks after → Grows rows after × AreConsistent (type_at after) ks
  all_leave rows tree.end ks after small h = (same_rows rows after h.1, subst (AreConsistent (type_at after)) (sym h.0) tt)
  all_leave rows (tree.more a rest) ks after small h =
      let p = types_leave rows a h.0 h.2 small.0 h.3 in
      let q = all_leave h.2 rest h.1 after small.1 h.4 in (
        grows_on rows h.2 after p.0 q.0,
        subst (AreConsistent (type_at after)) (sym h.5) (consistent_on (type_at h.2) (type_at after) q.0.0 h.0 p.1, q.1),
      )
