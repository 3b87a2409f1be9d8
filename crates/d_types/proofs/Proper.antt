-- The statements of a well-typed script are proper.
use Rattle.std.proofs.Common.{◌≡◌, ℕ, zero, suc, ◌+◌, ◌≤◌, nat_le, inl, inr, List, [], ◌∷◌, ◌++◌}
use Rattle.std.proofs.Common.{length, slice_get, All, Bool, true, false, if◌then◌else◌}
use Rattle.std.proofs.Common.{Option, Some, None, refl, sym, ap, ◌∙◌, subst, arith}
use Rattle.std.specs.Option.{option_map}
use Rattle.std.specs.Str.{bytes_eq}
use Rattle.std.proofs.Math.Bool.{Bool-set}
use mathlib.Core.List.{is_set}
use mathlib.Core.Sum.{⊎_set}
use Rattle.std.proofs.Math.Bridge.{le_prop}
use Rattle.std.proofs.Math.Logic.{∥∥₁_elim}
use Rattle.std.proofs.lemmas.Bool.Decides.{nat_tests}
use Rattle.std.proofs.lemmas.List.Elements.{All-nil, All-cons}
use Rattle.std.proofs.lemmas.Option.{slice_get_within}
use Rattle.d_parser.specs.Tree as tree
use Rattle.d_parser.specs.Tree.{Tree, Trees, StmtTree, ClauseTree, ItemTree}
use Rattle.d_values.specs.declared.value.Kind.{Kind}
use Rattle.aggregations.specs.declared.function.AggFn.{AggFn}
use Rattle.aggregations.specs.declared.function.AggFn.TheVariants as fn
use Rattle.aggregations.specs.LinearRanges.{linear_range}
use Rattle.d_types.specs.declared.words.Aggregating.{Aggregating}
use Rattle.d_types.specs.declared.words.Aggregating.TheVariants as ag
use Rattle.d_types.specs.declared.words.Callee.{Callee}
use Rattle.d_types.specs.declared.words.Callee.TheVariants as f
use Rattle.d_types.specs.Words.{callee_named}
use Rattle.d_types.specs.Typed.{Typed, Typeds, end, more, type_of, Action, Evaluate, Trace, Print}
use Rattle.d_types.specs.Typed.{Exit, Aggregate, Agg, Aggs, ClauseMeant, ScriptMeant}
use Rattle.d_types.specs.Needs.{count}
use Rattle.d_types.specs.Variables.{Rows, kinds_of_typed}
use Rattle.d_types.specs.Aggregations.{is_integer, arguments_fit, first, function, lquantize}
use Rattle.d_types.specs.Aggregations.{buckets_between, whole_number, natural, find_from}
use Rattle.d_types.specs.Scripts.{IsMeant}
use Rattle.d_types.proofs.Bounds.{both_true}
use Rattle.d_types.proofs.Checked.{meant_is_walked}
use Rattle.d_types.specs.Held.{IsSomeInteger}
use Rattle.d_types.proofs.OneConsistency.{integer_prop}
use Rattle.d_values.specs.declared.int_type.DType.{DType}
use Rattle.d_values.specs.declared.int_type.DType.TheVariants as ty
use Rattle.d_types.proofs.WellTyped.{Acts, Stands, Tests, Does, AllDo, Probes}
use Rattle.d_types.proofs.WellTyped.{IsIndexOf}
use Rattle.d_types.proofs.WellTyped.{AllItems}
use Rattle.d_types.proofs.WellTyped.{IsWell}
use Rattle.d_types.specs.Proper.{HasArgument, Suits, IsProperAction, IsProperPredicate}
use Rattle.d_types.specs.Proper.{IsProperClause, IsProperScript}
use Rattle.d_types.proofs.SoundScripts.{script_sound}

-- ---- what an aggregating function takes

abbrev is_count : AggFn → Bool
is_count fn.Count = true
is_count function = false

-- nothing where it is count(), else an integer
abbrev Takes : Bool → Option Typed → Type 0
Takes true None = Unit {0}
Takes true (Some x) = ⊥
Takes false None = ⊥
Takes false (Some x) = IsSomeInteger (type_of x)

taken : (function : AggFn) (o : Option Typed) → Takes (is_count function) o → HasArgument function o
taken fn.Count None h = h
taken fn.Count (Some x) h = h
taken fn.Sum None h = h
taken fn.Sum (Some x) h = h
taken fn.Min None h = h
taken fn.Min (Some x) h = h
taken fn.Max None h = h
taken fn.Max (Some x) h = h
taken fn.Avg None h = h
taken fn.Avg (Some x) h = h
taken fn.Quantize None h = h
taken fn.Quantize (Some x) h = h
taken (fn.Lquantize r) None h = h
taken (fn.Lquantize r) (Some x) h = h

abbrev counts : Aggregating → Bool
counts (ag.Named f) = is_count f
counts ag.Lquantize = false

none_left : (n : ℕ) → nat_le (1 + n) 0 ≡ true → ⊥
none_left n e = grind (arith, nat_tests)

some_integer : (t : DType) → is_integer t ≡ true → IsSomeInteger t
some_integer (ty.Int u) e = (u, refl)
some_integer ty.Text e = cc

-- arguments that a function takes begin with an integer, or there are none
first_taken : (g : Aggregating) (xs : Typeds) → arguments_fit g xs ≡ true → Takes (counts g) (first xs)
first_taken (ag.Named fn.Count) end e = tt
first_taken (ag.Named fn.Count) (more x rest) e = none_left (count rest) (both_true _ _ e).0
first_taken (ag.Named fn.Sum) end e = cc
first_taken (ag.Named fn.Sum) (more x rest) e = some_integer (type_of x) (both_true _ _ (both_true _ _ e).1).0
first_taken (ag.Named fn.Min) end e = cc
first_taken (ag.Named fn.Min) (more x rest) e = some_integer (type_of x) (both_true _ _ (both_true _ _ e).1).0
first_taken (ag.Named fn.Max) end e = cc
first_taken (ag.Named fn.Max) (more x rest) e = some_integer (type_of x) (both_true _ _ (both_true _ _ e).1).0
first_taken (ag.Named fn.Avg) end e = cc
first_taken (ag.Named fn.Avg) (more x rest) e = some_integer (type_of x) (both_true _ _ (both_true _ _ e).1).0
first_taken (ag.Named fn.Quantize) end e = cc
first_taken (ag.Named fn.Quantize) (more x rest) e = some_integer (type_of x) (both_true _ _ (both_true _ _ e).1).0
first_taken (ag.Named (fn.Lquantize r)) end e = cc
first_taken (ag.Named (fn.Lquantize r)) (more x rest) e = some_integer (type_of x) (both_true _ _ (both_true _ _ e).1).0
first_taken ag.Lquantize end e = cc
first_taken ag.Lquantize (more x rest) e = some_integer (type_of x) (both_true _ _ (both_true _ _ e).1).0

ranged : (o : Option _) (h : AggFn) → option_map fn.Lquantize o ≡ Some h → is_count h ≡ false
ranged None h e = cc
ranged (Some r) h e = let same : fn.Lquantize r ≡ h = cc in ap is_count (sym same)

bounded : (lower upper : Option _) (s : Option ℕ) (h : AggFn) → buckets_between lower upper s ≡ Some h → is_count h ≡ false
bounded (Some lower) (Some upper) (Some s) h e = ranged (linear_range lower upper s) h e
bounded (Some lower) (Some upper) None h e = cc
bounded (Some lower) None s h e = cc
bounded None upper s h e = cc

linear : (args : Trees) (h : AggFn) → lquantize args ≡ Some h → is_count h ≡ false
linear (tree.more e (tree.more lower (tree.more upper tree.end))) h d = bounded (whole_number lower) (whole_number upper) (Some 1) h d
linear (tree.more e (tree.more lower (tree.more upper (tree.more s tree.end)))) h d = bounded (whole_number lower) (whole_number upper) (natural s) h d
linear (tree.more e (tree.more lower (tree.more upper (tree.more s (tree.more t rest))))) h d = cc
linear (tree.more e (tree.more lower tree.end)) h d = cc
linear (tree.more e tree.end) h d = cc
linear tree.end h d = cc

some_count : (g h : AggFn) → Some g ≡ Some h → is_count h ≡ is_count g
some_count g h e = let same : g ≡ h = cc in ap is_count (sym same)

counted : (g : Aggregating) (args : Trees) (h : AggFn) → function g args ≡ Some h → is_count h ≡ counts g
counted (ag.Named f) args h e = some_count f h e
counted ag.Lquantize args h e = linear args h e

-- the function of a statement takes the first of its arguments
argument_taken : (g : Aggregating) (args : Trees) (xs : Typeds) (h : AggFn) → arguments_fit g xs ≡ true → is_count h ≡ counts g → HasArgument h (first xs)
argument_taken g args xs h e c = taken h (first xs) (subst (λ b. Takes b (first xs)) (sym c) (first_taken g xs e))

-- ---- keys

counted_kinds : (keys : Typeds) → length (kinds_of_typed keys) ≡ count keys
counted_kinds end = refl
counted_kinds (more x rest) = let one = counted_kinds rest in omega (arith, one)

-- ---- aggregations

-- what the first has, the second has at the same index
abbrev Keeps : Aggs → Aggs → Type 0
Keeps aggs after = (index : ℕ) (a : Agg) → slice_get aggs index ≡ Some a → slice_get after index ≡ Some a

-- each has at most 8 keys
abbrev Few : Aggs → Type 0
Few aggs = (index : ℕ) (a : Agg) → slice_get aggs index ≡ Some a → length a.keys ≤ 8

suited : (o : Option Agg) (keys : Typeds) (argument : Option Typed) → Suits o keys argument → (a : Agg) × (o ≡ Some a)
suited None keys argument h = absurd h
suited (Some a) keys argument h = (a, refl)

action_on : (aggs after : Aggs) → Keeps aggs after → (a : Action) → IsProperAction aggs a → IsProperAction after a
action_on aggs after keeps (Evaluate x) h = tt
action_on aggs after keeps (Trace t x) h = tt
action_on aggs after keeps (Print format types args) h = h
action_on aggs after keeps (Exit x) h = h
action_on aggs after keeps (Aggregate index keys argument) h =
    let known = suited (slice_get aggs index) keys argument h.1 in
    let there = keeps index known.0 known.1 in
    (slice_get_within after index known.0 there, subst (λ o. Suits o keys argument) (known.1 ∙ sym there) h.1)

actions_on : (aggs after : Aggs) → Keeps aggs after → (all : List Action) → All (IsProperAction aggs) all → All (IsProperAction after) all
actions_on aggs after keeps all h k d below = action_on aggs after keeps _ (h k d below)

clauses_on : (aggs after : Aggs) → Keeps aggs after → (c : ClauseMeant) → IsProperClause aggs c → IsProperClause after c
clauses_on aggs after keeps c h = record { predicate = h.predicate; statements = actions_on aggs after keeps c.statements h.statements }

stay : (aggs after : Aggs) → after ≡ aggs → Few aggs → Keeps aggs after × Few after
stay aggs after e few = subst (λ (x : Aggs). Keeps aggs x × Few x) (sym e) (λ index a h. h, few)

pushed : (aggs : Aggs) (new : Agg) → Keeps aggs (aggs ++ new ∷ [])
pushed [] new index a h = cc
pushed (x ∷ aggs) new zero a h = h
pushed (x ∷ aggs) new (suc index) a h = pushed aggs new index a h

at_end : (aggs : Aggs) (new : Agg) → slice_get (aggs ++ new ∷ []) (length aggs) ≡ Some new
at_end [] new = refl
at_end (x ∷ aggs) new = at_end aggs new

few_pushed : (aggs : Aggs) (new : Agg) → Few aggs → length new.keys ≤ 8 → Few (aggs ++ new ∷ [])
few_pushed [] new few short zero a h = let same : new ≡ a = cc in subst (λ (b : Agg). length b.keys ≤ 8) same short
few_pushed [] new few short (suc index) a h = cc
few_pushed (x ∷ aggs) new few short zero a h = few zero a h
few_pushed (x ∷ aggs) new few short (suc index) a h = few_pushed aggs new (λ p b e. few (suc p) b e) short index a h

found_at : (n : ℕ) (name : List ℕ) (aggs : Aggs) (index : ℕ) (a : Agg) → find_from n name aggs ≡ Some (index, a) → (i : ℕ) × (index ≡ n + i) × (slice_get aggs i ≡ Some a)
found_at n name [] index a h = cc
found_at n name (x ∷ aggs) index a h = either (bytes_eq x.name name) (found_at (n + 1) name aggs index a) h
  where
    either : (b : Bool) → (find_from (n + 1) name aggs ≡ Some (index, a) → (i : ℕ) × (index ≡ n + 1 + i) × (slice_get aggs i ≡ Some a)) →
        (if b then Some (n, x) else find_from (n + 1) name aggs) ≡ Some (index, a) → (i : ℕ) × (index ≡ n + i) × (slice_get (x ∷ aggs) i ≡ Some a)
    either true go e =
        let same : ◌≡◌ {A = ℕ × Agg} (n, x) (index, a) = cc in
        let number : n ≡ index = ap (λ (p : ℕ × Agg). p.0) same in
        (zero, omega (arith, number), ap (λ (p : ℕ × Agg). Some p.1) same)
    either false go e =
        let rest = go e in
        (suc rest.0, omega (arith, rest.1), rest.2)

-- ---- statements

-- known aggregations stay, none has more than 8 keys, and the action is proper
abbrev Leaves : Aggs → Action → Aggs → Type 0
Leaves aggs a known = Keeps aggs known × Few known × IsProperAction known a

acts_proper : (o : Option Callee) (line : ℕ) (name : List ℕ) (rows : Rows) (ts : Trees) (a : Action) (after : Rows) (aggs : Aggs) → Acts o line name rows ts a after → IsProperAction aggs a
acts_proper (Some f.Trace) line name rows ts a after aggs h = subst (IsProperAction aggs) (sym h.2) tt
acts_proper (Some f.Exit) line name rows ts a after aggs h = subst (IsProperAction aggs) (sym h.4) (h.1, h.3)
acts_proper (Some f.Printf) line name rows tree.end a after aggs h = absurd h
acts_proper (Some f.Printf) line name rows (tree.more t rest) a after aggs h = subst (IsProperAction aggs) (sym h.7) h.6
acts_proper (Some f.Strlen) line name rows ts a after aggs h = subst (IsProperAction aggs) (sym h.2) tt
acts_proper (Some f.Strjoin) line name rows ts a after aggs h = subst (IsProperAction aggs) (sym h.2) tt
acts_proper None line name rows ts a after aggs h = subst (IsProperAction aggs) (sym h.2) tt

stands_proper : (rows : Rows) (t : Tree) (a : Action) (after : Rows) (aggs : Aggs) → Stands rows t a after → IsProperAction aggs a
stands_proper rows (tree.Call line name args) a after aggs h = acts_proper (callee_named name) line name rows args a after aggs h
stands_proper rows (tree.Known line c) a after aggs h = subst (IsProperAction aggs) (sym h.2) tt
stands_proper rows (tree.Read x keys) a after aggs h = subst (IsProperAction aggs) (sym h.2) tt
stands_proper rows (tree.Unary line op e) a after aggs h = subst (IsProperAction aggs) (sym h.2) tt
stands_proper rows (tree.Cast line to e) a after aggs h = subst (IsProperAction aggs) (sym h.2) tt
stands_proper rows (tree.Before line by x keys) a after aggs h = subst (IsProperAction aggs) (sym h.2) tt
stands_proper rows (tree.After x keys by) a after aggs h = subst (IsProperAction aggs) (sym h.2) tt
stands_proper rows (tree.Binary op d e) a after aggs h = subst (IsProperAction aggs) (sym h.2) tt
stands_proper rows (tree.Choice c d e) a after aggs h = subst (IsProperAction aggs) (sym h.2) tt
stands_proper rows (tree.Assign op x keys e) a after aggs h = subst (IsProperAction aggs) (sym h.2) tt

-- the statement that names an aggregation first, and each later one
joins_proper : (name : List ℕ) (ks : Typeds) (g : Aggregating) (args : Trees) (xs : Typeds) (aggs : Aggs) (index : ℕ) (known : Aggs) → Few aggs → arguments_fit g xs ≡ true →
    IsIndexOf name ks (function g args) aggs index known → Leaves aggs (Aggregate index ks (first xs)) known
joins_proper name ks g args xs aggs index known few fits (inl j) =
    let new : Agg = record { name = name; keys = kinds_of_typed ks; function = j.0 } in
    let small : count ks ≤ 8 = grind (arith, nat_tests, j.2) in
    let short : length new.keys ≤ 8 = omega (arith, counted_kinds ks, small) in
    let suits : Suits (Some new) ks (first xs) = (refl, small, argument_taken g args xs j.0 fits (counted g args j.0 j.3)) in
    let here : slice_get (aggs ++ new ∷ []) (length aggs) ≡ Some new = at_end aggs new in
    let last : Leaves aggs (Aggregate (length aggs) ks (first xs)) (aggs ++ new ∷ []) =
    (pushed aggs new, few_pushed aggs new few short, (slice_get_within (aggs ++ new ∷ []) (length aggs) new here, subst (λ o. Suits o ks (first xs)) (sym here) suits))
    in
    subst (λ (x : Aggs). Leaves aggs (Aggregate index ks (first xs)) x) (sym j.5) (subst (λ n. Leaves aggs (Aggregate n ks (first xs)) (aggs ++ new ∷ [])) (sym j.4) last)
joins_proper name ks g args xs aggs index known few fits (inr j) =
    let found = found_at 0 name aggs index j.0 j.1 in
    let here : slice_get aggs index ≡ Some j.0 = subst (λ n. slice_get aggs n ≡ Some j.0) (let e = found.1 in let d : found.0 ≡ index = omega (arith, e) in d) found.2 in
    let small : count ks ≤ 8 = omega (arith, counted_kinds ks, ap length j.2, few index j.0 here) in
    let suits : Suits (Some j.0) ks (first xs) = (j.2, small, argument_taken g args xs j.0.function fits (counted g args j.0.function j.3)) in
    let last : IsProperAction aggs (Aggregate index ks (first xs)) = (slice_get_within aggs index j.0 here, subst (λ o. Suits o ks (first xs)) (sym here) suits) in
    let all = stay aggs known j.4 few in
    (all.0, all.1, action_on aggs known all.0 (Aggregate index ks (first xs)) last)

does_proper : (rows : Rows) (aggs : Aggs) (t : StmtTree) (a : Action) (after : Rows) (known : Aggs) → Few aggs → Does rows aggs t a after known → Leaves aggs a known
does_proper rows aggs (tree.Expression t) a after known few h =
    let all = stay aggs known h.1 few in
    (all.0, all.1, stands_proper rows t a after known h.0)
does_proper rows aggs (tree.Aggregation line name keys word args) a after known few h =
    let joined = joins_proper name h.0 h.2 args h.1 aggs h.3 known few h.8 h.9 in
    subst (λ (x : Action). Leaves aggs x known) (sym h.10) joined

on : (aggs mid after : Aggs) → Keeps aggs mid → Keeps mid after → Keeps aggs after
on aggs mid after g h index a e = h index a (g index a e)

all_do_proper : (rows : Rows) (aggs : Aggs) (ts : List StmtTree) (all : List Action) (after : Rows) (known : Aggs) → Few aggs → AllDo rows aggs ts all after known →
    Keeps aggs known × Few known × All (IsProperAction known) all
all_do_proper rows aggs [] all after known few h =
    let both = stay aggs known h.2 few in
    (both.0, both.1, subst (All (IsProperAction known)) (sym h.0) (All-nil (IsProperAction known)))
all_do_proper rows aggs (t ∷ rest) all after known few h =
    let p = does_proper rows aggs t h.0 h.2 h.3 few h.4 in
    let q = all_do_proper h.2 h.3 rest h.1 after known p.1 h.5 in (
      on aggs h.3 known p.0 q.0,
      q.1,
      subst (All (IsProperAction known)) (sym h.6) (All-cons (IsProperAction known) h.0 h.1 (action_on h.3 known q.0 h.0 p.2) q.2),
    )

-- ---- clauses and scripts

tests_proper : (rows : Rows) (o : Option Tree) (p : Option Typed) (after : Rows) → Tests rows o p after → IsProperPredicate p
tests_proper rows None p after h = subst IsProperPredicate (sym h.0) tt
tests_proper rows (Some t) p after h = subst IsProperPredicate (sym h.4) (h.1, h.3)

probes_proper : (rows : Rows) (aggs : Aggs) (c : ClauseTree) (m : ClauseMeant) (after : Rows) (known : Aggs) → Few aggs → Probes rows aggs c m after known →
    Keeps aggs known × Few known × IsProperClause known m
probes_proper rows aggs c m after known few h =
    let q = all_do_proper h.2 aggs c.statements h.1 after known few h.4 in
    (q.0, q.1, subst (IsProperClause known) (sym h.5) (record { predicate = tests_proper rows c.predicate h.0 h.2 h.3; statements = q.2 }))

items_proper : (rows : Rows) (aggs : Aggs) (ts : List ItemTree) (all : List ClauseMeant) (after : Rows) (known : Aggs) → Few aggs → AllItems rows aggs ts all after known →
    Keeps aggs known × All (IsProperClause known) all
items_proper rows aggs [] all after known few h =
    ((stay aggs known h.2 few).0, subst (All (IsProperClause known)) (sym h.0) (All-nil (IsProperClause known)))
items_proper rows aggs (tree.Declared d ∷ rest) all after known few h = items_proper h.0 aggs rest all after known few h.2
items_proper rows aggs (tree.Probing c ∷ rest) all after known few h =
    let p = probes_proper rows aggs c h.0 h.2 h.3 few h.4 in
    let q = items_proper h.2 h.3 rest h.1 after known p.1 h.5 in (
      on aggs h.3 known p.0 q.0,
      subst (All (IsProperClause known)) (sym h.6) (All-cons (IsProperClause known) h.0 h.1 (clauses_on h.3 known q.0 h.0 p.2) q.1),
    )

well_is_proper : (source : List ItemTree) (m : ScriptMeant) → IsWell source m → IsProperScript m
well_is_proper source m h = (items_proper [] [] source m.clauses h.0 m.aggregations (λ index a e. cc) h.1).1

-- ---- one proof at most

takes_prop : (function : AggFn) (o : Option Typed) → IsProp (HasArgument function o)
takes_prop fn.Count None = hlevel
takes_prop fn.Count (Some x) = hlevel
takes_prop fn.Sum None = hlevel
takes_prop fn.Sum (Some x) = hlevel integer_prop
takes_prop fn.Min None = hlevel
takes_prop fn.Min (Some x) = hlevel integer_prop
takes_prop fn.Max None = hlevel
takes_prop fn.Max (Some x) = hlevel integer_prop
takes_prop fn.Avg None = hlevel
takes_prop fn.Avg (Some x) = hlevel integer_prop
takes_prop fn.Quantize None = hlevel
takes_prop fn.Quantize (Some x) = hlevel integer_prop
takes_prop (fn.Lquantize r) None = hlevel
takes_prop (fn.Lquantize r) (Some x) = hlevel integer_prop

kinds_set : IsSet (List Kind)
kinds_set = is_set (hlevel ⊎_set)

suits_prop : (o : Option Agg) (keys : Typeds) (argument : Option Typed) → IsProp (Suits o keys argument)
suits_prop None keys argument = hlevel
suits_prop (Some a) keys argument = hlevel (kinds_set, le_prop, takes_prop)

action_prop : (aggs : Aggs) (a : Action) → IsProp (IsProperAction aggs a)
action_prop aggs (Evaluate x) = hlevel
action_prop aggs (Trace t x) = hlevel
action_prop aggs (Print format types args) = hlevel Bool-set
action_prop aggs (Exit x) = hlevel integer_prop
action_prop aggs (Aggregate index keys argument) = hlevel (le_prop, suits_prop)

predicate_prop : (p : Option Typed) → IsProp (IsProperPredicate p)
predicate_prop None = hlevel
predicate_prop (Some x) = hlevel integer_prop

clause_prop : (aggs : Aggs) (c : ClauseMeant) → IsProp (IsProperClause aggs c)
clause_prop aggs c = hlevel (predicate_prop, action_prop)

script_prop : (m : ScriptMeant) → IsProp (IsProperScript m)
script_prop m = hlevel clause_prop

pub script_is_proper : (m : ScriptMeant) → ∥ IsMeant m ∥₁ → IsProperScript m
script_is_proper m meant = ∥∥₁_elim meant (script_prop m) (λ (h : IsMeant m). well_is_proper h.0 m (script_sound h.0 m (meant_is_walked h.0 m h.3)))
