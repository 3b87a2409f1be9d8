-- Lists that are compiled one by one.
use Rattle.std.specs.Prelude.{◌≡◌, ◌<◌, ◌≤◌, ℕ, suc, ◌+◌, List, [], ◌∷◌, ◌++◌, All, length}
use Rattle.std.specs.Prelude.{map, drop, get_or, Option, Some, None}
use Rattle.std.specs.List.{AllZip}
use Rattle.std.proofs.Common.{refl, sym, ap, ◌∙◌, subst, arith, append_assoc, append-nil}
use Rattle.std.proofs.lemmas.List.{drop_all, map-append}
use Rattle.aggregations.specs.declared.function.AggFn.{AggFn}
use Rattle.d_types.specs.declared.typed.TypedAggregation.{TypedAggregation}
use Rattle.d_types.specs.declared.typed.TypedClause.{TypedClause}
use Rattle.d_types.specs.declared.typed.TypedExpr.{TypedExpr}
use Rattle.firings.specs.declared.firing.Firing.{Firing}
use Rattle.d_types.specs.Fitting.{FitsRegisters}
use Rattle.d_types.specs.Held.{AreTyped, HasTypedBuiltIns, IsConsistent, Slots, slots_of}
use Rattle.d_types.specs.Storage.{Variables}
use Rattle.d_types.specs.Typed.{Action, Aggregate, ClauseMeant, Evaluate, Exit, Print, Trace, Typed}
use Rattle.d_types.specs.Typed.{Typeds, agg_of, end, more, meant_of, script_meant, typed_of}
use Rattle.d_types.specs.Typed.{typeds_of, type_of, types_of}
use Rattle.d_types.specs.Scripts.{IsMeant}
use Rattle.d_types.specs.Wholes.{ActionIs, ActionsAre, AnyIs, ClauseIs, ClausesAre, EachIs}
use Rattle.d_types.proofs.ConsistentScripts.{script_is_consistent}
use Rattle.d_types.proofs.Fitting.{typed_script_fits}
use Rattle.d_types.proofs.HoldingRuns.{run_kept}
use Rattle.d_types.proofs.Tables.{front}
use Rattle.d_values.specs.declared.int_type.DType.{DType}
use Rattle.dif_validate.specs.declared.instruction.Instr.{Instr}
use Rattle.dif_validate.specs.declared.object.Difo.{Difo}
use Rattle.dif_validate.specs.Objects as objects
use Rattle.dif_validate.specs.Objects.{Object}
use Rattle.dif_codegen.specs.declared.program.CompiledClause.{CompiledClause}
use Rattle.dif_codegen.specs.declared.program.TypedObject.{TypedObject}
use Rattle.dif_codegen.specs.Steps.Code.{object_code}
use Rattle.dif_codegen.specs.Correct.{AreObjectsOf, IsActionOf, IsObjectOf, IsOptionalObjectOf}
use Rattle.dif_codegen.specs.Meaning.{IsSameClause, IsProgramOf, run_code}
use Rattle.dif_codegen.specs.Programs.{ClauseCode, clause_code}
use Rattle.dif_codegen.specs.Steps.Programs.{compiled_objects, compiled_object}
use Rattle.dif_codegen.specs.Steps.Programs.{compiled_action, compiled_clause, optional_object}
use Rattle.dif_codegen.proofs.Adding.{IsObject}
use Rattle.dif_codegen.proofs.Compiled.{computes, is_returning}
use Rattle.dif_codegen.proofs.SameMeaning.{run_same}

-- ---- what stands in place of expressions

pub returns_are : (all : Typeds) → map (λ x. x.returns) (compiled_objects all) ≡ types_of all
returns_are end = refl
returns_are (more e rest) = ap (λ l. type_of e ∷ l) (returns_are rest)

module _ (slots : Slots) where
  is_object : (e : Typed) → IsConsistent slots e → FitsRegisters e → IsObjectOf slots (compiled_object e) e
  is_object e is few = record {
    valid = is_returning slots e is few (compiled_object e).object refl refl refl;
    returns = refl;
    computes = computes slots e is few (compiled_object e).object refl refl refl;
  }

  are_objects : (es : Typeds) → EachIs (IsConsistent slots) es → EachIs FitsRegisters es → AreObjectsOf slots (compiled_objects es) es
  are_objects end is few = tt
  are_objects (more e es) is few = (is_object e is.0 few.0, are_objects es is.1 few.1)

  is_optional : (e : Option Typed) → AnyIs (IsConsistent slots) e → AnyIs FitsRegisters e → IsOptionalObjectOf slots (optional_object e) e
  is_optional None is few = tt
  is_optional (Some e) is few = is_object e is few

  is_action : (a : Action) → ActionIs (IsConsistent slots) a → ActionIs FitsRegisters a → IsActionOf slots (compiled_action a) a
  is_action (Evaluate e) is few = is_object e is few
  is_action (Trace t e) is few = (refl, is_object e is few)
  is_action (Print format types es) is few = (refl, refl, are_objects es is few)
  is_action (Exit e) is few = is_object e is few
  is_action (Aggregate index es e) is few = (refl, are_objects es is.0 few.0, is_optional e is.1 few.1)

  are_actions : (all : List Action) → ActionsAre (IsConsistent slots) all → ActionsAre FitsRegisters all → AllZip (IsActionOf slots) (map compiled_action all) all
  are_actions [] is few = tt
  are_actions (a ∷ rest) is few = (is_action a is.0 few.0, are_actions rest is.1 few.1)

-- a clause that was compiled does what it means
does : (slots : Slots) (c : CompiledClause) (m : ClauseMeant) → ClauseIs (IsConsistent slots) m → ClauseIs FitsRegisters m → clause_code c ≡ compiled_clause m → IsSameClause slots c m
does slots c m is few same =
    let runs = λ (f : Firing) (index : ℕ) (vars : Variables) (fit : HasTypedBuiltIns f) (good : AreTyped slots vars).
    ap (λ c. run_code f index c vars) same ∙ run_same slots f fit index m vars is few good in
    record {
      descriptions = ap (λ (c : ClauseCode). c.descriptions) same;
      predicate = subst (λ (c : ClauseCode). IsOptionalObjectOf slots c.predicate m.predicate) (sym same) (is_optional slots m.predicate is.0 few.0);
      actions = subst (λ (c : ClauseCode). AllZip (IsActionOf slots) c.actions m.statements) (sym same) (are_actions slots m.statements is.1 few.1);
      runs = runs;
      typed = λ f index vars fit good. subst (λ made. AreTyped slots made.variables) (sym (runs f index vars fit good)) (run_kept slots f fit index m vars is good);
    }

pub all_do : (slots : Slots) (cs : List CompiledClause) (ms : List ClauseMeant) → ClausesAre (IsConsistent slots) ms → ClausesAre FitsRegisters ms
    → map clause_code cs ≡ map compiled_clause ms → AllZip (IsSameClause slots) cs ms
all_do slots [] [] is few same = tt
all_do slots [] (m ∷ ms) is few same = cc
all_do slots (c ∷ cs) [] is few same = cc
all_do slots (c ∷ cs) (m ∷ ms) is few same =
    let first : clause_code c ≡ compiled_clause m = cc in
    let others : map clause_code cs ≡ map compiled_clause ms = cc in
    (does slots c m is.0 few.0 first, all_do slots cs ms is.1 few.1 others)

pub clauses_are : (Is : Typed → Type 0) (ms : List ClauseMeant) → All (ClauseIs Is) ms → ClausesAre Is ms
clauses_are Is [] all = tt
clauses_are Is (m ∷ ms) all = (all 0 m (omega arith), clauses_are Is ms (λ k d less. all (suc k) d (omega arith)))

-- ---- objects

pub same_object : (e : Typed) (d : Difo) (o : Object) (t : DType) → IsObject e d → o ≡ objects.object_of d → t ≡ type_of e → record { object = o; returns = t } ≡ compiled_object e
same_object e d o t h is same =
    let made : o ≡ (compiled_object e).object =
    is
    ∙ ap (λ (l : List Instr). record { code = l; texts = d.texts.items; numbers = d.numbers.items }) h.code
    ∙ ap (λ (l : List (List ℕ)). record { code = (object_code e).code; texts = l; numbers = d.numbers.items }) h.texts
    ∙ ap (λ (l : List ℕ). record { code = (object_code e).code; texts = (object_code e).texts; numbers = l }) h.numbers in
    ap (λ (o : Object). record { object = o; returns = t }) made ∙ ap (λ (t : DType). record { object = (compiled_object e).object; returns = t }) same

-- ---- one after the other

pub expressions_on : (all : List TypedExpr) (n : ℕ) (e : TypedExpr) (Is : Typed → Type 0) → n < length all → e ≡ get_or all n e
    → EachIs Is (typeds_of (drop n all)) → Is (typed_of e) × EachIs Is (typeds_of (drop (n + 1) all))
expressions_on all n e Is less same each = subst (λ l. EachIs Is (typeds_of l)) (front all n e less same) each

pub compiled_on : (all : List TypedExpr) (n : ℕ) (e : TypedExpr) (done : List TypedObject) → n < length all → e ≡ get_or all n e
    → done ++ compiled_objects (typeds_of (drop n all)) ≡ compiled_objects (typeds_of all)
    → (done ++ compiled_object (typed_of e) ∷ []) ++ compiled_objects (typeds_of (drop (n + 1) all)) ≡ compiled_objects (typeds_of all)
compiled_on all n e done less same h =
    append_assoc done (compiled_object (typed_of e) ∷ []) (compiled_objects (typeds_of (drop (n + 1) all)))
    ∙ ap (λ l. done ++ compiled_objects (typeds_of l)) (sym (front all n e less same)) ∙ h

pub compiled_end : (all : List TypedExpr) (n : ℕ) (done : List TypedObject) → length all ≤ n → done ++ compiled_objects (typeds_of (drop n all)) ≡ compiled_objects (typeds_of all)
    → done ≡ compiled_objects (typeds_of all)
compiled_end all n done past h = sym (append-nil done) ∙ ap (λ l. done ++ compiled_objects (typeds_of l)) (sym (drop_all n all past)) ∙ h

-- a list that was mapped one by one
pub mapped_on : {A B C : Type 0} (g : A → C) (h : B → C) (all : List B) (n : ℕ) (x : B) (y : A) (done : List A) → n < length all → x ≡ get_or all n x → g y ≡ h x
    → map g done ++ map h (drop n all) ≡ map h all → map g (done ++ y ∷ []) ++ map h (drop (n + 1) all) ≡ map h all
mapped_on g h all n x y done less same is e =
    ap (λ l. l ++ map h (drop (n + 1) all)) (map-append g done (y ∷ []))
    ∙ append_assoc (map g done) (g y ∷ []) (map h (drop (n + 1) all))
    ∙ ap (λ z. map g done ++ z ∷ map h (drop (n + 1) all)) is
    ∙ ap (λ l. map g done ++ map h l) (sym (front all n x less same))
    ∙ e

pub mapped_end : {A B C : Type 0} (g : A → C) (h : B → C) (all : List B) (n : ℕ) (done : List A) → length all ≤ n → map g done ++ map h (drop n all) ≡ map h all → map g done ≡ map h all
mapped_end g h all n done past e = sym (append-nil (map g done)) ∙ ap (λ l. map g done ++ map h l) (sym (drop_all n all past)) ∙ e

pub map-map : {A B C : Type 0} (g : A → B) (h : B → C) (xs : List A) → map (λ x. h (g x)) xs ≡ map h (map g xs)
map-map g h [] = refl
map-map g h (x ∷ xs) = ap (λ l. h (g x) ∷ l) (map-map g h xs)

-- ---- the program

pub is_program : (clauses : List TypedClause) (aggs : List TypedAggregation) (types : List (Option DType)) (made : List CompiledClause) (functions : List AggFn)
    → ∥ IsMeant (script_meant clauses aggs types) ∥₁
    → functions ≡ map (λ a. a.function) aggs → map clause_code made ≡ map compiled_clause (map meant_of clauses)
    → IsProgramOf (script_meant clauses aggs types) made functions
is_program clauses aggs types made functions meant same code =
    let m = script_meant clauses aggs types in
    record {
      have_functions = same ∙ map-map agg_of (λ a. a.function) aggs;
      do_the_same = all_do (slots_of m) made m.clauses (clauses_are (IsConsistent (slots_of m)) m.clauses (script_is_consistent m meant)) (typed_script_fits m meant) code;
    }
