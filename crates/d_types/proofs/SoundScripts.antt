-- What the recursion gives for a script is well typed.
use Rattle.std.proofs.Common.{◌≡◌, ℕ, nat_le, inl, inr, List, [], ◌∷◌, ◌++◌, length, Bool, true}
use Rattle.std.proofs.Common.{false, if◌then◌else◌, Option, Some, None, Result, Ok, refl, sym}
use Rattle.std.proofs.Common.{ap, ◌∙◌, subst, append_assoc, append-nil}
use Rattle.d_parser.specs.declared.tree.DeclaredType.{DeclaredType}
use Rattle.d_parser.specs.Tree as tree
use Rattle.d_parser.specs.Tree.{Tree, Trees, StmtTree, DeclarationTree, ClauseTree, ItemTree}
use Rattle.d_values.specs.declared.int_type.IntType.{IntType}
use Rattle.d_values.specs.declared.int_type.DType.{DType}
use Rattle.d_values.specs.declared.int_type.DType.TheVariants.{Int, Text}
use Rattle.aggregations.specs.declared.function.AggFn.{AggFn}
use Rattle.d_types.specs.declared.typed.Space.{Space}
use Rattle.d_types.specs.declared.typed.Space.TheVariants as s
use Rattle.d_types.specs.declared.words.Callee.{Callee}
use Rattle.d_types.specs.declared.words.Callee.TheVariants as f
use Rattle.d_types.specs.Steps.Faults.{◌>>=◌, Fault, refuse, unless, Undeclared, Mismatch}
use Rattle.d_types.specs.Steps.Faults.{Keys}
use Rattle.d_types.specs.Steps.Faults.{AggregationRedefined, LquantizeBounds, PrintfArguments}
use Rattle.d_types.specs.Steps.Faults.{NoRegister}
use Rattle.d_types.specs.Words.{callee_named, aggregating_named}
use Rattle.d_types.specs.Typed.{Typed, Typeds, end, more, type_of, types_of, Action, Evaluate}
use Rattle.d_types.specs.Steps.Typing.{with_typed}
use Rattle.d_types.specs.Typed.{Trace}
use Rattle.d_types.specs.Typed.{Print, Exit, Aggregate, Agg, Aggs, ClauseMeant, ScriptMeant}
use Rattle.d_types.specs.Needs.{need, count}
use Rattle.d_types.specs.Variables.{Rows, find}
use Rattle.d_types.specs.Steps.Variables.{types_in}
use Rattle.d_types.specs.Steps.Formats.{pieces}
use Rattle.d_types.specs.Formats as formats
use Rattle.d_types.specs.Lines.{line_of}
use Rattle.d_types.specs.Steps.Typing.{only, expr, whole}
use Rattle.d_types.specs.Steps.Statements.{wholes, trace, exit_by, exit, not_printed}
use Rattle.d_types.specs.Steps.Statements.{text_of_constant}
use Rattle.d_types.specs.Steps.Statements.{print_by}
use Rattle.d_types.specs.Steps.Statements.{print, evaluate, call_statement, action}
use Rattle.d_types.specs.Aggregations.{arguments_fit, first, function, find_from}
use Rattle.d_types.specs.Steps.Variables.{fit}
use Rattle.d_types.specs.Steps.Aggregations.{is_again}
use Rattle.d_types.proofs.Tables.{kinds_are}
use Rattle.d_types.proofs.NewAggregations.{again_is}
use Rattle.d_types.specs.Steps.Aggregations.{new_aggregation, index_for, aggregate}
use Rattle.d_types.specs.Steps.Scripts.{declare, declaration, test_of, predicate, statement}
use Rattle.d_types.specs.Steps.Scripts.{statements}
use Rattle.d_types.specs.Steps.Scripts.{clause, item, items, script}
use Rattle.d_types.proofs.WellTyped.{Types, AllTypes}
use Rattle.d_types.specs.Rules.{IsInteger}
use Rattle.d_types.proofs.WellTyped.{Evaluates, Prints, Acts, Stands, Aggregates}
use Rattle.d_types.proofs.WellTyped.{IsIndexOf}
use Rattle.d_types.proofs.WellTyped.{Declares}
use Rattle.d_types.proofs.WellTyped.{DeclaresRow, Tests, Does, AllDo, Probes, AllItems, IsWell}
use Rattle.d_types.proofs.Complete.{after, after-add, after-end}
use Rattle.d_types.proofs.Sound.{bound, sound, within, is_some_of}
use Rattle.d_types.proofs.Spelling.{read_is_spelled}

pub ok_is : {A : Type 0} (x y : A) → ◌≡◌ {A = Result A Fault} (Ok x) (Ok y) → x ≡ y
ok_is x y h = cc

whole_sound : (rows : Rows) (t : Tree) (x : Typed × Rows) → whole rows t ≡ Ok x → Types rows t x.0 x.1
whole_sound rows t x h =
    let p = bound (expr rows t) _ _ h in
    let q = within NoRegister (line_of t) (nat_le (need p.0.0) 6) p.0 x p.2 in
    sound rows t x.0 x.1 (p.1 ∙ ap (λ (y : Typed × Rows). Ok y) q.1)

wholes_sound : (done : Typeds) (rows : Rows) (ts : Trees) (k : Typeds × Rows) → wholes done rows ts ≡ Ok k →
    (new : Typeds) × AllTypes rows ts new k.1 × (k.0 ≡ after done new)
wholes_sound done rows tree.end k h =
    let same : (done, rows) ≡ k = ok_is _ _ h in
    (end, (refl, sym (ap (λ (p : Typeds × Rows). p.1) same)), sym (ap (λ (p : Typeds × Rows). p.0) same) ∙ sym (after-end done))
wholes_sound done rows (tree.more a rest) k h =
    let p = bound (whole rows a) _ _ h in
    let r = wholes_sound (with_typed done p.0.0) p.0.1 rest k p.2 in
    (more p.0.0 r.0, (p.0.0, r.0, p.0.1, whole_sound rows a p.0 p.1, r.1, refl), r.2 ∙ after-add done p.0.0 r.0)

all_whole : (rows : Rows) (ts : Trees) (k : Typeds × Rows) → wholes end rows ts ≡ Ok k → AllTypes rows ts k.0 k.1
all_whole rows ts k h =
    let r = wholes_sound end rows ts k h in
    subst (λ (l : Typeds). AllTypes rows ts l k.1) (sym r.2) r.1

pub only_is : (args : Typeds) (x : Typed) → only args ≡ Some x → args ≡ more x end
only_is end x h = cc
only_is (more y end) x h = let same : y ≡ x = cc in ap (λ (z : Typed). more z end) same
only_is (more y (more z rest)) x h = cc

evaluates_sound : (rows : Rows) (t : Tree) (r : Action × Rows) → evaluate rows t ≡ Ok r → Evaluates rows t r.0 r.1
evaluates_sound rows t r h =
    let p = bound (whole rows t) _ _ h in
    let same : (Evaluate p.0.0, p.0.1) ≡ r = ok_is _ _ p.2 in
    subst (λ (y : Action × Rows). Evaluates rows t y.0 y.1) same (p.0.0, whole_sound rows t p.0 p.1, refl)

trace_sound : (line : ℕ) (name : List ℕ) (rows : Rows) (ts : Trees) (r : Action × Rows) → trace line rows ts ≡ Ok r → Acts (Some f.Trace) line name rows ts r.0 r.1
trace_sound line name rows ts r h =
    let p = bound (wholes end rows ts) _ _ h in
    let q = bound (unless Mismatch line (only p.0.0)) _ _ p.2 in
    let same : (Trace (type_of q.0) q.0, p.0.1) ≡ r = ok_is _ _ q.2 in
    let one = only_is p.0.0 q.0 (is_some_of Mismatch line _ q.0 q.1) in
    subst (λ (y : Action × Rows). Acts (Some f.Trace) line name rows ts y.0 y.1) same
    (q.0, subst (λ (l : Typeds). AllTypes rows ts l p.0.1) one (all_whole rows ts p.0 p.1), refl)

pub exit_by_sound : (line : ℕ) (t : DType) (x : Typed) (rows : Rows) (r : Action × Rows) → type_of x ≡ t → exit_by line t x rows ≡ Ok r →
    (u : IntType) × IsInteger x u × ((Exit x, rows) ≡ r)
exit_by_sound line (Int u) x rows r p h = (u, p, ok_is _ _ h)
exit_by_sound line Text x rows r p h = cc

exit_sound : (line : ℕ) (name : List ℕ) (rows : Rows) (ts : Trees) (r : Action × Rows) → exit line rows ts ≡ Ok r → Acts (Some f.Exit) line name rows ts r.0 r.1
exit_sound line name rows ts r h =
    let p = bound (wholes end rows ts) _ _ h in
    let q = bound (unless Mismatch line (only p.0.0)) _ _ p.2 in
    let e = exit_by_sound line _ q.0 p.0.1 r refl q.2 in
    let one = only_is p.0.0 q.0 (is_some_of Mismatch line _ q.0 q.1) in
    subst (λ (y : Action × Rows). Acts (Some f.Exit) line name rows ts y.0 y.1) e.2
    (q.0, e.0, subst (λ (l : Typeds). AllTypes rows ts l p.0.1) one (all_whole rows ts p.0 p.1), e.1, refl)

not_printed_never : (line : ℕ) (rows : Rows) (ts : Trees) (r : Action × Rows) → not_printed line rows ts ≡ Ok r → ⊥
not_printed_never line rows ts r h = let p = bound (wholes end rows ts) _ _ h in let no = p.2 in cc

print_by_sound : (o : Option (List ℕ)) (line : ℕ) (rows : Rows) (t : Tree) (ts : Trees) (r : Action × Rows) → text_of_constant t ≡ o → print_by o line rows t ts ≡ Ok r →
    Prints rows (tree.more t ts) r.0 r.1
print_by_sound None line rows t ts r e h = absurd (not_printed_never line rows (tree.more t ts) r h)
print_by_sound (Some format) line rows t ts r e h =
    let p = bound (wholes end rows ts) _ _ h in
    let q = bound (unless PrintfArguments line (pieces format)) _ _ p.2 in
    let w = within PrintfArguments line (formats.fit q.0 p.0.0) (Print q.0 (types_of p.0.0) p.0.0, p.0.1) r q.2 in
    subst (λ (y : Action × Rows). Prints rows (tree.more t ts) y.0 y.1) w.1
    (format, q.0, p.0.0, e, all_whole rows ts p.0 p.1, read_is_spelled format q.0 (is_some_of PrintfArguments line _ q.0 q.1), w.0, refl)

prints_sound : (line : ℕ) (rows : Rows) (ts : Trees) (r : Action × Rows) → print line rows ts ≡ Ok r → Prints rows ts r.0 r.1
prints_sound line rows tree.end r h = not_printed_never line rows tree.end r h
prints_sound line rows (tree.more t ts) r h = print_by_sound _ line rows t ts r refl h

acts_sound : (o : Option Callee) (line : ℕ) (name : List ℕ) (rows : Rows) (ts : Trees) (r : Action × Rows) → call_statement o line name rows ts ≡ Ok r → Acts o line name rows ts r.0 r.1
acts_sound (Some f.Trace) line name rows ts r h = trace_sound line name rows ts r h
acts_sound (Some f.Exit) line name rows ts r h = exit_sound line name rows ts r h
acts_sound (Some f.Printf) line name rows ts r h = prints_sound line rows ts r h
acts_sound (Some f.Strlen) line name rows ts r h = evaluates_sound rows (tree.Call line name ts) r h
acts_sound (Some f.Strjoin) line name rows ts r h = evaluates_sound rows (tree.Call line name ts) r h
acts_sound None line name rows ts r h = evaluates_sound rows (tree.Call line name ts) r h

stands_sound : (rows : Rows) (t : Tree) (r : Action × Rows) → action rows t ≡ Ok r → Stands rows t r.0 r.1
stands_sound rows (tree.Call line name args) r h = acts_sound (callee_named name) line name rows args r h
stands_sound rows (tree.Known line c) r h = evaluates_sound rows (tree.Known line c) r h
stands_sound rows (tree.Read x keys) r h = evaluates_sound rows (tree.Read x keys) r h
stands_sound rows (tree.Unary line op e) r h = evaluates_sound rows (tree.Unary line op e) r h
stands_sound rows (tree.Cast line to e) r h = evaluates_sound rows (tree.Cast line to e) r h
stands_sound rows (tree.Before line by x keys) r h = evaluates_sound rows (tree.Before line by x keys) r h
stands_sound rows (tree.After x keys by) r h = evaluates_sound rows (tree.After x keys by) r h
stands_sound rows (tree.Binary op d e) r h = evaluates_sound rows (tree.Binary op d e) r h
stands_sound rows (tree.Choice c d e) r h = evaluates_sound rows (tree.Choice c d e) r h
stands_sound rows (tree.Assign op x keys e) r h = evaluates_sound rows (tree.Assign op x keys e) r h

-- ---- aggregation statements

pub joins_sound : (line : ℕ) (name : List ℕ) (ks : Typeds) (g : Option AggFn) (aggs : Aggs) (o : Option (ℕ × Agg)) (r : ℕ × Aggs) →
    find_from 0 name aggs ≡ o → index_for line name ks g aggs o ≡ Ok r → IsIndexOf name ks g aggs r.0 r.1
joins_sound line name ks g aggs None r e h = fresh (nat_le (count ks) 8) refl h
  where
    fresh : (b : Bool) → nat_le (count ks) 8 ≡ b → (if b then (unless LquantizeBounds line g >>= new_aggregation name ks aggs) else refuse Keys line) ≡ Ok r → IsIndexOf name ks g aggs r.0 r.1
    fresh false d k = cc
    fresh true d k =
        let q = bound (unless LquantizeBounds line g) _ _ k in
        let same = ok_is _ _ q.2 in
        subst (λ (y : ℕ × Aggs). IsIndexOf name ks g aggs y.0 y.1) same (inl (q.0, e, d, is_some_of LquantizeBounds line g q.0 q.1, refl, refl))
joins_sound line name ks g aggs (Some p) r e h = again (fit p.1.keys ks) refl h
  where
    again : (b : Bool) → fit p.1.keys ks ≡ b →
        (if b then (if is_again g p.1.function then Ok (p.0, aggs) else refuse AggregationRedefined line) else refuse Keys line) ≡ Ok r → IsIndexOf name ks g aggs r.0 r.1
    again false d k = cc
    again true d k =
        let w = within AggregationRedefined line (is_again g p.1.function) (p.0, aggs) r k in
        subst (λ (y : ℕ × Aggs). IsIndexOf name ks g aggs y.0 y.1) w.1 (inr (p.1, e, kinds_are p.1.keys ks d, again_is g p.1.function w.0, refl))

joined_sound : (b : Bool) (line : ℕ) (keys args : Typeds) (index : Result (ℕ × Aggs) Fault) (rows : Rows) (r : Action × (Rows × Aggs)) →
    (if b then (index >>= λ a. Ok (Aggregate a.0 keys (first args), (rows, a.1))) else refuse Mismatch line) ≡ Ok r →
    (b ≡ true) × (q : ℕ × Aggs) × (index ≡ Ok q) × ((Aggregate q.0 keys (first args), (rows, q.1)) ≡ r)
joined_sound false line keys args index rows r h = cc
joined_sound true line keys args index rows r h = let p = bound index _ _ h in (refl, p.0, p.1, ok_is _ _ p.2)

aggregates_sound : (line : ℕ) (name : List ℕ) (keys : Trees) (word : List ℕ) (args : Trees) (rows : Rows) (aggs : Aggs) (r : Action × (Rows × Aggs)) →
    aggregate line name keys word args rows aggs ≡ Ok r → Aggregates name keys word args rows aggs r.0 r.1.0 r.1.1
aggregates_sound line name keys word args rows aggs r h =
    let k = bound (wholes end rows keys) _ _ h in
    let g = bound (unless Undeclared line (aggregating_named word)) _ _ k.2 in
    let x = bound (wholes end k.0.1 args) _ _ g.2 in
    let j = joined_sound (arguments_fit g.0 x.0.0) line k.0.0 x.0.0 (index_for line name k.0.0 (function g.0 args) aggs (find_from 0 name aggs)) x.0.1 r x.2 in
    subst (λ (y : Action × (Rows × Aggs)). Aggregates name keys word args rows aggs y.0 y.1.0 y.1.1) j.3 (
      k.0.0,
      x.0.0,
      g.0,
      j.1.0,
      k.0.1,
      all_whole rows keys k.0 k.1,
      is_some_of Undeclared line _ g.0 g.1,
      all_whole k.0.1 args x.0 x.1,
      j.0,
      joins_sound line name k.0.0 _ aggs _ j.1 refl j.2,
      refl,
    )

-- ---- declarations and clauses

pub declares_sound : (space : Space) (line : ℕ) (name : List ℕ) (t : DeclaredType) (keys : List DeclaredType) (rows : Rows) (o : Option ℕ) (last : Rows) →
    find space name rows ≡ o → declare space line name t keys rows o ≡ Ok last → Declares space name t keys rows last
declares_sound space line name t keys rows None last e h =
    let w = within Keys line (nat_le (length keys) 8) _ last h in
    (e, w.0, sym w.1)
declares_sound space line name t keys rows (Some slot) last e h = cc

declared_sound : (rows : Rows) (d : DeclarationTree) (last : Rows) → declaration rows d ≡ Ok last → DeclaresRow rows d last
declared_sound rows (tree.OfThread line t name keys) last h = declares_sound s.Thread line name t keys rows _ last refl h
declared_sound rows (tree.OfClause line t name) last h = declares_sound s.Clause line name t [] rows _ last refl h

tested_sound : (k : DType) (t : Tree) (x : Typed) (rows : Rows) (r : Option Typed × Rows) → type_of x ≡ k → test_of k t x rows ≡ Ok r →
    (u : IntType) × IsInteger x u × ((Some x, rows) ≡ r)
tested_sound Text t x rows r p h = cc
tested_sound (Int u) t x rows r p h =
    let q = within NoRegister (line_of t) (nat_le (need x) 6) (Some x, rows) r h in
    (u, p, q.1)

tests_sound : (rows : Rows) (o : Option Tree) (r : Option Typed × Rows) → predicate rows o ≡ Ok r → Tests rows o r.0 r.1
tests_sound rows None r h =
    let same : (None, rows) ≡ r = ok_is _ _ h in
    subst (λ (y : Option Typed × Rows). Tests rows None y.0 y.1) same (refl, refl)
tests_sound rows (Some t) r h =
    let p = bound (expr rows t) _ _ h in
    let e = tested_sound _ t p.0.0 p.0.1 r refl p.2 in
    subst (λ (y : Option Typed × Rows). Tests rows (Some t) y.0 y.1) e.2 (p.0.0, e.0, sound rows t p.0.0 p.0.1 p.1, e.1, refl)

does_sound : (rows : Rows) (aggs : Aggs) (t : StmtTree) (r : Action × (Rows × Aggs)) → statement rows aggs t ≡ Ok r → Does rows aggs t r.0 r.1.0 r.1.1
does_sound rows aggs (tree.Expression t) r h =
    let p = bound (action rows t) _ _ h in
    let same : (p.0.0, (p.0.1, aggs)) ≡ r = ok_is _ _ p.2 in
    subst (λ (y : Action × (Rows × Aggs)). Does rows aggs (tree.Expression t) y.0 y.1.0 y.1.1) same (stands_sound rows t p.0 p.1, refl)
does_sound rows aggs (tree.Aggregation line name keys word args) r h = aggregates_sound line name keys word args rows aggs r h

all_do_sound : (done : List Action) (rows : Rows) (aggs : Aggs) (ts : List StmtTree) (r : List Action × (Rows × Aggs)) → statements done rows aggs ts ≡ Ok r →
    (all : List Action) × AllDo rows aggs ts all r.1.0 r.1.1 × (r.0 ≡ done ++ all)
all_do_sound done rows aggs [] r h =
    let same : (done, (rows, aggs)) ≡ r = ok_is _ _ h in (
      [],
      (refl, sym (ap (λ (y : List Action × (Rows × Aggs)). y.1.0) same), sym (ap (λ (y : List Action × (Rows × Aggs)). y.1.1) same)),
      sym (ap (λ (y : List Action × (Rows × Aggs)). y.0) same) ∙ sym (append-nil done),
    )
all_do_sound done rows aggs (t ∷ rest) r h =
    let p = bound (statement rows aggs t) _ _ h in
    let q = all_do_sound (done ++ p.0.0 ∷ []) p.0.1.0 p.0.1.1 rest r p.2 in
    (p.0.0 ∷ q.0, (p.0.0, q.0, p.0.1.0, p.0.1.1, does_sound rows aggs t p.0 p.1, q.1, refl), q.2 ∙ append_assoc done (p.0.0 ∷ []) q.0)

probes_sound : (rows : Rows) (aggs : Aggs) (c : ClauseTree) (r : ClauseMeant × (Rows × Aggs)) → clause rows aggs c ≡ Ok r → Probes rows aggs c r.0 r.1.0 r.1.1
probes_sound rows aggs c r h =
    let p = bound (predicate rows c.predicate) _ _ h in
    let q = bound (statements [] p.0.1 aggs c.statements) _ _ p.2 in
    let a = all_do_sound [] p.0.1 aggs c.statements q.0 q.1 in
    let same : (record { descriptions = c.descriptions; predicate = p.0.0; statements = q.0.0 }, q.0.1) ≡ r = ok_is _ _ q.2 in
    subst (λ (y : ClauseMeant × (Rows × Aggs)). Probes rows aggs c y.0 y.1.0 y.1.1) same
    (p.0.0, a.0, p.0.1, tests_sound rows c.predicate p.0 p.1, a.1, ap (λ (l : List Action). record { descriptions = c.descriptions; predicate = p.0.0; statements = l }) a.2)

items_sound : (done : List ClauseMeant) (rows : Rows) (aggs : Aggs) (ts : List ItemTree) (r : List ClauseMeant × (Rows × Aggs)) → items done rows aggs ts ≡ Ok r →
    (all : List ClauseMeant) × AllItems rows aggs ts all r.1.0 r.1.1 × (r.0 ≡ done ++ all)
items_sound done rows aggs [] r h =
    let same : (done, (rows, aggs)) ≡ r = ok_is _ _ h in (
      [],
      (refl, sym (ap (λ (y : List ClauseMeant × (Rows × Aggs)). y.1.0) same), sym (ap (λ (y : List ClauseMeant × (Rows × Aggs)). y.1.1) same)),
      sym (ap (λ (y : List ClauseMeant × (Rows × Aggs)). y.0) same) ∙ sym (append-nil done),
    )
items_sound done rows aggs (tree.Declared d ∷ rest) r h =
    let p = bound (item done rows aggs (tree.Declared d)) _ _ h in
    let q = bound (declaration rows d) _ _ p.1 in
    let same : (done, (q.0, aggs)) ≡ p.0 = ok_is _ _ q.2 in
    let next : items done q.0 aggs rest ≡ Ok r = subst (λ (y : List ClauseMeant × (Rows × Aggs)). items y.0 y.1.0 y.1.1 rest ≡ Ok r) (sym same) p.2 in
    let a = items_sound done q.0 aggs rest r next in
    (a.0, (q.0, declared_sound rows d q.0 q.1, a.1), a.2)
items_sound done rows aggs (tree.Probing c ∷ rest) r h =
    let p = bound (item done rows aggs (tree.Probing c)) _ _ h in
    let q = bound (clause rows aggs c) _ _ p.1 in
    let same : (done ++ q.0.0 ∷ [], q.0.1) ≡ p.0 = ok_is _ _ q.2 in
    let next : items (done ++ q.0.0 ∷ []) q.0.1.0 q.0.1.1 rest ≡ Ok r = subst (λ (y : List ClauseMeant × (Rows × Aggs)). items y.0 y.1.0 y.1.1 rest ≡ Ok r) (sym same) p.2 in
    let a = items_sound (done ++ q.0.0 ∷ []) q.0.1.0 q.0.1.1 rest r next in
    (q.0.0 ∷ a.0, (q.0.0, a.0, q.0.1.0, q.0.1.1, probes_sound rows aggs c q.0 q.1, a.1, refl), a.2 ∙ append_assoc done (q.0.0 ∷ []) a.0)

pub script_sound : (source : List ItemTree) (m : ScriptMeant) → script source ≡ Ok m → IsWell source m
script_sound source m h =
    let p = bound (items [] [] [] source) _ _ h in
    let a = items_sound [] [] [] source p.0 p.1 in
    let same : record { clauses = p.0.0; aggregations = p.0.1.1; slots = types_in p.0.1.0 } ≡ m = ok_is _ _ p.2 in
    subst (IsWell source) same (p.0.1.0, subst (λ (l : List ClauseMeant). AllItems [] [] source l p.0.1.0 p.0.1.1) (sym a.2) a.1, refl)
