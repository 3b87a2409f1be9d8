-- What is typed fits into six registers.
use Rattle.std.proofs.Common.{◌≡◌, ℕ, nat_le, List, [], ◌∷◌, ◌++◌, Bool, true, false, if◌then◌else◌}
use Rattle.std.proofs.Common.{Option, Some, None, Result, Ok, subst, arith}
use Rattle.std.proofs.Math.Bridge.{le_prop}
use Rattle.std.proofs.Math.Logic.{∥∥₁_elim}
use Rattle.std.proofs.lemmas.Bool.Decides.{nat_tests}
use Rattle.d_parser.specs.Tree as tree
use Rattle.d_parser.specs.Tree.{Tree, Trees, StmtTree, ClauseTree, ItemTree}
use Rattle.d_values.specs.declared.int_type.DType.{DType}
use Rattle.d_values.specs.declared.int_type.DType.TheVariants.{Int, Text}
use Rattle.d_types.specs.declared.words.Callee.{Callee}
use Rattle.d_types.specs.declared.words.Callee.TheVariants as f
use Rattle.d_types.specs.Steps.Faults.{◌>>=◌, Fault, refuse, unless, Undeclared, Mismatch}
use Rattle.d_types.specs.Steps.Faults.{NoRegister}
use Rattle.d_types.specs.Words.{aggregating_named}
use Rattle.d_types.specs.Typed.{Typed, Typeds, end, more, type_of, types_of, Action, Evaluate, Trace}
use Rattle.d_types.specs.Steps.Typing.{with_typed}
use Rattle.d_types.specs.Typed.{Print, Exit}
use Rattle.d_types.specs.Typed.{Aggregate, Aggs, ClauseMeant, ScriptMeant}
use Rattle.d_types.specs.Needs.{need}
use Rattle.d_types.specs.Variables.{Rows}
use Rattle.d_types.specs.Steps.Variables.{types_in}
use Rattle.d_types.specs.Steps.Formats.{pieces}
use Rattle.d_types.specs.Formats.{fit}
use Rattle.d_types.specs.Lines.{line_of}
use Rattle.d_types.specs.Steps.Typing.{only, expr, whole}
use Rattle.d_types.specs.Steps.Statements.{wholes, trace, exit_by, exit, print_with, not_printed}
use Rattle.d_types.specs.Steps.Statements.{print_by, print, evaluate, call_statement, action}
use Rattle.d_types.specs.Aggregations.{arguments_fit, first, function, find_from}
use Rattle.d_types.specs.Steps.Aggregations.{index_for}
use Rattle.d_types.specs.Steps.Aggregations.{aggregate}
use Rattle.d_types.specs.Steps.Scripts.{declaration, test_of, predicate, statement, statements}
use Rattle.d_types.specs.Steps.Scripts.{clause}
use Rattle.d_types.specs.Steps.Scripts.{item, items, script}
use Rattle.d_types.specs.Scripts.{IsMeant}
use Rattle.d_types.specs.Fitting.{FitsRegisters, ScriptFits}
use Rattle.d_types.specs.Wholes.{EachIs, AnyIs, ActionIs, ActionsAre, ClauseIs, ClausesAre}
use Rattle.d_types.proofs.Checked.{meant_is_walked}
use Rattle.d_types.proofs.Sound.{bound, within, is_some_of}

abbrev pub AllFit : Typeds → Type 0
AllFit = EachIs FitsRegisters

abbrev pub OneFits : Option Typed → Type 0
OneFits = AnyIs FitsRegisters

abbrev pub ActionFits : Action → Type 0
ActionFits = ActionIs FitsRegisters

abbrev pub ActionsFit : List Action → Type 0
ActionsFit = ActionsAre FitsRegisters

abbrev pub ClauseFits : ClauseMeant → Type 0
ClauseFits = ClauseIs FitsRegisters

abbrev pub ClausesFit : List ClauseMeant → Type 0
ClausesFit = ClausesAre FitsRegisters

pub whole_fits : (rows : Rows) (t : Tree) (x : Typed × Rows) → whole rows t ≡ Ok x → FitsRegisters x.0
whole_fits rows t x h =
    let p = bound (expr rows t) _ _ h in
    let q = within _ _ (nat_le (need p.0.0) 6) p.0 x p.2 in
    subst (λ (y : Typed × Rows). FitsRegisters y.0) q.1 (grind (arith, nat_tests, q.0))

add_fits : (done : Typeds) (x : Typed) → AllFit done → FitsRegisters x → AllFit (with_typed done x)
add_fits end x d h = (h, tt)
add_fits (more y rest) x d h = (d.0, add_fits rest x d.1 h)

wholes_fit : (done : Typeds) (rows : Rows) (ts : Trees) (k : Typeds × Rows) → AllFit done → wholes done rows ts ≡ Ok k → AllFit k.0
wholes_fit done rows tree.end k d h =
    let same : (done, rows) ≡ k = cc in
    subst (λ (y : Typeds × Rows). AllFit y.0) same d
wholes_fit done rows (tree.more a rest) k d h =
    let p = bound (whole rows a) _ _ h in
    wholes_fit (with_typed done p.0.0) p.0.1 rest k (add_fits done p.0.0 d (whole_fits rows a p.0 p.1)) p.2

all_fit : (rows : Rows) (ts : Trees) (k : Typeds × Rows) → wholes end rows ts ≡ Ok k → AllFit k.0
all_fit rows ts k h = wholes_fit end rows ts k tt h

only_fits : (args : Typeds) (x : Typed) → AllFit args → only args ≡ Some x → FitsRegisters x
only_fits end x d h = cc
only_fits (more y end) x d h = let same : y ≡ x = cc in subst FitsRegisters same d.0
only_fits (more y (more z rest)) x d h = cc

answered : (a : Action) (rows : Rows) (r : Action × Rows) → ◌≡◌ {A = Result (Action × Rows) Fault} (Ok (a, rows)) (Ok r) → ActionFits a → ActionFits r.0
answered a rows r h d = let same : (a, rows) ≡ r = cc in subst (λ (y : Action × Rows). ActionFits y.0) same d

trace_fits : (line : ℕ) (rows : Rows) (ts : Trees) (r : Action × Rows) → trace line rows ts ≡ Ok r → ActionFits r.0
trace_fits line rows ts r h =
    let p = bound (wholes end rows ts) _ _ h in
    let q = bound (unless _ line (only p.0.0)) _ _ p.2 in
    answered (Trace (type_of q.0) q.0) p.0.1 r q.2 (only_fits p.0.0 q.0 (all_fit rows ts p.0 p.1) (is_some_of _ line _ q.0 q.1))

exit_by_fits : (line : ℕ) (t : DType) (x : Typed) (rows : Rows) (r : Action × Rows) → FitsRegisters x → exit_by line t x rows ≡ Ok r → ActionFits r.0
exit_by_fits line (Int t) x rows r d h = answered (Exit x) rows r h d
exit_by_fits line Text x rows r d h = cc

exit_fits : (line : ℕ) (rows : Rows) (ts : Trees) (r : Action × Rows) → exit line rows ts ≡ Ok r → ActionFits r.0
exit_fits line rows ts r h =
    let p = bound (wholes end rows ts) _ _ h in
    let q = bound (unless _ line (only p.0.0)) _ _ p.2 in
    exit_by_fits line _ q.0 p.0.1 r (only_fits p.0.0 q.0 (all_fit rows ts p.0 p.1) (is_some_of _ line _ q.0 q.1)) q.2

print_with_fits : (line : ℕ) (rows : Rows) (format : List ℕ) (ts : Trees) (r : Action × Rows) → print_with line rows format ts ≡ Ok r → ActionFits r.0
print_with_fits line rows format ts r h =
    let p = bound (wholes end rows ts) _ _ h in
    let q = bound (unless _ line (pieces format)) _ _ p.2 in
    let w = within _ line (fit q.0 p.0.0) (Print q.0 (types_of p.0.0) p.0.0, p.0.1) r q.2 in
    subst (λ (y : Action × Rows). ActionFits y.0) w.1 (all_fit rows ts p.0 p.1)

not_printed_fits : (line : ℕ) (rows : Rows) (ts : Trees) (r : Action × Rows) → not_printed line rows ts ≡ Ok r → ActionFits r.0
not_printed_fits line rows ts r h = let p = bound (wholes end rows ts) _ _ h in let no = p.2 in cc

print_by_fits : (o : Option (List ℕ)) (line : ℕ) (rows : Rows) (t : Tree) (ts : Trees) (r : Action × Rows) → print_by o line rows t ts ≡ Ok r → ActionFits r.0
print_by_fits (Some format) line rows t ts r h = print_with_fits line rows format ts r h
print_by_fits None line rows t ts r h = not_printed_fits line rows (tree.more t ts) r h

print_fits : (line : ℕ) (rows : Rows) (ts : Trees) (r : Action × Rows) → print line rows ts ≡ Ok r → ActionFits r.0
print_fits line rows tree.end r h = not_printed_fits line rows tree.end r h
print_fits line rows (tree.more t ts) r h = print_by_fits _ line rows t ts r h

evaluate_fits : (rows : Rows) (t : Tree) (r : Action × Rows) → evaluate rows t ≡ Ok r → ActionFits r.0
evaluate_fits rows t r h =
    let p = bound (whole rows t) _ _ h in
    answered (Evaluate p.0.0) p.0.1 r p.2 (whole_fits rows t p.0 p.1)

called_fits : (o : Option Callee) (line : ℕ) (name : List ℕ) (rows : Rows) (ts : Trees) (r : Action × Rows) → call_statement o line name rows ts ≡ Ok r → ActionFits r.0
called_fits (Some f.Trace) line name rows ts r h = trace_fits line rows ts r h
called_fits (Some f.Exit) line name rows ts r h = exit_fits line rows ts r h
called_fits (Some f.Printf) line name rows ts r h = print_fits line rows ts r h
called_fits (Some f.Strlen) line name rows ts r h = evaluate_fits rows (tree.Call line name ts) r h
called_fits (Some f.Strjoin) line name rows ts r h = evaluate_fits rows (tree.Call line name ts) r h
called_fits None line name rows ts r h = evaluate_fits rows (tree.Call line name ts) r h

action_fits : (rows : Rows) (t : Tree) (r : Action × Rows) → action rows t ≡ Ok r → ActionFits r.0
action_fits rows (tree.Call line name args) r h = called_fits _ line name rows args r h
action_fits rows (tree.Known line c) r h = evaluate_fits rows (tree.Known line c) r h
action_fits rows (tree.Read x keys) r h = evaluate_fits rows (tree.Read x keys) r h
action_fits rows (tree.Unary line op a) r h = evaluate_fits rows (tree.Unary line op a) r h
action_fits rows (tree.Cast line to a) r h = evaluate_fits rows (tree.Cast line to a) r h
action_fits rows (tree.Before line by x keys) r h = evaluate_fits rows (tree.Before line by x keys) r h
action_fits rows (tree.After x keys by) r h = evaluate_fits rows (tree.After x keys by) r h
action_fits rows (tree.Binary op a b) r h = evaluate_fits rows (tree.Binary op a b) r h
action_fits rows (tree.Choice c a b) r h = evaluate_fits rows (tree.Choice c a b) r h
action_fits rows (tree.Assign op x keys a) r h = evaluate_fits rows (tree.Assign op x keys a) r h

first_fits : (args : Typeds) → AllFit args → OneFits (first args)
first_fits end d = tt
first_fits (more x rest) d = d.0

joined_fits : (b : Bool) (line : ℕ) (keys args : Typeds) (index : Result (ℕ × Aggs) Fault) (rows : Rows) (r : Action × (Rows × Aggs)) → AllFit keys → AllFit args →
    (if b then (index >>= λ a. Ok (Aggregate a.0 keys (first args), (rows, a.1))) else refuse Mismatch line) ≡ Ok r → ActionFits r.0
joined_fits false line keys args index rows r d e h = cc
joined_fits true line keys args index rows r d e h =
    let p = bound index _ _ h in
    let same : (Aggregate p.0.0 keys (first args), (rows, p.0.1)) ≡ r = cc in
    subst (λ (y : Action × (Rows × Aggs)). ActionFits y.0) same (d, first_fits args e)

aggregate_fits : (line : ℕ) (name : List ℕ) (keys : Trees) (g : List ℕ) (args : Trees) (rows : Rows) (aggs : Aggs) (r : Action × (Rows × Aggs)) →
    aggregate line name keys g args rows aggs ≡ Ok r → ActionFits r.0
aggregate_fits line name keys g args rows aggs r h =
    let k = bound (wholes end rows keys) _ _ h in
    let a = bound (unless Undeclared line (aggregating_named g)) _ _ k.2 in
    let x = bound (wholes end k.0.1 args) _ _ a.2 in
    joined_fits (arguments_fit a.0 x.0.0) line k.0.0 x.0.0 (index_for line name k.0.0 (function a.0 args) aggs (find_from 0 name aggs)) x.0.1 r
    (all_fit rows keys k.0 k.1) (all_fit k.0.1 args x.0 x.1) x.2

statement_fits : (rows : Rows) (aggs : Aggs) (t : StmtTree) (r : Action × (Rows × Aggs)) → statement rows aggs t ≡ Ok r → ActionFits r.0
statement_fits rows aggs (tree.Expression t) r h =
    let p = bound (action rows t) _ _ h in
    let same : (p.0.0, (p.0.1, aggs)) ≡ r = cc in
    subst (λ (y : Action × (Rows × Aggs)). ActionFits y.0) same (action_fits rows t p.0 p.1)
statement_fits rows aggs (tree.Aggregation line name keys g args) r h = aggregate_fits line name keys g args rows aggs r h

last_fits : (done : List Action) (a : Action) → ActionsFit done → ActionFits a → ActionsFit (done ++ a ∷ [])
last_fits [] a d h = (h, tt)
last_fits (x ∷ rest) a d h = (d.0, last_fits rest a d.1 h)

statements_fit : (done : List Action) (rows : Rows) (aggs : Aggs) (ts : List StmtTree) (r : List Action × (Rows × Aggs)) → ActionsFit done →
    statements done rows aggs ts ≡ Ok r → ActionsFit r.0
statements_fit done rows aggs [] r d h =
    let same : (done, (rows, aggs)) ≡ r = cc in
    subst (λ (y : List Action × (Rows × Aggs)). ActionsFit y.0) same d
statements_fit done rows aggs (t ∷ rest) r d h =
    let p = bound (statement rows aggs t) _ _ h in
    statements_fit (done ++ p.0.0 ∷ []) p.0.1.0 p.0.1.1 rest r (last_fits done p.0.0 d (statement_fits rows aggs t p.0 p.1)) p.2

tested_fits : (t : DType) (e : Tree) (x : Typed) (rows : Rows) (r : Option Typed × Rows) → test_of t e x rows ≡ Ok r → OneFits r.0
tested_fits Text e x rows r h = cc
tested_fits (Int u) e x rows r h =
    let q = within NoRegister (line_of e) (nat_le (need x) 6) (Some x, rows) r h in
    let small : FitsRegisters x = grind (arith, nat_tests, q.0) in
    subst (λ (y : Option Typed × Rows). OneFits y.0) q.1 small

predicate_fits : (rows : Rows) (o : Option Tree) (r : Option Typed × Rows) → predicate rows o ≡ Ok r → OneFits r.0
predicate_fits rows None r h =
    let same : (None, rows) ≡ r = cc in
    subst (λ (y : Option Typed × Rows). OneFits y.0) same tt
predicate_fits rows (Some t) r h = let p = bound (expr rows t) _ _ h in tested_fits _ t p.0.0 p.0.1 r p.2

clause_fits : (rows : Rows) (aggs : Aggs) (c : ClauseTree) (r : ClauseMeant × (Rows × Aggs)) → clause rows aggs c ≡ Ok r → ClauseFits r.0
clause_fits rows aggs c r h =
    let p = bound (predicate rows c.predicate) _ _ h in
    let q = bound (statements [] p.0.1 aggs c.statements) _ _ p.2 in
    let same : (record { descriptions = c.descriptions; predicate = p.0.0; statements = q.0.0 }, q.0.1) ≡ r = cc in
    subst (λ (y : ClauseMeant × (Rows × Aggs)). ClauseFits y.0) same (predicate_fits rows c.predicate p.0 p.1, statements_fit [] p.0.1 aggs c.statements q.0 tt q.1)

last_clause_fits : (done : List ClauseMeant) (c : ClauseMeant) → ClausesFit done → ClauseFits c → ClausesFit (done ++ c ∷ [])
last_clause_fits [] c d h = (h, tt)
last_clause_fits (x ∷ rest) c d h = (d.0, last_clause_fits rest c d.1 h)

item_fits : (done : List ClauseMeant) (rows : Rows) (aggs : Aggs) (t : ItemTree) (r : List ClauseMeant × (Rows × Aggs)) → ClausesFit done →
    item done rows aggs t ≡ Ok r → ClausesFit r.0
item_fits done rows aggs (tree.Declared d) r fits h =
    let p = bound (declaration rows d) _ _ h in
    let same : (done, (p.0, aggs)) ≡ r = cc in
    subst (λ (y : List ClauseMeant × (Rows × Aggs)). ClausesFit y.0) same fits
item_fits done rows aggs (tree.Probing c) r fits h =
    let p = bound (clause rows aggs c) _ _ h in
    let same : (done ++ p.0.0 ∷ [], p.0.1) ≡ r = cc in
    subst (λ (y : List ClauseMeant × (Rows × Aggs)). ClausesFit y.0) same (last_clause_fits done p.0.0 fits (clause_fits rows aggs c p.0 p.1))

items_fit : (done : List ClauseMeant) (rows : Rows) (aggs : Aggs) (ts : List ItemTree) (r : List ClauseMeant × (Rows × Aggs)) → ClausesFit done →
    items done rows aggs ts ≡ Ok r → ClausesFit r.0
items_fit done rows aggs [] r fits h =
    let same : (done, (rows, aggs)) ≡ r = cc in
    subst (λ (y : List ClauseMeant × (Rows × Aggs)). ClausesFit y.0) same fits
items_fit done rows aggs (t ∷ rest) r fits h =
    let p = bound (item done rows aggs t) _ _ h in
    items_fit p.0.0 p.0.1.0 p.0.1.1 rest r (item_fits done rows aggs t p.0 fits p.1) p.2

pub script_fits : (source : List ItemTree) (m : ScriptMeant) → script source ≡ Ok m → ScriptFits m
script_fits source m h =
    let p = bound (items [] [] [] source) _ _ h in
    let same : record { clauses = p.0.0; aggregations = p.0.1.1; slots = types_in p.0.1.0 } ≡ m = cc in
    subst ScriptFits same (items_fit [] [] [] source p.0 tt p.1)

-- ---- one proof at most

all_fit_prop : (all : Typeds) → IsProp (AllFit all)
all_fit_prop end = hlevel
all_fit_prop (more x rest) = let others = all_fit_prop rest in hlevel (le_prop, others)

one_fits_prop : (o : Option Typed) → IsProp (OneFits o)
one_fits_prop None = hlevel
one_fits_prop (Some x) = hlevel le_prop

action_fits_prop : (a : Action) → IsProp (ActionFits a)
action_fits_prop (Evaluate x) = hlevel le_prop
action_fits_prop (Trace t x) = hlevel le_prop
action_fits_prop (Print format types args) = all_fit_prop args
action_fits_prop (Exit x) = hlevel le_prop
action_fits_prop (Aggregate index keys argument) = hlevel (all_fit_prop, one_fits_prop)

actions_fit_prop : (all : List Action) → IsProp (ActionsFit all)
actions_fit_prop [] = hlevel
actions_fit_prop (a ∷ rest) = let others = actions_fit_prop rest in hlevel (action_fits_prop, others)

clauses_fit_prop : (all : List ClauseMeant) → IsProp (ClausesFit all)
clauses_fit_prop [] = hlevel
clauses_fit_prop (c ∷ rest) = let others = clauses_fit_prop rest in hlevel (one_fits_prop, actions_fit_prop, others)

pub typed_script_fits : (m : ScriptMeant) → ∥ IsMeant m ∥₁ → ScriptFits m
typed_script_fits m meant = ∥∥₁_elim meant (clauses_fit_prop m.clauses) (λ (h : IsMeant m). script_fits h.0 m (meant_is_walked h.0 m h.3))
