-- The typed tree of a script, or its first fault, as the code finds it.
use Rattle.std.specs.Prelude.{ℕ, nat_le, if◌then◌else◌, List, [], ◌∷◌, ◌++◌, length, Option, Some}
use Rattle.std.specs.Prelude.{None, Result, Ok, map}
use Rattle.d_types.specs.Vocabulary.{Int, Text, DeclaredType, DeclarationTree, StmtTree, ItemTree}
use Rattle.d_types.specs.Vocabulary.{Tree, ClauseTree, DType, Kind, MAX_NEED, MAX_KEYS, Space}
use Rattle.d_types.specs.Steps.Faults.{Fault, ◌>>=◌, refuse, Mismatch, Keys, NoRegister}
use Rattle.d_types.specs.Typed.{Typed, type_of, Action, Aggs, ClauseMeant, ScriptMeant}
use Rattle.d_types.specs.Variables.{Rows, find, kind_of_type}
use Rattle.d_types.specs.Steps.Variables.{types_in}
use Rattle.d_types.specs.Constants.{declared_type}
use Rattle.d_types.specs.Needs.{need}
use Rattle.d_types.specs.Steps.Statements.{action}
use Rattle.d_types.specs.Steps.Aggregations.{aggregate}
use Rattle.d_types.specs.Lines.{line_of}
use Rattle.d_types.specs.Steps.Typing.{expr}

abbrev pub declared_kinds : List DeclaredType → List Kind
declared_kinds all = map (λ t. kind_of_type (declared_type t)) all

-- a variable is declared before it is assigned, and once
abbrev pub declare : Space → ℕ → List ℕ → DeclaredType → List DeclaredType → Rows → Option ℕ
    → Result Rows Fault
declare space line name t keys rows None =
    if nat_le (length keys) MAX_KEYS
    then Ok (rows ++ record {
      space = space;
      word = name;
      keys = declared_kinds keys;
      holds = Some (declared_type t);
    } ∷ [])
    else refuse Keys line
declare space line name t keys rows (Some slot) = refuse Mismatch line

abbrev pub declaration : Rows → DeclarationTree → Result Rows Fault
declaration rows (DeclarationTree.OfThread line t name keys) =
    declare Space.Thread line name t keys rows (find Space.Thread name rows)
declaration rows (DeclarationTree.OfClause line t name) =
    declare Space.Clause line name t [] rows (find Space.Clause name rows)

-- a predicate is an integer
abbrev pub test_of : DType → Tree → Typed → Rows → Result (Option Typed × Rows) Fault
test_of Text t x rows = refuse Mismatch (line_of t)
test_of (Int u) t x rows =
    if nat_le (need x) MAX_NEED then Ok (Some x, rows) else refuse NoRegister (line_of t)

abbrev pub predicate : Rows → Option Tree → Result (Option Typed × Rows) Fault
predicate rows None = Ok (None, rows)
predicate rows (Some t) = expr rows t >>= λ x. test_of (type_of x.0) t x.0 x.1

abbrev pub statement : Rows → Aggs → StmtTree → Result (Action × (Rows × Aggs)) Fault
statement rows aggs (StmtTree.Expression t) = action rows t >>= λ a. Ok (a.0, (a.1, aggs))
statement rows aggs (StmtTree.Aggregation line name keys f args) =
    aggregate line name keys f args rows aggs

-- the statements after those that are done
abbrev pub statements : List Action → Rows → Aggs → List StmtTree
    → Result (List Action × (Rows × Aggs)) Fault
statements done rows aggs [] = Ok (done, (rows, aggs))
statements done rows aggs (t ∷ rest) =
    statement rows aggs t >>= λ (a, after).
    let (rows, aggs) = after in statements (done ++ a ∷ []) rows aggs rest

-- a clause's predicate comes before its statements
abbrev pub clause : Rows → Aggs → ClauseTree → Result (ClauseMeant × (Rows × Aggs)) Fault
clause rows aggs c =
    predicate rows c.predicate >>= λ p. statements [] p.1 aggs c.statements >>= λ a.
    Ok (record { descriptions = c.descriptions; predicate = p.0; statements = a.0 }, a.1)

-- a declaration, or a clause after those that are done
abbrev pub item : List ClauseMeant → Rows → Aggs → ItemTree
    → Result (List ClauseMeant × (Rows × Aggs)) Fault
item done rows aggs (ItemTree.Declared d) = declaration rows d >>= λ r. Ok (done, (r, aggs))
item done rows aggs (ItemTree.Probing c) = clause rows aggs c >>= λ a. Ok (done ++ a.0 ∷ [], a.1)

abbrev pub items : List ClauseMeant → Rows → Aggs → List ItemTree
    → Result (List ClauseMeant × (Rows × Aggs)) Fault
items done rows aggs [] = Ok (done, (rows, aggs))
items done rows aggs (t ∷ rest) =
    item done rows aggs t >>= λ (done, after).
    let (rows, aggs) = after in items done rows aggs rest

-- what a script means, or its first fault
abbrev pub script : List ItemTree → Result ScriptMeant Fault
script all =
    items [] [] [] all >>= λ (clauses, after).
    let (rows, aggs) = after in
    Ok (record { clauses = clauses; aggregations = aggs; slots = types_in rows })
