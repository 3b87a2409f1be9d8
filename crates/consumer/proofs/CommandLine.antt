use Rattle.std.proofs.Common.{◌≡◌, ◌∙◌, ◌∷◌, ◌++◌, ◌≢◌, ◌==◌, refl, true, false, ap, subst, sym}
use Rattle.std.proofs.Common.{codes, List, [], ℕ, Option, Some, None, Bool, rules, inr}
use Rattle.clap.specs.Words.{App, Row, first_of, found_of, is_simple, is_simple_and_free}
use Rattle.clap.specs.Words.{HasMatchesOf, fault_of, kind_of, matches_of, one_of, rows_of, takes}
use Rattle.clap.specs.declared.error.Error.{Error}
use Rattle.clap.specs.declared.parser.matches.ArgMatches.{ArgMatches}
use Rattle.clap.specs.declared.error.kind.ErrorKind.TheVariants.{DisplayHelp, InvalidValue}
use Rattle.clap.specs.declared.error.kind.ErrorKind.TheVariants.{OutOfMemory, UnknownArgument}
use Rattle.clap.specs.declared.error.kind.ErrorKind.{ErrorKind}
use Rattle.clap.proofs.OnLiterals.{clap_on_literals}
use Rattle.consumer.specs.Arguments.{Asks, AsksHelp, HasPlan, IsRequestIn, IsFaultOf, IsNumberIn, IsOption}
use Rattle.consumer.specs.Arguments.{IsPlanBy, IsPlanIn, Mistakes}
use Rattle.consumer.specs.Steps.Arguments.{IsPlanFault, IsReportedAs}
use Rattle.consumer.specs.Arguments.{AskForRun, SetPlan, engine_called, file_in, program}
use Rattle.std.specs.Prelude.{◌≤◌, IfErr, IsSomeAnd, MatchResult, Result, Ok, Err, option_and_then}
use Rattle.std.proofs.lemmas.Option.{same_Some}
use Rattle.consumer.specs.Plans.{IsDefault}
use Rattle.consumer.specs.Vocabulary.{IsNumeral, digits_value, without_leading_plus, Dealt, Dif}
use Rattle.consumer.specs.Vocabulary.{Plan, MAX_GROUPS, MAX_WORKERS}
use Rattle.consumer.specs.declared.arguments.Request.{Request}
use Rattle.consumer.specs.declared.arguments.UsageFault.{UsageFault}
use Rattle.consumer.specs.declared.arguments.UsageFault.TheVariants.{Help, Usage, Memory}

pub is_simple_program : is_simple program ≡ true
unfolding clap_on_literals
is_simple_program = refl

pub is_free_program : is_simple_and_free program ≡ true
unfolding clap_on_literals
is_free_program = refl

-- the rows of a command that is the program
pub rows_matched : (a : App) (arguments : List (List ℕ)) (m : ArgMatches) → a ≡ program → HasMatchesOf a arguments m
    → rows_of (found_of m) ≡ matches_of program arguments
rows_matched a arguments m same has =
    let rows = has (ap is_simple same ∙ is_simple_program) in
    rw (rows.0, same) refl

-- and no fault is found
pub no_fault : (a : App) (arguments : List (List ℕ)) → a ≡ program → (is_simple_and_free a ≡ true → fault_of a arguments ≡ [])
    → fault_of program arguments ≡ []
no_fault a arguments same free =
    subst (λ (x : App). fault_of x arguments ≡ []) same (free (ap is_simple_and_free same ∙ is_free_program))

-- what is asked in the matches is asked by the arguments
pub request : (rows : List Row) (arguments : List (List ℕ)) (r : Result Request UsageFault) → fault_of program arguments ≡ []
    → rows ≡ matches_of program arguments → MatchResult r (IsRequestIn rows) (IsPlanFault rows) → MatchResult r (Asks arguments) (IsFaultOf arguments)
request rows arguments (Ok x) none same named = record { accepted = none; named = subst (λ r. IsRequestIn r x) same named }
request rows arguments (Err (Help e)) none same fault = absurd fault
request rows arguments (Err (Usage e)) none same fault =
    (fault.0, fault.1, inr (none, λ has. fault.2 has.0 (subst (λ r. IsPlanIn r has.0) (sym same) has.1)))
request rows arguments (Err Memory) none same fault = tt

-- where they name a plan, only memory can be wanting
pub request_or_memory : (rows : List Row) (arguments : List (List ℕ)) (r : Result Request UsageFault) → rows ≡ matches_of program arguments
    → MatchResult r (IsRequestIn rows) (IsPlanFault rows) → HasPlan arguments → IfErr r (λ e. e ≡ Memory)
request_or_memory rows arguments (Ok x) same named has = tt
request_or_memory rows arguments (Err (Help e)) same fault has = absurd fault
request_or_memory rows arguments (Err (Usage e)) same fault has =
    absurd (fault.2 has.0 (subst (λ r. IsPlanIn r has.0) (sym same) has.1))
request_or_memory rows arguments (Err Memory) same fault has = refl

-- where clap promises that only memory can fail, the fault is reported as Memory
pub only_memory : (a : App) (arguments : List (List ℕ)) (error : Error) (fault : UsageFault) → a ≡ program → IsReportedAs error fault
    → (takes a arguments ≡ true → kind_of error ≡ OutOfMemory) → takes program arguments ≡ true → fault ≡ Memory
only_memory a arguments error fault same told promise taken =
    told_so error fault told (promise (subst (λ (x : App). takes x arguments ≡ true) (sym same) taken))
  where
    told_so : (error : Error) (fault : UsageFault) → IsReportedAs error fault → kind_of error ≡ OutOfMemory → fault ≡ Memory
    told_so error (Help e) told memory = cc
    told_so error (Usage e) told memory = absurd (told.2 memory)
    told_so error Memory told memory = refl

bundle_runs : (fault_of program [] ≡ []) × (file_in (matches_of program []) ≡ None)
unfolding clap_on_literals
bundle_runs = (refl, refl)

-- of a file whose first byte is no hyphen
plain_runs : (b : ℕ) (rest : List ℕ) → (b == 45) ≡ false
    → (fault_of program (codes "-s" ∷ (b ∷ rest) ∷ []) ≡ []) × (file_in (matches_of program (codes "-s" ∷ (b ∷ rest) ∷ [])) ≡ Some (b ∷ rest))
unfolding clap_on_literals
plain_runs b rest other = (rw (other, other) refl, rw (other, other) refl)

empty_runs : (fault_of program (codes "-s" ∷ [] ∷ []) ≡ []) × (file_in (matches_of program (codes "-s" ∷ [] ∷ [])) ≡ Some [])
unfolding clap_on_literals
empty_runs = (refl, refl)

hyphen_runs : (fault_of program (codes "-s" ∷ (45 ∷ []) ∷ []) ≡ []) × (file_in (matches_of program (codes "-s" ∷ (45 ∷ []) ∷ [])) ≡ Some (45 ∷ []))
unfolding clap_on_literals
hyphen_runs = (refl, refl)

pub help_requested : (arguments : List (List ℕ)) → AsksHelp arguments → fault_of program arguments ≡ DisplayHelp ∷ []
unfolding clap_on_literals
help_requested _ AsksHelp.short = refl
help_requested _ AsksHelp.long = refl

-- of a name after -s in one argument, but with an equals sign
joined_runs : (b : ℕ) (rest : List ℕ) → (b == 61) ≡ false
    → (fault_of program ((codes "-s" ++ b ∷ rest) ∷ []) ≡ []) × (file_in (matches_of program ((codes "-s" ++ b ∷ rest) ∷ [])) ≡ Some (b ∷ rest))
unfolding clap_on_literals
joined_runs b rest other = (rw other refl, rw other refl)

plain_stray : (b : ℕ) (rest : List ℕ) → (b == 45) ≡ false → fault_of program ((b ∷ rest) ∷ []) ≡ UnknownArgument ∷ []
unfolding clap_on_literals
plain_stray b rest other = rw (other, other) refl

no_file : fault_of program (codes "-s" ∷ []) ≡ InvalidValue ∷ []
unfolding clap_on_literals
no_file = refl

empty_stray : fault_of program ([] ∷ []) ≡ UnknownArgument ∷ []
unfolding clap_on_literals
empty_stray = refl

hyphen_stray : fault_of program ((45 ∷ []) ∷ []) ≡ UnknownArgument ∷ []
unfolding clap_on_literals
hyphen_stray = refl

pub mistaken : (arguments : List (List ℕ)) (kind : ErrorKind) → Mistakes arguments kind → fault_of program arguments ≡ kind ∷ []
mistaken _ _ Mistakes.no_file = no_file
mistaken _ _ (Mistakes.stray [] plain) = empty_stray
mistaken _ _ (Mistakes.stray (b ∷ rest) plain) = first_byte b rest plain (b == 45) refl
  where
    first_byte : (b : ℕ) (rest : List ℕ) → ¬ IsOption (b ∷ rest) → (t : Bool) → (b == 45) ≡ t
        → fault_of program ((b ∷ rest) ∷ []) ≡ UnknownArgument ∷ []
    first_byte b rest plain false other = plain_stray b rest other
    first_byte b [] plain true same = let e : b ≡ 45 = search rules in rw e hyphen_stray
    first_byte b (x ∷ rest) plain true same = absurd (plain (x, rest, ap (λ n. n ∷ x ∷ rest) (search rules)))

-- of a file whose first byte is known to be a hyphen, or not
script_runs : (b : ℕ) (rest : List ℕ) → ¬ IsOption (b ∷ rest) → (t : Bool) → (b == 45) ≡ t
    → (fault_of program (codes "-s" ∷ (b ∷ rest) ∷ []) ≡ []) × (file_in (matches_of program (codes "-s" ∷ (b ∷ rest) ∷ [])) ≡ Some (b ∷ rest))
script_runs b rest plain false other = plain_runs b rest other
script_runs b [] plain true same = let e : b ≡ 45 = search rules in rw e hyphen_runs
script_runs b (x ∷ rest) plain true same = absurd (plain (x, rest, ap (λ n. n ∷ x ∷ rest) (search rules)))

name_runs : (b : ℕ) (rest : List ℕ) → b ≢ 61 → (t : Bool) → (b == 61) ≡ t
    → (fault_of program ((codes "-s" ++ b ∷ rest) ∷ []) ≡ []) × (file_in (matches_of program ((codes "-s" ++ b ∷ rest) ∷ [])) ≡ Some (b ∷ rest))
name_runs b rest other false differs = joined_runs b rest differs
name_runs b rest other true same = absurd (other (search rules))

pub runs : (arguments : List (List ℕ)) (file : Option (List ℕ)) → AskForRun arguments file
    → (fault_of program arguments ≡ []) × (file_in (matches_of program arguments) ≡ file)
runs _ _ AskForRun.bundle = bundle_runs
runs _ _ (AskForRun.script [] plain) = empty_runs
runs _ _ (AskForRun.script (b ∷ rest) plain) = script_runs b rest plain (b == 45) refl
runs _ _ (AskForRun.joined b rest other) = name_runs b rest other (b == 61) refl

-- clap gives each option but the file its default
record HasDefaults (rows : List Row) : Type 0 where
  workers : one_of (codes "workers") rows ≡ Some (codes "4")
  groups : one_of (codes "groups") rows ≡ Some (codes "16")
  engine : first_of (codes "engine") rows ≡ Some (codes "dif")

bundle_defaults : HasDefaults (matches_of program [])
unfolding clap_on_literals
bundle_defaults = record { workers = refl; groups = refl; engine = refl }

plain_defaults : (b : ℕ) (rest : List ℕ) → (b == 45) ≡ false
    → HasDefaults (matches_of program (codes "-s" ∷ (b ∷ rest) ∷ []))
unfolding clap_on_literals
plain_defaults b rest other = record {
  workers = rw (other, other) refl;
  groups = rw (other, other) refl;
  engine = rw (other, other) refl;
}

empty_defaults : HasDefaults (matches_of program (codes "-s" ∷ [] ∷ []))
unfolding clap_on_literals
empty_defaults = record { workers = refl; groups = refl; engine = refl }

hyphen_defaults : HasDefaults (matches_of program (codes "-s" ∷ (45 ∷ []) ∷ []))
unfolding clap_on_literals
hyphen_defaults = record { workers = refl; groups = refl; engine = refl }

joined_defaults : (b : ℕ) (rest : List ℕ) → (b == 61) ≡ false
    → HasDefaults (matches_of program ((codes "-s" ++ b ∷ rest) ∷ []))
unfolding clap_on_literals
joined_defaults b rest other = record {
  workers = rw other refl;
  groups = rw other refl;
  engine = rw other refl;
}

script_defaults : (b : ℕ) (rest : List ℕ) → ¬ IsOption (b ∷ rest) → (t : Bool) → (b == 45) ≡ t
    → HasDefaults (matches_of program (codes "-s" ∷ (b ∷ rest) ∷ []))
script_defaults b rest plain false other = plain_defaults b rest other
script_defaults b [] plain true same = let e : b ≡ 45 = search rules in rw e hyphen_defaults
script_defaults b (x ∷ rest) plain true same = absurd (plain (x, rest, ap (λ n. n ∷ x ∷ rest) (search rules)))

name_defaults : (b : ℕ) (rest : List ℕ) → b ≢ 61 → (t : Bool) → (b == 61) ≡ t
    → HasDefaults (matches_of program ((codes "-s" ++ b ∷ rest) ∷ []))
name_defaults b rest other false differs = joined_defaults b rest differs
name_defaults b rest other true same = absurd (other (search rules))

has_defaults : (arguments : List (List ℕ)) (file : Option (List ℕ)) → AskForRun arguments file
    → HasDefaults (matches_of program arguments)
has_defaults _ _ AskForRun.bundle = bundle_defaults
has_defaults _ _ (AskForRun.script [] plain) = empty_defaults
has_defaults _ _ (AskForRun.script (b ∷ rest) plain) = script_defaults b rest plain (b == 45) refl
has_defaults _ _ (AskForRun.joined b rest other) = name_defaults b rest other (b == 61) refl

-- an option with this one value has this number
number_is : (low high : ℕ) (rows : List Row) (id text : List ℕ) (n : ℕ) → one_of id rows ≡ Some text
    → IsNumberIn low high rows id n → digits_value 10 (without_leading_plus text) ≡ n
number_is low high rows id text n has is =
    let found : IsSomeAnd (Some text) (λ t. IsNumeral 10 (without_leading_plus t)
    × (digits_value 10 (without_leading_plus t) ≡ n) × (low ≤ n) × (n ≤ high)) =
    subst (λ x. IsSomeAnd x (λ t. IsNumeral 10 (without_leading_plus t)
    × (digits_value 10 (without_leading_plus t) ≡ n) × (low ≤ n) × (n ≤ high))) has is
    in found.1

default_plan : (rows : List Row) (plan : Plan) → HasDefaults rows → IsPlanIn rows plan → IsDefault plan
default_plan rows plan has is = record {
  workers = sym (number_is 1 MAX_WORKERS rows (codes "workers") (codes "4") plan.workers has.workers is.workers);
  groups = is.groups.1 ∙ ap Dealt (sym (number_is 1 MAX_GROUPS rows (codes "groups") (codes "16") is.groups.0 has.groups is.groups.2));
  engine = same_Some plan.engine Dif (sym is.engine ∙ ap (option_and_then engine_called) has.engine);
}

pub defaults : (arguments : List (List ℕ)) (file : Option (List ℕ)) (request : Request) → AskForRun arguments file
    → Asks arguments request → IsDefault request.plan
defaults arguments file request runs asks =
    default_plan (matches_of program arguments) request.plan (has_defaults arguments file runs) asks.named.plan

-- the values that the arguments give to the options of a plan
record HasValues (rows : List Row) (w g e : List ℕ) : Type 0 where
  workers : one_of (codes "workers") rows ≡ Some w
  groups : one_of (codes "groups") rows ≡ Some g
  engine : first_of (codes "engine") rows ≡ Some e

no_hyphen : (b : ℕ) → b ≢ 45 → (t : Bool) → (b == 45) ≡ t → (b == 45) ≡ false
no_hyphen b other false differs = differs
no_hyphen b other true same = absurd (other (search rules))

workers_value : (b : ℕ) (rest : List ℕ) → (b == 45) ≡ false
    → HasValues (matches_of program (codes "-w" ∷ (b ∷ rest) ∷ [])) (b ∷ rest) (codes "16") (codes "dif")
unfolding clap_on_literals
workers_value b rest other = record {
  workers = rw (other, other, other) refl;
  groups = rw (other, other) refl;
  engine = rw (other, other) refl;
}

groups_value : (b : ℕ) (rest : List ℕ) → (b == 45) ≡ false
    → HasValues (matches_of program (codes "-g" ∷ (b ∷ rest) ∷ [])) (codes "4") (b ∷ rest) (codes "dif")
unfolding clap_on_literals
groups_value b rest other = record {
  workers = rw (other, other) refl;
  groups = rw (other, other, other) refl;
  engine = rw (other, other) refl;
}

engine_value : (b : ℕ) (rest : List ℕ) → (b == 45) ≡ false
    → HasValues (matches_of program (codes "-e" ∷ (b ∷ rest) ∷ [])) (codes "4") (codes "16") (b ∷ rest)
unfolding clap_on_literals
engine_value b rest other = record {
  workers = rw (other, other) refl;
  groups = rw (other, other) refl;
  engine = rw (other, other) refl;
}

has_values : (arguments : List (List ℕ)) (workers groups engine : List ℕ) → SetPlan arguments workers groups engine
    → HasValues (matches_of program arguments) workers groups engine
has_values _ _ _ _ (SetPlan.workers w v) = rw v.2 (workers_value v.0 v.1 (no_hyphen v.0 v.3 (v.0 == 45) refl))
has_values _ _ _ _ (SetPlan.groups g v) = rw v.2 (groups_value v.0 v.1 (no_hyphen v.0 v.3 (v.0 == 45) refl))
has_values _ _ _ _ (SetPlan.engine e v) = rw v.2 (engine_value v.0 v.1 (no_hyphen v.0 v.3 (v.0 == 45) refl))

plan_by : (rows : List Row) (workers groups engine : List ℕ) (plan : Plan) → HasValues rows workers groups engine
    → IsPlanIn rows plan → IsPlanBy workers groups engine plan
plan_by rows workers groups engine plan has is = record {
  workers = sym (number_is 1 MAX_WORKERS rows (codes "workers") workers plan.workers has.workers is.workers);
  groups = is.groups.1 ∙ ap Dealt (sym (number_is 1 MAX_GROUPS rows (codes "groups") groups is.groups.0 has.groups is.groups.2));
  engine = sym (ap (option_and_then engine_called) has.engine) ∙ is.engine;
}

pub plans_named : (arguments : List (List ℕ)) (workers groups engine : List ℕ) (request : Request)
    → SetPlan arguments workers groups engine → Asks arguments request → IsPlanBy workers groups engine request.plan
plans_named arguments workers groups engine request set asks =
    plan_by (matches_of program arguments) workers groups engine request.plan (has_values arguments workers groups engine set) asks.named.plan
