-- What the arguments of a program ask for.
use Rattle.std.specs.Prelude.{◌≡◌, ◌≢◌, ◌⊎◌, ◌∷◌, ◌++◌, ◌≤◌, ℕ, List, [], Option, Some, None}
use Rattle.std.specs.Prelude.{IfErr, IsSomeAnd, MatchResult, Result, codes, fold, if◌then◌else◌}
use Rattle.std.specs.Prelude.{option_and_then, option_map, pos, string_bytes, true}
use Rattle.clap.specs.Words.{App, IsAmong, Row, Rule, fault_of, first_of, kind_of, matches_of}
use Rattle.clap.specs.Words.{new_app, new_rule, one_of, takes, with_rule}
use Rattle.consumer.specs.Vocabulary.{bytes_eq, IsNumeral, digits_value, without_leading_plus}
use Rattle.consumer.specs.Vocabulary.{Signed, ErrorKind, DisplayHelp, OutOfMemory, InvalidValue}
use Rattle.consumer.specs.Vocabulary.{UnknownArgument, Request, UsageFault, EngineKind, Dif, Tree}
use Rattle.consumer.specs.Vocabulary.{Dealt, Plan, MAX_GROUPS, MAX_WORKERS}
use Rattle.consumer.specs.declared.arguments.UsageFault.TheVariants.{Help, Usage, Memory}

-- ---- the options

-- an option of one letter, whose value has one name in the help
abbrev pub option : (id : List ℕ) → (letter : ℕ) → Rule
option id letter = record (new_rule id) { short = Some letter; value_names = 1 }

-- one that has this value if it isn't given
abbrev pub option_or : (id : List ℕ) → (letter : ℕ) → (default : List ℕ) → Rule
option_or id letter default = record (option id letter) { defaults = default ∷ [] }

-- one whose value is a number from 1 to the most
abbrev pub number_option : (id : List ℕ) → (letter most : ℕ) → (default : List ℕ) → Rule
number_option id letter most default =
    record (option_or id letter default) { parser = Some (Signed (pos 1) (pos most)) }

abbrev pub options : List Rule
options = option (codes "script") 115
    ∷ number_option (codes "workers") 119 MAX_WORKERS (codes "4")
    ∷ number_option (codes "groups") 103 MAX_GROUPS (codes "16")
    ∷ option_or (codes "engine") 101 (codes "dif")
    ∷ []

-- a command of this name, which gets its arguments without that name
abbrev pub bare : App
bare =
    let app = new_app (codes "dreplay") in
    record app { top = record app.top { no_binary_name = true } }

-- the program
abbrev pub program : App
program = fold with_rule bare options

-- ---- their values in clap's matches

-- the file of -s
abbrev pub file_in : List Row → Option (List ℕ)
file_in rows = first_of (codes "script") rows

-- the engine of this name
abbrev pub engine_called : List ℕ → Option EngineKind
engine_called name =
    if bytes_eq name (codes "dif") then Some Dif
    else if bytes_eq name (codes "tree") then Some Tree else None

abbrev pub engine_in : List Row → Option EngineKind
engine_in rows = option_and_then engine_called (first_of (codes "engine") rows)

-- an option's value is this number, in decimal and in these bounds
abbrev pub IsNumberIn : (low high : ℕ) → List Row → (id : List ℕ) → ℕ → Type 0
IsNumberIn low high rows id n = IsSomeAnd (one_of id rows) (λ text.
    IsNumeral 10 (without_leading_plus text) × (digits_value 10 (without_leading_plus text) ≡ n)
    × (low ≤ n) × (n ≤ high))

-- the plan of -w, -g and -e
pub record IsPlanIn (rows : List Row) (plan : Plan) : Type 0 where
  pub workers : IsNumberIn 1 MAX_WORKERS rows (codes "workers") plan.workers
  pub groups : (n : ℕ) × (plan.groups ≡ Dealt n)
      × IsNumberIn 1 MAX_GROUPS rows (codes "groups") n
  pub engine : engine_in rows ≡ Some plan.engine

pub record IsRequestIn (rows : List Row) (request : Request) : Type 0 where
  pub file : option_map string_bytes request.file ≡ file_in rows
  pub plan : IsPlanIn rows request.plan

-- ---- arguments

-- clap finds no fault in the arguments, and they name the file and the plan
pub record Asks (arguments : List (List ℕ)) (request : Request) : Type 0 where
  pub accepted : fault_of program arguments ≡ []
  pub named : IsRequestIn (matches_of program arguments) request

-- the arguments name a plan
abbrev pub HasPlan : List (List ℕ) → Type 0
HasPlan arguments = (plan : Plan) × IsPlanIn (matches_of program arguments) plan

-- a mistake of this kind
abbrev pub IsMistake : ErrorKind → UsageFault → Type 0
IsMistake kind (Help e) = ⊥
IsMistake kind (Usage e) = kind_of e ≡ kind
IsMistake kind Memory = ⊥

-- the fault is one that clap finds in the arguments: help that they ask for, or a mistake; or clap
-- finds none, and they name no plan
abbrev pub IsFaultOf : List (List ℕ) → UsageFault → Type 0
IsFaultOf arguments (Help e) =
    (kind_of e ≡ DisplayHelp) × IsAmong DisplayHelp (fault_of program arguments)
IsFaultOf arguments (Usage e) = (kind_of e ≢ DisplayHelp) × (kind_of e ≢ OutOfMemory)
    × (IsAmong (kind_of e) (fault_of program arguments)
    ⊎ ((fault_of program arguments ≡ []) × ¬ HasPlan arguments))
IsFaultOf arguments Memory = Unit {0}

-- the arguments ask for this request, or for no run by this fault; if clap takes them and they
-- name a plan, it is memory alone
pub record AreRead (arguments : List (List ℕ)) (result : Result Request UsageFault) : Type 0 where
  pub exact : MatchResult result (Asks arguments) (IsFaultOf arguments)
  pub taken : takes program arguments ≡ true → HasPlan arguments → IfErr result (λ e. e ≡ Memory)

-- a hyphen and more
abbrev pub IsOption : List ℕ → Type 0
IsOption argument = (b : ℕ) × (rest : List ℕ) × (argument ≡ 45 ∷ b ∷ rest)

-- the arguments of a run: none for a bundle; -s and a file, in two or in one, for a script apart
pub data AskForRun : List (List ℕ) → Option (List ℕ) → Type 0 where
  bundle : AskForRun [] None
  script : (file : List ℕ) → ¬ IsOption file → AskForRun (codes "-s" ∷ file ∷ []) (Some file)
  joined : (b : ℕ) (rest : List ℕ) → b ≢ 61
      → AskForRun ((codes "-s" ++ b ∷ rest) ∷ []) (Some (b ∷ rest))

-- an argument that doesn't begin with a hyphen
abbrev pub IsOptionValue : List ℕ → Type 0
IsOptionValue argument = (b : ℕ) × (rest : List ℕ) × (argument ≡ b ∷ rest) × (b ≢ 45)

-- the arguments that set the workers, the groups or the engine, with the three values that these
-- then have
pub data SetPlan : List (List ℕ) → (workers groups engine : List ℕ) → Type 0 where
  workers : (w : List ℕ) → IsOptionValue w
      → SetPlan (codes "-w" ∷ w ∷ []) w (codes "16") (codes "dif")
  groups : (g : List ℕ) → IsOptionValue g
      → SetPlan (codes "-g" ∷ g ∷ []) (codes "4") g (codes "dif")
  engine : (e : List ℕ) → IsOptionValue e → SetPlan (codes "-e" ∷ e ∷ []) (codes "4") (codes "16") e

-- the plan with the workers, the groups and the engine that these values name
pub record IsPlanBy (w g e : List ℕ) (plan : Plan) : Type 0 where
  pub workers : plan.workers ≡ digits_value 10 (without_leading_plus w)
  pub groups : plan.groups ≡ Dealt (digits_value 10 (without_leading_plus g))
  pub engine : engine_called e ≡ Some plan.engine

-- the arguments that ask for help
pub data AsksHelp : List (List ℕ) → Type 0 where
  short : AsksHelp (codes "-h" ∷ [])
  long : AsksHelp (codes "--help" ∷ [])

-- mistakes, each of its kind: -s without a file, and an argument that is neither an option nor the
-- value of one
pub data Mistakes : List (List ℕ) → ErrorKind → Type 0 where
  no_file : Mistakes (codes "-s" ∷ []) InvalidValue
  stray : (argument : List ℕ) → ¬ IsOption argument → Mistakes (argument ∷ []) UnknownArgument
