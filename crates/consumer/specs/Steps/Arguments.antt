-- The faults of arguments, as clap reports them.
use Rattle.std.specs.Prelude.{◌≡◌, ◌≢◌, List, false}
use Rattle.clap.specs.Words.{Row, Rule, kind_of, rule_of}
use Rattle.clap.specs.declared.builder.arg.Arg.{Arg}
use Rattle.consumer.specs.Vocabulary.{Error, DisplayHelp, OutOfMemory, UsageFault, Plan}
use Rattle.consumer.specs.declared.arguments.UsageFault.TheVariants.{Help, Usage, Memory}
use Rattle.consumer.specs.Arguments.{IsPlanIn}

-- an option with this rule, of the program and not of commands below it
abbrev pub HasRule : Rule → Arg → Type 0
HasRule rule arg = (rule_of arg ≡ rule) × (arg.global ≡ false)

-- one of the options has no such value
abbrev pub IsPlanFault : List Row → UsageFault → Type 0
IsPlanFault rows (Help e) = ⊥
IsPlanFault rows (Usage e) = (kind_of e ≢ DisplayHelp) × (kind_of e ≢ OutOfMemory)
    × ((plan : Plan) → ¬ IsPlanIn rows plan)
IsPlanFault rows Memory = Unit {0}

-- clap's error is reported as what it is
abbrev pub IsReportedAs : Error → UsageFault → Type 0
IsReportedAs error (Help e) = (e ≡ error) × (kind_of error ≡ DisplayHelp)
IsReportedAs error (Usage e) =
    (e ≡ error) × (kind_of error ≢ DisplayHelp) × (kind_of error ≢ OutOfMemory)
IsReportedAs error Memory = kind_of error ≡ OutOfMemory
