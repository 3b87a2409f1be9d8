use Rattle.std.proofs.Common.{◌≡◌, ◌++◌, All, map, take}
use Rattle.recording_rows.specs.Steps.Rows.{IsArgument, after_commas, argument_text}
use Rattle.recording_rows.proofs.fields.put_arguments.Given as goal

abbrev pub invariant-loop-argument : goal.invariant-loop-argument
invariant-loop-argument l =
    (l.out.items ≡ l.initial.out.items ++ after_commas (map argument_text (take l.argument-index l.arguments)))
    × All IsArgument (take l.argument-index l.arguments)
