use Rattle.consumer.proofs.Options.{ok_with_option, with_option}
use Rattle.consumer.specs.Arguments.{bare}
use Rattle.consumer.proofs.arguments.command.Goals as goal

pub returns : goal.returns
returns c =
    let one = with_option _ _ _ bare _ c.in_ok-command.ensures c.script_option.ensures c.bare_command-command.ensures in
    let two = with_option _ _ _ _ _ c.in_ok-command-2.ensures c.workers_option.ensures one in
    let three = with_option _ _ _ _ _ c.in_ok-command-3.ensures c.groups_option.ensures two in
    ok_with_option _ _ _ _ _ c.arg-4.ensures c.engine_option.ensures three
