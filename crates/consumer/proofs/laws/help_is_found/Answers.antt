use Rattle.consumer.proofs.CommandLine.{help_requested}
use Rattle.consumer.proofs.laws.help_is_found.Goals as goal

pub returns : goal.returns
returns c = help_requested
