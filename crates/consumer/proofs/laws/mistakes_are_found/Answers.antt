use Rattle.consumer.proofs.CommandLine.{mistaken}
use Rattle.consumer.proofs.laws.mistakes_are_found.Goals as goal

pub returns : goal.returns
returns c = mistaken
