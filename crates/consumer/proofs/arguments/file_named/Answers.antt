use Rattle.std.proofs.Common.{◌∙◌, ap, Some}
use Rattle.clap.specs.Words.{found_of}
use Rattle.consumer.proofs.Options.{file_read}
use Rattle.consumer.proofs.arguments.file_named.Goals as goal

pub returns-in_ok-from_str-in-Some : goal.returns-in_ok-from_str-in-Some
returns-in_ok-from_str-in-Some c =
    ap Some c.in_ok-from_str-in-Some.ensures.ok ∙ file_read (found_of c.args.matches.now) _ c.in-Some.ensures

pub returns-in-None : goal.returns-in-None
returns-in-None c = file_read (found_of c.args.matches.now) _ c.in-None.ensures
