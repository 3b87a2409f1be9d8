use Rattle.std.proofs.lemmas.Option.{IfSome_then}
use Rattle.firing_reader.proofs.PlainArguments.{empty_end, zeros_end}
use Rattle.firing_reader.proofs.plain.arguments.after_alike.Goals as goal

pub returns-in-48 : goal.returns-in-48
returns-in-48 c = IfSome_then c.after_last.result c.after_last.ensures (λ rest h. zeros_end c.args.count c.args.bytes.now rest.now c.requires.least c.requires.most h)

pub returns-in-44 : goal.returns-in-44
returns-in-44 c = IfSome_then c.after_last-in-44.result c.after_last-in-44.ensures (λ rest h. empty_end c.args.count c.args.bytes.now rest.now c.requires.least c.requires.most h)
