use Rattle.std.proofs.Common.{sym}
use Rattle.d_parser.proofs.Types.{type_read}
use Rattle.d_parser.proofs.words.type_of.Goals as goal

pub returns-in-len1-up : goal.returns-in-len1-up
returns-in-len1-up c =
    rw (c.type_from.ensures, c.kind_of.ensures)
    (sym (type_read c.args.words.now c.first-item.result c.in-len1-up.len_at_least c.first-item.is))
