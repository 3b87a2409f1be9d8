use Rattle.std.proofs.Common.{ap}
use Rattle.numbered.specs.Tables.{key_of, word_in}
use Rattle.numbered.proofs.Indices.{words_set}
use Rattle.numbered.proofs.word_table.WordTable.set.Goals as goal

pub returns-then-is_at : goal.returns-then-is_at
returns-then-is_at c =
    let key = key_of c.args.first c.args.second c.args.tuple.now in
    record { ok = words_set c.args.self.now _ _ key c.args.word (ap word_in c.self.view_is) (c.put.ensures key (c.is_at.ensures c.if-is_at.true)).0; err = tt }
