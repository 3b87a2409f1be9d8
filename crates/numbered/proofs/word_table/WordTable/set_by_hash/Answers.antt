use Rattle.std.proofs.Common.{ap, ◌∙◌}
use Rattle.numbered.specs.Tables.{word_in}
use Rattle.numbered.proofs.Indices.{words_set}
use Rattle.numbered.proofs.word_table.WordTable.set_by_hash.Goals as goal

pub returns : goal.returns
returns c = record {
  ok = words_set c.args.self.now _ _ _ c.args.word (c.make_room.ensures ∙ ap word_in c.self.view_is) c.in_ok-index.ensures.updates.0;
  err = tt;
}
