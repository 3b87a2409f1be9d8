use Rattle.std.proofs.Common.{rules, w64}
use Rattle.std.proofs.lemmas.Int.{to_z-of_z}
use Rattle.aggregations.specs.Table.{key_made}
use Rattle.aggregations.proofs.TableLemmas.{slot_adds}
use Rattle.aggregations.proofs.table.AggTable.add_words.Goals as goal

pub returns : goal.returns
returns c = slot_adds c.self.inside.aggregations.items c.args.self.now c.args.agg c.index_mut.result.now c.add_words.new.self (key_made c.args.made) c.args.arg c.add_words.result c.self.view_is c.requires.agg c.index_mut.ensures.value (rw (to_z-of_z w64 c.args.arg (search rules)) at c.add_words.ensures)
