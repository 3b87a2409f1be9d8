use Rattle.std.proofs.Common.{◌≡◌, arith, rules, sym, ap, subst, ◌∙◌}
use Rattle.std.proofs.lemmas.Grind.{common_steps}
use Rattle.d_values.specs.Storage.{as_kind}
use Rattle.numbered.specs.Tables.{key_of, word_in}
use Rattle.numbered.specs.Words.{word_of}
use Rattle.dif_machine.specs.Cells.{cell_key}
use Rattle.dif_machine.specs.Machine.{IsWithin, value_of}
use Rattle.dif_machine.proofs.Cells.{as_it_is, parts_words}
use Rattle.dif_machine.proofs.Holding.{keeps_refl}
use Rattle.dif_machine.proofs.lane_memory.LaneMemoryMemory.load_own.Goals as goal

pub returns : goal.returns
returns c =
    let texts = c.args._texts.now in
    let table = c.args.self.now.table in
    let thread = c.args.self.now.thread in
    let x = c.args.x in
    let key = c.args.key.now in
    let is : c.get-bits.result ≡ word_in table (cell_key thread x key) = c.get-bits.ensures.value ∙ ap (λ n. word_in table (key_of thread n key)) c.cell.ensures in
    let word = c.of.ensures ∙ ap (word_of x.kind) is in
    record {
      kept = keeps_refl texts;
      same = first_of (search rules, cc, grind (arith, common_steps));
      word = record {
        is = ap (value_of texts) word ∙ as_it_is texts x.kind (word_in table (cell_key thread x key))
            ∙ ap (λ ws. as_kind x.kind (value_of texts (word_of x.kind (word_in table (cell_key thread x ws))))) (sym (parts_words texts c.requires.distinct key c.requires.within));
        within = subst (IsWithin texts) (sym word) (c.requires.over.0.values thread x key);
      };
    }
