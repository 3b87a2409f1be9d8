use Rattle.std.specs.Prelude.{◌≡◌, ◌≤◌, List, length}
use Rattle.std.proofs.Common.{subst, ◌∙◌}
use Rattle.std.proofs.lemmas.List.Elements.{All-head, All-tail}
use Rattle.std.proofs.lemmas.Result.{on_err_weaker, on_ok_weaker}
use Rattle.d_values.proofs.Storing.{on_either}
use Rattle.numbered.specs.Tables.{key_of, with_word, word_in}
use Rattle.numbered.specs.declared.word.Word.{Word}
use Rattle.numbered.specs.Words.{bits_of, word_of}
use Rattle.dif_machine.specs.Cells.{cell_key, locals_in, words_of}
use Rattle.dif_machine.specs.Machine.{IsWithin, value_of}
use Rattle.dif_machine.proofs.Cells.{beside_same, beside_set, kind_word, own_set, table_same, table_set}
use Rattle.dif_machine.proofs.lane_memory.LaneMemoryMemory.store_own.Goals.{After-set}
use Rattle.dif_machine.proofs.lane_memory.LaneMemoryMemory.store_own.Goals as goal

few : (c : After-set) → length c.args.key.now ≤ 8
few c = subst (λ (ws : List Word). length ws ≤ 8) c.words-few.ensures.words c.words-few.ensures.few

kind_is : (c : After-set) → word_of c.args.x.kind (bits_of c.args.word) ≡ c.args.word
kind_is c = kind_word c.args._texts.now c.args.x.kind c.args.word c.requires.kind

-- the cell that is set
is : (c : After-set) → with_word (word_in c.args.self.now.table) (key_of c.args.self.now.thread c.cell.result c.args.key.now) c.bits.result ≡ with_word (word_in c.args.self.now.table) (cell_key c.args.self.now.thread c.args.x c.args.key.now) (bits_of c.args.word)
is c i = with_word (word_in c.args.self.now.table) (key_of c.args.self.now.thread (c.cell.ensures i) c.args.key.now) (c.bits.ensures i)

pub returns-clause-over : goal.returns-clause-over
returns-clause-over c texts distinct over all =
    let old = c.args.self.now in
    let table = c.set.new.self in
    let within = All-head (IsWithin texts) c.args.word c.args.key.now all in
    let keyed = All-tail (IsWithin texts) c.args.word c.args.key.now all in (
      on_either c.set.result c.set.ensures.ok c.set.ensures.err
          (λ set. table_set texts old.table table old.thread c.args.x c.args.key.now c.args.word distinct over.0 (few c) keyed within (kind_is c) (set ∙ is c))
          (λ same. table_same texts old.table table same over.0),
      over.1,
    )

pub returns-clause-stores : goal.returns-clause-stores
returns-clause-stores c =
    let texts = c.args._texts.now in
    let old = c.args.self.now in
    let table = c.set.new.self in
    record {
      ok = on_ok_weaker c.set.result (λ set i. record {
        locals = locals_in texts old.locals.items;
        own = own_set texts old.table table old.thread c.args.x c.args.key.now c.args.word c.requires.distinct c.requires.over.0 (few c) c.requires.keyed c.requires.within (kind_is c) (set ∙ is c) i;
      }) c.set.ensures.ok;
      err = on_err_weaker c.set.result (λ same i. record {
        locals = locals_in texts old.locals.items;
        own = λ y k. value_of texts (word_of y.kind (same i (cell_key old.thread y (words_of texts k))));
      }) c.set.ensures.err;
      beside = on_either c.set.result c.set.ensures.ok c.set.ensures.err
          (λ set. beside_set old.table table old.thread c.args.x c.args.key.now (bits_of c.args.word) (set ∙ is c))
          (λ same. beside_same old.table table old.thread same);
    }
