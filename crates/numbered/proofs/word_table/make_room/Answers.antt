use Rattle.std.specs.Prelude.{◌≡◌, ◌==◌, not, filter}
use Rattle.std.proofs.Common.{rules}
use Rattle.indexmap.proofs.CallerLemmas.{filter-RetainsPairs}
use Rattle.numbered.proofs.Indices.{words_kept}
use Rattle.numbered.proofs.word_table.make_room.Goals as goal

pub returns : goal.returns
returns c =
    let kept : c.retain.new.self.entries ≡ filter (λ e. not (e.1 == 0)) c.args.map.now.entries =
    filter-RetainsPairs _ _ _ (λ k v b w g call. search rules) _ _ c.retain.ensures.filtered in
    words_kept _ _ c.len.ensures.unique kept
