use Rattle.std.proofs.Common.{◌≡◌, ◌∙◌, ◌++◌, ◌∷◌, ◌+◌, ◌-◌, [], ap, ap₂, arith, length, sym}
use Rattle.std.proofs.lemmas.List.{get_or_default}
use Rattle.replay_core.specs.declared.selection.clause_indices.Repeat.{Repeat}
use Rattle.replay_core.proofs.RepeatLemmas.{once_more}
use Rattle.replay_core.proofs.selection.clause_indices.ClauseIndices.add.Goals as goal

pub returns-then-last-lt4294967295 : goal.returns-then-last-lt4294967295
returns-then-last-lt4294967295 c =
    let all = c.self.inside.repeats.items in
    let i = c.len-count.result - 1 in
    let len : length all ≡ i + 1 = let count = c.len-count.ensures in let ok = c.self.inside.repeats.ok.0 in omega arith in
    let last = c.index_mut.result.now in
    let same : last ≡ c.index-last.result.now =
    c.index_mut.ensures.value ∙ get_or_default all i last c.index-last.result.now (omega arith) ∙ sym c.index-last.ensures in
    let index : last.index ≡ c.args.index = ap (λ (r : Repeat). r.index) same ∙ c.if-last-index.true in
    once_more all i last len c.index_mut.ensures.value ∙ ap₂ (λ l p. l ++ p ∷ []) c.self.view_is index
