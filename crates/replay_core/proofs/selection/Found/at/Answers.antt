use Rattle.std.proofs.Common.{◌≡◌, ◌-◌, ◌∙◌, List, ℕ, Some, ap, arith, get_or, map, subst, sym}
use Rattle.std.proofs.Common.{slice_get, suc}
use Rattle.replay_core.specs.Selecting.{list_at, selected_in}
use Rattle.replay_core.proofs.SelectionLemmas.{row_selected}
use Rattle.replay_core.proofs.selection.Found.at.Goals as goal

pub returns-then-row-len : goal.returns-then-row-len
returns-then-row-len c =
    let s = c.self.inside in
    let i = c.args.index - 1 in
    let after : suc i ≡ c.args.index = omega arith in
    let row = row_selected s.lists s.begin s.end (λ p. get_or s.by_probe.items p 0) s.firings.indices i c.index_of.result c.index_of.ensures.index in
    let list : c.list_of-list.result ≡ get_or s.by_probe.items c.index_of.result 0 =
    c.list_of-list.ensures ∙ ap (λ (l : List ℕ). get_or l c.index_of.result 0) c.deref.ensures.value in
    let is = c.at-then-row-len.ensures ∙ ap (list_at s.lists) list in
    sym (ap (λ (all : List (List ℕ)). slice_get all c.args.index) (sym c.self.view_is)
    ∙ subst (λ n. slice_get (selected_in s.lists s.begin (map (λ p. get_or s.by_probe.items p 0) s.firings.indices) s.end) n ≡ Some c.at-then-row-len.result.now) after (row ∙ ap Some (sym is)))
