use Rattle.std.proofs.Common.{◌≡◌, ◌-◌, ◌++◌, ℕ, List, replicate, length, ap, sym, ◌∙◌}
use Rattle.std.proofs.Common.{append_assoc}
use Rattle.std.proofs.lemmas.List.{take-replicate, length-replicate}
use Rattle.std.proofs.lemmas.Result.{on_ok_weaker}
use Rattle.report.proofs.histograms.put_signs.Goals as goal

pub returns : goal.returns
returns c =
    let signs : List ℕ = replicate {A = ℕ} c.args.signs 64 in
    let long : length signs ≡ c.args.signs = length-replicate {A = ℕ} c.args.signs 64 in
    let front : c.extend_from_slice.new.self.items ≡ c.args.out.now.items ++ signs =
    c.in_ok-extend_from_slice.ensures.items ∙ ap (λ l. c.args.out.now.items ++ l) (take-replicate c.args.signs 40 64 c.requires) in
    on_ok_weaker c.put_spaces.result (λ is. is ∙ ap (λ l. l ++ replicate (40 - c.args.signs) 32) front ∙ append_assoc c.args.out.now.items signs (replicate (40 - c.args.signs) 32)
    ∙ ap (λ n. c.args.out.now.items ++ (signs ++ replicate (40 - n) 32)) (sym long)) c.put_spaces.ensures
