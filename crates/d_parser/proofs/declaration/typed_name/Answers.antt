use Rattle.std.proofs.Common.{◌≡◌, sym, ◌∙◌}
use Rattle.std.proofs.Common.{refl}
use Rattle.d_parser.specs.Steps.ReadingScripts.{spelled_word}
use Rattle.d_parser.proofs.Steps.{typed_some, typed_none}
use Rattle.d_parser.proofs.declaration.typed_name.Goals as goal

pub returns-in_ok-name-in-Some : goal.returns-in_ok-name-in-Some
returns-in_ok-name-in-Some c =
    typed_some c.args.tokens.now c.split_run.result.0.now c.split_run.result.1.now c.name-item.result c.in-Some.declared c.split_run.ensures.words c.split_run.ensures.later c.in-len1-up.len_at_least c.name-item.is (sym c.in-Some.ensures)
    ∙ (let word : spelled_word c.name-item.result.kind ≡ c.in_ok-name-in-Some.name = (let h = c.in_ok-name-in-Some.ensures.ok in cc) in rw word refl)

pub returns-in-None : goal.returns-in-None
returns-in-None c =
    rw c.syntax_at-in-None.ensures
    (typed_none c.args.tokens.now c.split_run.result.0.now c.name-item.result c.split_run.ensures.words c.in-len1-up.len_at_least c.name-item.is (sym c.in-None.ensures))
