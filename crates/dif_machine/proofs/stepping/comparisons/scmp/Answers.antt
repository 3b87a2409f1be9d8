use Rattle.std.specs.Prelude.{◌≡◌, ℕ, List, Option, Some}
use Rattle.std.proofs.Common.{ap, refl, sym, ◌∙◌}
use Rattle.numbered.specs.Texts.{text_at}
use Rattle.dif_machine.specs.Vocabulary.{Text, Value}
use Rattle.dif_machine.proofs.Executing.{goes}
use Rattle.dif_machine.proofs.stepping.comparisons.scmp.Goals as goal

there : (x : Option Value) (texts all : List (List ℕ)) (n : ℕ) (bytes : List ℕ) → x ≡ Some (Text (text_at texts n)) → all ≡ texts → bytes ≡ text_at all n → x ≡ Some (Text bytes)
there x texts all n bytes is same e = is ∙ ap (λ ts. Some (Text (text_at ts n))) (sym same) ∙ ap (λ bytes. Some (Text bytes)) (sym e)

pub returns : goal.returns
returns c =
    let left = there _ _ _ _ _ c.text_number.ensures.is c.texts-texts.ensures c.text-left.ensures in
    let right = there _ _ _ _ _ c.text_number-2.ensures.is c.texts-texts.ensures c.text-right.ensures in
    λ o f. goes _ o f _ _ _ c.compare.ensures (λ index vars. rw (left, right, c.compare_texts-known.ensures) refl)
