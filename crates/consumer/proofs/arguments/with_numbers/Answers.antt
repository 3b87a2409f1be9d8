use Rattle.std.proofs.Common.{◌≡◌, ◌∙◌, Option, Some, ap, rules}
use Rattle.std.specs.Prelude.{pos}
use Rattle.clap.specs.Words.{Rule, rule_of}
use Rattle.clap.specs.declared.builder.arg.Arg.{Arg}
use Rattle.clap.specs.declared.builder.value_parser.ValueParser.{ValueParser}
use Rattle.consumer.specs.Vocabulary.{Signed}
use Rattle.consumer.proofs.arguments.with_numbers.Goals as goal

pub returns : goal.returns
returns c rule has =
    let r = c.value_parser.result in
    let value : r.value_parser ≡ Some (Signed (pos 1) (pos c.args.most)) = search rules in (
      ap rule_of c.value_parser.ensures.others ∙ ap (λ (v : Option ValueParser). rule_of (record c.args.option { value_parser = v })) value
          ∙ ap (λ (r : Rule). record r { parser = Some (Signed (pos 1) (pos c.args.most)) }) has.0,
      ap (λ (a : Arg). a.global) c.value_parser.ensures.others ∙ has.1,
    )
