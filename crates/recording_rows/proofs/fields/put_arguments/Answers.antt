use Rattle.std.proofs.Common.{◌≡◌, ◌+◌, ◌++◌, ◌∷◌, [], ℕ, List, None, All, ap, get_or, map, subst, sym, take, ◌∙◌}
use Rattle.std.proofs.lemmas.List.{map-append, take_more}
use Rattle.std.proofs.lemmas.List.Elements.{All-push}
use Rattle.recording_rows.specs.Steps.Rows.{IsArgument, after_commas, argument_text}
use Rattle.recording_rows.proofs.Pieces.{put_more}
use Rattle.recording_rows.proofs.fields.put_arguments.Goals as goal

pub loop-argument-preserved : goal.loop-argument-preserved
loop-argument-preserved c =
    let i = c.loop-argument.argument-index in
    let xs = c.args.arguments.now in
    let old = c.args.out.now.items in
    let one = take_more xs i None c.loop-argument-test.true in
    let more : map argument_text (take (i + 1) xs) ≡ map argument_text (take i xs) ++ argument_text (get_or xs i None) ∷ [] =
    ap (map argument_text) one ∙ map-append argument_text (take i xs) (get_or xs i None ∷ []) in (
      put_more old _ _ (map argument_text (take i xs)) (argument_text (get_or xs i None) ∷ []) c.loop-argument.invariant.0 c.in_ok-put_argument.ensures.bytes
          ∙ ap (λ (l : List (List ℕ)). old ++ after_commas l) (sym more),
      subst (All IsArgument) (sym one) (All-push IsArgument (take i xs) (get_or xs i None) c.loop-argument.invariant.1 c.put_argument.ensures.fits),
    )
