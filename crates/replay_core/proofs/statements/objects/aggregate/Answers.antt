use Rattle.std.specs.Prelude.{◌≡◌, ◌∷◌, ◌++◌, [], FitsSigned}
use Rattle.std.specs.Int.{w64}
use Rattle.std.proofs.Common.{refl, rules, subst, sym, ap, ◌∙◌}
use Rattle.std.proofs.lemmas.Int.{to_z-of_z}
use Rattle.aggregations.specs.Table.{StandsFor, contribution}
use Rattle.d_types.specs.Clauses.{argument_by}
use Rattle.d_types.specs.Expressions.{Has}
use Rattle.numbered.specs.Words.{key_in}
use Rattle.dif_codegen.specs.Meaning.{by_objects}
use Rattle.replay_core.specs.Seen.{piece_seen}
use Rattle.replay_core.specs.WordStore.{words_seen}
use Rattle.replay_core.proofs.EffectLemmas.{adds}
use Rattle.dif_machine.proofs.Holding.{key_kept}
use Rattle.replay_core.proofs.StateLemmas.{stays_then}
use Rattle.replay_core.proofs.statements.objects.aggregate.Goals as goal

pub returns-clause-effect : goal.returns-clause-effect
returns-clause-effect c =
    let f = c.args.state.now.firing.now in
    let by = by_objects f in
    let old = c.args.state.now.store.now in
    let keyed = c.run_for_key.new.state in
    let given = c.run_for_argument.new.state in
    let words = c.run_for_key.new.key.items in
    let number = c.in_ok-given.given in
    let meets = c.in_ok-hash.ensures.meets in
    let between = (words_seen keyed.store.now).present in
    let after = (words_seen given.store.now).present in
    let key = key_in c.texts.result.now c.deref.result.now in
    let same_key : key ≡ key_in keyed.store.now.texts words =
    ap (λ t. key_in t c.deref.result.now) (c.texts.ensures ∙ c.machine.ensures) ∙ ap (key_in given.store.now.texts) c.deref.ensures.value
    ∙ key_kept keyed.store.now.texts given.store.now.texts c.in_ok-given.ensures.kept words c.in_ok-hash.ensures.within in
    let fits : FitsSigned w64 number = search rules in
    let is_key : by.key c.args.keys.now (words_seen old).present ≡ Has key between =
    meets.made ∙ ap (λ k. Has k between) (sym same_key) in
    let is_given : argument_by by c.args.argument.now between ≡ Has number after =
    subst (λ s. argument_by (by_objects s.now) c.args.argument.now between ≡ Has number after) meets.stays.firing c.in_ok-given.ensures.meets.1 in (
      stays_then words_seen c.args.state.now given _
          (stays_then words_seen c.args.state.now keyed given meets.stays c.in_ok-given.ensures.meets.0)
          (record { firing = refl; store = refl; at = refl; others = refl }),
      adds f.number c.args.index (by.key c.args.keys.now (words_seen old).present) (argument_by by c.args.argument.now) key number
          (piece_seen c.args.piece.now) c.add_words.new.self between after is_key is_given c.in_ok-add_words.ensures.functions
          (λ before stood. subst (λ y. StandsFor c.add_words.new.self (before ++ contribution c.args.index key y ∷ [])) (to_z-of_z w64 number fits) (c.in_ok-add_words.ensures.ok before stood)),
    )
