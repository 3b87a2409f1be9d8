use Rattle.std.proofs.Common.{◌≡◌, ◌+◌, ◌++◌, [], Err, All, refl, rules, arith, drop, subst, sym}
use Rattle.std.proofs.Common.{ap, ◌∙◌, append-nil}
use Rattle.std.proofs.lemmas.List.{drop_all}
use Rattle.numbered.specs.Words.{key_in}
use Rattle.dif_machine.specs.Machine.{IsWithin}
use Rattle.dif_codegen.specs.Meaning.{key_of_objects}
use Rattle.shard_queue.proofs.Lists.{drop_next}
use Rattle.replay_core.specs.Vocabulary.{Has, with}
use Rattle.replay_core.specs.Steps.Evaluation.{IsMadeKey}
use Rattle.replay_core.specs.WordStore.{words_seen}
use Rattle.replay_core.proofs.KeyLemmas.{part_faults, part_further, within_more}
use Rattle.replay_core.proofs.StateLemmas.{stays_then}
use Rattle.replay_core.proofs.statements.objects.run_for_key.Goals as goal

pub loop-object-preserved : goal.loop-object-preserved
loop-object-preserved c =
    let i = c.loop-object.object-index in
    let so_far = c.loop-object.invariant in
    let all = c.args.objects.now in
    let f = c.loop-object.state.firing.now in
    let item = c.object-item.result in
    let old = c.loop-object.state.store.now in
    let new = c.run.new.self in
    let words = c.loop-object.key.items in
    let pushed = c.in_ok-push.ensures.items in
    let cut = drop_next all i item (search rules) (sym c.object-item.is) in
    record {
      stays = stays_then words_seen c.args.state.now c.loop-object.state _ so_far.stays
          (record { firing = refl; store = refl; at = c.in_ok-word.ensures.at; others = c.in_ok-word.ensures.others });
      within = subst (All (IsWithin new.texts)) (sym pushed) (within_more old.texts new.texts c.in_ok-word.ensures.kept words c.in_ok-word.word so_far.within c.in_ok-word.ensures.within);
      parts = ap (λ ws. with (key_of_objects f (drop (i + 1) all) (words_seen new).present) (λ key. Has (key_in new.texts ws ++ key))) pushed
          ∙ part_further old.texts new.texts c.in_ok-word.ensures.kept f (drop i all) (drop (i + 1) all) item words c.in_ok-word.word (words_seen old).present (words_seen new).present
          cut so_far.within c.in_ok-word.ensures.meets
          ∙ so_far.parts;
    }

pub returns-clause-meets : goal.returns-clause-meets
returns-clause-meets c =
    let i = c.loop-object.object-index in
    let all = c.args.objects.now in
    let f = c.loop-object.state.firing.now in
    let store = c.loop-object.state.store.now in
    let words = c.loop-object.key.items in
    let vars = (words_seen store).present in
    let none : drop i all ≡ [] = drop_all i all (omega arith) in
    record {
      stays = c.loop-object.invariant.stays;
      made = sym c.loop-object.invariant.parts
          ∙ ap (λ os. with (key_of_objects f os vars) (λ key. Has (key_in store.texts words ++ key))) none
          ∙ ap (λ k. Has k vars) (append-nil (key_in store.texts words));
    }

pub returns-in_err-word-clause-meets : goal.returns-in_err-word-clause-meets
returns-in_err-word-clause-meets c =
    let i = c.loop-object.object-index in
    let all = c.args.objects.now in
    let f = c.loop-object.state.firing.now in
    let item = c.object-item.result in
    let old = c.loop-object.state.store.now in
    let new = c.run.new.self in
    let words = c.loop-object.key.items in
    let cut = drop_next all i item (search rules) (sym c.object-item.is) in
    let whole = key_of_objects c.args.state.now.firing.now all (words_seen c.args.state.now.store.now).present in
    let refused : c.from_residual.result ≡ Err c.in_err-word.field-0.0 = search rules in
    record {
      stays = stays_then words_seen c.args.state.now c.loop-object.state _ c.loop-object.invariant.stays
          (record { firing = refl; store = refl; at = c.in_err-word.ensures.at; others = c.in_err-word.ensures.others });
      made = subst (λ r. IsMadeKey whole r (key_in new.texts words) (words_seen new).present) (sym refused)
          (part_faults f (drop i all) (drop (i + 1) all) item (key_in old.texts words) (key_in new.texts words) _ whole (words_seen old).present (words_seen new).present cut c.in_err-word.ensures.meets c.loop-object.invariant.parts);
    }
