-- States that stay at their firing and at their thread.
use Rattle.std.proofs.Common.{◌≡◌, Contains, ap, refl, subst, sym, ◌∙◌}
use Rattle.replay_core.specs.declared.lanes.piece.Piece.{Piece}
use Rattle.replay_core.specs.declared.lanes.state.State.{State}
use Rattle.replay_core.specs.declared.lanes.store.Store.{Ghosts}
use Rattle.replay_core.specs.Effects.{HasTaken}
use Rattle.replay_core.specs.Evaluation.{Stays}
use Rattle.replay_core.specs.Threads.{StoreSeen}

module _ {S : Type 0} {G : Ghosts S} (seen : S → StoreSeen) where
  pub stays_refl : (s : State S G) → Stays seen s s
  stays_refl s = record { firing = refl; store = refl; at = refl; others = refl }

  pub stays_then : (old now new : State S G) → Stays seen old now → Stays seen now new → Stays seen old new
  stays_then old now new before after = record {
    firing = after.firing ∙ before.firing;
    store = after.store ∙ before.store;
    at = after.at ∙ before.at;
    others = after.others ∙ before.others;
  }

  pub number_stays : (old new : State S G) → Stays seen old new → new.firing.now.number ≡ old.firing.now.number
  number_stays old new stays = ap (λ f. f.now.number) stays.firing

  pub taken_still : (old new : State S G) (before after : Piece) → Stays seen old new → after.taken.items ≡ before.taken.items → HasTaken old before → HasTaken new after
  taken_still old new before after stays same has =
      subst (λ l. Contains l new.firing.now.number) (sym same) (subst (Contains before.taken.items) (sym (number_stays old new stays)) has)
