-- Two replays give the same, under whatever plans.
use Rattle.std.proofs.Common.{◌≡◌, ◌⊎◌, ⊎_elim, inl, inr, ℕ, List}
use Rattle.std.specs.Prelude.{Ok, Err}
use Rattle.consumer.specs.declared.plan.Plan.{Plan}
use Rattle.consumer.specs.declared.plan.Replayed.{Replayed}
use Rattle.consumer.specs.declared.refusal.Refusal.{Refusal}
use Rattle.consumer.specs.Answer.{IsAnswer, without_line}
use Rattle.consumer.specs.Replaying.{IsOfPlan, IsReplay, output_of}
use Rattle.replay_core.specs.Layouts.{LayoutMeant, IsDeterministic}
use Rattle.consumer.proofs.Answers.{one_answer}
use Rattle.consumer.proofs.Refusing.{refusal_or_plan}

module _ (shows : LayoutMeant) (script trace : List ℕ) where
  pub shown_answers : (plan : Plan) (r : Replayed) → IsReplay shows script trace plan (Ok r) → IsAnswer shows script trace (Ok (output_of r))
  shown_answers plan r is = is.answer

  pub refusal_answers : (plan : Plan) (e : Refusal) → IsReplay shows script trace plan (Err e) → IsAnswer shows script trace (Err e) ⊎ IsOfPlan e
  refusal_answers plan e is = refusal_or_plan plan script trace e is.fault

module _ (shows : LayoutMeant) (each : IsDeterministic shows) (script trace : List ℕ) where
  pub shown_agree : (p q : Plan) (a b : Replayed) → IsReplay shows script trace p (Ok a) → IsReplay shows script trace q (Ok b)
      → (a.bytes.items ≡ b.bytes.items) × (a.status ≡ b.status)
  shown_agree p q a b x y =
      one_answer shows each.one script trace (Ok (output_of a)) (Ok (output_of b)) (shown_answers shows script trace p a x) (shown_answers shows script trace q b y)

  pub refusals_agree : (p q : Plan) (e f : Refusal) → IsReplay shows script trace p (Err e) → IsReplay shows script trace q (Err f)
      → (without_line e ≡ without_line f) ⊎ IsOfPlan e ⊎ IsOfPlan f
  refusals_agree p q e f x y = ⊎_elim
      (λ (first : IsAnswer shows script trace (Err e)). ⊎_elim
      (λ (second : IsAnswer shows script trace (Err f)). inl (one_answer shows each.one script trace (Err e) (Err f) first second))
      (λ (own : IsOfPlan f). inr (inr own)) (refusal_answers shows script trace q f y))
      (λ (own : IsOfPlan e). inr (inl own)) (refusal_answers shows script trace p e x)

  pub apart : (p q : Plan) (a : Replayed) (e : Refusal) → IsReplay shows script trace p (Ok a) → IsReplay shows script trace q (Err e) → IsOfPlan e
  apart p q a e x y = ⊎_elim
      (λ (answer : IsAnswer shows script trace (Err e)). absurd (one_answer shows each.one script trace (Ok (output_of a)) (Err e) (shown_answers shows script trace p a x) answer))
      (λ (own : IsOfPlan e). own) (refusal_answers shows script trace q e y)
