-- Under one plan replays run alike.
use Rattle.std.proofs.Common.{◌≡◌, ⊎_elim, ℕ, ◌<◌, ◌≤◌, List, length, ap, sym, ◌∙◌, subst}
use Rattle.std.proofs.Common.{arith}
use Rattle.std.specs.Prelude.{ℤ, Some, Ok, Err, refl}
use Rattle.std.specs.Cmp.{int_cmp_total}
use Rattle.replay_core.specs.{Exit.firings_over, Groups.numbers_by_group}
use Rattle.replay_core.specs.Layouts.{LayoutMeant, IsDeterministic}
use Rattle.report.proofs.Unique.{same_list}
use Rattle.shard_queue.specs.Faults.{thread_fault, IsListFault}
use Rattle.shard_queue.specs.Groupings.{grouping_in_turn}
use Rattle.shard_queue.specs.Threads.{AreThreads, items_of}
use Rattle.shard_queue.specs.declared.fault.GroupFault.TheVariants.{TooMany}
use Rattle.consumer.specs.declared.refusal.Refusal.{Refusal}
use Rattle.consumer.specs.declared.refusal.Refusal.TheVariants.{Lex, Parse, Typing, Trace, Group}
use Rattle.consumer.specs.declared.refusal.Refusal.TheVariants.{Memory}
use Rattle.consumer.specs.Plans.{IsGroupedBy, IsMisgrouped}
use Rattle.consumer.specs.Replaying.{IsReplay, ran_in}
use Rattle.consumer.specs.Vocabulary.{Dealt, Firing, GroupFault, GroupPlan, Grouping, Lists, Plan}
use Rattle.consumer.specs.Vocabulary.{Replayed}
use Rattle.consumer.proofs.Agreeing.{apart}
use Rattle.consumer.proofs.Answers.{same_meaning}

-- ---- one grouping, or one first fault

same_threads : (trace : List Firing) (xs ys : List ℤ) → AreThreads trace xs → AreThreads trace ys → xs ≡ ys
same_threads trace xs ys a b = same_list int_cmp_total xs ys a.ascending b.ascending (λ t there. (b.same t).1 ((a.same t).0 there)) (λ t there. (a.same t).1 ((b.same t).0 there))

pub one_grouping : (plan : GroupPlan) (trace : List Firing) (g h : Grouping) → IsGroupedBy plan trace g → IsGroupedBy plan trace h → g ≡ h
one_grouping (Dealt n) trace g h a b = a.2 ∙ ap (grouping_in_turn n) (same_threads trace a.0 b.0 a.1 b.1) ∙ sym b.2
one_grouping (Lists lists) trace g h a b = a.is ∙ sym b.is

-- too many lists, or few and this fault of their threads
abbrev IsMany : List (List ℤ) → GroupFault → Type 0
IsMany lists e = (4096 < length lists) × (e ≡ TooMany)

abbrev IsFew : List (List ℤ) → List Firing → GroupFault → Type 0
IsFew lists trace e = (length lists ≤ 4096) × ((threads : List ℤ) × AreThreads trace threads × (thread_fault threads lists ≡ Some e))

one_fault : (lists : List (List ℤ)) (trace : List Firing) (e f : GroupFault) → IsListFault lists trace e → IsListFault lists trace f → e ≡ f
one_fault lists trace e f a b =
    ⊎_elim
    (λ (x : IsMany lists e). ⊎_elim
    (λ (y : IsMany lists f). x.1 ∙ sym y.1)
    (λ (y : IsFew lists trace f). let many = x.0 in let few = y.0 in absurd (omega arith)) b)
    (λ (x : IsFew lists trace e). ⊎_elim
    (λ (y : IsMany lists f). let few = x.0 in let many = y.0 in absurd (omega arith))
    (λ (y : IsFew lists trace f).
    let first = x.1.2 in
    let second : thread_fault x.1.0 lists ≡ Some f = subst (λ threads. thread_fault threads lists ≡ Some f) (same_threads trace y.1.0 x.1.0 y.1.1 x.1.1) y.1.2 in
    cc) b)
    a

pub one_misgrouping : (plan : GroupPlan) (trace : List Firing) (e f : GroupFault) → IsMisgrouped plan trace e → IsMisgrouped plan trace f → e ≡ f
one_misgrouping (Dealt n) trace e f a b = absurd a
one_misgrouping (Lists lists) trace e f a b = one_fault (items_of lists.items) trace e f a b

pub not_both : (plan : GroupPlan) (trace : List Firing) (g : Grouping) (e : GroupFault) → IsGroupedBy plan trace g → IsMisgrouped plan trace e → ⊥
not_both (Dealt n) trace g e a b = b
not_both (Lists lists) trace g e a b =
    ⊎_elim
    (λ (y : IsMany (items_of lists.items) e). let few = a.few in let many = y.0 in absurd (omega arith))
    (λ (y : IsFew (items_of lists.items) trace e).
    let first = a.faultless in
    let second : thread_fault a.threads (items_of lists.items) ≡ Some e = subst (λ threads. thread_fault threads (items_of lists.items) ≡ Some e) (same_threads trace y.1.0 a.threads y.1.1 a.fired) y.1.2 in
    absurd cc) b

-- ---- replays

module _ (shows : LayoutMeant) (script trace : List ℕ) (plan : Plan) where
  pub ran_alike : (a b : Replayed) → IsReplay shows script trace plan (Ok a) → IsReplay shows script trace plan (Ok b) → ran_in a ≡ ran_in b
  ran_alike a b first second =
      let x = first.carried in
      let y = second.carried in
      let meaning = same_meaning script x.0 y.0 x.2.accepted y.2.accepted in
      let read = x.2.reads in
      let read' = y.2.reads in
      let firings : x.1 ≡ y.1 = cc in
      let other : IsGroupedBy plan.groups x.1 y.3.grouping = subst (λ fs. IsGroupedBy plan.groups fs y.3.grouping) (sym firings) y.3.grouped in
      let groups = one_grouping plan.groups x.1 x.3.grouping y.3.grouping x.3.grouped other in
      x.3.ran ∙ ap (λ g. numbers_by_group g (firings_over x.0 x.1)) groups
      ∙ ap (λ m. numbers_by_group y.3.grouping (firings_over m x.1)) meaning
      ∙ ap (λ fs. numbers_by_group y.3.grouping (firings_over y.0 fs)) firings ∙ sym y.3.ran

  pub refused_alike : (e f : GroupFault) → IsReplay shows script trace plan (Err (Group e)) → IsReplay shows script trace plan (Err (Group f)) → e ≡ f
  refused_alike e f first second =
      let x = first.fault in
      let y = second.fault in
      let read = x.2.reads in
      let read' = y.2.reads in
      let firings : y.1 ≡ x.1 = cc in
      one_misgrouping plan.groups x.1 e f x.3 (subst (λ fs. IsMisgrouped plan.groups fs f) firings y.3)

  grouped_apart : (a : Replayed) (e : GroupFault) → IsReplay shows script trace plan (Ok a) → IsReplay shows script trace plan (Err (Group e)) → ⊥
  grouped_apart a e first second =
      let x = first.carried in
      let y = second.fault in
      let read = x.2.reads in
      let read' = y.2.reads in
      let firings : y.1 ≡ x.1 = cc in
      not_both plan.groups x.1 x.3.grouping e x.3.grouped (subst (λ fs. IsMisgrouped plan.groups fs e) firings y.3)

  -- where one replay answers, only memory makes another refuse
  pub memory_alone : IsDeterministic shows → (a : Replayed) (e : Refusal) → IsReplay shows script trace plan (Ok a) → IsReplay shows script trace plan (Err e) → e ≡ Memory
  memory_alone each a (Lex f) x y = absurd (apart shows each script trace plan plan a (Lex f) x y)
  memory_alone each a (Parse f) x y = absurd (apart shows each script trace plan plan a (Parse f) x y)
  memory_alone each a (Typing f) x y = absurd (apart shows each script trace plan plan a (Typing f) x y)
  memory_alone each a (Trace f) x y = absurd (apart shows each script trace plan plan a (Trace f) x y)
  memory_alone each a (Group f) x y = absurd (grouped_apart a f x y)
  memory_alone each a Memory x y = refl
