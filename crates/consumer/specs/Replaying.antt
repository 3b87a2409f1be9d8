-- What replay returns, under any plan.
use Rattle.std.specs.Prelude.{◌≡◌, ℕ, List, Result, Ok, Err, IfErr, IfOk, map, vec_len}
use Rattle.replay_core.specs.{Exit.firings_over, Layouts.LayoutMeant}
use Rattle.replay_core.specs.Groups.{IsAllBelow, SameItems, numbers_by_group}
use Rattle.consumer.specs.Vocabulary.{flat_map, number_of, Firing, ScriptMeant, Grouping, Plan}
use Rattle.consumer.specs.Vocabulary.{Replayed, Refusal, Group, Memory}
use Rattle.consumer.specs.Answer.{HasAnswer, IsRefusal, Denote, Output}
use Rattle.consumer.specs.Plans.{IsGroupedBy, IsMisgrouped}

-- ---- what it answers

abbrev pub output_of : Replayed → Output
output_of r = record { bytes = r.bytes.items; status = r.status }

-- What is returned has the answer's bytes and status. If it is a refusal there is no answer, unless
-- the plan or memory has a part in it.
abbrev pub IsAnswered : LayoutMeant → (script trace : List ℕ) → Result Replayed Refusal → Type 0
IsAnswered shows script trace (Ok r) = HasAnswer shows script trace (output_of r)
IsAnswered shows script trace (Err (Group fault)) = Unit {0}
IsAnswered shows script trace (Err Memory) = Unit {0}
IsAnswered shows script trace (Err e) =
    (m : ScriptMeant) (firings : List Firing) → ¬ Denote script trace m firings

-- a refusal in which the plan or memory has a part
abbrev pub IsOfPlan : Refusal → Type 0
IsOfPlan (Group fault) = Unit {0}
IsOfPlan Memory = Unit {0}
IsOfPlan e = ⊥

-- ---- why there is no answer

-- the first reason for which a plan gives no answer, its own last; or memory ran out
abbrev pub IsRefusalUnder : Plan → (script trace : List ℕ) → Refusal → Type 0
IsRefusalUnder plan script trace (Group fault) =
    (m : ScriptMeant) × (firings : List Firing) × Denote script trace m firings
    × IsMisgrouped plan.groups firings fault
IsRefusalUnder plan script trace Memory = Unit {0}
IsRefusalUnder plan script trace e = IsRefusal script trace e

-- ---- who ran what

-- for each group the numbers of the firings that ran
abbrev pub ran_in : Replayed → List (List ℕ)
ran_in r = map (λ group. group.items) r.ran.items

-- how a run over these firings of a trace was carried out
pub record IsCarriedOut (plan : Plan) (trace firings : List Firing) (r : Replayed) : Type 0 where
  pub grouping : Grouping
  pub grouped : IsGroupedBy plan.groups trace grouping
  -- each group was taken once, by one of the workers
  pub workers : vec_len r.by_worker ≡ plan.workers
  pub took : IsAllBelow grouping.count (flat_map (λ list. list.items) r.by_worker.items)
  -- each firing ran once, in its thread's group
  pub ran : ran_in r ≡ numbers_by_group grouping firings
  pub once : SameItems (flat_map (λ group. group) (ran_in r)) (map number_of firings)

-- how the run of what the script means over the trace was carried out
abbrev pub IsRunUnder : Plan → (script trace : List ℕ) → Replayed → Type 0
IsRunUnder plan script trace r =
    (m : ScriptMeant) × (firings : List Firing) × Denote script trace m firings
    × IsCarriedOut plan firings (firings_over m firings) r

-- ---- all of it

pub record IsReplay (shows : LayoutMeant) (script trace : List ℕ) (plan : Plan)
    (result : Result Replayed Refusal) : Type 0 where
  pub answer : IsAnswered shows script trace result
  pub fault : IfErr result (IsRefusalUnder plan script trace)
  pub carried : IfOk result (IsRunUnder plan script trace)
