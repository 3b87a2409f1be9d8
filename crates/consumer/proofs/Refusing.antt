-- Why a script is refused, and why the trace of an accepted script is.
use Rattle.std.proofs.Common.{◌≡◌, ◌⊎◌, inl, inr, List, ℕ, Err}
use Rattle.firing_reader.specs.declared.fault.TraceFault.{TraceFault}
use Rattle.firing_reader.specs.declared.fault.TraceFault.TheVariants as trace
use Rattle.firing_reader.specs.Trace.{trace_of}
use Rattle.d_parser.specs.Tree.{ItemTree}
use Rattle.d_types.specs.declared.fault.TypeFault.{TypeFault}
use Rattle.d_types.specs.declared.fault.TypeFault.TheVariants as types
use Rattle.d_types.specs.Typed.{ScriptMeant}
use Rattle.d_types.specs.TypedScripts.{IsCheckOf}
use Rattle.consumer.specs.declared.plan.Plan.{Plan}
use Rattle.firings.specs.declared.firing.Firing.{Firing}
use Rattle.replay_core.specs.Layouts.{LayoutMeant}
use Rattle.shard_queue.specs.declared.fault.GroupFault.{GroupFault}
use Rattle.shard_queue.specs.declared.fault.GroupFault.TheVariants as group
use Rattle.consumer.specs.declared.refusal.Refusal.{Refusal}
use Rattle.consumer.specs.declared.refusal.Refusal.TheVariants.{Group, Lex, Memory, Parse, Trace}
use Rattle.consumer.specs.declared.refusal.Refusal.TheVariants.{Typing}
use Rattle.consumer.specs.Answer.{IsRefusal, Denote}
use Rattle.consumer.specs.Plans.{IsMisgrouped}
use Rattle.consumer.specs.Refusals.{plain_refusal}
use Rattle.consumer.specs.Replaying.{IsAnswered, IsOfPlan, IsRefusalUnder, IsReplay}
use Rattle.consumer.specs.Steps.Judging.{IsJudged}
use Rattle.consumer.specs.Scripts.{HasTree, IsAccepted, IsUnread}
use Rattle.consumer.proofs.Answers.{no_run}

pub types_refused : (script : List ℕ) (items : List ItemTree) → HasTree script items → (e : TypeFault) → IsCheckOf items (Err e) → IsJudged script (Err (plain_refusal (Typing e)))
types_refused script items tree types.Memory h = tt
types_refused script items tree (types.GlobalAssignment name line) h = record { items = items; tree = tree; refused = h }
types_refused script items tree (types.Undeclared line) h = record { items = items; tree = tree; refused = h }
types_refused script items tree (types.Mismatch line) h = record { items = items; tree = tree; refused = h }
types_refused script items tree (types.Keys line) h = record { items = items; tree = tree; refused = h }
types_refused script items tree (types.AggregationRedefined line) h = record { items = items; tree = tree; refused = h }
types_refused script items tree (types.LquantizeBounds line) h = record { items = items; tree = tree; refused = h }
types_refused script items tree (types.PrintfArguments line) h = record { items = items; tree = tree; refused = h }
types_refused script items tree (types.ReadOnly line) h = record { items = items; tree = tree; refused = h }
types_refused script items tree (types.NoRegister line) h = record { items = items; tree = tree; refused = h }

pub unread_refused : (script : List ℕ) (e : Refusal) → (e ≡ Memory) ⊎ IsUnread script e → IsJudged script (Err e)
unread_refused script e (inl h) = rw h tt
unread_refused script (Lex f) (inr h) = h
unread_refused script (Parse f) (inr h) = h
unread_refused script (Typing f) (inr h) = absurd h
unread_refused script (Trace f) (inr h) = absurd h
unread_refused script (Group f) (inr h) = absurd h
unread_refused script Memory (inr h) = absurd h

-- ---- under a plan

pub refusal_or_plan : (plan : Plan) (script bytes : List ℕ) (e : Refusal) → IsRefusalUnder plan script bytes e → IsRefusal script bytes e ⊎ IsOfPlan e
refusal_or_plan plan script bytes (Lex f) is = inl is
refusal_or_plan plan script bytes (Parse f) is = inl is
refusal_or_plan plan script bytes (Typing f) is = inl is
refusal_or_plan plan script bytes (Trace f) is = inl is
refusal_or_plan plan script bytes (Group f) is = inr tt
refusal_or_plan plan script bytes Memory is = inr tt

answered : (shows : LayoutMeant) (script bytes : List ℕ) (plan : Plan) (e : Refusal) → IsRefusalUnder plan script bytes e → IsAnswered shows script bytes (Err e)
answered shows script bytes plan (Lex f) is = no_run script bytes (Lex f) is
answered shows script bytes plan (Parse f) is = no_run script bytes (Parse f) is
answered shows script bytes plan (Typing f) is = no_run script bytes (Typing f) is
answered shows script bytes plan (Trace f) is = no_run script bytes (Trace f) is
answered shows script bytes plan (Group f) is = tt
answered shows script bytes plan Memory is = tt

pub refused : (shows : LayoutMeant) (script bytes : List ℕ) (plan : Plan) (e : Refusal) → IsRefusalUnder plan script bytes e → IsReplay shows script bytes plan (Err e)
refused shows script bytes plan e is = record {
  answer = answered shows script bytes plan e is;
  fault = is;
  carried = tt;
}

pub out_of_memory : (shows : LayoutMeant) (script bytes : List ℕ) (plan : Plan) → IsReplay shows script bytes plan (Err Memory)
out_of_memory shows script bytes plan = refused shows script bytes plan Memory tt

-- whatever the trace is
pub script_refused : (script bytes : List ℕ) (plan : Plan) (e : Refusal) → IsJudged script (Err e) → IsRefusalUnder plan script bytes e
script_refused script bytes plan (Lex f) h = h
script_refused script bytes plan (Parse f) h = h
script_refused script bytes plan (Typing f) h = h
script_refused script bytes plan (Trace f) h = absurd h
script_refused script bytes plan (Group f) h = absurd h
script_refused script bytes plan Memory h = tt

pub trace_refused : (script bytes : List ℕ) (plan : Plan) (m : ScriptMeant) → IsAccepted script m → (e : TraceFault) → (e ≡ trace.Memory) ⊎ (trace_of bytes ≡ Err e) → IsRefusalUnder plan script bytes (plain_refusal (Trace e))
trace_refused script bytes plan m accepted trace.Memory h = tt
trace_refused script bytes plan m accepted trace.Header (inl h) = absurd cc
trace_refused script bytes plan m accepted trace.Header (inr h) = ((m, accepted), h)
trace_refused script bytes plan m accepted (trace.Columns row) (inl h) = absurd cc
trace_refused script bytes plan m accepted (trace.Columns row) (inr h) = ((m, accepted), h)
trace_refused script bytes plan m accepted (trace.Number row column) (inl h) = absurd cc
trace_refused script bytes plan m accepted (trace.Number row column) (inr h) = ((m, accepted), h)
trace_refused script bytes plan m accepted (trace.Order row) (inl h) = absurd cc
trace_refused script bytes plan m accepted (trace.Order row) (inr h) = ((m, accepted), h)
trace_refused script bytes plan m accepted (trace.Text row column) (inl h) = absurd cc
trace_refused script bytes plan m accepted (trace.Text row column) (inr h) = ((m, accepted), h)
trace_refused script bytes plan m accepted (trace.Reserved row) (inl h) = absurd cc
trace_refused script bytes plan m accepted (trace.Reserved row) (inr h) = ((m, accepted), h)
trace_refused script bytes plan m accepted trace.TooMany (inl h) = absurd cc
trace_refused script bytes plan m accepted trace.TooMany (inr h) = ((m, accepted), h)

pub groups_refused : (script bytes : List ℕ) (plan : Plan) (m : ScriptMeant) (firings : List Firing) → Denote script bytes m firings
    → (e : GroupFault) → (e ≡ group.Memory) ⊎ IsMisgrouped plan.groups firings e → IsRefusalUnder plan script bytes (plain_refusal (Group e))
groups_refused script bytes plan m firings means group.Memory h = tt
groups_refused script bytes plan m firings means (group.Missing t) (inl h) = absurd cc
groups_refused script bytes plan m firings means (group.Missing t) (inr h) = (m, firings, means, h)
groups_refused script bytes plan m firings means (group.Doubled t) (inl h) = absurd cc
groups_refused script bytes plan m firings means (group.Doubled t) (inr h) = (m, firings, means, h)
groups_refused script bytes plan m firings means (group.Stranger t) (inl h) = absurd cc
groups_refused script bytes plan m firings means (group.Stranger t) (inr h) = (m, firings, means, h)
groups_refused script bytes plan m firings means group.TooMany (inl h) = absurd cc
groups_refused script bytes plan m firings means group.TooMany (inr h) = (m, firings, means, h)
