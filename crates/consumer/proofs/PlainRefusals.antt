-- No refusal that replay returns is a fault's own want of memory.
use Rattle.std.proofs.Common.{◌≡◌, ◌≢◌, ⊎_elim, ℕ, ℤ, Bool, true, false, cond, not, List, [], ◌∷◌}
use Rattle.std.proofs.Common.{◌++◌, Option, Some, None, option_map, refl, sym, ◌∙◌}
use Rattle.std.specs.Prelude.{Err, ◌<◌, ◌≤◌, length}
use Rattle.std.specs.Option.{option_or}
use Rattle.d_lexer.specs.Faults.{on_line}
use Rattle.d_lexer.specs.Lexing.{IsFirstFault, IsRefused}
use Rattle.d_lexer.specs.declared.fault.Flaw.{Flaw}
use Rattle.d_lexer.specs.declared.fault.Flaw.TheVariants as flaw
use Rattle.d_lexer.specs.declared.fault.LexFault.{LexFault}
use Rattle.d_lexer.specs.declared.fault.LexFault.TheVariants as lex
use Rattle.d_lexer.proofs.Spans.{fault_has_its_line}
use Rattle.d_parser.specs.declared.fault.ParseFault.{ParseFault}
use Rattle.d_parser.specs.declared.fault.ParseFault.TheVariants as parse
use Rattle.d_types.specs.declared.fault.TypeFault.{TypeFault}
use Rattle.d_types.specs.declared.fault.TypeFault.TheVariants as types
use Rattle.d_types.proofs.Checked.{fault_is_named}
use Rattle.replay_core.specs.Layouts.{LayoutMeant}
use Rattle.shard_queue.specs.Faults.{IsListFault, all_of, first_wrong}
use Rattle.shard_queue.specs.Threads.{has, items_of}
use Rattle.shard_queue.specs.declared.fault.GroupFault.{GroupFault}
use Rattle.shard_queue.specs.declared.fault.GroupFault.TheVariants as group
use Rattle.consumer.specs.Plans.{IsMisgrouped}
use Rattle.consumer.specs.Refusals.{plain_refusal}
use Rattle.consumer.specs.Replaying.{IsReplay}
use Rattle.consumer.specs.Scripts.{IsMistyped, IsParseFault}
use Rattle.consumer.specs.Vocabulary.{Firing, GroupPlan, Dealt, Lists, Plan, trace_of}
use Rattle.firing_reader.specs.declared.fault.TraceFault.{TraceFault}
use Rattle.firing_reader.specs.declared.fault.TraceFault.TheVariants as trace
use Rattle.consumer.specs.declared.refusal.Refusal.{Refusal}
use Rattle.consumer.specs.declared.refusal.Refusal.TheVariants.{Lex, Parse, Typing, Trace, Group}
use Rattle.consumer.specs.declared.refusal.Refusal.TheVariants.{Memory}
use Rattle.consumer.proofs.PlainTraces.{never_memory}

-- ---- tokens

on_no_memory : (f : Flaw) (line : ℕ) → on_line f line ≢ lex.Memory
on_no_memory flaw.BadByte line e = cc
on_no_memory flaw.Unclosed line e = cc
on_no_memory flaw.Constant line e = cc
on_no_memory flaw.Escape line e = cc
on_no_memory flaw.OptionLine line e = cc

lex_never : (script : List ℕ) (f : LexFault) → IsRefused script f → f ≢ lex.Memory
lex_never script f r e =
    ⊎_elim
    (λ (long : (f ≡ lex.TooLong) × (65536 < length script)). let x : lex.TooLong ≡ lex.Memory = sym long.0 ∙ e in cc)
    (λ (own : (length script ≤ 65536) × IsFirstFault script f). let its = fault_has_its_line script f own.1 in on_no_memory its.flaw _ (sym its.stated ∙ e))
    r

lex_plain : (script : List ℕ) (f : LexFault) → IsRefused script f → plain_refusal (Lex f) ≡ Lex f
lex_plain script lex.TooLong r = refl
lex_plain script (lex.BadByte line) r = refl
lex_plain script (lex.Unclosed line) r = refl
lex_plain script (lex.Constant line) r = refl
lex_plain script (lex.Escape line) r = refl
lex_plain script (lex.OptionLine line) r = refl
lex_plain script lex.Memory r = absurd (lex_never script lex.Memory r refl)

parse_plain : (script : List ℕ) (f : ParseFault) → IsParseFault script f → plain_refusal (Parse f) ≡ Parse f
parse_plain script parse.TooDeep r = refl
parse_plain script parse.TooManyClauses r = refl
parse_plain script (parse.Syntax line) r = refl
parse_plain script parse.Memory r = absurd r

-- ---- types

typing_plain : (script : List ℕ) (f : TypeFault) → IsMistyped script f → plain_refusal (Typing f) ≡ Typing f
typing_plain script (types.GlobalAssignment name line) r = refl
typing_plain script (types.Undeclared line) r = refl
typing_plain script (types.Mismatch line) r = refl
typing_plain script (types.Keys line) r = refl
typing_plain script (types.AggregationRedefined line) r = refl
typing_plain script (types.LquantizeBounds line) r = refl
typing_plain script (types.PrintfArguments line) r = refl
typing_plain script (types.ReadOnly line) r = refl
typing_plain script (types.NoRegister line) r = refl
typing_plain script types.Memory r = absurd (fault_is_named r.items types.Memory r.refused refl)

-- ---- groups

abbrev IsNoMemory : Option GroupFault → Type 0
IsNoMemory o = o ≢ Some group.Memory

wrong_never : (threads before listed : List ℤ) → IsNoMemory (first_wrong threads before listed)
wrong_never threads before [] e = cc
wrong_never threads before (t ∷ listed) e = here (has threads t) (has before t) e (wrong_never threads (before ++ t ∷ []) listed)
  where
    here : (known twice : Bool) → cond (not known) (Some (group.Stranger t)) (cond twice (Some (group.Doubled t)) (first_wrong threads (before ++ t ∷ []) listed)) ≡ Some group.Memory
        → IsNoMemory (first_wrong threads (before ++ t ∷ []) listed) → ⊥
    here false twice e later = cc
    here true true e later = cc
    here true false e later = later e

missing_never : (o : Option ℤ) → IsNoMemory (option_map (λ t. group.Missing t) o)
missing_never None e = cc
missing_never (Some t) e = cc

or_never : (a b : Option GroupFault) → IsNoMemory a → IsNoMemory b → IsNoMemory (option_or a b)
or_never None b x y e = y e
or_never (Some f) b x y e = x e

listed_never : (lists : List (List ℤ)) (fs : List Firing) → IsListFault lists fs group.Memory → ⊥
listed_never lists fs r =
    ⊎_elim
    (λ (many : (4096 < length lists) × (group.Memory ≡ group.TooMany)). let x = many.1 in cc)
    (λ few. or_never (first_wrong few.1.0 [] (all_of lists)) _ (wrong_never few.1.0 [] (all_of lists)) (missing_never _) few.1.2)
    r

misgrouped_never : (p : GroupPlan) (fs : List Firing) → IsMisgrouped p fs group.Memory → ⊥
misgrouped_never (Dealt n) fs r = r
misgrouped_never (Lists lists) fs r = listed_never (items_of lists.items) fs r

group_plain : (p : GroupPlan) (fs : List Firing) (f : GroupFault) → IsMisgrouped p fs f → plain_refusal (Group f) ≡ Group f
group_plain p fs (group.Missing t) r = refl
group_plain p fs (group.Doubled t) r = refl
group_plain p fs (group.Stranger t) r = refl
group_plain p fs group.TooMany r = refl
group_plain p fs group.Memory r = absurd (misgrouped_never p fs r)

-- ---- traces

trace_plain : (bytes : List ℕ) (f : TraceFault) → trace_of bytes ≡ Err f → plain_refusal (Trace f) ≡ Trace f
trace_plain bytes trace.Header r = refl
trace_plain bytes (trace.Columns row) r = refl
trace_plain bytes (trace.Number row column) r = refl
trace_plain bytes (trace.Order row) r = refl
trace_plain bytes (trace.Text row column) r = refl
trace_plain bytes (trace.Reserved row) r = refl
trace_plain bytes trace.TooMany r = refl
trace_plain bytes trace.Memory r = absurd (never_memory bytes r)

pub refusal_plain : (shows : LayoutMeant) (script bytes : List ℕ) (plan : Plan) (e : Refusal) → IsReplay shows script bytes plan (Err e) → plain_refusal e ≡ e
refusal_plain shows script bytes plan (Lex f) is = lex_plain script f is.fault
refusal_plain shows script bytes plan (Parse f) is = parse_plain script f is.fault
refusal_plain shows script bytes plan (Typing f) is = typing_plain script f is.fault
refusal_plain shows script bytes plan (Trace f) is = trace_plain bytes f is.fault.1
refusal_plain shows script bytes plan (Group f) is = group_plain plan.groups is.fault.1 f is.fault.3
refusal_plain shows script bytes plan Memory is = refl
