-- Two runs of the program over the same known input and files agree.
use Rattle.std.proofs.Common.{◌≡◌, ◌⊎◌, ⊎_elim, inl, inr, ◌∙◌, ℕ, List, [], Option, Some, None}
use Rattle.std.proofs.Common.{Result, Ok, Err, Bool, true, false, Global, ap, append-nil, refl, subst, sym}
use Rattle.std.specs.Prelude.{IfSome, IsFalse, IsSome, MatchBool, MatchOption, option_map, string_bytes}
use Rattle.std.specs.Io.KnownBytes.{Appends}
use Rattle.std.specs.declared.string.String.{String}
use Rattle.std.specs.declared.vec.IntoIter.{IntoIter}
use Rattle.clap.specs.Words.{IsAmong, fault_of, kind_of, matches_of}
use Rattle.clap.specs.declared.error.kind.ErrorKind.{ErrorKind}
use Rattle.d_parser.specs.declared.fault.ParseFault.TheVariants as parse
use Rattle.replay_core.specs.Layouts.{LayoutMeant, IsDeterministic}
use Rattle.streams.specs.Stream.{IsSent, SinkSeen}
use Rattle.consumer.specs.declared.arguments.UsageFault.TheVariants.{Help, Usage}
use Rattle.consumer.specs.declared.arguments.UsageFault.TheVariants as usage
use Rattle.consumer.specs.Answer.{without_line}
use Rattle.consumer.specs.Bundle.{Divides}
use Rattle.consumer.specs.Consuming.{HoldsOfInput, WritesAnswer, WritesBundle, WritesOut}
use Rattle.consumer.specs.Plans.{IsMisgrouped}
use Rattle.consumer.specs.Program.{Ends, EndsWithoutRun, IsBroken, IsRequest, IsRunOf}
use Rattle.consumer.specs.Program.{StreamsSeen, WriteAlike, arguments_of, ran, without_run}
use Rattle.consumer.specs.Refusals.{IsReported, status_of}
use Rattle.consumer.specs.Replaying.{IsOfPlan, IsReplay}
use Rattle.consumer.specs.Vocabulary.{ConsumeFault, Read, Refused, Write, Dealt, GroupFault, Plan}
use Rattle.consumer.specs.Vocabulary.{Refusal, Lex, Parse, Typing, Trace, Group, Memory, Replayed}
use Rattle.consumer.specs.Vocabulary.{Request, UsageFault}
use Rattle.consumer.specs.Arguments.{Asks, HasPlan, IsFaultOf, file_in, program}
use Rattle.consumer.proofs.Agreeing.{apart, refusals_agree, shown_agree}
use Rattle.consumer.proofs.Divisions.{one_division}

-- ---- lists, options and refusals

at_false : (b : Bool) (A B : Type 0) → b ≡ false → MatchBool b A B → B
at_false true A B e m = absurd cc
at_false false A B e m = m

content : (o : Option (List ℕ)) → IsSome o → (bytes : List ℕ) × (o ≡ Some bytes)
content None known = absurd cc
content (Some bytes) known = (bytes, refl)

appends_none : (bytes : Option (List ℕ)) → Appends bytes bytes []
appends_none None = tt
appends_none (Some bytes) = sym (append-nil bytes)

-- the line of a syntax fault is no part of a status
lineless : (e : Refusal) → status_of (without_line e) ≡ status_of e
lineless (Lex f) = refl
lineless (Parse (parse.Syntax line)) = refl
lineless (Parse parse.TooDeep) = refl
lineless (Parse parse.TooManyClauses) = refl
lineless (Parse parse.Memory) = refl
lineless (Typing f) = refl
lineless (Trace f) = refl
lineless (Group f) = refl
lineless Memory = refl

-- all of it went out where no call failed
sent_whole : (bytes : List ℕ) (old new : SinkSeen) → IsFalse new.has_failed → IsSent bytes old new → Appends old.bytes new.bytes bytes
sent_whole bytes old new whole sent = (at_false new.has_failed _ _ whole sent.bytes).0

-- no kind is among none
none_among : (kinds : List ErrorKind) (kind : ErrorKind) → kinds ≡ [] → IsAmong kind kinds → ⊥
none_among kinds kind none among =
    let nothing : IsAmong kind [] = subst (IsAmong kind) none among in
    nothing

-- ---- what a run came to

data Came (shows : LayoutMeant) (script trace : List ℕ) (old new : StreamsSeen) (status : ℕ) : Type 0 where
  shown : (plan : Plan) (r : Replayed) → IsReplay shows script trace plan (Ok r) → status ≡ r.status
      → Appends old.output.bytes new.output.bytes r.bytes.items → Came shows script trace old new status
  refused : (plan : Plan) (e : Refusal) → IsReplay shows script trace plan (Err e) → ¬ IsOfPlan e → status ≡ status_of e
      → new.output ≡ old.output → Came shows script trace old new status
  broken : IsBroken old new status → Came shows script trace old new status

module _ (shows : LayoutMeant) (script trace : List ℕ) (plan : Plan) (n : ℕ) (dealt : plan.groups ≡ Dealt n) (old new : StreamsSeen) (status : ℕ) where
  misgrouped : (fault : GroupFault) → IsReplay shows script trace plan (Err (Group fault)) → ⊥
  misgrouped fault is = subst (λ groups. IsMisgrouped groups is.fault.1 fault) dealt is.fault.3

  by_refusal : (e : Refusal) → IsReplay shows script trace plan (Err e) → new.output ≡ old.output → IsReported (Err (Refused e)) old.errors new.errors status
      → Came shows script trace old new status
  by_refusal (Lex f) is same line = refused plan (Lex f) is (λ own. own) line.0 same
  by_refusal (Parse f) is same line = refused plan (Parse f) is (λ own. own) line.0 same
  by_refusal (Typing f) is same line = refused plan (Typing f) is (λ own. own) line.0 same
  by_refusal (Trace f) is same line = refused plan (Trace f) is (λ own. own) line.0 same
  by_refusal (Group f) is same line = absurd (misgrouped f is)
  by_refusal Memory is same line = broken (record { fault = Refused Memory; is = refl; line = line })

  by_answer : (answer : Result Replayed Refusal) (result : Result Replayed ConsumeFault) → IsReplay shows script trace plan answer
      → WritesOut answer old.output new.output result → IsReported result old.errors new.errors status → Came shows script trace old new status
  by_answer (Ok r) (Ok given) is out line =
      shown plan r is (line.0 ∙ ap (λ x. x.status) out.0) (sent_whole r.bytes.items old.output new.output out.1 out.2)
  by_answer (Ok r) (Err Write) is out line = broken (record { fault = Write; is = refl; line = line })
  by_answer (Ok r) (Err Read) is out line = absurd out
  by_answer (Ok r) (Err (Refused e)) is out line = absurd out
  by_answer (Err e) result is out line = by_refusal e is out.0 (subst (λ r. IsReported r old.errors new.errors status) out.1 line)

-- what two runs over one script and trace came to
module _ (shows : LayoutMeant) (each : IsDeterministic shows) (script trace : List ℕ) (old new old' new' : StreamsSeen) (status status' : ℕ) where
  came_alike : Came shows script trace old new status → Came shows script trace old' new' status'
      → IsBroken old new status ⊎ IsBroken old' new' status'
      ⊎ ((status ≡ status') × WriteAlike old.output new.output old'.output new'.output)
  came_alike (broken is) other = inl is
  came_alike (shown p r is ends out) (broken is') = inr (inl is')
  came_alike (refused p e is plain ends same) (broken is') = inr (inl is')
  came_alike (shown p r is ends out) (shown q r' is' ends' out') =
      let same = shown_agree shows each script trace p q r r' is is' in
      inr (inr (
        ends ∙ same.1 ∙ sym ends',
        record {
          bytes = r.bytes.items;
          first = out;
          second = subst (λ bytes. Appends old'.output.bytes new'.output.bytes bytes) (sym same.0) out';
        },
      ))
  came_alike (shown p r is ends out) (refused q e is' plain ends' same') = absurd (plain (apart shows each script trace p q r e is is'))
  came_alike (refused p e is plain ends same) (shown q r is' ends' out') = absurd (plain (apart shows each script trace q p r e is' is))
  came_alike (refused p e is plain ends same) (refused q f is' plain' ends' same') =
      ⊎_elim (λ (alike : without_line e ≡ without_line f). inr (inr (
        ends ∙ sym (lineless e) ∙ ap status_of alike ∙ lineless f ∙ sym ends',
        record {
          bytes = [];
          first = subst (λ out. Appends old.output.bytes out.bytes []) (sym same) (appends_none old.output.bytes);
          second = subst (λ out. Appends old'.output.bytes out.bytes []) (sym same') (appends_none old'.output.bytes);
        },
      )))
      (λ (own : IsOfPlan e ⊎ IsOfPlan f). absurd (⊎_elim (λ (own : IsOfPlan e). plain own) (λ (own : IsOfPlan f). plain' own) own))
      (refusals_agree shows each script trace p q e f is is')

-- ---- the script and the trace of what is read

-- those of the input, or of the file that has the script
abbrev IsSource : Option (List ℕ) → (List ℕ → Option (List ℕ)) → (input script trace : List ℕ) → Type 0
IsSource None holds input script trace = Divides input script trace
IsSource (Some name) holds input script trace = (holds name ≡ Some script) × (input ≡ trace)

one_source : (file : Option (List ℕ)) (holds : List ℕ → Option (List ℕ)) (input script trace script' trace' : List ℕ) → IsSource file holds input script trace
    → IsSource file holds input script' trace' → (script ≡ script') × (trace ≡ trace')
one_source None holds input script trace script' trace' a b = one_division input script trace script' trace' a b
one_source (Some name) holds input script trace script' trace' a b =
    let first = a.0 in
    let second = b.0 in
    let same : script ≡ script' = cc in
    (same, sym a.1 ∙ b.1)

known_input : (remaining : Option (List ℕ)) (bytes input : List ℕ) → remaining ≡ Some bytes → IfSome remaining (λ all. input ≡ all) → input ≡ bytes
known_input remaining bytes input known read =
    let given : IfSome (Some bytes) (λ all. input ≡ all) = subst (λ r. IfSome r (λ all. input ≡ all)) known read in
    given

module _ (shows : LayoutMeant) (holds : List ℕ → Option (List ℕ)) (known : (name : List ℕ) → IsSome (holds name)) (input : List ℕ) (old new : StreamsSeen)
    (full : old.input.remaining ≡ Some input) (status : ℕ) where
  by_file : (plan : Plan) (n : ℕ) → plan.groups ≡ Dealt n → (result : Result Replayed ConsumeFault)
      → IsReported result old.errors new.errors status → (given : Option (String Global))
      → HoldsOfInput old.input.remaining (λ bytes. MatchOption given (WritesBundle shows bytes plan old.output new.output result)
      (λ file. HoldsOfInput (holds (string_bytes file)) (λ script. WritesAnswer shows script bytes plan old.output new.output result)))
      → (script trace : List ℕ) × IsSource (option_map string_bytes given) holds input script trace × Came shows script trace old new status
  by_file plan n dealt result line None h =
      let whole = known_input old.input.remaining input h.input full h.read in
      let script = h.holds.0 in
      let trace = h.holds.1 in
      let w = h.holds.3 in (
        script,
        trace,
        subst (λ bundle. Divides bundle script trace) whole h.holds.2,
        by_answer shows script trace plan n dealt old new status w.answer result w.is w.out line,
      )
  by_file plan n dealt result line (Some file) h =
      let bytes = content (holds (string_bytes file)) (known (string_bytes file)) in
      let script = known_input (holds (string_bytes file)) bytes.0 h.holds.input bytes.1 h.holds.read in
      let trace = known_input old.input.remaining input h.input full h.read in
      let w = h.holds.holds in (
        h.holds.input,
        h.input,
        (bytes.1 ∙ ap Some (sym script), sym trace),
        by_answer shows h.holds.input h.input plan n dealt old new status w.answer result w.is w.out line,
      )

  -- a run of what was asked for
  by_run : (request : Request) (n : ℕ) → request.plan.groups ≡ Dealt n → (result : Result Replayed ConsumeFault) → IsRunOf shows request holds old new result
      → IsReported result old.errors new.errors status → IsBroken old new status ⊎ ((script trace : List ℕ) × IsSource (option_map string_bytes request.file) holds input script trace × Came shows script trace old new status)
  by_run request n dealt (Err Read) run line = inl (record { fault = Read; is = refl; line = line })
  by_run request n dealt (Ok r) (inl run) line = inr (by_file request.plan n dealt (Ok r) line request.file (run.shown (λ e. cc)))
  by_run request n dealt (Err Write) (inl run) line = inr (by_file request.plan n dealt (Err Write) line request.file (run.shown (λ e. cc)))
  by_run request n dealt (Err (Refused f)) (inl run) line = inr (by_file request.plan n dealt (Err (Refused f)) line request.file (run.shown (λ e. cc)))
  by_run request n dealt result (inr none) line = inl (record { fault = Read; is = refl; line = subst (λ r. IsReported r old.errors new.errors status) none.1 line })

  -- arguments that ask for a run are no mistake
  spent : (arguments : List (List ℕ)) (request : Request) (fault : UsageFault) → Asks arguments request → IsFaultOf arguments fault ⊎ (fault ≡ usage.Memory)
      → EndsWithoutRun fault old new status → IsBroken old new status
  spent arguments request usage.Memory asks is ends = record { fault = Refused Memory; is = refl; line = ends.line }
  spent arguments request (Help e) asks (inr is) ends = absurd cc
  spent arguments request (Usage e) asks (inr is) ends = absurd cc
  spent arguments request (Help e) asks (inl is) ends = absurd (none_among (fault_of program arguments) _ asks.accepted is.1)
  spent arguments request (Usage e) asks (inl is) ends =
      absurd (⊎_elim (λ (found : IsAmong (kind_of e) (fault_of program arguments)). none_among (fault_of program arguments) _ asks.accepted found)
      (λ (found : (fault_of program arguments ≡ []) × ¬ HasPlan arguments). found.1 (request.plan, asks.named.plan)) is.2)

  -- the program came to this, of the file that its arguments name
  by_program : {A Z E : Type 0} (all : IntoIter (String A) Z) (request : Request) → Asks (arguments_of all) request → Ends {E = E} shows (Ok all) holds old new status
      → IsBroken old new status
      ⊎ ((script trace : List ℕ) × IsSource (file_in (matches_of program (arguments_of all))) holds input script trace × Came shows script trace old new status)
  by_program all request asks (ran own result asked run line) =
      ⊎_elim (λ (is : IsBroken old new status). inl is)
      (λ (came : (script trace : List ℕ) × IsSource (option_map string_bytes own.file) holds input script trace × Came shows script trace old new status).
      inr (came.0, came.1, subst (λ file. IsSource file holds input came.0 came.1) asked.named.file came.2, came.3))
      (by_run own asked.named.plan.groups.0 asked.named.plan.groups.1 result run line)
  by_program all request asks (without_run fault unasked unread ends) =
      inl (spent (arguments_of all) request fault asks (⊎_elim (λ (is : fault ≡ usage.Memory). inr is) (λ (is : IsFaultOf (arguments_of all) fault). inl is) unasked) ends)

pub programs_agree : (shows : LayoutMeant) {A Z E : Type 0} (given : Result (IntoIter (String A) Z) E) → IsDeterministic shows
    → (holds : List ℕ → Option (List ℕ)) (input : List ℕ) (request : Request) (old new old' new' : StreamsSeen) (status status' : ℕ)
    → IsRequest given request → ((name : List ℕ) → IsSome (holds name)) → old.input.remaining ≡ Some input → old'.input.remaining ≡ Some input
    → Ends shows given holds old new status → Ends shows given holds old' new' status'
    → IsBroken old new status ⊎ IsBroken old' new' status'
    ⊎ ((status ≡ status') × WriteAlike old.output new.output old'.output new'.output)
programs_agree shows (Err e) each holds input request old new old' new' status status' asked known full full' first second = absurd asked
programs_agree shows {E = E} (Ok all) each holds input request old new old' new' status status' asked known full full' first second =
    let file = file_in (matches_of program (arguments_of all)) in
    ⊎_elim (λ (is : IsBroken old new status). inl is)
    (λ (x : (script trace : List ℕ) × IsSource file holds input script trace × Came shows script trace old new status).
    ⊎_elim (λ (is : IsBroken old' new' status'). inr (inl is))
    (λ (y : (script trace : List ℕ) × IsSource file holds input script trace × Came shows script trace old' new' status').
    let same = one_source file holds input x.0 x.1 y.0 y.1 x.2 y.2 in
    let traced : Came shows y.0 x.1 old' new' status' = subst (λ trace. Came shows y.0 trace old' new' status') (sym same.1) y.3 in
    came_alike shows each x.0 x.1 old new old' new' status status' x.3
    (subst (λ script. Came shows script x.1 old' new' status') (sym same.0) traced))
    (by_program shows holds known input old' new' full' status' {E = E} all request asked second))
    (by_program shows holds known input old new full status {E = E} all request asked first)
