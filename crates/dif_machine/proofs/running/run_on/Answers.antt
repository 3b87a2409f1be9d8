use Rattle.std.specs.Prelude.{◌≡◌, ℕ, List, [], ◌∷◌, Some, Result, Ok, Err, IfOk, IsErrAnd, slice_get}
use Rattle.std.proofs.Common.{refl, sym, ap, subst, ◌∙◌, rules}
use Rattle.numbered.specs.Texts.{Keeps}
use Rattle.numbered.specs.declared.word.Word.{Word}
use Rattle.dif_validate.specs.Loads.{IsElement, Loads}
use Rattle.dif_machine.specs.Vocabulary.{Firing, Flushts, Instr, Ldga, Ldgs, Ldtaa, MachineFault, Memory, Name, Object, Pushtr, Ret, Value, Int, Text, Var, Variables, Ldls, Ldts, Setx}
use Rattle.dif_machine.specs.Frames.{Frame, start, with_tuple, with_value}
use Rattle.dif_machine.specs.Machine.{IsWithin, IsWordOf, Knows, Seen, value_of, word_result, key_in}
use Rattle.dif_machine.specs.Memories.{RunsOver}
use Rattle.dif_machine.specs.Runs.{Returns, RunEnds, ends, goes, Runs}
use Rattle.dif_machine.specs.Semantics.{Goes, on, act, puts, step_of}
use Rattle.dif_machine.specs.Sources.{argument_of, built_ins, own_value}
use Rattle.dif_validate.specs.declared.register.Reg.TheVariants.{R1}
use Rattle.dif_machine.proofs.Arriving.{refused_first}
use Rattle.dif_machine.proofs.Executing.{IsStable}
use Rattle.std.proofs.lemmas.Option.{slice_get-get_or}
use Rattle.d_values.specs.Keys.{part_of}
use Rattle.dif_machine.proofs.Holding.{keeps_on, keeps_refl}
use Rattle.dif_machine.proofs.Knowing.{text_is}
use Rattle.dif_machine.proofs.running.run_on.Given.{Over}
use Rattle.dif_machine.proofs.running.run_on.Goals.{Start}
use Rattle.dif_machine.proofs.running.run_on.Goals as goal

-- the step of an instruction that is known
step_is : (o : Object) (f : Firing) (s : Frame) (i : Instr) (vars : Variables) → slice_get o.code s.pc ≡ Some i → step_of o f s vars ≡ act i o f s vars
step_is o f s i vars there = ap (λ c. on c (λ i. act i o f s vars)) there

loads : (o : Object) (f : Firing) (i : Instr) (value : Value) (vars : Variables) → slice_get o.code 0 ≡ Some i → slice_get o.code 1 ≡ Some (Ret R1) → act i o f start vars ≡ Goes (with_value start R1 value) vars → Runs o f vars (Returns value vars)
loads o f i value vars first second e =
    goes (with_value start R1 value) vars (step_is o f start i vars first ∙ e) (ends value vars (step_is o f (with_value start R1 value) (Ret R1) vars second))

-- a number is loaded, and then the argument of this number
loads_argument : (o : Object) (f : Firing) (i : Instr) (n : ℕ) (vars : Variables) → slice_get o.code 0 ≡ Some i → slice_get o.code 1 ≡ Some (Ldga 0 R1 R1) → slice_get o.code 2 ≡ Some (Ret R1)
    → act i o f start vars ≡ Goes (with_value start R1 (Int n)) vars
    → Runs o f vars (Returns (Int (argument_of f n)) vars)
loads_argument o f i n vars first second third e =
    let number = with_value start R1 (Int n) in
    let there = with_value number R1 (Int (argument_of f n)) in
    goes number vars (step_is o f start i vars first ∙ e)
    (goes there vars (step_is o f number (Ldga 0 R1 R1) vars second)
    (ends (Int (argument_of f n)) vars (step_is o f there (Ret R1) vars third)))

-- the word of a value is loaded
loads_word : (o : Object) (f : Firing) (texts : List (List ℕ)) (w : Word) (vars : Variables) (i : Instr) (value : Value) → slice_get o.code 0 ≡ Some i → slice_get o.code 1 ≡ Some (Ret R1) → act i o f start vars ≡ Goes (with_value start R1 value) vars → IsWordOf texts w value
    → Runs o f vars (Returns (value_of texts w) vars)
loads_word o f texts w vars i value first second acts is = subst (λ v. Runs o f vars (Returns v vars)) (sym is.is) (loads o f i value vars first second acts)

-- a text of the firing is the key of an element, which is loaded
loads_element : (o : Object) (f : Firing) (x : Var) (v : ℕ) (bytes : List ℕ) (vars : Variables) → IsElement o x v → slice_get (built_ins f) v ≡ Some (Text bytes)
    → Runs o f vars (Returns (own_value vars x (Name bytes ∷ [])) vars)
loads_element o f x v bytes vars e there =
    let held = own_value vars x (Name bytes ∷ []) in
    let text = with_value start R1 (Text bytes) in
    let key = with_tuple text (Name bytes ∷ []) in
    let found = with_value key R1 held in
    let left = with_tuple found [] in
    goes text vars (step_is o f start (Ldgs v R1) vars e.first ∙ ap (λ b. on b (λ value. puts start R1 value vars)) there)
    (goes key vars (step_is o f text (Pushtr R1) vars e.second)
    (goes found vars (step_is o f key (Ldtaa x R1) vars e.third)
    (goes left vars (step_is o f found Flushts vars e.fourth)
    (ends held vars (step_is o f left (Ret R1) vars e.fifth)))))

-- a memory that stays as it was, of which only texts may be more
module _ {M : Type 0} (holds : M → List (List ℕ) → Variables) (is_over : M → List (List ℕ) → Type 0) (others : M → List ℕ → ℕ) (o : Object) (f : Firing) (memory : M) (m : Seen) (stable : IsStable holds is_over) (over : is_over memory m.texts)
    (left : M) (n : Seen) (stays : left ≡ memory) (kept : Keeps m.texts n.texts) (known : Knows f n.known) where
  same : is_over memory n.texts × (holds memory n.texts ≡ holds memory m.texts)
  same = stable memory m.texts n.texts over kept

  ran : (r : Result Word MachineFault) → RunEnds o f (holds memory m.texts) (word_result n.texts r) (holds memory m.texts) → IfOk r (IsWithin n.texts) → RunsOver holds is_over others o f memory m r left n
  ran r arrived within = subst (λ left. RunsOver holds is_over others o f memory m r left n) (sym stays) (record {
    ends = subst (RunEnds o f (holds memory m.texts) (word_result n.texts r)) (sym same.1) arrived;
    within = within;
    kept = kept;
    ready = record { known = known; over = same.0 };
    beside = refl;
  })

  -- there was no room
  refused : (r : Result Word MachineFault) → IsErrAnd r (λ e. e ≡ Memory) → RunsOver holds is_over others o f memory m r left n
  refused (Ok w) e = absurd e
  refused (Err fault) e = ran (Err fault) (refused_first o f (holds memory m.texts) (Err fault) e) tt

  returned : (w : Word) → IsWithin n.texts w → Runs o f (holds memory m.texts) (Returns (value_of n.texts w) (holds memory m.texts)) → RunsOver holds is_over others o f memory m (Ok w) left n
  returned w within run = ran (Ok w) run within

module _ (g : Over) (c : Start g) where
  abbrev vars : Variables
  vars = g.M.Memory.holds c.args.memory.now c.args.machine.now.texts

  stays : (new : List (List ℕ)) → Keeps c.args.machine.now.texts new → g.M.Memory.is_over c.args.memory.now new × (g.M.Memory.holds c.args.memory.now new ≡ vars)
  stays new kept = g.met.M.Memory.stays c.args.memory.now c.args.machine.now.texts new c.requires.over kept

pub returns-in_err-built_in-in-BuiltIn : goal.returns-in_err-built_in-in-BuiltIn
returns-in_err-built_in-in-BuiltIn g c = refused g.M.Memory.holds g.M.Memory.is_over g.M.Memory.beside c.args.valid.now c.args.firing.now c.args.memory.now c.args.machine.now g.met.M.Memory.stays c.requires.over _ _ refl c.built_in.ensures.kept c.built_in.ensures.known _ c.from_residual.ensures.1

pub returns-in_ok-built_in-in-BuiltIn : goal.returns-in_ok-built_in-in-BuiltIn
returns-in_ok-built_in-in-BuiltIn g c =
    let s = (goal.at.returns-in_ok-built_in-in-BuiltIn g c).Start in
    let load = subst (λ l. Loads l c.args.valid.now) c.in-BuiltIn.is c.load.ensures in
    let there = slice_get-get_or (built_ins c.args.firing.now) c.in-BuiltIn.v (Int 0) load.1 in
    returned g.M.Memory.holds g.M.Memory.is_over g.M.Memory.beside c.args.valid.now c.args.firing.now c.args.memory.now c.args.machine.now g.met.M.Memory.stays c.requires.over _ _ refl c.built_in.ensures.kept c.built_in.ensures.known _ c.in_ok-built_in-in-BuiltIn.ensures.word.within
    (loads_word c.args.valid.now c.args.firing.now _ _ (vars g s) (Ldgs c.in-BuiltIn.v R1) _ load.0.first load.0.second (ap (λ x. on x (λ value. puts start R1 value (vars g s))) there) c.in_ok-built_in-in-BuiltIn.ensures.word)

pub returns-in-Argument : goal.returns-in-Argument
returns-in-Argument g c =
    let s = (goal.at.returns-in-Argument g c).Start in
    let load = subst (λ l. Loads l c.args.valid.now) c.in-Argument.is c.load.ensures in
    let run = loads_argument c.args.valid.now c.args.firing.now (Setx load.i R1) c.in-Argument.n (vars g s) load.first load.second load.third (ap (λ x. on x (λ n. puts start R1 (Int n) (vars g s))) load.number) in
    returned g.M.Memory.holds g.M.Memory.is_over g.M.Memory.beside c.args.valid.now c.args.firing.now c.args.memory.now c.args.machine.now g.met.M.Memory.stays c.requires.over _ _ refl (keeps_refl _) c.requires.known _ (search rules) (subst (λ n. Runs c.args.valid.now c.args.firing.now (vars g s) (Returns (Int n) (vars g s))) (sym c.argument.ensures) run)

pub returns-in_err-load-in-Local : goal.returns-in_err-load-in-Local
returns-in_err-load-in-Local g c =
    let k = c.load-in-Local.ensures.loads in
    refused g.M.Memory.holds g.M.Memory.is_over g.M.Memory.beside c.args.valid.now c.args.firing.now c.args.memory.now c.args.machine.now g.met.M.Memory.stays c.requires.over _ _ k.same k.kept (subst (Knows c.args.firing.now) (sym c.load-in-Local.ensures.grows.known) c.requires.known) _ c.from_residual-in_err-load-in-Local.ensures.1

pub returns-in_ok-load-in-Local : goal.returns-in_ok-load-in-Local
returns-in_ok-load-in-Local g c =
    let s = (goal.at.returns-in_ok-load-in-Local g c).Start in
    let load = subst (λ l. Loads l c.args.valid.now) c.in-Local.is c.load.ensures in
    let k = c.load-in-Local.ensures.loads in
    returned g.M.Memory.holds g.M.Memory.is_over g.M.Memory.beside c.args.valid.now c.args.firing.now c.args.memory.now c.args.machine.now g.met.M.Memory.stays c.requires.over _ _ k.same k.kept (subst (Knows c.args.firing.now) (sym c.load-in-Local.ensures.grows.known) c.requires.known) _ c.in_ok-load-in-Local.ensures.loads.word.within
    (loads_word c.args.valid.now c.args.firing.now _ _ (vars g s) (Ldls c.in-Local.x R1) _ load.first load.second refl c.in_ok-load-in-Local.ensures.loads.word)

pub returns-in_err-load-in-Scalar : goal.returns-in_err-load-in-Scalar
returns-in_err-load-in-Scalar g c =
    let k = c.load-in-Scalar.ensures.loads in
    refused g.M.Memory.holds g.M.Memory.is_over g.M.Memory.beside c.args.valid.now c.args.firing.now c.args.memory.now c.args.machine.now g.met.M.Memory.stays c.requires.over _ _ k.same k.kept (subst (Knows c.args.firing.now) (sym c.load-in-Scalar.ensures.grows.known) c.requires.known) _ c.from_residual-in_err-load-in-Scalar.ensures.1

pub returns-in_ok-load-in-Scalar : goal.returns-in_ok-load-in-Scalar
returns-in_ok-load-in-Scalar g c =
    let s = (goal.at.returns-in_ok-load-in-Scalar g c).Start in
    let load = subst (λ l. Loads l c.args.valid.now) c.in-Scalar.is c.load.ensures in
    let k = c.load-in-Scalar.ensures.loads in
    returned g.M.Memory.holds g.M.Memory.is_over g.M.Memory.beside c.args.valid.now c.args.firing.now c.args.memory.now c.args.machine.now g.met.M.Memory.stays c.requires.over _ _ k.same k.kept (subst (Knows c.args.firing.now) (sym c.load-in-Scalar.ensures.grows.known) c.requires.known) _ c.in_ok-load-in-Scalar.ensures.loads.word.within
    (loads_word c.args.valid.now c.args.firing.now _ _ (vars g s) (Ldts c.in-Scalar.x R1) _ load.first load.second refl c.in_ok-load-in-Scalar.ensures.loads.word)

pub load_at-requires-clause-over : goal.load_at-requires-clause-over
load_at-requires-clause-over g c = (stays g (goal.at.load_at-requires-clause-over g c).Start _ c.built_in-in-Element.ensures.kept).0

pub returns-in_err-key-in-Element : goal.returns-in_err-key-in-Element
returns-in_err-key-in-Element g c = refused g.M.Memory.holds g.M.Memory.is_over g.M.Memory.beside c.args.valid.now c.args.firing.now c.args.memory.now c.args.machine.now g.met.M.Memory.stays c.requires.over _ _ refl c.built_in-in-Element.ensures.kept c.built_in-in-Element.ensures.known _ c.from_residual-in_err-key-in-Element.ensures.1

pub returns-in_err-load_at-in-Element : goal.returns-in_err-load_at-in-Element
returns-in_err-load_at-in-Element g c =
    let s = (goal.at.returns-in_err-load_at-in-Element g c).Start in
    let b = c.built_in-in-Element.ensures in
    let k = c.load_at.ensures in
    refused g.M.Memory.holds g.M.Memory.is_over g.M.Memory.beside c.args.valid.now c.args.firing.now c.args.memory.now c.args.machine.now g.met.M.Memory.stays c.requires.over _ _ k.loads.same (keeps_on _ _ _ b.kept k.loads.kept) (subst (Knows c.args.firing.now) (sym k.known) b.known) _ c.from_residual-in_err-load_at-in-Element.ensures.1

pub returns-in_ok-load_at-in-Element : goal.returns-in_ok-load_at-in-Element
returns-in_ok-load_at-in-Element g c =
    let s = (goal.at.returns-in_ok-load_at-in-Element g c).Start in
    let b = c.built_in-in-Element.ensures in
    let k = c.load_at.ensures in
    let stay = (stays g s _ b.kept).1 in
    let f = c.args.firing.now in
    let load = subst (λ l. Loads l c.args.valid.now) c.in-Element.is c.load.ensures in
    let text = text_is f c.in-Element.v load.text load.there in
    let run = loads_element c.args.valid.now f c.in-Element.x c.in-Element.v _ (vars g s) load (slice_get-get_or (built_ins f) c.in-Element.v (Int 0) load.there ∙ ap Some text) in
    let word = c.in_ok-load_at-in-Element.ensures.loads.word in
    let is = word.is ∙ ap (λ vars. own_value vars c.in-Element.x (key_in c.built_in-in-Element.new.self.texts (c.in_ok-key-in-Element.key ∷ []))) stay
    ∙ ap (λ (value : Value). own_value (vars g s) c.in-Element.x (part_of value ∷ [])) (c.in_ok-key-in-Element.ensures.word.is ∙ text) in
    returned g.M.Memory.holds g.M.Memory.is_over g.M.Memory.beside c.args.valid.now c.args.firing.now c.args.memory.now c.args.machine.now g.met.M.Memory.stays c.requires.over _ _ k.loads.same (keeps_on _ _ _ b.kept k.loads.kept) (subst (Knows c.args.firing.now) (sym k.known) b.known) _ word.within
    (subst (λ value. Runs c.args.valid.now f (vars g s) (Returns value (vars g s))) (sym is) run)
