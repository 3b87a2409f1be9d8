use Rattle.std.specs.Prelude.{◌≡◌, ◌≢◌, ℕ, Result}
use Rattle.std.proofs.Common.{refl, sym, ap, subst, ◌∙◌}
use Rattle.dif_machine.specs.Frames.{Frame, at_index}
use Rattle.dif_machine.specs.Machine.{Seen}
use Rattle.dif_machine.specs.Semantics.{Ends, Stuck, act, on, puts}
use Rattle.dif_machine.specs.Sources.{built_ins}
use Rattle.dif_machine.specs.Steps.Instructions.{CanExecute, ExecutesFor, ExecutesOn}
use Rattle.dif_machine.specs.Vocabulary.{Firing, Flushts, Instr, Int, Ldga, MachineFault, Object, Reg, Text, Variables, at, object_of}
use Rattle.dif_machine.specs.declared.onward.Onward.{Onward}
use Rattle.dif_machine.proofs.{Acting.only_array, Fitting.some_there}
use Rattle.dif_machine.proofs.Executing.{executed, goes, inside, still_lasts, there}
use Rattle.dif_machine.proofs.Holding.{keeps_refl}
use Rattle.dif_machine.proofs.stepping.execute.Given.{Over}
use Rattle.dif_machine.proofs.stepping.execute.Goals.{Start}
use Rattle.dif_machine.proofs.stepping.execute.Goals as goal

module _ (g : Over) (c : Start g) where
  abbrev o : Object
  o = object_of c.args.difo.now

  abbrev f : Firing
  f = c.args.firing.now

  abbrev vars : Variables
  vars = g.M.Memory.holds c.args.memory.now c.args.machine.now.texts

  abbrev frame : Frame
  frame = at_index c.args.machine.now.frame c.requires.runs.0

  runs : (i : Instr) → c.args.instr.now ≡ i → act i o f frame vars ≢ Stuck
  runs i is = subst (λ i. act i o f frame vars ≢ Stuck) is c.requires.runs.1

  one_array : (v : ℕ) (a d : Reg) → c.args.instr.now ≡ Ldga v a d → c.args.instr.now ≡ Ldga 0 a d
  one_array v a d is = is ∙ ap (λ v. Ldga v a d) (only_array o f frame vars v a d (runs (Ldga v a d) is))

  was : (i : Instr) → c.args.instr.now ≡ i → (result : Result Onward MachineFault) (n : Seen) → ExecutesFor i o f c.args.machine.now result n
      → ExecutesOn g.M.Memory.holds g.M.Memory.is_over g.M.Memory.beside c.args.instr.now o f c.args.memory.now c.args.machine.now result c.args.memory.now n
  was i is result n e =
      subst (λ i. ExecutesOn g.M.Memory.holds g.M.Memory.is_over g.M.Memory.beside i o f c.args.memory.now c.args.machine.now result c.args.memory.now n) (sym is)
      (executed g.M.Memory.holds g.M.Memory.is_over g.M.Memory.beside o f c.args.memory.now c.args.machine.now g.met.M.Memory.stays i result n c.requires.running e)

pub returns-in-Alu : goal.returns-in-Alu
returns-in-Alu g c = was g (goal.at.returns-in-Alu g c).Start _ c.in-Alu.is _ _ (c.alu.ensures _ _)

pub returns-in-Not : goal.returns-in-Not
returns-in-Not g c = was g (goal.at.returns-in-Not g c).Start _ c.in-Not.is _ _ (c.not.ensures _ _)

pub returns-in-Mov : goal.returns-in-Mov
returns-in-Mov g c = was g (goal.at.returns-in-Mov g c).Start _ c.in-Mov.is _ _ (c.mov.ensures _ _)

pub returns-in-Cmp : goal.returns-in-Cmp
returns-in-Cmp g c = was g (goal.at.returns-in-Cmp g c).Start _ c.in-Cmp.is _ _ (c.cmp.ensures _ _)

pub returns-in-Tst : goal.returns-in-Tst
returns-in-Tst g c = was g (goal.at.returns-in-Tst g c).Start _ c.in-Tst.is _ _ (c.tst.ensures _ _)

pub returns-in-Scmp : goal.returns-in-Scmp
returns-in-Scmp g c = was g (goal.at.returns-in-Scmp g c).Start _ c.in-Scmp.is _ _ (c.scmp.ensures _ _)

pub returns-in-Branch : goal.returns-in-Branch
returns-in-Branch g c = was g (goal.at.returns-in-Branch g c).Start _ c.in-Branch.is _ _ (c.branch-machine.ensures _ _)

pub returns-in-Call : goal.returns-in-Call
returns-in-Call g c = was g (goal.at.returns-in-Call g c).Start _ c.in-Call.is _ _ (c.call.ensures _ _)

pub returns-in-Pushtr : goal.returns-in-Pushtr
returns-in-Pushtr g c = was g (goal.at.returns-in-Pushtr g c).Start _ c.in-Pushtr.is _ _ (c.pushtr.ensures _ _)

pub returns-in-Pushtv : goal.returns-in-Pushtv
returns-in-Pushtv g c = was g (goal.at.returns-in-Pushtv g c).Start _ c.in-Pushtv.is _ _ (c.pushtv.ensures _ _)

pub returns-in-Setx : goal.returns-in-Setx
returns-in-Setx g c = was g (goal.at.returns-in-Setx g c).Start _ c.in-Setx.is _ _ (c.setx.ensures _)

pub returns-in-Sets : goal.returns-in-Sets
returns-in-Sets g c = was g (goal.at.returns-in-Sets g c).Start _ c.in-Sets.is _ _ (c.sets.ensures _)

pub returns-in-Ldgs : goal.returns-in-Ldgs
returns-in-Ldgs g c = was g (goal.at.returns-in-Ldgs g c).Start _ c.in-Ldgs.is _ _ (c.ldgs.ensures _)

pub returns-in-Ba : goal.returns-in-Ba
returns-in-Ba g c = was g (goal.at.returns-in-Ba g c).Start _ c.in-Ba.is _ _ (record { kept = keeps_refl _; lasting = still_lasts _ _ refl refl; known = λ k. k; stepped = λ index vars. refl })

pub returns-in-Nop : goal.returns-in-Nop
returns-in-Nop g c = was g (goal.at.returns-in-Nop g c).Start _ c.in-Nop.is _ _ (record { kept = keeps_refl _; lasting = still_lasts _ _ refl refl; known = λ k. k; stepped = λ index vars. refl })

pub returns-in-Flushts : goal.returns-in-Flushts
returns-in-Flushts g c = was g (goal.at.returns-in-Flushts g c).Start _ c.in-Flushts.is _ _ (goes Flushts _ _ _ _ _ c.flush.ensures (λ index vars. refl))

pub returns-in-Ret : goal.returns-in-Ret
returns-in-Ret g c =
    let s = (goal.at.returns-in-Ret g c).Start in
    let value = some_there _ (there (at (frame g s).registers c.in-Ret.a) (λ value. Ends value (vars g s)) (runs g s _ c.in-Ret.is)) in
    was g s _ c.in-Ret.is _ _ (record { kept = keeps_refl _; lasting = still_lasts _ _ refl refl; known = λ k. k; stepped = λ index vars. (value.0, value.1, ap (λ x. on x (λ value. Ends value vars)) value.1) })

pub setx-requires : goal.setx-requires
setx-requires g c = let s = (goal.at.setx-requires g c).Start in record { inside = inside (o g s).numbers c.in-Setx.i (λ n. puts (frame g s) c.in-Setx.d (Int n) (vars g s)) (runs g s _ c.in-Setx.is) }

pub sets-requires : goal.sets-requires
sets-requires g c = let s = (goal.at.sets-requires g c).Start in record { inside = inside (o g s).texts c.in-Sets.i (λ bytes. puts (frame g s) c.in-Sets.d (Text bytes) (vars g s)) (runs g s _ c.in-Sets.is) }

pub ldgs-requires : goal.ldgs-requires
ldgs-requires g c = let s = (goal.at.ldgs-requires g c).Start in record { known = c.requires.known; there = inside (built_ins (f g s)) c.in-Ldgs.v (λ value. puts (frame g s) c.in-Ldgs.d value (vars g s)) (runs g s _ c.in-Ldgs.is) }

pub ldga-requires : goal.ldga-requires
ldga-requires g c = subst (λ i. CanExecute i c.args.machine.now.frame) (one_array g (goal.at.ldga-requires g c).Start _ _ _ c.in-Ldga.is) c.requires.can

pub returns-in-Ldga : goal.returns-in-Ldga
returns-in-Ldga g c = let s = (goal.at.returns-in-Ldga g c).Start in was g s _ (one_array g s _ _ _ c.in-Ldga.is) _ _ (c.ldga.ensures _)
