use Rattle.std.proofs.Common.{◌≡◌, ◌∙◌, refl, sym}
use Rattle.std.proofs.lemmas.Bool.{and_parts, eqb-true}
use Rattle.std.proofs.lemmas.Bool.Decides.{Decides-int_eq}
use Rattle.firings.specs.declared.unit.OwnerEntry.{OwnerEntry}
use Rattle.firing_reader.proofs.owners.OwnerEntryPlainEntry.is.Goals as goal

pub returns : goal.returns
returns c = λ e.
    let (cpu, e1) = and_parts _ _ (sym c.eq.ensures ∙ e) in
    let (thread, e2) = and_parts _ _ e1 in
    let (pid, e3) = and_parts _ _ e2 in
    let (from, count) = and_parts _ _ e3 in
    same c.args.self c.args.other ((Decides-int_eq _ _).0 cpu) ((Decides-int_eq _ _).0 thread) ((Decides-int_eq _ _).0 pid) (eqb-true _ _ from) (eqb-true _ _ count)
  where
    same : (a b : OwnerEntry) → a.cpu ≡ b.cpu → a.thread ≡ b.thread → a.pid ≡ b.pid → a.from ≡ b.from → a.count ≡ b.count → a ≡ b
    same a b cpu thread pid from count =
        let made : OwnerEntry = record { cpu = a.cpu; thread = a.thread; pid = a.pid; from = a.from; count = a.count } in
        let is : made ≡ b = rw (cpu, thread, pid, from, count) refl in
        is
