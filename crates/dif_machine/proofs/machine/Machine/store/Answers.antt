use Rattle.std.specs.Prelude.{◌∷◌, List, take}
use Rattle.std.specs.List.{All}
use Rattle.std.proofs.Common.{subst, sym}
use Rattle.numbered.specs.declared.word.Word.{Word}
use Rattle.dif_machine.specs.Machine.{IsWithin, Seen, key_in, value_of}
use Rattle.dif_machine.specs.Memories.{StoresWord}
use Rattle.dif_machine.specs.Vocabulary.{set_own}
use Rattle.dif_machine.specs.Steps.Instructions.{set_in}
use Rattle.dif_machine.proofs.Holding.{keeps_refl, lasts, take_distinct}
use Rattle.dif_machine.proofs.machine.Machine.store.Goals as goal

pub returns-in-Local-clause-grows : goal.returns-in-Local-clause-grows
returns-in-Local-clause-grows g c = lasts _ _ (keeps_refl _) _ _ _ _ _ _ c.self.invariant c.self.view_is _ c.lasting_with-self-inside.ensures.least c.lasting_with-self-inside.ensures.most

pub returns-in-Local-clause-over : goal.returns-in-Local-clause-over
returns-in-Local-clause-over g c over =
    let i = c.self.inside in
    let l = c.lasting_with-self-inside in
    let more = (lasts i.texts i.texts (keeps_refl i.texts) i.lasting i.registers i.comparison i.tuple i.numbers c.args.self.now c.self.invariant c.self.view_is l.result l.ensures.least l.ensures.most).lasting.more in
    let last = take l.result i.texts in
    c.store_local.ensures.over last (take_distinct i.texts l.result c.self.invariant.distinct) (g.met.M.Memory.stays c.args.memory.now c.args.self.now.lasting last over more).0 l.ensures.within

pub returns-in-Local-clause-stores : goal.returns-in-Local-clause-stores
returns-in-Local-clause-stores g c =
    subst (λ (s : Seen). StoresWord g.M.Memory.holds g.M.Memory.beside c.args.memory.now s.texts c.store_local.new.self c.store_local.result (set_in (g.M.Memory.holds c.args.memory.now s.texts) c.args.variable s.frame.tuple (value_of s.texts c.args.word))) c.self.view_is
    (rw c.in-Local.is c.store_local.ensures.stores)

pub returns-in-Scalar-clause-grows : goal.returns-in-Scalar-clause-grows
returns-in-Scalar-clause-grows g c = lasts _ _ (keeps_refl _) _ _ _ _ _ _ c.self.invariant c.self.view_is _ c.lasting_with-self-inside-in-Scalar.ensures.least c.lasting_with-self-inside-in-Scalar.ensures.most

pub returns-in-Scalar-clause-over : goal.returns-in-Scalar-clause-over
returns-in-Scalar-clause-over g c over =
    let i = c.self.inside in
    let l = c.lasting_with-self-inside-in-Scalar in
    let more = (lasts i.texts i.texts (keeps_refl i.texts) i.lasting i.registers i.comparison i.tuple i.numbers c.args.self.now c.self.invariant c.self.view_is l.result l.ensures.least l.ensures.most).lasting.more in
    let last = take l.result i.texts in
    c.store_own.ensures.over last (take_distinct i.texts l.result c.self.invariant.distinct) (g.met.M.Memory.stays c.args.memory.now c.args.self.now.lasting last over more).0 (subst (λ (ws : List Word). All (IsWithin last) (c.args.word ∷ ws)) (sym c.new.ensures) l.ensures.within)

pub returns-in-Scalar-clause-stores : goal.returns-in-Scalar-clause-stores
returns-in-Scalar-clause-stores g c =
    subst (λ (s : Seen). StoresWord g.M.Memory.holds g.M.Memory.beside c.args.memory.now s.texts c.store_own.new.self c.store_own.result (set_in (g.M.Memory.holds c.args.memory.now s.texts) c.args.variable s.frame.tuple (value_of s.texts c.args.word))) c.self.view_is
    (rw c.in-Scalar.is (subst (λ (key : List Word). StoresWord g.M.Memory.holds g.M.Memory.beside c.args.memory.now c.self.inside.texts c.store_own.new.self c.store_own.result (set_own (g.M.Memory.holds c.args.memory.now c.self.inside.texts) c.in-Scalar.x (key_in c.self.inside.texts key) (value_of c.self.inside.texts c.args.word))) c.new.ensures c.store_own.ensures.stores))

pub returns-in-Element-clause-grows : goal.returns-in-Element-clause-grows
returns-in-Element-clause-grows g c =
    let l = c.lasting_with-self-inside-in-Element.ensures in
    lasts _ _ (keeps_refl _) _ _ _ _ _ _ c.self.invariant c.self.view_is _ l.least l.most

pub returns-in-Element-clause-over : goal.returns-in-Element-clause-over
returns-in-Element-clause-over g c over =
    let i = c.self.inside in
    let l = c.lasting_with-self-inside-in-Element in
    let more = (lasts i.texts i.texts (keeps_refl i.texts) i.lasting i.registers i.comparison i.tuple i.numbers c.args.self.now c.self.invariant c.self.view_is l.result l.ensures.least l.ensures.most).lasting.more in
    let last = take l.result i.texts in
    c.store_own-in-Element.ensures.over last (take_distinct i.texts l.result c.self.invariant.distinct) (g.met.M.Memory.stays c.args.memory.now c.args.self.now.lasting last over more).0
    (subst (λ (ws : List Word). All (IsWithin last) (c.args.word ∷ ws)) c.words-key.ensures.words l.ensures.within)

pub returns-in-Element-clause-stores : goal.returns-in-Element-clause-stores
returns-in-Element-clause-stores g c =
    subst (λ (s : Seen). StoresWord g.M.Memory.holds g.M.Memory.beside c.args.memory.now s.texts c.store_own-in-Element.new.self c.store_own-in-Element.result (set_in (g.M.Memory.holds c.args.memory.now s.texts) c.args.variable s.frame.tuple (value_of s.texts c.args.word))) c.self.view_is
    (rw c.in-Element.is c.store_own-in-Element.ensures.stores)
