use Rattle.std.proofs.Common.{sym, subst}
use Rattle.d_values.specs.Stores.{AreLocals}
use Rattle.d_values.proofs.Storing.{AreLocals-set, on_either}
use Rattle.d_values.proofs.clause_locals.ClauseLocals.set.Goals as goal

pub invariant_of-self : goal.invariant_of-self
invariant_of-self c =
    on_either c.put.result c.put.ensures.ok c.put.ensures.err
    (λ u. AreLocals-set c.self.inside.map.entries c.put.new.map.entries c.args.var c.args.value c.self.invariant c.requires u.0)
    (λ e. subst AreLocals (sym e) c.self.invariant)
