use Rattle.std.proofs.Common.{nat_le, ap, ◌∙◌}
use Rattle.d_types.specs.Typed.{typed_of}
use Rattle.d_types.specs.Needs.{need}
use Rattle.d_types.proofs.Registers.{read_need, step_need, assign_fits, update_fits}
use Rattle.d_types.proofs.needs.+needs.Goals as goal

pub fits-returns-in-Read : goal.fits-returns-in-Read
fits-returns-in-Read t c = rw (ap (λ e. need (typed_of e)) c.in-Read.is ∙ read_need c.in-Read.field-0 c.in-Read.keys, ← c.deref.ensures.value) c.read_fits.ensures

pub fits-returns-in-Step : goal.fits-returns-in-Step
fits-returns-in-Step t c = rw (ap (λ e. need (typed_of e)) c.in-Step.is ∙ step_need c.in-Step.field-0 c.in-Step.field-1 c.in-Step.field-2 c.in-Step.keys, ← c.deref-in-Step.ensures.value) c.step_fits.ensures

pub fits-returns-in-Assign : goal.fits-returns-in-Assign
fits-returns-in-Assign t c = rw (ap (λ e. nat_le (need (typed_of e)) c.args.registers) c.in-Assign.is ∙ assign_fits c.in-Assign.field-0 c.in-Assign.keys c.in-Assign.a c.args.registers, ← c.deref-in-Assign.ensures.value, c.deref-in-Assign.ensures.len, ← c.len.ensures, ← c.deref-in-Assign-2.ensures, ← c.value_fits.ensures) c.both_fit.ensures

pub fits-returns-in-Update : goal.fits-returns-in-Update
fits-returns-in-Update t c = rw (ap (λ e. nat_le (need (typed_of e)) c.args.registers) c.in-Update.is ∙ update_fits c.in-Update.field-0 c.in-Update.field-1 c.in-Update.keys c.in-Update.a c.args.registers, ← c.deref-in-Update.ensures.value, c.deref-in-Update.ensures.len, ← c.len-in-Update.ensures, ← c.deref-in-Update-2.ensures, ← c.value_fits-in-Update.ensures) c.both_fit-in-Update.ensures
