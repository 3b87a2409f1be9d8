use Rattle.d_types.specs.Typed.{typed_of}
use Rattle.dif_validate.specs.Objects.{object_of}
use Rattle.dif_codegen.proofs.Adding.{drafted}
use Rattle.dif_codegen.proofs.Listed.{same_object}
use Rattle.dif_codegen.proofs.Compiled.{is_returning}
use Rattle.dif_codegen.proofs.compiling.compile_expression.Goals as goal

pub from_valid-object-requires-clause-valid : goal.from_valid-object-requires-clause-valid
from_valid-object-requires-clause-valid c =
    let h = drafted (typed_of c.args.e.now) _ c.emit.new.draft c.put.new.draft c.new.ensures.items c.new-2.ensures.items c.new-3.ensures.items c.in_ok-emit.ensures c.in_ok-put.ensures in
    (is_returning c.requires.consistent.0 (typed_of c.args.e.now) c.requires.consistent.1 c.requires.few (object_of c.put.new.draft) h.code h.texts h.numbers).valid

pub from_valid-object-requires-clause-kind : goal.from_valid-object-requires-clause-kind
from_valid-object-requires-clause-kind c =
    let h = drafted (typed_of c.args.e.now) _ c.emit.new.draft c.put.new.draft c.new.ensures.items c.new-2.ensures.items c.new-3.ensures.items c.in_ok-emit.ensures c.in_ok-put.ensures in
    let r = is_returning c.requires.consistent.0 (typed_of c.args.e.now) c.requires.consistent.1 c.requires.few (object_of c.put.new.draft) h.code h.texts h.numbers in
    rw (c.kind_of.ensures, c.type_of-returns.ensures) r.returned

pub returns : goal.returns
returns c =
    let h = drafted (typed_of c.args.e.now) _ c.emit.new.draft c.put.new.draft c.new.ensures.items c.new-2.ensures.items c.new-3.ensures.items c.in_ok-emit.ensures c.in_ok-put.ensures in
    same_object (typed_of c.args.e.now) c.put.new.draft _ _ h c.from_valid-object.ensures c.type_of-returns.ensures
