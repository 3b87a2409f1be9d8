use Rattle.std.proofs.Common.{◌≡◌, None, inl, refl, rules}
use Rattle.std.specs.Prelude.{Err}
use Rattle.consumer.proofs.LongFiles.{holds_of_file}
use Rattle.consumer.proofs.Unread.{any_file, consumed_seen, script_unread}
use Rattle.consumer.proofs.consumer.Consumer.run_request.Goals as goal

pub returns-in_default-clause-run : goal.returns-in_default-clause-run
returns-in_default-clause-run g c =
    let none : c.args.request.now.file ≡ None = search rules in
    inl (consumed_seen g.S.Sink.seen _ _ _ _ _ _ _ (λ bundle shown. rw none shown) c.consume.ensures)

-- the file of -s was not read
pub returns-in-Err-clause-run : goal.returns-in-Err-clause-run
returns-in-Err-clause-run g c = script_unread g.L.Layout.shows c.args.request.now (g.C.ScriptFiles.bytes c.args.files.now) _ (Err c.in-Err.fault) c.in-Err.fault
    c.in-Some.file c.in-Some.is c.requires refl c.in-Err.ensures.fault

-- it was read, or so much of it that it is too long
pub returns-in-Ok-clause-run : goal.returns-in-Ok-clause-run
returns-in-Ok-clause-run g c =
    let known = rw c.as_str.ensures.value at c.in-Ok.ensures.bytes in
    inl (consumed_seen g.S.Sink.seen _ _ _ _ _ _ _
    (λ trace shown. any_file c.args.request.now.file c.in-Some.file _ _ c.in-Some.is (holds_of_file _ _ trace _ _ _ _ _ known (rw c.deref.ensures.value at shown)))
    c.consume_trace-answer.ensures)
