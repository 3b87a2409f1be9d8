use Rattle.csv.specs.Records.{fields_of}
use Rattle.firing_reader.proofs.Left.{read_one}
use Rattle.firing_reader.proofs.records.read_record.Goals as goal

pub returns-in-Ok-clause-taken : goal.returns-in-Ok-clause-taken
returns-in-Ok-clause-taken c =
    let h = c.requires in
    let e = c.in-Ok.ensures in
    read_one c.in-Ok.found c.args.records.now c.read_byte_record.new.self (fields_of c.read_byte_record.new.row) h (e.reads h.plain h.ready) (e.ready h.plain) e.flexible
