use Rattle.std.proofs.Common.{rules, ◌≡◌, ◌∙◌, ◌++◌, append_assoc}
use Rattle.firing_reader.proofs.owners.owner_bytes.Goals as goal

pub returns : goal.returns
returns c =
    let name = c.args.firing.now.execname in
    let cpu = c.to_le_bytes.result in
    let thread = c.to_le_bytes-2.result in
    let pid = c.to_le_bytes-3.result in
    let first : c.add_bytes.new.all.items ≡ name = search rules in
    (cpu ++ (thread ++ pid), rw (c.in_ok-add_bytes-4.ensures, c.in_ok-add_bytes-3.ensures, c.in_ok-add_bytes-2.ensures, first) (append_assoc (name ++ cpu) thread pid ∙ append_assoc name cpu (thread ++ pid)))
