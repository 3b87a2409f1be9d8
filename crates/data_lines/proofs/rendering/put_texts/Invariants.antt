use Rattle.std.proofs.Common.{◌≡◌, ◌++◌, drop}
use Rattle.std.specs.List.{flat_map}
use Rattle.data_lines.specs.Lines.{text_line}
use Rattle.data_lines.proofs.rendering.put_texts.Given as goal

abbrev pub invariant-loop-firing : goal.invariant-loop-firing
invariant-loop-firing l = l.out.items ++ flat_map text_line (drop l.firing-index l.texts) ≡ l.fn.out.items ++ flat_map text_line l.texts
