use Rattle.std.proofs.Common.{◌≡◌, ◌++◌, drop}
use Rattle.std.specs.List.{flat_map}
use Rattle.data_lines.specs.Texts.{hex_digits}
use Rattle.data_lines.proofs.texts.put_in_hex.Given as goal

abbrev pub invariant-loop-byte : goal.invariant-loop-byte
invariant-loop-byte l = l.out.items ++ flat_map hex_digits (drop l.byte-index l.text) ≡ l.initial.out.items ++ flat_map hex_digits l.text
