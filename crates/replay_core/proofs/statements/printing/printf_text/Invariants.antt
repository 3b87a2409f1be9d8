use Rattle.std.proofs.Common.{◌≡◌, ◌++◌, drop}
use Rattle.d_types.specs.Printing as spec
use Rattle.replay_core.proofs.statements.printing.printf_text.Given as goal

abbrev pub invariant-loop-piece : goal.invariant-loop-piece
invariant-loop-piece l = l.bytes.items ++ spec.printf_text (drop l.piece-index l.format) l.rest ≡ spec.printf_text l.format l.values
