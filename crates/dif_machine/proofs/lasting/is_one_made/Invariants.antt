use Rattle.std.proofs.Common.{◌≤◌, ℕ, List, length, take}
use Rattle.std.specs.List.{All}
use Rattle.dif_machine.specs.Machine.{IsWithin}
use Rattle.dif_machine.proofs.lasting.is_one_made.Given as goal

abbrev pub invariant-loop-part : goal.invariant-loop-part
invariant-loop-part l = (texts : List (List ℕ)) → All (IsWithin texts) l.key → l.lasting ≤ length texts → All (IsWithin (take l.lasting texts)) (take l.part-index l.key)
