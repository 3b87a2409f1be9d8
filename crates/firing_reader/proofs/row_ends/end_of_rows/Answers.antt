use Rattle.std.proofs.Common.{◌≡◌, ◌<◌, ◌+◌, ℕ, List, length, take, get_or, arith}
use Rattle.std.proofs.Common.{subst}
use Rattle.std.proofs.lemmas.List.{take_more}
use Rattle.firing_reader.specs.Steps.RowEnds.{place_after}
use Rattle.firing_reader.specs.declared.row_ends.Place.{Place}
use Rattle.firing_reader.proofs.RowEnds.{StandsAt, ends_between, ends_nowhere, stands_first}
use Rattle.firing_reader.proofs.RowEnds.{stands_more}
use Rattle.firing_reader.proofs.row_ends.end_of_rows.Goals as goal
use Rattle.firing_reader.proofs.row_ends.end_of_rows.Goals.{in-Between+else-end-enough, in_default}

pub loop-at-init : goal.loop-at-init
loop-at-init c = record { count = omega arith; ends = ends_nowhere; stands = stands_first }

-- one more byte
step : (bytes : List ℕ) (at : ℕ) (place next : Place) → at < length bytes → StandsAt (take at bytes) place → next ≡ place_after place (get_or bytes at 0) → StandsAt (take (at + 1) bytes) next
step bytes at place next within stands is = rw (take_more bytes at 0 within, is) (stands_more (take at bytes) place (get_or bytes at 0) stands)

pub returns-then-end-enough-clause-ends : goal.returns-then-end-enough-clause-ends
returns-then-end-enough-clause-ends c =
    let next = step c.args.bytes.now c.loop-at.at c.loop-at.place c.after-place.result (omega arith) c.loop-at.invariant.stands c.after-place.ensures in
    ends_between (take (c.loop-at.at + 1) c.args.bytes.now) (rw c.in-Between.is at next)

pub loop-at-preserved : goal.loop-at-preserved
loop-at-preserved c =
    let at = c.loop-at.at in
    let bytes = c.args.bytes.now in
    let next = step bytes at c.loop-at.place c.after-place.result (omega arith) c.loop-at.invariant.stands c.after-place.ensures in
    elim c.match-place.branch [
      | in-Between+else-end-enough w ↦ record {
        count = rw w.end-is (omega arith);
        ends = rw w.end-is (ends_between (take (at + 1) bytes) (subst (λ (p : Place). StandsAt (take (at + 1) bytes) p) w.in-Between.is next));
        stands = next;
      }
      | in_default w ↦ record { count = rw w.end-is (omega (arith, c.loop-at.invariant.count)); ends = rw w.end-is c.loop-at.invariant.ends; stands = next }
    ]
