use Rattle.std.proofs.Common.{ℕ, ℤ, true, false, add-one, sym, ◌∙◌, ◌≡◌, ◌<◌, ◌≤◌, rules, map, get_or, length}
use Rattle.std.proofs.Math.Arith.{lt_of_le-ne}
use Rattle.std.proofs.lemmas.Int.{to_z-of_z}
use Rattle.std.proofs.lemmas.List.{get_or_read_under, length-map, length-set}
use mir.Val.{SFits}
use mir.Syntax.{w32}
use Rattle.std.specs.BTreeSet.{contains}
use Rattle.std.specs.Ordering.{int_cmp}
use Rattle.firings.specs.Firings.{thread_of}
use Rattle.firings.proofs.Probing.{at_index}
use Rattle.firings.proofs.Threads.{all_seen, is_among, next_noted, noted_seen, same_members, seen_all, seen_before, seen_more, stay_noted}
use Rattle.firings.proofs.trace.threads_of.Goals as goal
use Rattle.firings.proofs.trace.threads_of.Goals.{else-loop-at-test, then-loop-at-test+then-front-len, else-index, then-index}

pub note-requires-clause-noted : goal.note-requires-clause-noted
note-requires-clause-noted c =
    let fits : SFits w32 c.thread.result = search rules in
    rw (to_z-of_z w32 c.thread.result fits) (λ is. c.loop-at.invariant.noted c.index_of-owner.result is c.thread.result c.thread.ensures)

pub loop-at-preserved : goal.loop-at-preserved
loop-at-preserved c =
    let fits : SFits w32 c.thread.result = search rules in
    let i = c.loop-at.invariant in
    let ts = map thread_of c.args.firings.now in
    let t = c.thread.result in
    let indices = c.owner_indices-indices.result in
    let lt : c.loop-at.at < length ts = rw (length-map c.args.firings.now thread_of) (rw c.len-at-end.ensures at c.loop-at-test.true) in
    let more = simp to_z-of_z at c.in_ok-note.ensures.seen in
    let item : get_or ts c.loop-at.at t ≡ t = at_index indices.0 indices.1 ts c.loop-at.at c.index_of-owner.result t c.owner_indices-indices.ensures lt c.index_of-owner.ensures.index c.thread.ensures in
    let here : c.index_of-owner.result < length c.loop-at.noted.items = rw i.sized c.index_of-owner.ensures.within in
    let stay : (o : ℕ) → o < c.loop-at.front → get_or c.note.new.noted.items o false ≡ true =
    rw c.in_ok-note.ensures.noted (stay_noted c.loop-at.noted.items c.index_of-owner.result c.loop-at.front here i.passed) in
    let count = c.len.ensures ∙ c.loop-at.noted.ok.0 ∙ i.sized in
    let below : c.loop-at.front < length indices.0 = lt_of_le-ne i.within (λ e. c.if-front-len.false (e ∙ sym count)) in
    record {
      seen = seen_more c.loop-at.seen c.note.new.seen ts c.loop-at.at t lt item more i.seen;
      sized = rw (c.in_ok-note.ensures.noted, length-set c.loop-at.noted.items c.index_of-owner.result _) i.sized;
      within = elim c.if-index.branch [ then-index w ↦ rw w.front-is (rw (add-one) below) | else-index w ↦ rw w.front-is i.within ];
      passed = elim c.if-index.branch [
        | then-index w ↦ rw w.front-is (next_noted c.note.new.noted.items c.loop-at.front (sym (get_or_read_under c.note.new.noted.items c.loop-at.front _ c.index.result.now false c.index.ensures below (search rules)) ∙ w.if-index.true) stay)
        | else-index w ↦ rw w.front-is stay
      ];
      noted = rw c.in_ok-note.ensures.noted (noted_seen c.loop-at.seen c.note.new.seen indices.0 c.loop-at.noted.items c.index_of-owner.result t here c.thread.ensures more i.noted);
    }

pub returns : goal.returns
returns c =
    let ts = map thread_of c.args.firings.now in
    let i = c.loop-at.invariant in
    let all : (q : ℤ) → contains int_cmp c.loop-at.seen q ≡ is_among q ts = elim c.loop-at-test.branch [
      | else-loop-at-test w ↦
          let past : length ts ≤ c.loop-at.at = rw (length-map c.args.firings.now thread_of) (rw c.len-at-end.ensures at w.loop-at-test.false) in
          seen_all c.loop-at.seen ts c.loop-at.at past i.seen
      | then-loop-at-test+then-front-len w ↦
          let all : c.loop-at.front ≡ length c.owner_indices-indices.result.0 = w.if-front-len.true ∙ w.len.ensures ∙ c.loop-at.noted.ok.0 ∙ i.sized in
          let passed : (o : ℕ) → o < length c.owner_indices-indices.result.0 → get_or c.loop-at.noted.items o false ≡ true = rw (← all) i.passed in
          seen_before c.loop-at.seen ts c.loop-at.at (all_seen c.loop-at.seen c.owner_indices-indices.result.0 c.loop-at.noted.items c.owner_indices-indices.result.1 ts c.owner_indices-indices.ensures passed i.noted) i.seen
    ] in
    λ t. same_members c.loop-at.seen.keys ts all t
