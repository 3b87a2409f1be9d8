use Rattle.std.proofs.Common.{◌≡◌, ◌<◌, ◌∙◌, false, sym, ap, subst, cond, length, vec_len}
use Rattle.std.proofs.Common.{slice_get, Some, List, arith}
use Rattle.std.specs.Prelude.{ℤ}
use Rattle.std.specs.Ordering.{int_eq}
use Rattle.std.specs.List.{zip}
use Rattle.std.specs.Map.{lookup}
use Rattle.std.proofs.lemmas.Int.{to_z-of_z}
use Rattle.std.proofs.lemmas.Option.{slice_get_within, slice_get_read}
use Rattle.shard_queue.specs.Threads.{has}
use Rattle.shard_queue.proofs.Sought.{lookup_at, lookup_stranger, not_zero}
use Rattle.shard_queue.proofs.groups.Groups.group_of.Goals as goal

pub returns-in_err-index-clause-group : goal.returns-in_err-index-clause-group
returns-in_err-index-clause-group c =
    let thread = c.ranges.thread in
    let self = c.args.self.now in
    let none = simp to_z-of_z at c.in_err-index.ensures in
    c.from_residual.ensures
    ∙ sym (lookup_stranger self.threads.items self.numbers.items c.args.thread (subst (λ (ts : List ℤ). has ts c.args.thread ≡ false) c.deref.ensures.value none))
    ∙ sym (ap (λ b. cond b (Some self.own) (lookup (int_eq c.args.thread) (zip self.threads.items self.numbers.items))) (not_zero c.args.thread c.if-thread-eq0.false))

pub index-requires : goal.index-requires
index-requires c =
    let self = c.args.self.now in
    let lt : c.in_ok-index.index < length c.deref.result.now = slice_get_within c.deref.result.now c.in_ok-index.index _ c.in_ok-index.ensures in
    let len = c.deref.ensures.len in
    let same = self.numbered in
    omega arith

pub returns-clause-group : goal.returns-clause-group
returns-clause-group c =
    let thread = c.ranges.thread in
    let self = c.args.self.now in
    let at = simp to_z-of_z at c.in_ok-index.ensures in
    let lt : c.in_ok-index.index < length c.deref.result.now = slice_get_within c.deref.result.now c.in_ok-index.index _ c.in_ok-index.ensures in
    let len = c.deref.ensures.len in
    let same = self.numbered in
    let size = self.numbers.ok.0 in
    let within : c.in_ok-index.index < vec_len self.numbers = omega arith in
    sym (slice_get_read self.numbers.items _ c.in_ok-index.index c.index.result.now size within c.index.ensures)
    ∙ sym (lookup_at self.threads.items self.numbers.items c.in_ok-index.index c.args.thread self.ascending (subst (λ (ts : List ℤ). slice_get ts c.in_ok-index.index ≡ Some c.args.thread) c.deref.ensures.value at))
    ∙ sym (ap (λ b. cond b (Some self.own) (lookup (int_eq c.args.thread) (zip self.threads.items self.numbers.items))) (not_zero c.args.thread c.if-thread-eq0.false))

pub returns-clause-below : goal.returns-clause-below
returns-clause-below c =
    let self = c.args.self.now in
    let lt : c.in_ok-index.index < length c.deref.result.now = slice_get_within c.deref.result.now c.in_ok-index.index _ c.in_ok-index.ensures in
    let len = c.deref.ensures.len in
    let same = self.numbered in
    let size = self.numbers.ok.0 in
    let small = self.small c.in_ok-index.index c.index.result.now (omega arith) in
    let is = c.index.ensures in
    omega arith
