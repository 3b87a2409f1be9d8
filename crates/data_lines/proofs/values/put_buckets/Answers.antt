use Rattle.std.proofs.Common.{◌≡◌, ◌+◌, ◌-◌, ◌++◌, ◌∷◌, [], cond, filter}
use Rattle.std.proofs.Common.{Bool, get_or, ap, sym, ◌∙◌, append-nil, append_assoc, arith, rules}
use Rattle.std.proofs.Common.{to_z, of_z, w64}
use Rattle.std.specs.List.{flat_map, range_with_len}
use Rattle.std.proofs.lemmas.Bool.{le-ltb, lt-ltb}
use Rattle.report.proofs.Rows.{last_within, ordered}
use Rattle.data_lines.specs.Vocabulary.{label}
use Rattle.data_lines.specs.Json.{comma_list}
use Rattle.data_lines.specs.Values.{bucket_value, pair_value}
use Rattle.data_lines.proofs.Buckets.{bucket_done, buckets_all, has_some, used_of_none}
use Rattle.data_lines.proofs.values.put_buckets.Goals as goal
use Rattle.data_lines.proofs.values.put_buckets.Goals.{then-count-gt0+in_ok-push+in_ok-put_bucket-2, else-count-gt0}

pub returns-in_default : goal.returns-in_default
returns-in_default c =
    let h = c.args.histogram.now in
    sym (append-nil c.args.out.now.items) ∙ ap (λ bs. c.args.out.now.items ++ comma_list (bucket_value h) bs) (sym (used_of_none h.counts c.in_default.ensures))

pub loop-bucket-preserved : goal.loop-bucket-preserved
loop-bucket-preserved c =
    let h = c.args.histogram.now in
    let b = c.loop-bucket.bucket in
    let out = c.loop-bucket.out.items in
    let count = c.count_at-count.result in
    let is = c.count_at-count.ensures in
    let more = λ (t : Bool). out ++ cond t (44 ∷ bucket_value h b) [] in
    let put : c.if-count-gt0.out.items ≡ more (has_some h.counts b) = elim c.if-count-gt0.branch [
      | then-count-gt0+in_ok-push+in_ok-put_bucket-2 w ↦
          let some = w.if-count-gt0.true in
          let number = w.label-then-count-gt0.result in
          let same : to_z w64 (of_z w64 number) ≡ number = search rules in
          ap (λ v. v.items) w.out-is ∙ w.in_ok-put_bucket-2.ensures ∙ ap (λ l. l ++ pair_value (to_z w64 (of_z w64 number)) count) w.in_ok-push.ensures.items
          ∙ append_assoc out (44 ∷ []) (pair_value (to_z w64 (of_z w64 number)) count)
          ∙ ap (λ z. out ++ 44 ∷ pair_value z count) (same ∙ w.label-then-count-gt0.ensures ∙ ap (λ s. label s b) c.scale-scale.ensures.value)
          ∙ ap (λ n. out ++ 44 ∷ pair_value (label h.scale b) n) is
          ∙ ap more (sym (lt-ltb 0 (get_or h.counts b 0) (omega arith)))
      | else-count-gt0 w ↦
          let none = w.if-count-gt0.false in
          ap (λ v. v.items) w.out-is ∙ sym (append-nil out) ∙ ap more (sym (le-ltb 0 (get_or h.counts b 0) (omega arith)))
    ] in
    bucket_done (λ b. 44 ∷ bucket_value h b) (has_some h.counts) (c.in-Some.first + 1) b c.put_bucket.new.out.items out c.if-count-gt0.out.items
    c.loop-bucket.auto.bucket c.loop-bucket.invariant put

pub returns : goal.returns
returns c =
    let h = c.args.histogram.now in
    let old = c.args.out.now.items in
    let first = c.in-Some.first in
    let last = c.in-Some.last in
    let span = c.in-Some.ensures in
    let up = ordered h.counts first last span in
    let inside = last_within h.counts first last span in
    let long = c.scale-scale.ensures.long in
    let most = c.buckets.ensures in
    let add = c.saturating_add.ensures in
    let least = c.min-end.ensures in
    let end : c.min-end.result ≡ last + 1 = omega arith in
    let stop : c.loop-bucket.bucket ≡ last + 1 =
    (let le = c.loop-bucket.auto.bucket-end (omega arith) in let past = c.loop-bucket-test.false in omega arith) in
    let begun = c.put_bucket.new.out.items in
    let same : to_z w64 (of_z w64 c.label.result) ≡ c.label.result = search rules in
    let start : begun ≡ old ++ bucket_value h first =
    c.in_ok-put_bucket.ensures
    ∙ ap (λ z. old ++ pair_value z c.count_at.result) (same ∙ c.label.ensures ∙ ap (λ s. label s first) c.scale-scale.ensures.value)
    ∙ ap (λ n. old ++ pair_value (label h.scale first) n) c.count_at.ensures in
    buckets_all (bucket_value h) h.counts first last old begun c.loop-bucket.out.items span start
    (c.loop-bucket.invariant ∙ ap (λ n. begun ++ flat_map (λ b. 44 ∷ bucket_value h b) (filter (has_some h.counts) (range_with_len (first + 1) (n - (first + 1))))) stop)
