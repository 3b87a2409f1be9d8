use Rattle.std.proofs.Common.{◌≡◌, ◌<◌, ℕ, List, Bor, [], ◌∷◌, ◌++◌, sym, ap, ◌∙◌, rules, append_assoc, append-nil, length, map}
use Rattle.std.specs.List.{flat_map}
use Rattle.std.specs.Map.Iter.{deref_pair}
use Rattle.std.specs.Slice.Iter.{chunks_rest}
use Rattle.std.proofs.lemmas.List.{nil_from_length}
use Rattle.std.proofs.lemmas.List.Concat.{flat_map-append}
use Rattle.std.proofs.lemmas.Result.{on_ok_weaker}
use Rattle.report.specs.Entry.{entry_bytes}
use Rattle.report.specs.Listing.{listing_bytes}
use Rattle.report.specs.Vocabulary.{Held, KeyPart}
use Rattle.report.proofs.Listings.{listing_of_some}
use Rattle.report.proofs.rendering.put_entries.Goals as goal

abbrev all_bytes : List (Bor (List KeyPart) × Bor Held) → List ℕ
all_bytes = flat_map (λ e. entry_bytes (deref_pair e))

whole : (entries : List (Bor (List KeyPart) × Bor Held)) (out pushed after : List ℕ) → 0 < length entries → pushed ≡ out ++ 10 ∷ [] → after ≡ pushed ++ all_bytes entries
    → after ≡ out ++ listing_bytes (map deref_pair entries)
whole entries out pushed after some is put = put ∙ ap (λ l. l ++ all_bytes entries) is ∙ listing_of_some entries out some

pub loop-round-init : goal.loop-round-init
loop-round-init g c = (search rules, tt, search rules)

pub loop-round-preserved : goal.loop-round-preserved
loop-round-preserved g c =
    let bytes = λ (e : Bor (List KeyPart) × Bor Held). entry_bytes (deref_pair e) in
    let out = c.loop-round.out.items in
    let round = c.in-Some.round.now in
    let after = chunks_rest c.next.new.self in
    let parts = c.in-Some.ensures.steps.1.0 in
    let put : c.put_round.new.out.items ≡ out ++ flat_map bytes round = c.in_ok-put_round.ensures in (
      search rules,
      tt,
      ap (λ l. l ++ flat_map bytes after) put ∙ append_assoc out (flat_map bytes round) (flat_map bytes after)
          ∙ ap (λ l. out ++ l) (sym (flat_map-append bytes round after) ∙ ap (flat_map bytes) (sym parts)) ∙ c.loop-round.invariant.2,
    )

pub returns-then-entries-lt-MIN_FOR_THREADS : goal.returns-then-entries-lt-MIN_FOR_THREADS
returns-then-entries-lt-MIN_FOR_THREADS g c =
    on_ok_weaker c.put_each.result (whole c.args.entries.now _ _ _ (search rules) c.in_ok-push.ensures.items) c.put_each.ensures

pub returns : goal.returns
returns g c =
    let out = c.loop-round.out.items in
    let none = nil_from_length _ c.in-None.ensures.steps.1.0 in
    whole c.args.entries.now _ _ _ (search rules) c.in_ok-push.ensures.items (sym (append-nil out) ∙ ap (λ l. out ++ all_bytes l) (sym none) ∙ c.loop-round.invariant.2)
