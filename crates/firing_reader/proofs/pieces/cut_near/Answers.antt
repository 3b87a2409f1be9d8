use Rattle.std.proofs.Common.{◌≡◌, ◌<◌, ◌+◌, ◌-◌, ◌∙◌, ℕ, List, length, get_or, take, drop, take_all, length-drop, refl, sym, ap, arith, add-one, rules, take-append-drop}
use Rattle.std.proofs.lemmas.List.{length-take-le}
use Rattle.std.proofs.Math.Seq.{drop-cons}
use Rattle.firing_reader.specs.Pieces.{AreCut}
use Rattle.firing_reader.specs.Plain.{BeginsAtEnd, IsEnd}
use Rattle.firing_reader.proofs.pieces.cut_near.Goals as goal

cut_at : (bytes : List ℕ) (at : ℕ) → BeginsAtEnd bytes → at < length bytes → IsEnd (get_or bytes at 0) → AreCut bytes (take (at + 1) bytes) (take (length bytes - at) (drop at bytes))
cut_at bytes at (end, after, is, ends) inside own = record {
  first = (end, take at after, rw (is, add-one) refl, ends);
  end = get_or bytes at 0;
  after = drop (at + 1) bytes;
  is_last = take_all (length bytes - at) (drop at bytes) (omega (arith, length-drop at bytes)) ∙ rw (add-one, drop-cons bytes at 0) refl;
  ends = own;
  is_bytes = sym (take-append-drop (at + 1) bytes);
}

pub returns-then-not-is_end : goal.returns-then-not-is_end
returns-then-not-is_end c =
    let bytes = c.args.bytes.now in
    let at = c.loop-at.at in
    let inside : at < length bytes = search rules in
    let size = length-take-le (at + 1) bytes (omega (arith, inside)) in
    let front : at ≡ length (take (at + 1) bytes) - 1 = omega (arith, size) in
    record {
      cut = cut_at bytes at c.requires (search rules) (search rules);
      last = take_all (length bytes - at) (drop at bytes) (omega (arith, length-drop at bytes)) ∙ ap (λ n. drop n bytes) front;
    }
