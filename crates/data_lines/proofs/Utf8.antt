-- Whether a text is UTF-8 where it begins with ASCII.
use Rattle.std.proofs.Common.{◌≡◌, ◌≤◌, ℕ, List, length, take, drop, true, false, IsAscii}
use Rattle.std.proofs.Math.Path.{subst}
use Rattle.std.specs.Str.{IsUtf8, is_utf8}
use Rattle.std.proofs.lemmas.Bool.{false_from_ne_true}
use Rattle.std.proofs.lemmas.List.{take-append-drop}
use Rattle.std.proofs.lemmas.Str.{IsUtf8-append, IsUtf8-drop, IsUtf8-from_ascii, IsUtf8-from_is_utf8, is_utf8-from_IsUtf8, IsCharBoundary-from_take}

-- it is where the rest is
pub is_utf8-from_rest : (text : List ℕ) (n : ℕ) → IsAscii (take n text) → IsUtf8 (drop n text) → is_utf8 text ≡ true
is_utf8-from_rest text n ascii rest =
    is_utf8-from_IsUtf8 text (subst IsUtf8 (take-append-drop n text) (IsUtf8-append (take n text) (drop n text) (IsUtf8-from_ascii (take n text) ascii) rest))

-- and it isn't where the rest isn't
pub not_utf8-from_rest : (text : List ℕ) (n : ℕ) → n ≤ length text → IsAscii (take n text) → ¬ (IsUtf8 (drop n text)) → is_utf8 text ≡ false
not_utf8-from_rest text n within ascii wrong =
    false_from_ne_true (is_utf8 text) (λ is.
    let whole = IsUtf8-from_is_utf8 text is in
    wrong (IsUtf8-drop text n whole (IsCharBoundary-from_take text n whole within (IsUtf8-from_ascii (take n text) ascii))))
