-- The script of a bundle that goes on for long without a dividing line.
use Rattle.std.proofs.Common.{◌≡◌, ◌+◌, ◌<◌, ◌≤◌, ℕ, List, [], ◌∷◌, ◌++◌, length, take, drop, refl}
use Rattle.std.proofs.Common.{sym, ap, ◌∙◌, subst, append_assoc, length-append, length-drop, arith}
use Rattle.std.proofs.Common.{⊎_elim}
use Rattle.std.specs.Prelude.{codes}
use Rattle.std.proofs.lemmas.List.{length-take-le, take-append-drop}
use Rattle.consumer.specs.Steps.Beginnings.{IsUndivided}
use Rattle.consumer.specs.Bundle.{Divides, IsDivider, IsLine}
use Rattle.consumer.proofs.Divisions.{division, line_rest}

divider_short : (line : List ℕ) → IsDivider line → length line ≤ 4
divider_short line is = ⊎_elim
    (λ (e : line ≡ codes "---"). let size : length line ≡ 3 = ap length e in omega arith)
    (λ (e : line ≡ codes "---\r"). let size : length line ≡ 4 = ap length e in omega arith)
    is

-- a line is no longer than the bytes before the first line feed
line_within : (line rest front after : List ℕ) → IsLine line → front ++ 10 ∷ after ≡ line ++ rest → length line ≤ length front
line_within [] rest front after own e = omega arith
line_within (b ∷ line) rest [] after own e = absurd (own 0 b (omega arith) (cc))
line_within (b ∷ line) rest (f ∷ front) after own e =
    let more = line_within line rest front after (line_rest b line own) (cc) in omega arith

-- the script has the line that the bundle begins with, unless that divides
line_in : (all script trace : List ℕ) → Divides all script trace → (line rest : List ℕ) → all ≡ line ++ rest → IsLine line → length line ≤ length script + 4
line_in a s t (Divides.before front after script trace own' other more) line rest e own =
    let within = line_within line rest front after own e in
    let size = length-append front (10 ∷ script) in
    omega arith
line_in a s t (Divides.divider front trace is) line rest e own =
    let within = line_within line rest front trace own e in
    let short = divider_short front is in
    omega arith
line_in a s t (Divides.last_divider front is) line rest e own =
    let size = ap length e ∙ length-append line rest in
    let short = divider_short front is in
    omega arith
line_in a s t (Divides.last_line front own' other) line rest e own =
    let size = ap length e ∙ length-append line rest in
    omega arith

-- whatever comes next, the bundle is divided, and has a long script
pub long_script : (bytes : List ℕ) (count most : ℕ) → IsUndivided bytes count → most + 4 < length bytes → (rest : List ℕ)
    → (script trace : List ℕ) × Divides (bytes ++ rest) script trace × (most < length script)
long_script bytes count most u long rest =
    let line = drop count bytes in
    let front = take count bytes in
    let (s, t, d) = division (line ++ rest) in
    let whole : front ++ (line ++ rest) ≡ bytes ++ rest = sym (append_assoc front line rest) ∙ ap (λ b. b ++ rest) (take-append-drop count bytes) in
    let few = u.few in
    let in_script = line_in (line ++ rest) s t d line rest refl u.line in
    let line_size : length (drop count bytes) + count ≡ length bytes = omega (arith, length-drop count bytes) in
    let front_size : length (take count bytes) ≡ count = length-take-le count bytes u.few in
    let size = length-append (take count bytes) s in
    (front ++ s, t, subst (λ b. Divides b (front ++ s) t) whole (u.passed (line ++ rest) s t d), omega arith)
