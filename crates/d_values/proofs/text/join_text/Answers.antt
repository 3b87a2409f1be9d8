use Rattle.std.proofs.Common.{◌≡◌, ◌<◌, ◌≤◌, ℕ, ◌+◌, ◌-◌, List, ◌++◌, length, take, min, sym, ap}
use Rattle.std.proofs.Common.{◌∙◌, arith, append-nil, inl, inr, rules}
use Rattle.std.proofs.lemmas.List.{take-append-le, take_min, take_all, length-take}
use Rattle.std.proofs.Math.Seq.{take-append-add}
use Rattle.std.proofs.lemmas.Bool.{cases_lt}
use Rattle.d_values.proofs.text.join_text.Goals as goal

-- the first text is cut
cut : (a b : List ℕ) (m n : ℕ) → m ≡ min (length a) 255 → n ≡ min (length b) (255 - length (take m a)) → 255 ≤ length a → take m a ++ take n b ≡ take 255 (a ++ b)
cut a b m n m_is n_is long =
    let whole : m ≡ 255 = omega arith in
    let none : n ≡ 0 = omega (arith, length-take m a) in
    ap (λ k. take k a ++ take n b) whole ∙ ap (λ k. take 255 a ++ take k b) none ∙ append-nil (take 255 a) ∙ sym (take-append-le 255 a b long)

-- the first text is whole
fits : (a b : List ℕ) (m n : ℕ) → m ≡ min (length a) 255 → n ≡ min (length b) (255 - length (take m a)) → length a < 255 → take m a ++ take n b ≡ take 255 (a ++ b)
fits a b m n m_is n_is short =
    let rest : n ≡ min (255 - length a) (length b) = omega (arith, length-take m a) in
    let all : length a + (255 - length a) ≡ 255 = omega arith in
    ap (λ l. l ++ take n b) (take_all m a (omega arith)) ∙ ap (λ k. a ++ take k b) rest ∙ ap (λ l. a ++ l) (take_min (255 - length a) b)
    ∙ sym (take-append-add a b (255 - length a)) ∙ ap (λ k. take k (a ++ b)) all

joined : (a b : List ℕ) (m n : ℕ) → m ≡ min (length a) 255 → n ≡ min (length b) (255 - length (take m a)) → take m a ++ take n b ≡ take 255 (a ++ b)
joined a b m n m_is n_is = elim (cases_lt (length a) 255) [ inl short ↦ fits a b m n m_is n_is short | inr long ↦ cut a b m n m_is n_is long ]

pub returns : goal.returns
returns c =
    let first : c.text.inside.bytes.items ≡ take c.min.result c.args.a.now = search rules in
    c.in_ok-extend_from_slice.ensures.items ∙ ap (λ l. l ++ take c.min-2.result c.args.b.now) first
    ∙ joined c.args.a.now c.args.b.now c.min.result c.min-2.result (search rules) (search rules)
