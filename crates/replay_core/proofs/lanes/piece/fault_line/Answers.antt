use Rattle.std.proofs.Common.{decimal, codes, ◌≡◌, ◌++◌, List, ℕ, ap, append_assoc, ◌∙◌}
use Rattle.replay_core.proofs.lanes.piece.fault_line.Goals as goal

-- what five parts make, one after the other
five_parts : (a b c d e l m n o p : List ℕ) → l ≡ a → m ≡ l ++ b → n ≡ m ++ c → o ≡ n ++ d → p ≡ o ++ e → p ≡ a ++ (b ++ (c ++ (d ++ e)))
five_parts a b c d e l m n o p is_l is_m is_n is_o is_p =
    is_p ∙ ap (λ x. x ++ e) (is_o ∙ ap (λ x. x ++ d) (is_n ∙ ap (λ x. x ++ c) (is_m ∙ ap (λ x. x ++ b) is_l)))
    ∙ simp append_assoc

pub returns : goal.returns
returns c =
    c.from.ensures
    ∙ five_parts (codes "error: firing ") (decimal c.args.number) (codes " clause ") (decimal c.args.index) (codes ": divide-by-zero\n") _ _ _ _ _
    c.in_ok-line.ensures.items
    (c.in_ok-extend_from_slice.ensures.items ∙ ap (λ x. c.in_ok-line.line.items ++ x) (c.as_bytes.ensures.value ∙ c.format.ensures.text))
    c.in_ok-extend_from_slice-2.ensures.items
    (c.in_ok-extend_from_slice-3.ensures.items ∙ ap (λ x. c.extend_from_slice-2.new.self.items ++ x) (c.as_bytes-2.ensures.value ∙ c.format-2.ensures.text))
    c.in_ok-extend_from_slice-4.ensures.items
