-- Arrays of JSON.
-- Source: RFC 8259, section 5 (arrays).
use Rattle.std.specs.Prelude.{ℕ, List, [], ◌∷◌, ◌++◌, codes}
use Rattle.data_lines.specs.Vocabulary.{flat_map}

-- what f makes of each, with commas between
abbrev pub comma_list : {A : Type 0} → (A → List ℕ) → List A → List ℕ
comma_list f [] = []
comma_list f (x ∷ xs) = f x ++ flat_map (λ y. codes "," ++ f y) xs

-- what f makes of each, in brackets
abbrev pub array_of : {A : Type 0} → (A → List ℕ) → List A → List ℕ
array_of f xs = codes "[" ++ comma_list f xs ++ codes "]"
