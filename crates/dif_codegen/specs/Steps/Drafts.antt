-- Objects that are being made.
use Rattle.std.specs.Prelude.{◌≡◌, ℕ, ◌+◌, ◌++◌, length, slice_set}
use Rattle.dif_codegen.specs.Vocabulary.{Condition, Ba, Branch, Difo}
use Rattle.dif_codegen.specs.Steps.Pieces.{Place, Maker}

-- the place after all that was made so far
abbrev pub end_of_draft : Difo → Place
end_of_draft d = record {
  at = length d.code.items;
  texts = length d.texts.items;
  numbers = length d.numbers.items;
}

-- a piece was put at the end
pub record Adds (g : Maker) (old new : Difo) : Type 0 where
  pub code : new.code.items ≡ old.code.items ++ (g (end_of_draft old)).code
  pub texts : new.texts.items ≡ old.texts.items ++ (g (end_of_draft old)).texts
  pub numbers : new.numbers.items ≡ old.numbers.items ++ (g (end_of_draft old)).numbers

-- a branch, and the jump that ends its first side, got their targets
pub record ClosesBranch (branch : ℕ) (condition : Condition) (jump : ℕ)
    (old new : Difo) : Type 0 where
  pub code : new.code.items
      ≡ slice_set (slice_set old.code.items branch (Branch condition (jump + 1))) jump
      (Ba (length old.code.items))
  pub texts : new.texts.items ≡ old.texts.items
  pub numbers : new.numbers.items ≡ old.numbers.items
