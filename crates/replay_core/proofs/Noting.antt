-- What is noted, one after the other.
use Rattle.std.proofs.Common.{◌≡◌, ℕ, List, [], ◌++◌, map, Option, None, Some, option_map, refl}
use Rattle.std.proofs.Common.{arith, sym, ap, ◌∙◌, subst, append-nil, append_assoc}
use Rattle.std.proofs.lemmas.List.{map-append}
use Rattle.replay_core.specs.Vocabulary.{option_or, StandsFor, Made, nothing_made, and_then}
use Rattle.replay_core.specs.Vocabulary.{Variables}
use Rattle.replay_core.specs.Pieces.{PieceSeen}
use Rattle.replay_core.specs.Lanes.{Notes}

pub append_nil : {A : Type 0} (xs : List A) → xs ≡ xs ++ []
append_nil xs = sym (append-nil xs)

pub or_none : {A : Type 0} (o : Option A) → o ≡ option_or o None
or_none None = refl
or_none (Some x) = refl

pub notes_nothing : (number : ℕ) (vars : Variables) (p : PieceSeen) → Notes number (nothing_made vars) p p
notes_nothing number vars p = record {
  texts = append_nil p.events;
  functions = refl;
  table = λ before stands. subst (StandsFor p.table) (append_nil before) stands;
  taken = refl;
  exit = or_none p.exit;
}

-- the first exit of two, with a number
exits_then : (number : ℕ) (old : Option (ℕ × ℕ)) (a b : Option ℕ) →
    option_or (option_or old (option_map (λ status. (number, status)) a)) (option_map (λ status. (number, status)) b)
    ≡ option_or old (option_map (λ status. (number, status)) (option_or a b))
exits_then number old a b = grind arith

pub notes_then : (number : ℕ) (a b : Made) (p q r : PieceSeen) → Notes number a p q → Notes number b q r → Notes number (and_then a b) p r
notes_then number a b p q r first second = record {
  texts = second.texts
      ∙ ap (λ l. l ++ map (λ text. (number, text)) b.texts) first.texts
      ∙ append_assoc p.events (map (λ text. (number, text)) a.texts) (map (λ text. (number, text)) b.texts)
      ∙ ap (λ l. p.events ++ l) (sym (map-append (λ (text : List ℕ). (number, text)) a.texts b.texts));
  functions = second.functions ∙ first.functions;
  table = λ before stands. subst (StandsFor r.table) (append_assoc before a.contributions b.contributions)
      (second.table (before ++ a.contributions) (first.table before stands));
  taken = second.taken ∙ first.taken;
  exit = second.exit ∙ ap (λ o. option_or o (option_map (λ status. (number, status)) b.exit)) first.exit ∙ exits_then number p.exit a.exit b.exit;
}
