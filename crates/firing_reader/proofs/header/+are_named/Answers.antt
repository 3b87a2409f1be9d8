use Rattle.std.proofs.Common.{◌≡◌, ◌+◌, ℕ, zero, suc, List, [], ◌∷◌, Bool, true, false, Option, Some, None, Bor, drop, map, refl, ap, sym, ◌∙◌, add-one}
use Rattle.std.specs.Prelude.{◌&&◌, is_some, not, option_map}
use Rattle.std.specs.Cmp.Lexicographic.{pointwise}
use Rattle.std.specs.Str.{bytes_eq}
use Rattle.std.proofs.lemmas.List.{nil_from_length}
use Rattle.csv.specs.Records.{field_at, fields_of}
use Rattle.firing_reader.proofs.header.+are_named.Goals as goal

abbrev named : List (List ℕ) → ℕ → List (Bor (List ℕ)) → Bool
named xs i names = pointwise bytes_eq (drop i xs) (map (λ name. name.now) names)

at_some : (xs : List (List ℕ)) (i : ℕ) (f : List ℕ) → Some f ≡ field_at xs i → drop i xs ≡ f ∷ drop (suc i) xs
unfolding field_at
at_some [] i f is = absurd cc
at_some (x ∷ xs) zero f is = let same : x ≡ f = cc in ap (λ (y : List ℕ). y ∷ xs) same
at_some (x ∷ xs) (suc i) f is = at_some xs i f is

at_none : (xs : List (List ℕ)) (i : ℕ) → None ≡ field_at xs i → drop i xs ≡ []
unfolding field_at
at_none [] zero is = refl
at_none [] (suc i) is = refl
at_none (x ∷ xs) zero is = absurd cc
at_none (x ∷ xs) (suc i) is = at_none xs i is

-- no name is left: so no field may be
none_left : (xs : List (List ℕ)) (i : ℕ) (found : Option (Bor (List ℕ))) (none : Bool) → option_map (λ s. s.now) found ≡ field_at xs i → is_some found ≡ not none → none ≡ named xs i []
none_left xs i None true at is = rw (at_none xs i at) refl
none_left xs i None false at is = absurd cc
none_left xs i (Some s) true at is = absurd cc
none_left xs i (Some s) false at is = rw (at_some xs i s.now at) refl

first_named : (xs : List (List ℕ)) (i : ℕ) (f : List ℕ) (n : Bor (List ℕ)) (ns : List (Bor (List ℕ))) → Some f ≡ field_at xs i → named xs i (n ∷ ns) ≡ (bytes_eq f n.now && named xs (i + 1) ns)
first_named xs i f n ns at = rw (add-one, at_some xs i f at) refl

pub returns-in_default : goal.returns-in_default
returns-in_default t c =
    let none : c.args.names.now ≡ [] = nil_from_length c.args.names.now c.in_default.ensures.cases in
    rw none (none_left (fields_of c.args.fields.now) c.args.from c.get.result c.is_none.result c.get.ensures.value c.is_none.ensures)

pub returns-in-None : goal.returns-in-None
returns-in-None t c = rw (c.in-Some.ensures.cases.0, at_none (fields_of c.args.fields.now) c.args.from c.in-None.ensures.value) refl

pub returns-then-eq : goal.returns-then-eq
returns-then-eq t c =
    let first = first_named (fields_of c.args.fields.now) c.args.from c.in-Some-get.field.now c.in-Some.name.now c.in-Some.others.now c.in-Some-get.ensures.value in
    let same : bytes_eq c.in-Some-get.field.now c.in-Some.name.now.now ≡ true = sym c.eq.ensures ∙ c.if-eq.true in
    rw (c.in-Some.ensures.cases.0, first, same) c.are_named.ensures

pub returns-else-eq : goal.returns-else-eq
returns-else-eq t c =
    let first = first_named (fields_of c.args.fields.now) c.args.from c.in-Some-get.field.now c.in-Some.name.now c.in-Some.others.now c.in-Some-get.ensures.value in
    let other : bytes_eq c.in-Some-get.field.now c.in-Some.name.now.now ≡ false = sym c.eq.ensures ∙ c.if-eq.false in
    rw (c.in-Some.ensures.cases.0, first, other) c.if-eq.false
