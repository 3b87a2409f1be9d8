-- A description is its fields with colons between.
use Rattle.std.proofs.Common.{◌≡◌, ℕ, zero, suc, ◌+◌, ◌<◌, ◌≤◌, Bool, true, false, cond, List, []}
use Rattle.std.proofs.Common.{◌∷◌, ◌++◌, length, Option, Some, None, refl, sym, ap, subst, ◌∙◌, arith}
use Rattle.std.proofs.Common.{length-append}
use Rattle.std.specs.Prelude.{◌==◌, ◌&&◌, not, replicate}
use Rattle.std.proofs.lemmas.List.{length-replicate}
use Rattle.std.proofs.lemmas.Bool.{eqb-true, not-true}
use Rattle.d_lexer.specs.declared.token.Token.{Token}
use Rattle.d_parser.specs.declared.tree.Description.{Description}
use Rattle.std.specs.List.{join_with_byte}
use Rattle.d_parser.specs.Script.{list_all, is_ascii_digit}
use Rattle.d_parser.specs.Script.{IsDescription}
use Rattle.d_parser.specs.Steps.Script.{description_with, colon, before_colon, after_colon}
use Rattle.d_parser.specs.Steps.Script.{with_first}
use Rattle.d_parser.specs.Steps.Script.{fields, description_from, description_of}
use Rattle.d_parser.proofs.Cuts.{whole_field}

-- no colon is in it
abbrev is_field : List ℕ → Bool
is_field bytes = list_all (λ b. not (b == colon)) bytes

abbrev fields_of : Description → List (List ℕ)
fields_of d = d.provider ∷ d.«module» ∷ d.function ∷ d.name ∷ []

both : (a b : Bool) → (a && b) ≡ true → (a ≡ true) × (b ≡ true)
both true b h = (refl, h)
both false b h = absurd (let e : false ≡ true = h in cc)

all_true : (a b : Bool) → a ≡ true → b ≡ true → (a && b) ≡ true
all_true a b h g = rw (h, g) refl

-- ---- one colon

field_by : (found : Bool) (b : ℕ) (own : List ℕ) → (b == colon) ≡ found → is_field own ≡ true → is_field (cond found [] (b ∷ own)) ≡ true
field_by true b own e h = refl
field_by false b own e h = all_true (not (b == colon)) (is_field own) (ap not e) h

before_is_field : (bytes : List ℕ) → is_field (before_colon bytes) ≡ true
unfolding before_colon
before_is_field [] = refl
before_is_field (b ∷ bytes) = field_by (b == colon) b (before_colon bytes) refl (before_is_field bytes)

rejoin_by : (found : Bool) (b : ℕ) (bytes own rest : List ℕ) (o : Option (List ℕ)) → (b == colon) ≡ found → (o ≡ Some rest → bytes ≡ own ++ colon ∷ rest) → cond found (Some bytes) o ≡ Some rest → b ∷ bytes ≡ cond found [] (b ∷ own) ++ colon ∷ rest
rejoin_by true b bytes own rest o e f h = let is : b ≡ colon = eqb-true b colon e in let same : bytes ≡ rest = cc in cc
rejoin_by false b bytes own rest o e f h = ap (λ (xs : List ℕ). b ∷ xs) (f h)

rejoined : (bytes rest : List ℕ) → after_colon bytes ≡ Some rest → bytes ≡ before_colon bytes ++ colon ∷ rest
unfolding before_colon after_colon
rejoined [] rest e = absurd cc
rejoined (b ∷ bytes) rest e = rejoin_by (b == colon) b bytes (before_colon bytes) rest (after_colon bytes) refl (rejoined bytes rest) e

after_none : (field : List ℕ) → is_field field ≡ true → after_colon field ≡ None
unfolding after_colon
after_none [] h = refl
after_none (b ∷ field) h = let p = both (not (b == colon)) (is_field field) h in rw (not-true (b == colon) p.0) (after_none field p.1)

cut_at : (field rest : List ℕ) → is_field field ≡ true → (before_colon (field ++ colon ∷ rest) ≡ field) × (after_colon (field ++ colon ∷ rest) ≡ Some rest)
unfolding before_colon after_colon
cut_at [] rest h = (refl, refl)
cut_at (b ∷ field) rest h =
    let p = both (not (b == colon)) (is_field field) h in
    let no = not-true (b == colon) p.0 in
    let r = cut_at field rest p.1 in
    (rw no (ap (λ (xs : List ℕ). b ∷ xs) r.0), rw no r.1)

-- ---- all fields

abbrev Split : List ℕ → List (List ℕ) → Type 0
Split bytes all = (bytes ≡ join_with_byte colon all) × (list_all is_field all ≡ true) × (1 ≤ length all)

split_on : (bytes rest : List ℕ) (all : List (List ℕ)) → after_colon bytes ≡ Some rest → Split rest all → Split bytes (before_colon bytes ∷ all)
split_on bytes rest [] o s = absurd (let none = s.2 in omega arith)
split_on bytes rest (f ∷ all) o s = (
  rejoined bytes rest o ∙ ap (λ (xs : List ℕ). before_colon bytes ++ colon ∷ xs) s.0,
  all_true (is_field (before_colon bytes)) (list_all is_field (f ∷ all)) (before_is_field bytes) s.1,
  omega arith,
)

split_by : (r : Option (List (List ℕ))) (bytes rest : List ℕ) (all : List (List ℕ)) → after_colon bytes ≡ Some rest → ((others : List (List ℕ)) → r ≡ Some others → Split rest others) → with_first (before_colon bytes) r ≡ Some all → Split bytes all
split_by None bytes rest all o f e = absurd cc
split_by (Some others) bytes rest all o f e =
    let same : before_colon bytes ∷ others ≡ all = cc in
    subst (λ (xs : List (List ℕ)). Split bytes xs) same (split_on bytes rest others o (f others refl))

split_first : (o : Option (List ℕ)) (n : ℕ) (bytes : List ℕ) (all : List (List ℕ)) → after_colon bytes ≡ o → ((rest : List ℕ) (others : List (List ℕ)) → fields n (Some rest) ≡ Some others → Split rest others) → with_first (before_colon bytes) (fields n o) ≡ Some all → Split bytes all
split_first None n bytes all o f e =
    let same : before_colon bytes ∷ [] ≡ all = cc in
    subst (λ (xs : List (List ℕ)). Split bytes xs) same (sym (whole_field bytes o), all_true (is_field (before_colon bytes)) true (before_is_field bytes) refl, omega arith)
split_first (Some rest) n bytes all o f e = split_by (fields n (Some rest)) bytes rest all o (f rest) e

fields_split : (n : ℕ) (bytes : List ℕ) (all : List (List ℕ)) → fields n (Some bytes) ≡ Some all → Split bytes all
fields_split zero bytes all e = absurd cc
fields_split (suc n) bytes all e = split_first (after_colon bytes) n bytes all refl (fields_split n) e

fields_read : (n : ℕ) (field : List ℕ) (others : List (List ℕ)) → length others < n → list_all is_field (field ∷ others) ≡ true → fields n (Some (join_with_byte colon (field ∷ others))) ≡ Some (field ∷ others)
fields_read zero field others l h = absurd (omega arith)
fields_read (suc n) field [] l h =
    let p = both (is_field field) true h in
    let none = after_none field p.0 in
    rw (none, whole_field field none) refl
fields_read (suc n) field (other ∷ others) l h =
    let p = both (is_field field) (list_all is_field (other ∷ others)) h in
    let r = cut_at field (join_with_byte colon (other ∷ others)) p.0 in
    rw (r.0, r.1, fields_read n other others (omega arith) p.1) refl

-- ---- descriptions

-- the run says of the description what IsDescription says
pub record Describes (run : List ℕ) (d : Description) : Type 0 where
  pub missing : ℕ
  pub given : List (List ℕ)
  pub named : list_all is_ascii_digit run ≡ false
  pub is : run ≡ join_with_byte colon given
  pub apart : list_all is_field given ≡ true
  pub are : fields_of d ≡ replicate missing [] ++ given

made : (given : List (List ℕ)) (d : Description) → description_from (Some given) ≡ Some d → (missing : ℕ) × (fields_of d ≡ replicate missing [] ++ given)
made [] d e = absurd cc
made (a ∷ []) d e = let is : description_with [] [] [] a ≡ d = cc in (3, ap fields_of (sym is))
made (a ∷ (b ∷ [])) d e = let is : description_with [] [] a b ≡ d = cc in (2, ap fields_of (sym is))
made (a ∷ (b ∷ (c ∷ []))) d e = let is : description_with [] a b c ≡ d = cc in (1, ap fields_of (sym is))
made (a ∷ (b ∷ (c ∷ (f ∷ [])))) d e = let is : description_with a b c f ≡ d = cc in (0, ap fields_of (sym is))
made (a ∷ (b ∷ (c ∷ (f ∷ (g ∷ given))))) d e = absurd cc

describes_by : (number : Bool) (r : Option (List (List ℕ))) (run : List ℕ) (d : Description) → list_all is_ascii_digit run ≡ number → fields 4 (Some run) ≡ r → cond number None (description_from r) ≡ Some d → Describes run d
describes_by true r run d n f e = absurd cc
describes_by false None run d n f e = absurd cc
describes_by false (Some given) run d n f e =
    let split = fields_split 4 run given f in
    let all = made given d e in
    record { missing = all.0; given = given; named = n; is = split.0; apart = split.1; are = all.1 }

pub describes : (run : List ℕ) (d : Description) → description_of run ≡ Some d → Describes run d
describes run d e = describes_by (list_all is_ascii_digit run) (fields 4 (Some run)) run d refl refl e

-- the description of four fields
abbrev description_in : List (List ℕ) → Option Description
description_in (a ∷ (b ∷ (c ∷ (d ∷ [])))) = Some (description_with a b c d)
description_in other = None

four : (missing : ℕ) (given : List (List ℕ)) (d : Description) → fields_of d ≡ replicate missing [] ++ given → missing + length given ≡ 4
four missing given d e =
    let none : List ℕ = [] in
    let both : 4 ≡ length (replicate missing none ++ given) = ap length e in
    let sum = length-append (replicate missing none) given in
    let before = length-replicate missing none in
    omega arith

filled_by : (missing k : ℕ) (given : List (List ℕ)) (d : Description) → fields_of d ≡ replicate missing [] ++ given → missing ≡ k → description_in (replicate k [] ++ given) ≡ Some d
filled_by missing k given d e m = sym (ap description_in (e ∙ ap (λ (n : ℕ). replicate n [] ++ given) m))

filled : (missing : ℕ) (given : List (List ℕ)) (d : Description) → fields_of d ≡ replicate missing [] ++ given → 1 ≤ length given → description_from (Some given) ≡ Some d
filled missing [] d e l = absurd (omega arith)
filled missing (a ∷ []) d e l = filled_by missing 3 (a ∷ []) d e (let all = four missing (a ∷ []) d e in omega arith)
filled missing (a ∷ (b ∷ [])) d e l = filled_by missing 2 (a ∷ (b ∷ [])) d e (let all = four missing (a ∷ (b ∷ [])) d e in omega arith)
filled missing (a ∷ (b ∷ (c ∷ []))) d e l = filled_by missing 1 (a ∷ (b ∷ (c ∷ []))) d e (let all = four missing (a ∷ (b ∷ (c ∷ []))) d e in omega arith)
filled missing (a ∷ (b ∷ (c ∷ (f ∷ [])))) d e l = filled_by missing 0 (a ∷ (b ∷ (c ∷ (f ∷ [])))) d e (let all = four missing (a ∷ (b ∷ (c ∷ (f ∷ [])))) d e in omega arith)
filled missing (a ∷ (b ∷ (c ∷ (f ∷ (g ∷ given))))) d e l = absurd (let all = four missing (a ∷ (b ∷ (c ∷ (f ∷ (g ∷ given))))) d e in omega arith)

described_by : (run : List ℕ) (missing : ℕ) (given : List (List ℕ)) (d : Description) → list_all is_ascii_digit run ≡ false → run ≡ join_with_byte colon given → list_all is_field given ≡ true → fields_of d ≡ replicate missing [] ++ given → description_of run ≡ Some d
described_by run missing [] d n e a f = absurd (let number : list_all is_ascii_digit run ≡ true = ap (list_all is_ascii_digit) e in cc)
described_by run missing (field ∷ others) d n e a f =
    let all = four missing (field ∷ others) d f in
    ap (λ (b : Bool). cond b None (description_from (fields 4 (Some run)))) n
    ∙ (ap (λ (bytes : List ℕ). description_from (fields 4 (Some bytes))) e
    ∙ (ap description_from (fields_read 4 field others (omega arith) a) ∙ filled missing (field ∷ others) d f (omega arith)))

pub described : (d : Description) (ts rest : List Token) (h : IsDescription d ts rest) → description_of h.run ≡ Some d
described d ts rest h = described_by h.run h.missing h.given d h.named h.is h.apart h.are
