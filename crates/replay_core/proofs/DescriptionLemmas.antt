-- The descriptions of clauses, one clause after the other.
use Rattle.std.proofs.Common.{◌≡◌, ℕ, ◌+◌, ◌<◌, ◌≤◌, List, [], ◌∷◌, ◌++◌, length, map, sum_by, sym}
use Rattle.std.proofs.Common.{ap, ◌∙◌, subst, arith, get_or, take, take_all}
use Rattle.std.proofs.lemmas.List.{get_or-map, length-map, map-append, map_push, take_more}
use Rattle.std.proofs.lemmas.List.Sums.{sum_by_more, sum_by_push}
use Rattle.std.proofs.lemmas.Option.{get_or_from_slice_get}
use Rattle.std.proofs.lemmas.Slice.Zip.{AllZip-long}
use Rattle.replay_core.specs.Vocabulary.{AllZip, Description, ClauseMeant}
use Rattle.replay_core.proofs.Turning.{zip_at}

module _ {A C : Type 0} (now : A → List Description) where
  pub probes_more : (probes : C → ℕ) (xs : List C) (i : ℕ) (x : C) (old new : List A) (d : A) → i < length xs → x ≡ get_or xs i x → new ≡ old ++ d ∷ [] → length (now d) ≡ probes x
      → sum_by length (map now old) ≡ sum_by probes (take i xs) → sum_by length (map now new) ≡ sum_by probes (take (i + 1) xs)
  probes_more probes xs i x old new d lt is pushed same so_far =
      let more = sum_by_more probes xs i x lt in
      let item = ap probes is in
      let size = ap (λ l. sum_by length (map now l)) pushed ∙ ap (sum_by length) (map_push now old d) ∙ sum_by_push length (map now old) (now d) in
      omega arith

  pub meaning_more : (means : C → ClauseMeant → Type 0) (xs : List C) (cs : List ClauseMeant) (i : ℕ) (x : C) (old new : List A) (d : A) → i < length xs → x ≡ get_or xs i x
      → new ≡ old ++ d ∷ [] → ((c : ClauseMeant) → means x c → now d ≡ c.descriptions) → AllZip means xs cs
      → map now old ≡ take i (map (λ c. c.descriptions) cs) → map now new ≡ take (i + 1) (map (λ c. c.descriptions) cs)
  meaning_more means xs cs i x old new d lt is pushed described zip so_far =
      let at = zip_at means xs cs i x zip lt in
      let meant = subst (λ y. means y at.0) (sym is) at.2 in
      let long = AllZip-long means xs cs zip in
      let all = map (λ (c : ClauseMeant). c.descriptions) cs in
      let inside : i < length cs = omega arith in
      let there : i < length all = let e = length-map cs (λ (c : ClauseMeant). c.descriptions) in omega arith in
      let here : get_or all i (now d) ≡ now d = get_or-map (λ (c : ClauseMeant). c.descriptions) cs i at.0 (now d) inside
      ∙ ap (λ (c : ClauseMeant). c.descriptions) (get_or_from_slice_get cs i at.0 at.0 at.1) ∙ sym (described at.0 meant) in
      ap (map now) pushed ∙ map-append now old (d ∷ []) ∙ ap (λ l. l ++ now d ∷ []) so_far
      ∙ ap (λ y. take i all ++ y ∷ []) (sym here) ∙ sym (take_more all i (now d) there)

  pub meaning_all : (means : C → ClauseMeant → Type 0) (xs : List C) (cs : List ClauseMeant) (i : ℕ) (all : List A) → length xs ≤ i → AllZip means xs cs
      → map now all ≡ take i (map (λ c. c.descriptions) cs) → map now all ≡ map (λ c. c.descriptions) cs
  meaning_all means xs cs i all past zip so_far =
      let long = AllZip-long means xs cs zip in
      let e = length-map cs (λ (c : ClauseMeant). c.descriptions) in
      so_far ∙ take_all i (map (λ c. c.descriptions) cs) (omega arith)
