-- What each program of a typed script keeps is what a lane asks for.
use Rattle.std.proofs.Common.{◌≡◌, ℕ, ◌+◌, ◌≤◌, List, [], ◌∷◌, All, Option, None, Some, length, map}
use Rattle.std.proofs.Common.{max, sum_by, refl, sym, ap, ◌∙◌, subst, arith, get_or}
use Rattle.std.proofs.lemmas.List.{length-map}
use Rattle.std.proofs.lemmas.List.Sums.{sum_by-cons}
use Rattle.d_parser.specs.Sizes.{in_all}
use Rattle.d_types.specs.Scripts.{IsMeant}
use Rattle.d_types.specs.Sizes.{description_count}
use Rattle.d_types.specs.Typed.{Evaluate}
use Rattle.d_types.proofs.Sizes.{typed_script_is_small}
use Rattle.dif_codegen.proofs.Exiting.{aggregation_of, same_aggregations}
use Rattle.dif_codegen.specs.declared.program.CompiledClause.{CompiledClause}
use Rattle.replay_core.specs.Vocabulary.{AllZip, Slots, slots_of, statement_count, ActionOf}
use Rattle.replay_core.specs.Vocabulary.{ClauseMeant, ScriptMeant, IsSameClause, action_code}
use Rattle.replay_core.specs.Bounds.{index_in, indices_among, indices_in}
use Rattle.replay_core.proofs.TreeLemmas.{clauses_few, script_named}
use Rattle.replay_core.proofs.Turning.{zip_with_at}

-- above the index of the aggregation, if there is one
abbrev above : Option ℕ → ℕ
above None = 0
above (Some index) = index + 1

abbrev above_all : List (Option ℕ) → ℕ
above_all [] = 0
above_all (index ∷ indices) = max (above index) (above_all indices)

index_above : {E Es : Type 0} (a : ActionOf E Es) → index_in a ≡ above (aggregation_of a)
index_above (Evaluate x) = refl
index_above a = refl

indices_above : {E Es : Type 0} (all : List (ActionOf E Es)) → indices_among all ≡ above_all (map (λ a. aggregation_of a) all)
indices_above [] = refl
indices_above (a ∷ rest) =
    ap (λ n. max n (indices_among rest)) (index_above a) ∙ ap (λ n. max (above (aggregation_of a)) n) (indices_above rest)

module _ (slots : Slots) where
  same_indices : (c : CompiledClause) (m : ClauseMeant) → IsSameClause slots c m → indices_among (map action_code c.actions.items) ≡ indices_in m
  same_indices c m does =
      indices_above (map action_code c.actions.items) ∙ ap above_all (same_aggregations slots (map action_code c.actions.items) m.statements does.actions) ∙ sym (indices_above m.statements)

  same_statements : (c : CompiledClause) (m : ClauseMeant) → IsSameClause slots c m → length c.actions.items ≡ statement_count m
  same_statements c m does =
      sym (length-map c.actions.items action_code) ∙ sym (length-map (map action_code c.actions.items) (λ a. aggregation_of a))
      ∙ ap length (same_aggregations slots (map action_code c.actions.items) m.statements does.actions) ∙ length-map m.statements (λ a. aggregation_of a)

  same_probes : (cs : List CompiledClause) (ms : List ClauseMeant) → AllZip (IsSameClause slots) cs ms
      → sum_by (λ c. length c.descriptions.items) cs ≡ in_all description_count ms
  same_probes [] [] zip = refl
  same_probes [] (m ∷ ms) zip = absurd zip
  same_probes (c ∷ cs) [] zip = absurd zip
  same_probes (c ∷ cs) (m ∷ ms) zip =
      sum_by-cons (λ (c : CompiledClause). length c.descriptions.items) c cs
      ∙ ap (λ n. n + sum_by (λ (c : CompiledClause). length c.descriptions.items) cs) (ap length zip.0.descriptions)
      ∙ ap (λ n. length m.descriptions + n) (same_probes cs ms zip.1)

module _ (m : ScriptMeant) (typed : ∥ IsMeant m ∥₁) (cs : List CompiledClause) (zip : AllZip (IsSameClause (slots_of m)) cs m.clauses) where
  pub program_named : All (λ c. indices_among (map action_code c.actions.items) ≤ length m.aggregations) cs
  program_named k d lt =
      let at = zip_with_at (IsSameClause (slots_of m)) (λ c. indices_in c ≤ length m.aggregations) cs m.clauses k d zip (script_named m typed) lt in
      subst (λ n. n ≤ length m.aggregations) (sym (same_indices (slots_of m) (get_or cs k d) at.0 at.2)) at.3

  pub program_few : All (λ c. length c.actions.items ≤ 65536) cs
  program_few k d lt =
      let at = zip_with_at (IsSameClause (slots_of m)) (λ c. statement_count c ≤ 65536) cs m.clauses k d zip (clauses_few m typed) lt in
      subst (λ n. n ≤ 65536) (sym (same_statements (slots_of m) (get_or cs k d) at.0 at.2)) at.3

  pub program_few_probes : sum_by (λ c. length c.descriptions.items) cs ≤ 65536
  program_few_probes =
      let small = (typed_script_is_small m typed).few_descriptions in
      let same = same_probes (slots_of m) cs m.clauses zip in
      omega (arith, small, same)
