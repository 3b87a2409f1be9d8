-- How descriptions are found by the names that they give.
use Rattle.std.specs.Prelude.{◌≡◌, ◌==◌, ◌&&◌, ◌+◌, ℕ, Bool, true, false, List, [], ◌∷◌, ◌++◌, All}
use Rattle.std.specs.Prelude.{Option, None, Some, map, slice_get}
use Rattle.std.specs.Borrow.{Bor}
use Rattle.std.specs.List.{list_all}
use Rattle.keyed_hash.specs.Hashing.{after_bytes, hash_of}
use Rattle.keyed_hash.specs.declared.hash_key.HashKey.{HashKey}
use Rattle.d_parser.specs.declared.tree.Description.{Description}
use Rattle.firings.specs.declared.unit.Probe.{Probe}
use Rattle.replay_core.specs.declared.selection.table.Described.{Described}
use Rattle.replay_core.specs.declared.selection.table.DescriptionTable.{DescriptionTable}
use Rattle.replay_core.specs.Patterns.{selects}
use Rattle.replay_core.specs.Steps.Patterns.{is_plain}
use Rattle.replay_core.specs.Uniting.{IsSorted}

-- ---- names

-- no field has a pattern
abbrev pub is_exact : Description → Bool
is_exact d =
    list_all is_plain d.provider && list_all is_plain d.«module»
    && list_all is_plain d.function && list_all is_plain d.name

abbrev pub is_given : List ℕ → Bool
is_given [] = false
is_given (b ∷ field) = true

-- two descriptions give the same fields
pub record GiveSame (d e : Description) : Type 0 where
  pub provider : is_given d.provider ≡ is_given e.provider
  pub probemod : is_given d.«module» ≡ is_given e.«module»
  pub probefunc : is_given d.function ≡ is_given e.function
  pub name : is_given d.name ≡ is_given e.name

-- a name of the probe, if the field is given
abbrev pub where_given : (field name : List ℕ) → List ℕ
where_given [] name = []
where_given (b ∷ field) name = name

abbrev pub hash_of_names : HashKey → (provider probemod probefunc name : List ℕ) → ℕ
hash_of_names key provider probemod probefunc name =
    hash_of (after_bytes (after_bytes (after_bytes (after_bytes
    key.initial provider) probemod) probefunc) name)

abbrev pub hash_of_description : HashKey → Description → ℕ
hash_of_description key d = hash_of_names key d.provider d.«module» d.function d.name

-- the hash of the names that a description like this one has if it selects the probe
abbrev pub hash_of_probe : HashKey → Description → Probe → ℕ
hash_of_probe key like p =
    hash_of_names key (where_given like.provider p.provider)
    (where_given like.«module» p.probemod) (where_given like.function p.probefunc)
    (where_given like.name p.name)

-- ---- tables

-- two kinds are the same: those with a pattern, or those that give the same fields
abbrev pub IsSameKind : Option (Bor Description) → Option (Bor Description) → Type 0
IsSameKind None None = Unit {0}
IsSameKind None (Some d) = ⊥
IsSameKind (Some like) None = ⊥
IsSameKind (Some like) (Some d) = GiveSame like.now d.now

-- a description of this hash is of this kind
abbrev pub IsOfKind : HashKey → Option (Bor Description) → ℕ → Description → Type 0
IsOfKind key None hash d = hash ≡ 0
IsOfKind key (Some like) hash d =
    (is_exact d ≡ true) × GiveSame like.now d × (hash ≡ hash_of_description key d)

-- the hash of those of a kind that select the probe
abbrev pub hash_sought : HashKey → Option (Bor Description) → Probe → ℕ
hash_sought key None p = 0
hash_sought key (Some like) p = hash_of_probe key like.now p

-- a description is of the kind that it names
abbrev pub HasKind : HashKey → List (Option (Bor Description)) → ℕ × Described → Type 0
HasKind key kinds x =
    (kind : Option (Bor Description)) × (slice_get kinds x.1.kind ≡ Some kind)
    × IsOfKind key kind x.0 x.1.description.now

-- the descriptions, each with the index of its clause
abbrev pub given_of : List (ℕ × Described) → List (ℕ × Description)
given_of items = map (λ x. (x.1.clause, x.1.description.now)) items

-- the descriptions of clauses, from an index on
abbrev pub given_from : ℕ → List (List Description) → List (ℕ × Description)
given_from index [] = []
given_from index (ds ∷ rest) = map (λ d. (index, d)) ds ++ given_from (index + 1) rest

-- a table of these, sorted by hash, each of its kind
pub record IsTable (t : DescriptionTable) (given : List (ℕ × Description)) : Type 0 where
  pub all : List (ℕ × Described)
  pub are : given_of all ≡ given
  pub sorted : IsSorted all t.described.items
  pub kinds : All (HasKind t.hash_key t.kinds.items) all

-- a table of the descriptions of these clauses
abbrev pub IsTableOf : DescriptionTable → List (List Description) → Type 0
IsTableOf t ds = IsTable t (given_from 0 ds)

-- a description is of a kind and selects the probe
abbrev pub is_found : ℕ → Probe → ℕ × Described → Bool
is_found kind p x = (x.1.kind == kind) && selects x.1.description.now p

-- all have the kinds that they name
abbrev pub HaveKinds : DescriptionTable → Type 0
HaveKinds t = All (HasKind t.hash_key t.kinds.items) t.described.items
